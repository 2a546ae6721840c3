-- Laws of which accessors of a slot with bits are generated: its four getters are, or none of them is. Their steps are the
-- type's text, which is refused for every leaf or for none, the option, the result type, which is never refused, and the
-- default's kind. Assumes nothing.
use mathlib.Core.Path.{◌≡◌, refl, sym, ap, ◌∙◌}
use mathlib.Core.Bool.{Bool, true, false}
use Rattle.std.specs.Prelude.{eqb}
use Rattle.text.specs.Bytes.{Str, cond, both}
use Rattle.tree.specs.Tree.{Ty, plain, enum, kind, Slot, slot, Field, Node, Sheet}
use Rattle.tree.proofs.OtherLines.{never}
use Rattle.codegen_types.specs.Out.{Out, ok, refused, ◌then◌}
use Rattle.codegen_types.specs.TypeString.{type_string}
use Rattle.codegen_types.specs.declared.Leaf.{Leaf}
use Rattle.codegen.specs.Getter as codegen
use Rattle.codegen.specs.Getter.{is_option_field, module_leaf, optional, is_fallible, result_type, as_function, fragment_of}
use Rattle.codegen.specs.Getter.{getter_code, default_declaration, getter_text, getter_request}
use Rattle.requests.specs.Requests.{accessor_text}
use Rattle.requests.specs.declared.Accessor.TheVariants.{Getter, Setter}
use Rattle.verdict.specs.Verdict.{is_given, is_generated, all_are_generated, has_bits}

-- ---- what is given by a choice, and after a step

given-cond : {A : Type 0} (b : Bool) (x y : Out A) → is_given x ≡ true → is_given y ≡ true → is_given (cond b x y) ≡ true
given-cond true x y h k = h
given-cond false x y h k = k

pub given-then : {A B : Type 0} (o : Out A) (f : A → B) → is_given (o then λ a. ok (f a)) ≡ is_given o
given-then (ok a) f = refl
given-then (refused k) f = refl

-- ---- a type with bits

same-types : (sheet : Sheet) (t : Ty) (a b : Leaf) → has_bits (kind t) ≡ true
    → is_given (type_string t sheet a) ≡ is_given (type_string t sheet b)
unfolding type_string
same-types sheet (plain k) a b h = refl
same-types sheet (enum id ss) a b h = refl
same-types sheet _ a b h = never cc

result-given : (sheet : Sheet) (t : Ty) (typ : Str) → has_bits (kind t) ≡ true → is_given (result_type sheet t typ) ≡ true
unfolding type_string
result-given sheet (plain k) typ h =
    given-cond (eqb k 15) _ _ refl (given-cond (eqb k 17) _ _ refl (given-cond (is_fallible (plain k)) _ _ refl refl))
result-given sheet (enum id ss) typ h = refl
result-given sheet _ typ h = never cc

-- ---- the steps of a getter

steps-given : (o : Out Str) (p : Out Bool) (t : Bool) (r : Bool → Str → Out Str) (fragment : Str → Str)
    (g : Bool → Str → Str → codegen.Getter) → ((option : Bool) (inner : Str) → is_given (r option inner) ≡ true)
    → is_given (o then λ inner. p then λ option. r option inner then λ result.
    cond t (ok (fragment inner)) (refused 10) then λ line. ok (g option result line))
    ≡ both (is_given o) (both (is_given p) t)
steps-given (refused k) p t r fragment g h = refl
steps-given (ok inner) (refused k) t r fragment g h = refl
steps-given (ok inner) (ok option) t r fragment g h = go (r option inner) t (h option inner)
  where
    go : (q : Out Str) (t : Bool) → is_given q ≡ true
        → is_given (q then λ result. cond t (ok (fragment inner)) (refused 10) then λ line. ok (g option result line)) ≡ t
    go (ok result) true e = refl
    go (ok result) false e = refl
    go (refused k) t e = never cc

module _ (sheet : Sheet) (name : Str) (s : Slot) (bits : has_bits (kind s.ty) ≡ true) where
  -- what is left of a getter's steps
  given-by : Bool → Bool
  given-by is_reader =
      both (is_given (type_string s.ty sheet (module_leaf is_reader)))
      (both (is_given (is_option_field s)) (eqb (kind s.ty) s.default.kind))

  getter_steps : (is_reader is_fn : Bool) → is_given (getter_request sheet name s is_reader is_fn 0) ≡ given-by is_reader
  unfolding getter_request getter_text given-by
  getter_steps is_reader is_fn =
      given-then (getter_text sheet name s is_reader is_fn) _
      ∙ steps-given (type_string s.ty sheet (module_leaf is_reader)) (is_option_field s) (eqb (kind s.ty) s.default.kind)
      (λ option inner. result_type sheet s.ty (optional option inner))
      (fragment_of sheet.root name s is_reader is_fn)
      (λ option result line. record {
        result_type = as_function is_fn result;
        code = getter_code s is_reader option line;
        declaration = default_declaration sheet.root name s;
      })
      (λ option inner. result-given sheet s.ty (optional option inner) bits)

  getters_alike : (is_reader is_fn : Bool)
      → is_given (getter_request sheet name s is_reader is_fn 0) ≡ is_given (getter_request sheet name s true false 0)
  unfolding given-by
  getters_alike is_reader is_fn =
      getter_steps is_reader is_fn
      ∙ ap (λ (b : Bool). both b (both (is_given (is_option_field s)) (eqb (kind s.ty) s.default.kind)))
      (same-types sheet s.ty (module_leaf is_reader) (module_leaf true) bits)
      ∙ sym (getter_steps true false)

-- ---- a field

one_of_four : (a b c d : Bool) → a ≡ b → c ≡ b → d ≡ b → both (both a b) (both c d) ≡ b
one_of_four true true true true e f g = refl
one_of_four false false false false e f g = refl
one_of_four _ _ _ _ e f g = never cc

-- a slot with bits
module _ (sheet : Sheet) (at : Node × Field) (s : Slot) (e : at.1.arm ≡ slot s) (bits : has_bits (kind s.ty) ≡ true) where
  pub getter-alike : (is_reader is_fn : Bool)
      → is_generated sheet at (Getter is_reader is_fn) ≡ is_generated sheet at (Getter true false)
  unfolding is_generated accessor_text
  getter-alike is_reader is_fn = rw e (getters_alike sheet at.1.name s bits is_reader is_fn)

  pub getter-alone : all_are_generated sheet at ≡ both (is_generated sheet at Setter) (is_generated sheet at (Getter true false))
  getter-alone =
      ap (both (is_generated sheet at Setter))
      (one_of_four (is_generated sheet at (Getter true true)) (is_generated sheet at (Getter true false))
      (is_generated sheet at (Getter false true)) (is_generated sheet at (Getter false false))
      (getter-alike true true) (getter-alike false true) (getter-alike false false))
