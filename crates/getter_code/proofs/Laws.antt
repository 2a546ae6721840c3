-- The parts of a getter's code, one after the other, are its text; which arm a slot's kind leads to; and the code of a slot of
-- the tree is that of its numbers. Assumes nothing.
use Rattle.std.specs.Prelude.{◌≡◌, ℕ, ◌+◌, ◌<◌, Bool, true, false, not, eqb, List, [], ◌++◌}
use mathlib.Core.Path.{refl, sym, ap, ◌∙◌}
use mathlib.Core.Logic.{◌⊎◌, inl, inr}
use mathlib.Core.List.{append_assoc}
use native.Mathlib.Omega.{arith}
use borrow.Author.Tests.{eqb-true, eqb-false, ne_eqb, le-leb}
use Rattle.std.proofs.lemmas.Bool.{lt-leb}
use Rattle.terms.specs.Kinds.{number_of, is_primitive}
use Rattle.terms.specs.declared.kinds.Kind.TheVariants as kinds
use Rattle.terms.specs.declared.kinds.Unnamed.{Unnamed}
use Rattle.text.specs.Bytes.{Str, ascii, unit, cond}
use Rattle.text.specs.Text.{WroteLines}
use Rattle.text.specs.declared.Text.{Text}
use Rattle.text.specs.Decimal.{decimal}
use Rattle.text.specs.Lines.{margin, broken, to_lines, flat_map, stringify, ended}
use Rattle.text.proofs.LinesLaws.{margin-more, stringify-lines}
use Rattle.tree.specs.Tree as tree
use Rattle.tree.specs.Tree.{Ty, plain, list, enum, struct, interface, any_pointer, parameter, kind, Value}
use Rattle.codegen_types.specs.TypeString.{is_parameter}
use Rattle.codegen_types.specs.Primitive.{primitive_text}
use Rattle.field.specs.Slot.{HasId, SlotIs}
use Rattle.field.specs.declared.Slot.{Slot}
use Rattle.calls.specs.Calls.{get_data_field}
use Rattle.codegen.specs.Default.{value, getter_mask}
use Rattle.codegen.specs.Getter.{from_pointer, pointer_default, capability, untyped, is_fallible, fragment_of}
use Rattle.codegen.specs.Getter.{option_code, getter_code}
use Rattle.getter_code.specs.Parts.{from_pointer_head, capability_head, any_pointer_head, null_head, absent, some_end}
use Rattle.getter_code.specs.Parts.{type_by, fragment_by, code_by}

-- ---- fragments by their parts

pub from-pointer : (root : Str) (is_reader : Bool) (o : ℕ) (default : Str)
    → root ++ from_pointer_head is_reader ++ decimal o ++ ascii "), " ++ default ++ ascii ")"
    ≡ from_pointer root is_reader o default
from-pointer root true o default = refl
from-pointer root false o default = refl

pub capability-parts : (root : Str) (is_reader : Bool) (o : ℕ)
    → capability_head is_reader ++ decimal o
    ++ ascii ").get_capability() { ::core::result::Result::Ok(c) => ::core::result::Result::Ok(" ++ root
    ++ ascii "::capability::FromClientHook::new(c)), ::core::result::Result::Err(e) => ::core::result::Result::Err(e)}"
    ≡ capability root is_reader o
capability-parts root true o = refl
capability-parts root false o = refl

merged : (x a b c d e : Str) → x ++ (a ++ b ++ c ++ d ++ e) ≡ x ++ a ++ b ++ c ++ d ++ e
merged x a b c d e = simp append_assoc

pub any-pointer : (root : Str) (is_reader : Bool) (o : ℕ)
    → root ++ any_pointer_head is_reader ++ decimal o ++ ascii "))" ≡ untyped root is_reader false o
any-pointer root true o =
    ap (λ (x : Str). x ++ decimal o ++ ascii "))")
    (merged root (ascii "::any_pointer::") (ascii "Reader") (ascii "::new(self.") (ascii "reader") (ascii ".get_pointer_field("))
any-pointer root false o =
    ap (λ (x : Str). x ++ decimal o ++ ascii "))")
    (merged root (ascii "::any_pointer::") (ascii "Builder") (ascii "::new(self.") (ascii "builder")
    (ascii ".get_pointer_field("))

-- ---- types and parameters

default-is : (v : Value) (k b : ℕ) → v.kind ≡ k → v.bits ≡ b → v ≡ value k b
default-is v k b e f = rw (← e, ← f) refl

parameter-is : (t : Ty) (a : ℕ) → HasId t a → kind t ≡ 18 → is_parameter t ≡ not (eqb a 0)
parameter-is (plain k) a h e = let z : ⊥ = omega arith in absurd z
parameter-is (list t) a h e = let z : ⊥ = omega arith in absurd z
parameter-is (enum i ss) a h e = let z : ⊥ = omega arith in absurd z
parameter-is (struct i ss) a h e = let z : ⊥ = omega arith in absurd z
parameter-is (interface i ss) a h e = let z : ⊥ = omega arith in absurd z
parameter-is any_pointer a h e = rw h refl
parameter-is (parameter i k) a h e = rw (ne_eqb a 0 h) refl

no-parameter : (t : Ty) → (kind t ≡ 18 → ⊥) → is_parameter t ≡ false
no-parameter (plain k) h = refl
no-parameter (list t) h = refl
no-parameter (enum i ss) h = refl
no-parameter (struct i ss) h = refl
no-parameter (interface i ss) h = refl
no-parameter any_pointer h = refl
no-parameter (parameter i k) h = absurd (h refl)

-- ---- a type by its numbers, and the arm of a slot

pub kind_by : (k a : ℕ) → kind (type_by k a) ≡ k
unfolding type_by
kind_by k a = go (eqb k 18) refl (eqb a 0)
  where
    go : (b : Bool) → eqb k 18 ≡ b → (d : Bool) → kind (cond b (cond d any_pointer (parameter 0 0)) (plain k)) ≡ k
    go true e true = sym (eqb-true k 18 e)
    go true e false = sym (eqb-true k 18 e)
    go false e d = refl

id_by : (k a : ℕ) → k ≡ 18 → HasId (type_by k a) a
unfolding type_by
id_by k a e = rw e (go (eqb a 0) refl)
  where
    go : (d : Bool) → eqb a 0 ≡ d → HasId (cond d any_pointer (parameter 0 0)) a
    go true f = eqb-true a 0 f
    go false f = eqb-false a 0 f

pub parameter_by : (k a : ℕ) → k ≡ 18 → is_parameter (type_by k a) ≡ not (eqb a 0)
parameter_by k a e = parameter-is (type_by k a) a (id_by k a e) (kind_by k a ∙ e)

module _ (k a : ℕ) where
  pub fallible_pointer : k ≡ 18 → not (eqb a 0) ≡ is_fallible (type_by k a)
  fallible_pointer e = sym (rw (kind_by k a ∙ e) (whole (is_parameter (type_by k a))) ∙ parameter_by k a e)
    where
      whole : (p : Bool) → cond p true false ≡ p
      whole true = refl
      whole false = refl

  module _ (n18 : k ≡ 18 → ⊥) where
    other : is_parameter (type_by k a) ≡ false
    other = no-parameter (type_by k a) (λ f. n18 (sym (kind_by k a) ∙ f))

    pub fallible-other : not (is_primitive k) ≡ is_fallible (type_by k a)
    fallible-other = sym (rw (other, kind_by k a, ne_eqb k 18 n18) (whole (is_primitive k)))
      where
        whole : (b : Bool) → cond b false true ≡ not b
        whole true = refl
        whole false = refl

module _ (root name : Str) (r : Slot) (is_reader is_fn : Bool) where
  pub fragment-number :
      (number_of r.kind ≡ 0 → ⊥) → (number_of r.kind ≡ 1 → ⊥) → number_of r.kind < 12
      → get_data_field is_reader (primitive_text (number_of r.kind)) r.offset (getter_mask (value (number_of r.kind) r.bits))
      ≡ fragment_by root name r is_reader is_fn
  fragment-number n0 n1 lt =
      let k = number_of r.kind in
      sym (rw (kind_by k r.id, ne_eqb k 0 n0, ne_eqb k 1 n1, le-leb k 11 (omega arith)) refl)

  fragment-past :
      18 < number_of r.kind
      → from_pointer root is_reader r.offset (pointer_default r.explicit name) ≡ fragment_by root name r is_reader is_fn
  fragment-past h =
      let k = number_of r.kind in
      sym (rw (
        kind_by k r.id,
        ne_eqb k 0 (λ e. omega arith),
        ne_eqb k 1 (λ e. omega arith),
        lt-leb k 11 (omega arith),
        ne_eqb k 15 (λ e. omega arith),
        ne_eqb k 17 (λ e. omega arith),
        ne_eqb k 18 (λ e. omega arith),
      ) refl)

  pub fragment-pointer :
      (r.kind ≡ kinds.Text) ⊎ ((r.kind ≡ kinds.Data) ⊎ ((r.kind ≡ kinds.List) ⊎ ((r.kind ≡ kinds.Struct)
      ⊎ ((u : Unnamed) × (r.kind ≡ kinds.Unnamed u)))))
      → from_pointer root is_reader r.offset (pointer_default r.explicit name) ≡ fragment_by root name r is_reader is_fn
  fragment-pointer e = elim e [
    | inl e ↦ sym (rw (kind_by (number_of r.kind) r.id, e) refl)
    | inr (inl e) ↦ sym (rw (kind_by (number_of r.kind) r.id, e) refl)
    | inr (inr (inl e)) ↦ sym (rw (kind_by (number_of r.kind) r.id, e) refl)
    | inr (inr (inr (inl e))) ↦ sym (rw (kind_by (number_of r.kind) r.id, e) refl)
    | inr (inr (inr (inr (u, e)))) ↦ let past = u.past in fragment-past (rw e (omega arith))
  ]

-- ---- the code with an option

-- its lines by their parts, where a margin one step in is a margin and four spaces
option_join : (i o b n m sp step x y p z q w : Str) → step ≡ m ++ sp
    → m ++ i ++ o ++ (b ++ n ++ (m ++ (sp ++ x ++ n ++ (m ++ (y ++ n ++ (m ++ (sp ++ p))))))) ++ z ++ (q ++ n ++ (m ++ (w ++ n)))
    ≡ (m ++ (i ++ o ++ b)) ++ (n ++ ((step ++ x) ++ (n ++ ((m ++ y) ++ (n ++ ((step ++ (p ++ z ++ q))
    ++ (n ++ ((m ++ w) ++ n))))))))
option_join i o b n m sp step x y p z q w e = rw e (simp append_assoc)

pub option-lines : (is_reader fallible : Bool) (o : ℕ) (fragment : Str) (level : ℕ)
    → margin level ++ null_head is_reader ++ decimal o ++ broken (absent fallible) level ++ fragment
    ++ broken (some_end fallible) level
    ≡ stringify (option_code is_reader fallible o fragment) level
unfolding to_lines flat_map ended margin broken
option-lines is_reader fallible o fragment level =
    go is_reader fallible
    ∙ sym (stringify-lines (option_code is_reader fallible o fragment) level (λ e. let z : ◌≡◌ {A = ℕ} 0 1 = cc in omega arith))
  where
    joined : (head x p q : Str)
        → margin level ++ head ++ decimal o
        ++ (ascii ") {" ++ unit 10 ++ (margin level ++ (ascii "    " ++ x ++ unit 10 ++ (margin level
        ++ (ascii "} else {" ++ unit 10 ++ (margin level ++ (ascii "    " ++ p))))))) ++ fragment
        ++ (q ++ unit 10 ++ (margin level ++ (ascii "}" ++ unit 10)))
        ≡ (margin level ++ (head ++ decimal o ++ ascii ") {")) ++ (unit 10 ++ ((margin (level + 1) ++ x)
        ++ (unit 10 ++ ((margin level ++ ascii "} else {") ++ (unit 10 ++ ((margin (level + 1) ++ (p ++ fragment ++ q))
        ++ (unit 10 ++ ((margin level ++ ascii "}") ++ unit 10))))))))
    joined head x p q =
        option_join head (decimal o) (ascii ") {") (unit 10) (margin level) (ascii "    ") (margin (level + 1)) x
        (ascii "} else {") p fragment q (ascii "}") (margin-more level)

    go : (is_reader fallible : Bool)
        → margin level ++ null_head is_reader ++ decimal o ++ broken (absent fallible) level ++ fragment
        ++ broken (some_end fallible) level
        ≡ ended (to_lines (option_code is_reader fallible o fragment) level)
    go true true =
        joined (null_head true) (ascii "core::result::Result::Ok(core::option::Option::None)") []
        (ascii ".map(::core::option::Option::Some)")
    go false true =
        joined (null_head false) (ascii "core::result::Result::Ok(core::option::Option::None)") []
        (ascii ".map(::core::option::Option::Some)")
    go true false =
        joined (null_head true) (ascii "::core::option::Option::None") (ascii "::core::option::Option::Some(") (ascii ")")
    go false false =
        joined (null_head false) (ascii "::core::option::Option::None") (ascii "::core::option::Option::Some(") (ascii ")")

-- ---- the code of a slot of the tree

module _ (r : Slot) (s : tree.Slot) (i : SlotIs r s) where
  both-parameter : number_of r.kind ≡ 18 → is_parameter (type_by (number_of r.kind) r.id) ≡ is_parameter s.ty
  both-parameter k =
      parameter_by (number_of r.kind) r.id k
      ∙ sym (parameter-is s.ty r.id i.id (i.kind ∙ k))

  same-parameter : (b : Bool) → eqb (number_of r.kind) 18 ≡ b → is_parameter (type_by (number_of r.kind) r.id) ≡ is_parameter s.ty
  same-parameter true e = both-parameter (eqb-true (number_of r.kind) 18 e)
  same-parameter false e =
      let n = eqb-false (number_of r.kind) 18 e in
      no-parameter (type_by (number_of r.kind) r.id) (λ f. n (sym (kind_by (number_of r.kind) r.id) ∙ f))
      ∙ sym (no-parameter s.ty (λ f. n (sym i.kind ∙ f)))

  same_kind : kind (type_by (number_of r.kind) r.id) ≡ kind s.ty
  same_kind = kind_by (number_of r.kind) r.id ∙ sym i.kind

  same-fallible : is_fallible (type_by (number_of r.kind) r.id) ≡ is_fallible s.ty
  same-fallible = rw (same-parameter (eqb (number_of r.kind) 18) refl, same_kind) refl

  module _ (d : s.default.kind ≡ kind s.ty) (root name : Str) (is_reader is_fn : Bool) where
    same-fragment : fragment_by root name r is_reader is_fn
        ≡ fragment_of root name s is_reader is_fn (primitive_text (number_of r.kind))
    same-fragment = rw (
      same-parameter (eqb (number_of r.kind) 18) refl,
      same_kind,
      ← i.offset,
      ← i.explicit,
      ← default-is s.default (number_of r.kind) r.bits (d ∙ i.kind) i.bits,
    ) refl

    pub code_of : {l : List ℕ} {t : Text} {l' : List ℕ} {t' : Text}
        → WroteLines l t (stringify (code_by root name r is_reader is_fn)) l' t'
        → WroteLines l t (stringify (getter_code s is_reader (cond (eqb s.option 0) false true)
        (fragment_of root name s is_reader is_fn (primitive_text (number_of r.kind))))) l' t'
    code_of w = rw (i.option, ← same-fragment, ← same-fallible, i.offset) w
