-- What a getter refuses. Its result type refuses nothing that its type did not, since an interface's refusal does not depend on
-- the leaf; then its option. Assumes nothing.
use Rattle.std.specs.Prelude.{◌≡◌, ℕ, Bool, true, false, eqb, ◌++◌}
use mathlib.Core.Path.{refl, sym, ◌∙◌}
use Rattle.std.specs.Prelude.{None, Some}
use native.Mathlib.Omega.{arith}
use borrow.Author.Tests.{ne_eqb}
use Rattle.text.specs.Bytes.{Str, ascii, cond, both}
use Rattle.tree.specs.Tree as tree
use Rattle.tree.specs.Tree.{Ty, plain, list, enum, struct, interface, any_pointer, parameter, kind, Scopes, Node, Sheet}
use Rattle.codegen_types.specs.Out.{Out, ok, refused, ◌then◌, refusal_of}
use Rattle.codegen_types.specs.TypeString.{type_string, do_branding, node_of, scopes_of, accumulate, is_pointer}
use Rattle.codegen_types.proofs.Laws.{refusal_then}
use Rattle.codegen_types.proofs.WrittenLaws.{not-ok, ok-one}
use Rattle.codegen_types.specs.declared.Leaf.{Leaf}
use Rattle.codegen_types.specs.declared.Leaf.TheVariants.{Client}
use Rattle.field.specs.Slot.{HasId}
use Rattle.codegen.specs.Getter.{is_option_field, is_fallible, result_type}

-- ---- outcomes

-- what is given, where nothing is refused
pub record Given {A : Type 0} (o : Out A) : Type 0 where
  pub given : A
  pub is : o ≡ ok given

pub ok-is : {A : Type 0} (o : Out A) → refusal_of o ≡ None → Given o
ok-is (ok a) e = record { given = a; is = refl }
ok-is (refused k) e = let z : ◌≡◌ {A = ℕ} 0 1 = cc in let w : ⊥ = omega arith in absurd w

pub refused-is : {A : Type 0} (o : Out A) (k : ℕ) → refusal_of o ≡ Some k → o ≡ refused k
refused-is (ok a) k e = let z : ◌≡◌ {A = ℕ} 0 1 = cc in let w : ⊥ = omega arith in absurd w
refused-is (refused j) k e = let f : j ≡ k = cc in rw f refl

-- ---- the type

-- an interface's refusal does not depend on the leaf: its module's, then its brand's
pub client_same : (sheet : Sheet) (id : ℕ) (ss : Scopes) (leaf : Leaf)
    → refusal_of (type_string (interface id ss) sheet leaf) ≡ refusal_of (type_string (interface id ss) sheet Client)
unfolding type_string do_branding
client_same sheet id ss leaf = start (node_of sheet.nodes id)
  where
    branded : (the_mod : Str) → refusal_of (do_branding sheet id (scopes_of ss sheet) leaf the_mod)
        ≡ refusal_of (do_branding sheet id (scopes_of ss sheet) Client the_mod)
    branded the_mod =
        refusal_then (accumulate sheet (scopes_of ss sheet) 16 id) _
        ∙ sym (refusal_then (accumulate sheet (scopes_of ss sheet) 16 id) _)

    start : (o : Out Node)
        → refusal_of ((o then λ n. ok n.the_mod) then do_branding sheet id (scopes_of ss sheet) leaf)
        ≡ refusal_of ((o then λ n. ok n.the_mod) then do_branding sheet id (scopes_of ss sheet) Client)
    start (ok n) = branded n.the_mod
    start (refused k) = refl

-- the result type refuses nothing that the type did not
pub result_ok : (sheet : Sheet) (t : Ty) (a : ℕ) (leaf : Leaf) (typ : Str) → HasId t a
    → refusal_of (type_string t sheet leaf) ≡ None → refusal_of (result_type sheet t typ) ≡ None
result_ok sheet (plain k) a leaf typ h e =
    rw (ne_eqb k 15 (λ z. let w : ⊥ = omega arith in absurd w), ne_eqb k 17 (λ z. let w : ⊥ = omega arith in absurd w))
    (either-ok (is_fallible (plain k)))
  where
    either-ok : (b : Bool) → refusal_of (cond b (ok (sheet.root ++ ascii "::Result<" ++ typ ++ ascii ">")) (ok typ)) ≡ None
    either-ok true = refl
    either-ok false = refl
result_ok sheet (list t) a leaf typ h e = refl
result_ok sheet (enum i ss) a leaf typ h e = refl
result_ok sheet (struct i ss) a leaf typ h e = refl
result_ok sheet (interface i ss) a leaf typ h e =
    refusal_then (type_string (interface i ss) sheet Client) (λ client. sheet.root ++ ascii "::Result<" ++ client ++ ascii ">")
    ∙ sym (client_same sheet i ss leaf) ∙ e
result_ok sheet any_pointer a leaf typ h e = refl
result_ok sheet (parameter i k) a leaf typ h e = refl

-- ---- the option

-- is_option_field's answer is the slot's own
pub option_is : (s : tree.Slot) (b : Bool) → is_option_field s ≡ ok b → b ≡ cond (eqb s.option 0) false true
option_is s b = go (eqb s.option 0) (both (is_pointer s.ty) (cond (eqb (kind s.ty) 17) false true))
  where
    go : (absent fits : Bool) → cond absent (ok false) (cond fits (ok true) (refused 9)) ≡ ok b → b ≡ cond absent false true
    go true fits e = sym (ok-one e)
    go false true e = sym (ok-one e)
    go false false e = absurd (not-ok e)
