-- Laws of refusals, and of `do_branding`: one step along the chain of a node's parents. Assumes nothing.
use mathlib.Core.Path.{◌≡◌, refl}
use mathlib.Core.List.{List, [], ◌∷◌}
use Prim.Native.Nat.{ℕ, zero, suc, ◌+◌, ◌-◌, ◌≤◌}
use native.Mathlib.Omega.{arith}
use native.Mathlib.Numerals.{sub-one}
use lib.Dec.{eqb}
use Rattle.text.specs.Bytes.{cond}
use Rattle.tree.specs.Tree.{Sheet}
use Rattle.codegen_types.specs.Out.{Out, ok, refused, ◌then◌, refusal_of}
use Rattle.codegen_types.specs.TypeString.{Scope, node_of, scope_of, arguments_of, accumulate}

-- what only builds something of a text is refused where the text is
pub refusal_then : {A B : Type 0} (o : Out A) (f : A → B) → refusal_of (o then λ a. ok (f a)) ≡ refusal_of o
refusal_then (ok a) f = refl
refusal_then (refused k) f = refl

pub accumulate-none : (sheet : Sheet) (scopes : List (ℕ × Scope)) (n id : ℕ) → n ≡ 0 → accumulate sheet scopes n id ≡ refused 4
unfolding accumulate
accumulate-none sheet scopes n id h = rw h

pub accumulate-more : (sheet : Sheet) (scopes : List (ℕ × Scope)) (n id : ℕ) → (n ≡ 0 → ⊥) → accumulate sheet scopes n id
    ≡ (node_of sheet.nodes id then λ x. arguments_of sheet.root x.params (scope_of id scopes) then λ arguments.
    cond (eqb x.parent 0) (ok (arguments ∷ [])) (accumulate sheet scopes (n - 1) x.parent then λ outer. ok
    (arguments ∷ outer)))
unfolding accumulate
accumulate-more sheet scopes zero id h = absurd (h refl)
accumulate-more sheet scopes (suc n) id h = rw (sub-one (suc n))

-- a number that is not n, and not below
pub past : (k n : ℕ) → n ≤ k → (k ≡ n → ⊥) → n + 1 ≤ k
past k n h ne = omega arith
