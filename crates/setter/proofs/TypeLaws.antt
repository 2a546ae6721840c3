-- Types by their kind, and the element of a list that is read in the sheet. Assumes nothing.
use mathlib.Core.Path.{◌≡◌, ap}
use mathlib.Core.Bool.{Bool, true, false}
use Prim.Native.Nat.{ℕ, zero, suc, ◌≤◌}
use native.Mathlib.Omega.{arith}
use lib.Dec.{eqb, ltb}
use Rattle.text.specs.Bytes.{cond}
use Rattle.row.specs.Rows.{rest_of}
use Rattle.row.specs.Line.{fault}
use Rattle.tree.specs.Tree.{Ty, plain, list, enum, struct, interface, any_pointer, parameter, kind, Scopes, end}
use Rattle.tree.specs.Reader.{Rows, got, no, map_r, times, On}
use Rattle.tree.specs.Read as read
use Rattle.tree.specs.Read.{read_type, type_from, branded}
use Rattle.types.specs.Find.{kind_at}
use Rattle.types.proofs.TypeLaws.{type-kind}
use Rattle.types.proofs.Laws.{on-map, on-all, on-type}
use Rattle.field.specs.Slot.{HasId}

-- ---- what holds of the types of a kind

module _ (P : Ty → Type 0) where
  pub at-list : (t : Ty) (a : ℕ) → HasId t a → kind t ≡ 14 → ((e : Ty) → P (list e)) → P t
  at-list (plain k) a h e p = let z : ⊥ = omega arith in absurd z
  at-list (list t) a h e p = p t
  at-list (enum i ss) a h e p = let z : ⊥ = omega arith in absurd z
  at-list (struct i ss) a h e p = let z : ⊥ = omega arith in absurd z
  at-list (interface i ss) a h e p = let z : ⊥ = omega arith in absurd z
  at-list any_pointer a h e p = let z : ⊥ = omega arith in absurd z
  at-list (parameter i k) a h e p = let z : ⊥ = omega arith in absurd z

  pub at_enum : (t : Ty) (a : ℕ) → HasId t a → kind t ≡ 15 → ((ss : Scopes) → P (enum a ss)) → P t
  at_enum (plain k) a h e p = let z : ⊥ = omega arith in absurd z
  at_enum (list t) a h e p = let z : ⊥ = omega arith in absurd z
  at_enum (enum i ss) a h e p = rw h (p ss)
  at_enum (struct i ss) a h e p = let z : ⊥ = omega arith in absurd z
  at_enum (interface i ss) a h e p = let z : ⊥ = omega arith in absurd z
  at_enum any_pointer a h e p = let z : ⊥ = omega arith in absurd z
  at_enum (parameter i k) a h e p = let z : ⊥ = omega arith in absurd z

  pub at-struct : (t : Ty) (a : ℕ) → HasId t a → kind t ≡ 16 → ((i : ℕ) (ss : Scopes) → P (struct i ss)) → P t
  at-struct (plain k) a h e p = let z : ⊥ = omega arith in absurd z
  at-struct (list t) a h e p = let z : ⊥ = omega arith in absurd z
  at-struct (enum i ss) a h e p = let z : ⊥ = omega arith in absurd z
  at-struct (struct i ss) a h e p = p i ss
  at-struct (interface i ss) a h e p = let z : ⊥ = omega arith in absurd z
  at-struct any_pointer a h e p = let z : ⊥ = omega arith in absurd z
  at-struct (parameter i k) a h e p = let z : ⊥ = omega arith in absurd z

  pub at-interface : (t : Ty) (a : ℕ) → HasId t a → kind t ≡ 17 → ((i : ℕ) (ss : Scopes) → P (interface i ss)) → P t
  at-interface (plain k) a h e p = let z : ⊥ = omega arith in absurd z
  at-interface (list t) a h e p = let z : ⊥ = omega arith in absurd z
  at-interface (enum i ss) a h e p = let z : ⊥ = omega arith in absurd z
  at-interface (struct i ss) a h e p = let z : ⊥ = omega arith in absurd z
  at-interface (interface i ss) a h e p = p i ss
  at-interface any_pointer a h e p = let z : ⊥ = omega arith in absurd z
  at-interface (parameter i k) a h e p = let z : ⊥ = omega arith in absurd z

  pub at-any : (t : Ty) (a : ℕ) → HasId t a → kind t ≡ 18 → a ≡ 0 → P any_pointer → P t
  at-any (plain k) a h e z p = let w : ⊥ = omega arith in absurd w
  at-any (list t) a h e z p = let w : ⊥ = omega arith in absurd w
  at-any (enum i ss) a h e z p = let w : ⊥ = omega arith in absurd w
  at-any (struct i ss) a h e z p = let w : ⊥ = omega arith in absurd w
  at-any (interface i ss) a h e z p = let w : ⊥ = omega arith in absurd w
  at-any any_pointer a h e z p = p
  at-any (parameter i k) a h e z p = absurd (h z)

  pub at-parameter : (t : Ty) (a : ℕ) → HasId t a → kind t ≡ 18 → (a ≡ 0 → ⊥) → ((i k : ℕ) → P (parameter i k)) → P t
  at-parameter (plain k) a h e n p = let z : ⊥ = omega arith in absurd z
  at-parameter (list t) a h e n p = let z : ⊥ = omega arith in absurd z
  at-parameter (enum i ss) a h e n p = let z : ⊥ = omega arith in absurd z
  at-parameter (struct i ss) a h e n p = let z : ⊥ = omega arith in absurd z
  at-parameter (interface i ss) a h e n p = let z : ⊥ = omega arith in absurd z
  at-parameter any_pointer a h e n p = absurd (n h)
  at-parameter (parameter i k) a h e n p = p i k

pub plain-is : (t : Ty) (a k : ℕ) → HasId t a → kind t ≡ k → k ≤ 13 → t ≡ plain k
plain-is (plain j) a k h e le = ap plain e
plain-is (list t) a k h e le = let z : ⊥ = omega arith in absurd z
plain-is (enum i ss) a k h e le = let z : ⊥ = omega arith in absurd z
plain-is (struct i ss) a k h e le = let z : ⊥ = omega arith in absurd z
plain-is (interface i ss) a k h e le = let z : ⊥ = omega arith in absurd z
plain-is any_pointer a k h e le = let z : ⊥ = omega arith in absurd z
plain-is (parameter i j) a k h e le = let z : ⊥ = omega arith in absurd z

-- ---- the kind of a list's element: that of the row after the list's

abbrev pub ElementIs : Ty → ℕ → Type 0
ElementIs (plain k) j = Unit {0}
ElementIs (list e) j = kind e ≡ j
ElementIs (enum i ss) j = Unit {0}
ElementIs (struct i ss) j = Unit {0}
ElementIs (interface i ss) j = Unit {0}
ElementIs any_pointer j = Unit {0}
ElementIs (parameter i k) j = Unit {0}

pub of_list : (t e : Ty) (j : ℕ) → ElementIs t j → t ≡ list e → kind e ≡ j
of_list t e j h z = rw z at h

branded_element : (k a : ℕ) (ss : Scopes) (j : ℕ) → ElementIs (branded k a ss) j
branded_element k a ss j = go (eqb k 15) (eqb k 16)
  where
    go : (x y : Bool) → ElementIs (cond x (enum a ss) (cond y (struct a ss) (interface a ss))) j
    go true y = tt
    go false true = tt
    go false false = tt

pub element_at : (left : ℕ) (rs : Rows) → On (read_type left rs) (λ ty. ElementIs ty (kind_at (rest_of rs)))
unfolding read_type type_from
element_at zero rs =
    on-type (λ ty. ElementIs ty (kind_at (rest_of rs))) rs (λ k a b c rest. no (fault 4 1) rs) (λ k a b c e. tt)
element_at (suc n) rs =
    on-type (λ ty. ElementIs ty (kind_at (rest_of rs))) rs (type_from (read_type n))
    (λ k a b c e. go k a b c (ltb k 14) (eqb k 14) (ltb k 18) (eqb a 0))
  where
    go : (k a b c : ℕ) (x y z w : Bool)
        → On (cond x (got (plain k)) (cond y (map_r (λ t. list t) (read_type n)) (cond z
        (map_r (branded k a) (times (read.read_scope (read_type n)) end b)) (got (cond w any_pointer (parameter b c)))))
        (rest_of rs))
        (λ ty. ElementIs ty (kind_at (rest_of rs)))
    go k a b c true y z w = tt
    go k a b c false true z w =
        on-map (λ t. list t) (λ ty. ElementIs ty (kind_at (rest_of rs))) (read_type n (rest_of rs)) (type-kind n (rest_of rs))
    go k a b c false false true w =
        on-map (branded k a) (λ ty. ElementIs ty (kind_at (rest_of rs)))
        (times (read.read_scope (read_type n)) end b (rest_of rs))
        (on-all {P = λ ss. ElementIs (branded k a ss) (kind_at (rest_of rs))}
        (λ ss. branded_element k a ss (kind_at (rest_of rs)))
        (times (read.read_scope (read_type n)) end b (rest_of rs)))
    go k a b c false false false true = tt
    go k a b c false false false false = tt
