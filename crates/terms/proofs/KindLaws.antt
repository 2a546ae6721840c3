-- A kind and its number: there and back. The list of the kinds that have names is in the order of their numbers, which is
-- computed; so each place of it has its own number, and past it stand the unnamed kinds in theirs. Assumes nothing.
use mathlib.Core.Path.{◌≡◌, refl, sym, ap, ◌∙◌}
use mathlib.Core.Logic.{◌⊎◌, inl, inr}
use mathlib.Core.List.{List, [], ◌∷◌}
use Prim.Native.Nat.{ℕ, zero, suc, ◌+◌, ◌-◌, ◌<◌, ◌≤◌}
use native.Mathlib.Decide.{dec_lt}
use native.Mathlib.Omega.{arith}
use lib.ListN.{length, get_or}
use Rattle.std.proofs.Math.Bridge.{le_prop}
use Rattle.std.proofs.lemmas.List.{get_or_past}
use Rattle.terms.specs.declared.kinds.Unnamed.{Unnamed}
use Rattle.terms.specs.declared.kinds.Kind.{Kind}
use Rattle.terms.specs.declared.kinds.Kind.TheVariants as kind
use Rattle.terms.specs.Kinds.{number_of, numbered, unnamed, kind_numbered}

-- an unnamed kind is its number
same-unnamed :
    (n m : ℕ) → n ≡ m → (h : 19 ≤ n) (g : 19 ≤ m)
    → kind.Unnamed (record { number = n; past = h }) ≡ kind.Unnamed (record { number = m; past = g })
same-unnamed n m e = rw e (λ h g. ap (λ (p : 19 ≤ m). kind.Unnamed (record { number = m; past = p })) (le_prop h g))

-- past the last kind that has a name there is the unnamed one with that number
pub past-named : (n : ℕ) (h : 19 ≤ n) → kind.Unnamed (record { number = n; past = h }) ≡ kind_numbered n
unfolding kind_numbered
past-named n h =
    same-unnamed n (19 + (n - 19)) (omega arith) h _ ∙ sym (get_or_past numbered n (kind.Unnamed (unnamed (n - 19))) h)

-- a kind's number is its own
pub kind-back : (k : Kind) → kind_numbered (number_of k) ≡ k
unfolding kind_numbered
kind-back kind.Void = refl
kind-back (kind.Unnamed u) = sym (past-named u.number u.past)
kind-back k = refl

-- so another kind has another number
pub number-own : (k j : Kind) → (k ≡ j → ⊥) → number_of k ≡ number_of j → ⊥
number-own k j h e = h (sym (kind-back k) ∙ ap kind_numbered e ∙ kind-back j)

-- what is neither an AnyPointer nor unnamed has a number below 18, and what belongs to no node and has no element one below 14
pub below-last : (k : Kind) → (k ≡ kind.AnyPointer → ⊥) → ((u : Unnamed) → k ≡ kind.Unnamed u → ⊥) → number_of k < 18
below-last kind.AnyPointer a u = absurd (a refl)
below-last (kind.Unnamed n) a u = absurd (u n refl)
below-last k a u = omega arith

pub plain-below :
    (k : Kind) → (k ≡ kind.List → ⊥) → (k ≡ kind.Enum → ⊥) → (k ≡ kind.Struct → ⊥) → (k ≡ kind.Interface → ⊥)
    → (k ≡ kind.AnyPointer → ⊥) → ((u : Unnamed) → k ≡ kind.Unnamed u → ⊥) → number_of k < 14
plain-below k l e s i a u =
    let below = below-last k a u in
    let list = number-own k kind.List l in
    let enum = number-own k kind.Enum e in
    let struct = number-own k kind.Struct s in
    let interface = number-own k kind.Interface i in
    omega arith

pub branded-between : (k : Kind) → (k ≡ kind.Struct) ⊎ (k ≡ kind.Interface) → (16 ≤ number_of k) × (number_of k < 18)
branded-between k (inl e) = let n = ap number_of e in (omega arith, omega arith)
branded-between k (inr e) = let n = ap number_of e in (omega arith, omega arith)

-- an AnyPointer and the unnamed kinds have the others
pub last-past : (k : Kind) → (k ≡ kind.AnyPointer) ⊎ ((u : Unnamed) × (k ≡ kind.Unnamed u)) → 18 ≤ number_of k
last-past k (inl e) = let n = ap number_of e in omega arith
last-past k (inr (u, e)) = let n = ap number_of e in let past = u.past in omega arith

-- the kinds of a list have the numbers from n on
InOrder : ℕ → List Kind → Type 0
InOrder n [] = Unit {0}
InOrder n (k ∷ ks) = (number_of k ≡ n) × InOrder (suc n) ks

number-at :
    (ks : List Kind) (n i : ℕ) (k : Kind) → InOrder n ks → i < length ks → number_of (get_or ks i k) ≡ n + i
unfolding InOrder
number-at [] n i k o h = absurd (omega arith)
number-at (j ∷ ks) n zero k o h = o.0 ∙ omega arith
number-at (j ∷ ks) n (suc i) k o h = number-at ks (suc n) i k o.1 (omega arith) ∙ omega arith

in_order : InOrder 0 numbered
unfolding InOrder
in_order = grind (arith)

-- the kind with a number has that number
pub number-back : (n : ℕ) → number_of (kind_numbered n) ≡ n
unfolding kind_numbered
number-back n = go (dec_lt n 19)
  where
    go : Dec (n < 19) → number_of (kind_numbered n) ≡ n
    go (yes l) = number-at numbered 0 n (kind.Unnamed (unnamed (n - 19))) in_order l ∙ omega arith
    go (no l) = ap number_of (sym (past-named n (omega arith)))
