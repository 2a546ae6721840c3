-- A law of the test whether a number stands in a list. Assumes nothing.
use mathlib.Core.Path.{◌≡◌, refl}
use mathlib.Core.Bool.{Bool, true, false}
use mathlib.Core.List.{List, [], ◌∷◌, ◌++◌}
use Prim.Native.Nat.{ℕ}
use lib.Dec.{eqb}
use Rattle.text.specs.Bytes.{either}
use Rattle.tree.specs.Read.{among}

pub among_append : (i : ℕ) (a b : List ℕ) → among i (a ++ b) ≡ either (among i a) (among i b)
unfolding among
among_append i [] b = refl
among_append i (x ∷ a) b = go (among_append i a b) (eqb x i)
  where
    go : among i (a ++ b) ≡ either (among i a) (among i b) → (t : Bool)
        → either t (among i (a ++ b)) ≡ either (either t (among i a)) (among i b)
    go h true = refl
    go h false = h
