-- Laws of comparing byte strings. By induction on both. Assumes nothing.
use mathlib.Core.Path.{◌≡◌, refl, ap}
use mathlib.Core.Bool.{Bool, true, false, ◌&&◌}
use mathlib.Core.List.{List, [], ◌∷◌}
use Prim.Native.Nat.{ℕ, suc}
use lib.Dec.{eqb}
use lib.ListN.{length}
use lib.Pointwise.{pointwise}
use Rattle.text.specs.Bytes.{both, same}

pub both_false : (b : Bool) → both b false ≡ false
both_false true = refl
both_false false = refl

pub both_true : (a b : Bool) → both a b ≡ true → (a ≡ true) × (b ≡ true)
both_true true b e = (refl, e)
both_true false b e = cc

-- strings of different lengths differ
pub unlike : (a b : List ℕ) → (length a ≡ length b → ⊥) → same a b ≡ false
unfolding same
unlike [] [] h = absurd (h refl)
unlike (x ∷ a) (y ∷ b) h = rw (unlike a b (λ e. h (ap suc e))) (both_false (eqb x y))
unlike _ _ h = refl

-- what `==` of two slices answers
pub pointwise_same : (a b : List ℕ) → pointwise eqb a b ≡ same a b
unfolding same
pointwise_same [] [] = refl
pointwise_same (x ∷ a) (y ∷ b) = go (eqb x y) (pointwise_same a b)
  where
    go : (e : Bool) → pointwise eqb a b ≡ same a b → (e && pointwise eqb a b) ≡ both e (same a b)
    go true f = f
    go false f = refl
pointwise_same _ _ = refl
