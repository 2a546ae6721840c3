-- The short form goes row by row, and keeps the bytes that are no spaces. By induction on the bytes. Assumes nothing.
use mathlib.Core.Path.{◌≡◌, refl, sym, ap, ◌∙◌}
use mathlib.Core.Bool.{Bool, true, false}
use mathlib.Core.List.{List, [], ◌∷◌, ◌++◌, map}
use Prim.Native.Nat.{ℕ, zero, suc, ◌<◌}
use native.Mathlib.Omega.{arith}
use lib.Dec.{eqb}
use lib.ListN.{get_or, replicate}
use borrow.Author.Tests.{ne_eqb, eqb-true}
use Rattle.text.specs.Bytes.{Str, cond, both, unit}
use Rattle.row.specs.Rows.{onto, rows}
use Rattle.padding.specs.Short.{short}

-- a byte that is no space
pub short-kept : (b : ℕ) (s : Str) → (b ≡ 32 → ⊥) → short (b ∷ s) ≡ b ∷ short s
unfolding short
short-kept b s h = rw (short, ne_eqb b 32 h)

-- spaces in front of such a byte
short_space : (s : Str) → (get_or s 0 0 ≡ 32 → ⊥) → short (32 ∷ s) ≡ 32 ∷ short s
unfolding short
short_space s h = rw (short, ne_eqb (get_or s 0 0) 32 h)

pub short-spaces : (k : ℕ) (s : Str) → 0 < k → (get_or s 0 0 ≡ 32 → ⊥) → short (replicate k 32 ++ s) ≡ 32 ∷ short s
unfolding short
short-spaces zero s l h = absurd (omega arith)
short-spaces (suc zero) s l h = short_space s h
short-spaces (suc (suc k)) s l h = short-spaces (suc k) s (omega arith) h

-- ---- row by row

-- the first byte of the first row
first : List Str → ℕ
first [] = 0
first (r ∷ rs) = get_or r 0 0

rows_end : (b : ℕ) (s : Str) → eqb b 10 ≡ true → rows (b ∷ s) ≡ unit b ∷ rows s
unfolding rows
rows_end b s e = rw (rows, e)

rows_on : (b : ℕ) (s : Str) → eqb b 10 ≡ false → rows (b ∷ s) ≡ onto b (rows s)
unfolding rows
rows_on b s e = rw (rows, e)

first_rows : (s : Str) → first (rows s) ≡ get_or s 0 0
unfolding first rows onto
first_rows [] = refl
first_rows (b ∷ s) = go (eqb b 10) refl
  where
    first-onto : (rs : List Str) → first (onto b rs) ≡ b
    first-onto [] = refl
    first-onto (r ∷ rs) = refl

    go : (t : Bool) → eqb b 10 ≡ t → first (rows (b ∷ s)) ≡ b
    go true e = ap first (rows_end b s e)
    go false e = ap first (rows_on b s e) ∙ first-onto (rows s)

-- a byte in front of the first row is left out, or kept
abbrev dropped : ℕ → List Str → Bool
dropped b rs = both (eqb b 32) (eqb (first rs) 32)

short-onto : (b : ℕ) (rs : List Str) → map short (onto b rs) ≡ cond (dropped b rs) (map short rs) (onto b (map short rs))
unfolding short onto first
short-onto b [] = go (eqb b 32)
  where
    go : (t : Bool) → (cond (both t false) [] (unit b) ++ []) ∷ [] ≡ cond (both t false) [] (unit b ∷ [])
    go true = refl
    go false = refl
short-onto b (r ∷ rs) = go (both (eqb b 32) (eqb (get_or r 0 0) 32))
  where
    go :
        (t : Bool)
        → (cond t [] (unit b) ++ short r) ∷ map short rs ≡ cond t (short r ∷ map short rs) ((b ∷ short r) ∷ map short rs)
    go true = refl
    go false = refl

pub rows_short : (s : Str) → rows (short s) ≡ map short (rows s)
unfolding short rows
rows_short [] = refl
rows_short (b ∷ s) = go (rows_short s) (eqb b 10) refl
  where
    by-test :
        eqb b 10 ≡ false → (t : Bool) → rows (cond t [] (unit b) ++ short s) ≡ cond t (rows (short s)) (onto b (rows (short s)))
    by-test e true = refl
    by-test e false = rows_on b (short s) e

    go : rows (short s) ≡ map short (rows s) → (t : Bool) → eqb b 10 ≡ t → rows (short (b ∷ s)) ≡ map short (rows (b ∷ s))
    go h true e =
        let d = eqb-true b 10 e in
        ap rows (short-kept b s (omega arith)) ∙ rows_end b (short s) e ∙ ap (λ (rs : List Str). unit b ∷ rs) h
        ∙ rw (rows_end b s e, d)
    go h false e =
        by-test e (both (eqb b 32) (eqb (get_or s 0 0) 32))
        ∙ rw (h, ← first_rows s) (sym (short-onto b (rows s)))
        ∙ ap (map short) (sym (rows_on b s e))
