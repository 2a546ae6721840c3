-- Eight bytes that are not byte 10, one after the other. Assumes nothing.
use mathlib.Core.Path.{◌≡◌, refl, ◌∙◌}
use mathlib.Core.Bool.{Bool, true, false, not}
use Prim.Native.Nat.{ℕ, ◌+◌, ◌<◌, ◌≤◌}
use native.Mathlib.Omega.{arith}
use lib.Dec.{eqb}
use lib.ListN.{length, get_or}
use borrow.Author.Tests.{eqb-false}
use Rattle.text.specs.Bytes.{Str}
use Rattle.row.specs.Newline.{newline_from}
use Rattle.row.proofs.NewlineLaws.{found_later}
use Rattle.bench_ends.specs.Searches.{Passes}

-- eight bytes of which the first seven are not byte 10
pub passes :
    (s : Str) (i : ℕ) → i + 8 ≤ length s
    → (get_or s i 0 ≡ 10 → ⊥) → (get_or s (i + 1) 0 ≡ 10 → ⊥) → (get_or s (i + 2) 0 ≡ 10 → ⊥)
    → (get_or s (i + 3) 0 ≡ 10 → ⊥) → (get_or s (i + 4) 0 ≡ 10 → ⊥) → (get_or s (i + 5) 0 ≡ 10 → ⊥)
    → (get_or s (i + 6) 0 ≡ 10 → ⊥)
    → Passes s i (not (eqb (get_or s (i + 7) 0) 10))
passes s i h a b c d e f g = go (eqb (get_or s (i + 7) 0) 10) refl
  where
    on : (m n : ℕ) → n ≡ m + 1 → m < length s → (get_or s m 0 ≡ 10 → ⊥) → newline_from s n ≡ newline_from s m
    on m n e h x = rw e (found_later s m h x)

    go : (t : Bool) → eqb (get_or s (i + 7) 0) 10 ≡ t → Passes s i (not t)
    go true k = tt
    go false k =
        on (i + 7) (i + 8) (omega arith) (omega arith) (eqb-false (get_or s (i + 7) 0) 10 k)
        ∙ on (i + 6) (i + 7) (omega arith) (omega arith) g
        ∙ on (i + 5) (i + 6) (omega arith) (omega arith) f
        ∙ on (i + 4) (i + 5) (omega arith) (omega arith) e
        ∙ on (i + 3) (i + 4) (omega arith) (omega arith) d
        ∙ on (i + 2) (i + 3) (omega arith) (omega arith) c
        ∙ on (i + 1) (i + 2) (omega arith) (omega arith) b
        ∙ on i (i + 1) (omega arith) (omega arith) a

-- where eight bytes are passed
pub passed : (s : Str) (i : ℕ) (b : Bool) → Passes s i b → b ≡ true → newline_from s (i + 8) ≡ newline_from s i
passed s i true h e = h
passed s i false h e = let z : ◌≡◌ {A = ℕ} 0 1 = cc in absurd (omega arith)
