-- Laws of the flags, by which `has` of `Groups` tells an id that is new without a search: an id whose flag is not set is none of
-- those that were put there, and putting one more there with its flag keeps it so. Assumes nothing.
use mathlib.Core.Path.{◌≡◌, sym, ap, ◌∙◌}
use mathlib.Core.Bool.{true}
use mathlib.Core.List.{List, [], ◌∷◌, ◌++◌}
use Prim.Native.Nat.{ℕ, ◌%◌, ◌<◌}
use native.Mathlib.Nat.{mod-lt, zero-lt-suc}
use native.Mathlib.Decide.{ℕ_discrete}
use borrow.Author.Tests.{ne_eqb}
use lib.Dec.{eqb}
use lib.ListN.{length, get_or, set}
use lib.Seq.{get_or-set_same, get_or-set_other}
use Rattle.text.specs.Bytes.{unit, either}
use Rattle.tree.specs.Read.{among}
use Rattle.tree.proofs.OtherLines.{never}
use Rattle.sheet.specs.Steps.{Flagged}

-- each id has its flag below 2048
flag-fits : (id : ℕ) → id % 2048 < 2048
flag-fits id = mod-lt id (zero-lt-suc 2047)

-- no id needs no flag
pub flagged-none : (flags : List ℕ) → Flagged flags []
unfolding among
flagged-none flags = record { set = λ id h. never cc }

-- an id of another value stands among those before
among-before : (ids : List ℕ) (i id : ℕ) → (i ≡ id → ⊥) → among id (ids ++ unit i) ≡ among id ids
unfolding among
among-before [] i id n = rw (ne_eqb i id n)
among-before (x ∷ xs) i id n = ap (either (eqb x id)) (among-before xs i id n)

-- one id more, and its flag
pub flagged-more :
    (flags ids : List ℕ) (i : ℕ) → length flags ≡ 2048 → Flagged flags ids → Flagged (set flags (i % 2048) 1) (ids ++ unit i)
flagged-more flags ids i l m = record { set = λ id h. go id h (ℕ_discrete (id % 2048) (i % 2048)) }
  where
    go : (id : ℕ) → among id (ids ++ unit i) ≡ true → Dec (id % 2048 ≡ i % 2048)
        → get_or (set flags (i % 2048) 1) (id % 2048) 0 ≡ 1
    go id h (yes e) = rw e (get_or-set_same flags (i % 2048) 1 0 (rw l (flag-fits i)))
    go id h (no n) =
        get_or-set_other flags (i % 2048) (id % 2048) 1 0 n
        ∙ m.set id (sym (among-before ids i id (λ e. n (ap (λ (x : ℕ). x % 2048) (sym e)))) ∙ h)
