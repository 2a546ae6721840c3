-- Laws of a slot's words: those that were counted, and those that are read there. By what the first row says.
-- Assumes nothing.
use mathlib.Core.Path.{◌≡◌}
use mathlib.Core.Bool.{Bool, true, false}
use mathlib.Core.List.{List, [], ◌∷◌}
use Prim.Native.Nat.{ℕ, zero, suc, ◌≤◌}
use native.Mathlib.Omega.{arith}
use lib.ListN.{length}
use Rattle.text.specs.Bytes.{Str}
use Rattle.row.specs.Rows.{rest_of}
use Rattle.row.specs.Line.{Fault, line_at, fault_of}
use Rattle.tree.specs.Reader.{Rows, Reading, Reader, got, no, ◌then◌, map_r}
use Rattle.tree.specs.Read.{read_words_up_to, read_words}
use Rattle.tree.proofs.OtherLines.{never}
use Rattle.tree.proofs.SlotLaws.{by_word}
use Rattle.tree.proofs.WalkLaws.{by_told, told_wrong}
use Rattle.field.specs.Parts.{Gets, most_words}

-- where a slot has words, they are those up to 255
words-whole : (has : Bool) (rs : Rows) (ws : List ℕ) (z : Rows) → read_words has rs ≡ got ws z
    → read_words_up_to (most_words has) rs ≡ got ws z
unfolding read_words read_words_up_to
words-whole false rs ws z e = e
words-whole true rs ws z e =
    by_word (λ (f g : Reader (List ℕ)). f rs ≡ got ws z → g rs ≡ got ws z) (line_at rs) _ _ _ _ (λ w e. e)
    (λ e. let n = told_wrong {A = List ℕ} (fault_of 87 (line_at rs)) rs in never cc) e

pub words-counted : (has : Bool) (rs : Rows) (ws : List ℕ) (z : Rows) (k : ℕ) (q : Rows) → read_words has rs ≡ got ws z
    → got k q ≡ map_r length (read_words_up_to (most_words has)) rs → (k ≡ length ws) × (q ≡ z)
words-counted has rs ws z k q e h =
    let g : got k q ≡ got (length ws) z = rw (words-whole has rs ws z e) at h in (cc, cc)

-- words that are refused are none of a slot's
pub words-refused : (has : Bool) (rs : Rows) (ws : List ℕ) (z : Rows) (k : Fault) (q : Rows) → read_words has rs ≡ got ws z
    → no k q ≡ map_r length (read_words_up_to (most_words has)) rs → ⊥
words-refused has rs ws z k q e h =
    let g : no k q ≡ got (length ws) z = rw (words-whole has rs ws z e) at h in never cc

-- words leave no more rows
words-fewer : (n : ℕ) (rs : Rows) → Gets (read_words_up_to n rs) (λ ws q. length q ≤ length rs)
unfolding read_words_up_to rest_of
words-fewer zero rs = omega arith
words-fewer (suc n) [] =
    by_word (λ (f g : Reader (List ℕ)). Gets (f []) (λ ws q. length q ≤ length {A = Str} [])) (line_at []) _ _ (λ w. got [])
    (got [])
    (λ w. go w (read_words_up_to n []) (words-fewer n []))
    (by_told (λ g. Gets g (λ ws q. length q ≤ length {A = Str} [])) (fault_of 87 (line_at [])) (got []) [] (λ k. tt)
    (omega arith))
  where
    go : (w : ℕ) (g : Reading (List ℕ)) → Gets g (λ ws q. length q ≤ length {A = Str} [])
        → Gets (g then λ ws. got (w ∷ ws)) (λ ws q. length q ≤ length {A = Str} [])
    go w (got ws q) h = h
    go w (no k q) h = tt
words-fewer (suc n) (r ∷ rs) =
    by_word (λ (f g : Reader (List ℕ)). Gets (f (r ∷ rs)) (λ ws q. length q ≤ length (r ∷ rs))) (line_at (r ∷ rs)) _ _
    (λ w. got []) (got [])
    (λ w. go w (read_words_up_to n rs) (words-fewer n rs))
    (by_told (λ g. Gets g (λ ws q. length q ≤ length (r ∷ rs))) (fault_of 87 (line_at (r ∷ rs))) (got []) (r ∷ rs) (λ k. tt)
    (omega arith))
  where
    go : (w : ℕ) (g : Reading (List ℕ)) → Gets g (λ ws q. length q ≤ length rs)
        → Gets (g then λ ws. got (w ∷ ws)) (λ ws q. length q ≤ length (r ∷ rs))
    go w (got ws q) h = omega arith
    go w (no k q) h = tt

pub counted-fewer : (n : ℕ) (rs : Rows) (k : ℕ) (q : Rows) → got k q ≡ map_r length (read_words_up_to n) rs → length q ≤ length rs
counted-fewer n rs k q h = go (read_words_up_to n rs) (words-fewer n rs) h
  where
    go : (g : Reading (List ℕ)) → Gets g (λ ws q. length q ≤ length rs) → got k q ≡ (g then λ ws. got (length ws))
        → length q ≤ length rs
    go (got ws z) f e = let i : q ≡ z = cc in rw i f
    go (no j z) f e = never cc
