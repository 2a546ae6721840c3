-- A name is one of some words exactly where it is one of those of its own length. By induction on the words. Assumes nothing.
use mathlib.Core.Path.{◌≡◌, refl, sym, ap, ◌∙◌}
use mathlib.Core.Bool.{Bool, true, false, ◌||◌}
use mathlib.Core.List.{List, [], ◌∷◌, ◌++◌}
use Prim.Native.Nat.{ℕ, ◌≤◌, ◌<◌}
use native.Mathlib.Omega.{arith}
use borrow.Author.Tests.{eqb-false, leb-true}
use lib.Dec.{eqb, leb}
use lib.ListN.{length}
use Rattle.text.specs.Bytes.{Str, cond, both, either, same}
use Rattle.std.specs.Cmp.Lexicographic.{nat_list_eq_equiv}
use Rattle.std.specs.Array.{IsFirstChunk}
use Rattle.std.specs.List.{list_any}
use Rattle.std.specs.Str.{bytes_eq}
use Rattle.std.proofs.Math.Seq.{take-length}
use Rattle.text.proofs.BytesLaws.{unlike, both_true, pointwise_same}
use Rattle.names.specs.Keywords.{rust_keywords, is_one_of, is_keyword}

-- a first chunk as long as the name
pub chunk_whole : {name chunk : Str} {n : ℕ} → length name ≡ n → IsFirstChunk name chunk n → chunk ≡ name
chunk_whole {name} h m = m.same ∙ rw (← h) (take-length name)

-- the words of n bytes
abbrev pub of_length : ℕ → List Str → List Str
of_length n [] = []
of_length n (w ∷ ws) = cond (eqb (length w) n) (w ∷ []) [] ++ of_length n ws

among-length : (s : Str) (ws : List Str) → is_one_of s (of_length (length s) ws) ≡ is_one_of s ws
unfolding is_one_of
among-length s [] = refl
among-length s (w ∷ ws) = go (eqb (length w) (length s)) refl (among-length s ws)
  where
    go : (b : Bool) → eqb (length w) (length s) ≡ b → is_one_of s (of_length (length s) ws) ≡ is_one_of s ws
        → is_one_of s (cond b (w ∷ []) [] ++ of_length (length s) ws) ≡ either (same s w) (is_one_of s ws)
    go true e f = ap (either (same s w)) f
    go false e f = rw (unlike s w (λ q. eqb-false (length w) (length s) e (sym q))) f

-- whether each word has 2 to 8 bytes
abbrev sized : List Str → Bool
sized [] = true
sized (w ∷ ws) = both (both (leb 2 (length w)) (leb (length w) 8)) (sized ws)

-- a name of another length is no keyword
pub of_no-length : (s : Str) → (2 ≤ length s → 8 < length s) → is_keyword s ≡ false
unfolding is_keyword is_one_of
of_no-length s h = go rust_keywords refl
  where
    other : (w : Str) → 2 ≤ length w → length w ≤ 8 → length s ≡ length w → ⊥
    other w a b q = let g : 8 < length s = h (omega arith) in omega arith

    go : (ws : List Str) → sized ws ≡ true → is_one_of s ws ≡ false
    go [] e = refl
    go (w ∷ ws) e =
        let b = both_true (both (leb 2 (length w)) (leb (length w) 8)) (sized ws) e in
        let d = both_true (leb 2 (length w)) (leb (length w) 8) b.0 in
        rw (unlike s w (other w (leb-true 2 (length w) d.0) (leb-true (length w) 8 d.1))) (go ws b.1)

-- what the code answers of a table of words
pub any_of : (name : Str) (words : List Str) → list_any (λ (w : Str). bytes_eq w name) words ≡ is_one_of name words
unfolding is_one_of
any_of name [] = refl
any_of name (w ∷ ws) = go (bytes_eq w name) (nat_list_eq_equiv.symm w name ∙ pointwise_same name w) (any_of name ws)
  where
    go : (b : Bool) → b ≡ same name w → list_any (λ (v : Str). bytes_eq v name) ws ≡ is_one_of name ws
        → (b || list_any (λ (v : Str). bytes_eq v name) ws) ≡ either (same name w) (is_one_of name ws)
    go true e f = rw (← e)
    go false e f = rw (← e) f

-- a table of the keywords of the name's length
pub of_length_lem : (s : Str) (words : List Str) (r : Bool) (n : ℕ) → length s ≡ n
    → r ≡ list_any (λ (w : Str). bytes_eq w s) words → words ≡ of_length n rust_keywords → r ≡ is_keyword s
unfolding is_keyword
of_length_lem s words r n e f g =
    f ∙ any_of s words ∙ ap (is_one_of s) g ∙ ap (λ (k : ℕ). is_one_of s (of_length k rust_keywords)) (sym e)
    ∙ among-length s rust_keywords

-- a length from 2 on that is none of 2 to 8
from_six : (n : ℕ) → (n ≡ 2 → ⊥) → (n ≡ 3 → ⊥) → (n ≡ 4 → ⊥) → (n ≡ 5 → ⊥) → 2 ≤ n → 6 ≤ n
from_six n a b c d h = omega arith

past_eight : (n : ℕ) → (n ≡ 6 → ⊥) → (n ≡ 7 → ⊥) → (n ≡ 8 → ⊥) → 6 ≤ n → 8 < n
past_eight n a b c h = omega arith

pub none_of : (n : ℕ) → (n ≡ 2 → ⊥) → (n ≡ 3 → ⊥) → (n ≡ 4 → ⊥) → (n ≡ 5 → ⊥) → (n ≡ 6 → ⊥) → (n ≡ 7 → ⊥) → (n ≡ 8 → ⊥) → 2 ≤ n
    → 8 < n
none_of n a b c d e f g h = past_eight n e f g (from_six n a b c d h)
