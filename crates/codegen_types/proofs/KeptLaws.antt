-- What keeps its length and the bytes before the fill count is what some text leaves that is put there, so that of a refused
-- text no more is left unsaid than where it ended. By induction on the places from the fill count on. Assumes nothing.
use mathlib.Core.Path.{◌≡◌, refl, sym, ap, ◌∙◌}
use mathlib.Core.List.{List, [], ◌∷◌, ◌++◌}
use Prim.Native.Nat.{ℕ, zero, suc, ◌+◌, ◌-◌, ◌^◌, ◌<◌, ◌≤◌, min}
use native.Mathlib.Decide.{dec_lt}
use native.Mathlib.Omega.{arith}
use lib.ListN.{length, take, drop, get_or, set, drop_of_length-le}
use lib.Seq.{drop-cons, take-suc, take-suc-set}
use Rattle.std.proofs.lemmas.List.{take_all, length-set}
use Rattle.text.specs.Text.{with_fill, next, put}
use Rattle.text.specs.declared.Text.{Text}
use Rattle.codegen_types.specs.Written.{Kept}

next-of : (t : Text) (at : ℕ) → at + 1 < 2 ^ 64 → next (with_fill t at) ≡ with_fill t (suc at)
unfolding next
next-of t at h = ap (with_fill t) (omega arith)

put-more : (l : List ℕ) (t : Text) (x : ℕ) (s : List ℕ) → put l t (x ∷ s) ≡ put (set l t.at x) (next t) s
unfolding put
put-more l t x s = refl

-- where no place is left, all was kept
all : (l l' : List ℕ) (at : ℕ) → length l ≤ at → length l' ≡ length l → take at l' ≡ take at l → l' ≡ l
all l l' at h e b = sym (take_all at l' (omega arith)) ∙ b ∙ take_all at l h

refilled :
    (t : Text) (n : ℕ) (l l' : List ℕ) (at : ℕ) → length l ≤ at + n → length l < 2 ^ 64 → length l' ≡ length l
    → take at l' ≡ take at l → l' ≡ put l (with_fill t at) (drop at l')
unfolding put
refilled t zero l l' at h f e b = rw (drop_of_length-le l' {i = at} (omega arith)) (all l l' at (omega arith) e b)
refilled t (suc n) l l' at h f e b = go (refilled t n) (dec_lt at (length l))
  where
    x : ℕ
    x = get_or l' at 0

    go :
        ((m m' : List ℕ) (i : ℕ) → length m ≤ i + n → length m < 2 ^ 64 → length m' ≡ length m → take i m' ≡ take i m
        → m' ≡ put m (with_fill t i) (drop i m'))
        → Dec (at < length l) → l' ≡ put l (with_fill t at) (drop at l')
    go refill (no k) = rw (drop_of_length-le l' {i = at} (omega arith)) (all l l' at (omega arith) e b)
    go refill (yes k) =
        let size = length-set l at x in
        let more = take-suc l' at 0 (omega arith) ∙ ap (λ (s : List ℕ). s ++ x ∷ []) b ∙ sym (take-suc-set l at x k) in
        rw (drop-cons l' at 0 (omega arith), put-more l (with_fill t at) x (drop (suc at) l'), next-of t at (omega arith))
        (refill (set l at x) l' (suc at) (omega arith) (omega arith) (e ∙ sym size) more)

pub kept-put :
    (l l' : List ℕ) (t : Text) → length l < 2 ^ 64 → t.at < 2 ^ 64 → Kept l t l' → l' ≡ put l t (drop t.at l')
kept-put l l' t f g k =
    let at : min t.at (2 ^ 64 - 1) ≡ t.at = omega arith in
    refilled t (length l) l l' t.at (omega arith) f k.size (rw at at k.before)
