-- Where a text's bytes go: past the end nowhere, and where it fits exactly at the fill count. By induction on the text. Assumes
-- nothing.
use mathlib.Core.Path.{◌≡◌, refl, sym, ap, ◌∙◌}
use mathlib.Core.List.{List, [], ◌∷◌, ◌++◌, append_assoc}
use Prim.Native.Nat.{ℕ, suc, ◌+◌, ◌-◌, ◌^◌, ◌<◌, ◌≤◌, min}
use native.Mathlib.Omega.{arith}
use borrow.Rule.Slice.PartMut.{put_mid}
use lib.ListN.{length, take, drop, set}
use lib.Seq.{drop-drop, sets, sets-eq, set_out}
use Rattle.text.specs.Bytes.{unit}
use Rattle.text.specs.Answer.{placed}
use Rattle.text.specs.Text.{put, adv, next, with_fill, Wrote}
use Rattle.text.specs.declared.Text.{Text}

-- how far a count goes
pub adv-at : (t : Text) (s : List ℕ) → t.at ≤ 2 ^ 64 - 1 → adv t s ≡ with_fill t (min (t.at + length s) (2 ^ 64 - 1))
unfolding adv next
adv-at t [] h = ap (with_fill t) (omega arith)
adv-at t (x ∷ s) h = adv-at (next t) s (omega arith) ∙ ap (with_fill t) (omega arith)

pub adv-fits : (t : Text) (s : List ℕ) → t.at + length s ≤ 2 ^ 64 - 1 → adv t s ≡ with_fill t (t.at + length s)
adv-fits t s h = adv-at t s (omega arith) ∙ ap (with_fill t) (omega arith)

pub past_the_end : (l : List ℕ) (t : Text) (s : List ℕ) → length l ≤ t.at → t.at ≤ 2 ^ 64 - 1 → put l t s ≡ l
unfolding put next
past_the_end l t [] h b = refl
past_the_end l t (x ∷ s) h b = rw (set_out l t.at x h, put) (past_the_end l (next t) s (omega arith) (omega arith))

pub put-sets : (l : List ℕ) (t : Text) (s : List ℕ) → t.at + length s ≤ 2 ^ 64 - 1 → put l t s ≡ sets l t.at s
unfolding put next
put-sets l t [] h = refl
put-sets l t (x ∷ s) h =
    let e : min (t.at + 1) (2 ^ 64 - 1) ≡ suc t.at = omega arith in
    ap (λ (k : ℕ). put (set l t.at x) (with_fill t k) s) e ∙ put-sets (set l t.at x) (with_fill t (suc t.at)) s (omega arith)

-- a text that fits stands at its place
pub put-placed : (l : List ℕ) (t : Text) (s : List ℕ) → t.at + length s ≤ length l → length l < 2 ^ 64
    → put l t s ≡ placed l t.at s
unfolding placed
put-placed l t s h b = put-sets l t s (omega arith) ∙ sets-eq s l t.at h

-- a text that fits, copied to its place
pub copied : (l : List ℕ) (t : Text) (s part : List ℕ) → t.at + length s ≤ length l → length l < 2 ^ 64 → part ≡ s
    → Wrote l t s (put_mid t.at (t.at + length s - t.at) l part) (with_fill t (t.at + length s))
unfolding placed
copied l t s part h b e =
    let k : t.at + length s - t.at ≡ length s = omega arith in
    let mid : put_mid t.at (length s) l s ≡ placed l t.at s =
    sym (append_assoc (take t.at l) s (drop (length s) (drop t.at l)))
    ∙ ap (λ (d : List ℕ). take t.at l ++ s ++ d) (drop-drop (length s) t.at l) in
    record {
      bytes = rw (e, k) (mid ∙ sym (put-placed l t s h b));
      state = sym (adv-fits t s (omega arith));
    }

-- one byte before the end
pub stored : (l : List ℕ) (t : Text) (b : ℕ) → t.at < 2 ^ 64 - 1 → Wrote l t (unit b) (set l t.at b) (with_fill t (t.at + 1))
unfolding put adv next
stored l t b h = record { bytes = refl; state = ap (with_fill t) (omega arith) }

-- past the end only the count moves
pub counted : (l : List ℕ) (t : Text) (s : List ℕ) → length l ≤ t.at → t.at ≤ 2 ^ 64 - 1
    → Wrote l t s l (with_fill t (min (t.at + length s) (2 ^ 64 - 1)))
counted l t s h b = record { bytes = sym (past_the_end l t s h b); state = sym (adv-at t s b) }
