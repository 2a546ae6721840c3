-- The bytes that the entry put between its two fill counts are the text of its request: a refusal is never done, and what is
-- placed at the old count ends at the new one. And a text that is generated is put into any buffer with room for it. Assumes
-- nothing.
use Rattle.std.specs.Prelude.{◌≡◌, ℕ, ◌+◌, ◌-◌, ◌≤◌, Bool, true, false, ltb, ◌++◌, length, take, drop, replicate, Option, None}
use Rattle.std.specs.Prelude.{Some, Ok}
use mathlib.Core.Path.{refl, sym, ap, ◌∙◌}
use mathlib.Core.List.{append_assoc}
use native.Mathlib.Omega.{arith}
use borrow.Author.Tests.{ltb-false, le-ltb}
use lib.ListN.{length-take, length-replicate}
use lib.Seq.{take_at, drop_at}
use Rattle.text.specs.Bytes.{Str, cond}
use Rattle.text.specs.Answer as text
use Rattle.text.specs.Text.{state_at_level, with_fill}
use Rattle.text.specs.declared.Text.{Text}
use Rattle.tree.specs.Read.{admitted}
use Rattle.requests.specs.Requests.{of_field, Outcome, gives, refuses, outcome_of, state_refusal, answer_by, buffer_by}
use Rattle.requests.specs.Told.{Answered, StateAllowed}
use Rattle.requests.proofs.AnswerLaws.{state-free}
use Rattle.requests.specs.declared.Accessor.{Accessor}
use Rattle.agreement.specs.Claims.{AnsweredHolds, RanHolds}
use Rattle.agreement.specs.Slots.{Generated, bytes_between, Ran}

-- what is placed in a buffer stands there
placed-between : (l : Str) (fill : ℕ) (w : Str) → fill ≤ length l
    → bytes_between fill (fill + length w) (text.placed l fill w) ≡ w
unfolding text.placed
placed-between l fill w h =
    let e : length (take fill l) ≡ fill = length-take fill l ∙ omega arith in
    let n : fill + length w - fill ≡ length w = omega arith in
    rw (append_assoc, drop_at (take fill l) (w ++ drop (fill + length w) l) fill e, n)
    (take_at w (drop (fill + length w) l) (length w) refl)

-- a text that is put into the buffer is not refused, so it fits
done-text : (l : Str) (fill : ℕ) (w l' : Str) (upto : ℕ) → text.done upto ≡ text.answer_of l fill w → l' ≡ text.buffer_of l fill w
    → w ≡ bytes_between fill upto l'
unfolding text.answer_of text.buffer_of
done-text l fill w l' upto e b = by_tests (ltb (length l) fill) (ltb (length l) (fill + length w)) refl e b
  where
    by_tests : (past short : Bool) → ltb (length l) fill ≡ past
        → text.done upto ≡ cond past (text.refused 21 0 0) (cond short (text.refused 22 0 0) (text.done (fill + length w)))
        → l' ≡ cond past l (cond short l (text.placed l fill w))
        → w ≡ bytes_between fill upto l'
    by_tests true short h e b = cc
    by_tests false true h e b = cc
    by_tests false false h e b =
        let z : upto ≡ fill + length w = cc in
        rw (z, b) (sym (placed-between l fill w (ltb-false (length l) fill h)))

-- where the entry is done, the request has a text, and it stands between the two fill counts
done-gives : (l : Str) (t : Text) (o : Outcome) (l' : Str) (t' : Text) → Answered l t o l' (Ok t')
    → o ≡ gives (bytes_between t.at t'.at l')
done-gives l t o l' t' a = by (state_refusal (length l) t.at t.level) o a.answer a.buffer
  where
    by : (refusal : Option ℕ) (o : Outcome) → text.done t'.at ≡ answer_by refusal l t.at o → l' ≡ buffer_by refusal l t.at o
        → o ≡ gives (bytes_between t.at t'.at l')
    by (Some k) o e b = cc
    by None (gives w) e b = ap gives (done-text l t.at w l' t'.at e b)
    by None (refuses k line column) e b = cc

-- and its state was none that is refused
done-allowed : (l : Str) (t : Text) (o : Outcome) (l' : Str) (t' : Text) → Answered l t o l' (Ok t') → StateAllowed l t
done-allowed l t o l' t' a = state-free l t (by (state_refusal (length l) t.at t.level) a.answer)
  where
    by : (refusal : Option ℕ) → text.done t'.at ≡ answer_by refusal l t.at o → None ≡ refusal
    by (Some k) e = cc
    by None e = refl

pub answered-holds : AnsweredHolds
answered-holds s id asked l t l' t' a = done-gives l t (outcome_of (admitted s) id asked t.level) l' t' a

-- ---- runs of the entry

-- a text is put into a buffer with room for it
done-placed : (l : Str) (t : Text) (w : Str) → t.at + length w ≤ length l → t.level ≤ 8
    → Answered l t (gives w) (text.placed l t.at w) (Ok (with_fill t (t.at + length w)))
unfolding text.answer_of text.buffer_of state_refusal
done-placed l t w h low =
    let room : t.at ≤ length l = omega arith in
    let within = le-ltb (length l) t.at room in
    let fits = le-ltb (length l) (t.at + length w) h in
    record {
      answer = rw (within, le-ltb 8 t.level low, within, fits) refl;
      buffer = rw (within, le-ltb 8 t.level low, within, fits) refl;
      level = refl;
    }

module _ (s : Str) (id place : ℕ) (accessor : Accessor) (w : Str) where
  pub ran_generated : (x : Ran s id place accessor w) → Generated s id place accessor x.state.level w
  ran_generated x =
      answered-holds s id (of_field place accessor) x.buffer x.state x.left x.after x.answered
      ∙ ap gives (sym x.bytes)

  -- a buffer as long as the text
  abbrev room : Str
  room = replicate (length w) 0

  generated-ran : (level : ℕ) → level ≤ 8 → Generated s id place accessor level w → Ran s id place accessor w
  generated-ran level low e =
      let n : length room ≡ length w = length-replicate (length w) 0 in
      record {
        buffer = room;
        state = state_at_level 0 level;
        left = text.placed room 0 w;
        after = state_at_level (0 + length w) level;
        answered = rw e (done-placed room (state_at_level 0 level) w (omega arith) low);
        bytes = sym (placed-between room 0 w (omega arith));
      }

pub ran_holds : RanHolds
ran_holds s id place accessor w = (
  λ x. (
    x.state.level,
    ((done-allowed x.buffer x.state _ x.left x.after x.answered).1, ran_generated s id place accessor w x),
  ),
  generated-ran s id place accessor w,
)
