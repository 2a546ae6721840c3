-- Laws of the answer: what is measured, and each way in which a request ends. Assumes nothing.
use mathlib.Core.Path.{◌≡◌, refl, ap, ◌∙◌}
use Rattle.std.specs.Prelude.{Option, None, Some, Result, Ok, Err}
use Prim.Native.Nat.{ℕ, ◌+◌, ◌-◌, ◌^◌, ◌≤◌, ◌<◌, min}
use native.Mathlib.Omega.{arith}
use borrow.Author.Tests.{le-ltb, ltb-false}
use mathlib.Core.Bool.{Bool, true, false}
use lib.Dec.{ltb}
use lib.ListN.{length}
use Rattle.text.specs.Bytes.{Str, cond}
use Rattle.text.specs.Text.{put, adv, with_fill, Wrote}
use Rattle.text.specs.declared.Text.{Text}
use Rattle.text.proofs.AnswerLaws as text-laws
use Rattle.text.proofs.Laws.{level}
use Rattle.text.proofs.Places.{adv-at}
use Rattle.terms.specs.Refusals.{number}
use Rattle.terms.specs.declared.refusals.Refusal.{Refusal}
use Rattle.terms.specs.declared.refusals.Refusal.TheVariants.{NoRoom}
use Rattle.tree.proofs.OtherLines.{never}
use Rattle.codegen_types.specs.Out.{Out, ok, refused}
use Rattle.codegen_types.specs.Written.{Writes}
use Rattle.codegen_types.proofs.WrittenLaws.{refusal-is}
use Rattle.sheet.specs.declared.Refused.{Refused}
use Rattle.requests.specs.Requests.{Outcome, gives, refuses, outcome, state_refusal}
use Rattle.requests.specs.Told.{Answered, StateAllowed, unplaced, length_of, length_said}
use Rattle.requests.proofs.LentLaws.{text-end, lent, back, lent-wrote}

-- ---- what is measured: the length of a text that is written from the start on, or its refusal

pub measured-text : {l : Str} {t : Text} {l' : Str} {u : Text} (o : Out Str) → t.at ≡ 0 → Writes o l t l' (Ok u) → (n : ℕ)
    → n ≡ u.at → length_said (Ok n) ≡ length_of o
measured-text (ok w) z h n e = ap Ok (e ∙ text-end z (h.text w _ refl refl))
measured-text (refused k) z h n e = let f = h.refusal in never cc

pub measured-refusal : {l : Str} {t : Text} {l' : Str} {e : Refusal} (o : Out Str) → Writes o l t l' (Err e)
    → length_said (Err e) ≡ length_of o
measured-refusal o h = rw (refusal-is o h) refl

-- ---- the state

-- a state that is refused, whatever is asked
pub state-refused : (l : Str) (t : Text) (o : Outcome) (e : Refusal) → Some (number e) ≡ state_refusal (length l) t.at t.level
    → Answered l t o l (Err (unplaced e))
state-refused l t o e h = record { answer = rw (← h) refl; buffer = rw (← h) refl; level = tt }

-- one that is not
pub state-free : (l : Str) (t : Text) → None ≡ state_refusal (length l) t.at t.level → StateAllowed l t
unfolding state_refusal
state-free l t h = go (ltb (length l) t.at) (ltb 8 t.level) refl refl h
  where
    go : (a b : Bool) → ltb (length l) t.at ≡ a → ltb 8 t.level ≡ b
        → ◌≡◌ {A = Option ℕ} None (cond a (Some 21) (cond b (Some 36) None)) → StateAllowed l t
    go true b e f h = never cc
    go false true e f h = never cc
    go false false e f h = (ltb-false _ _ e, ltb-false _ _ f)

module _ (l : Str) (t : Text) (allowed : StateAllowed l t) where
  free : state_refusal (length l) t.at t.level ≡ None
  unfolding state_refusal
  free = rw (le-ltb _ _ allowed.0, le-ltb _ _ allowed.1) refl

  -- a refusal of the sheet's, or of the request's own
  pub own-refusal : (e : Refused) → Answered l t (refuses (number e.refusal) e.line e.column) l (Err e)
  own-refusal e = record { answer = rw free refl; buffer = rw free refl; level = tt }

  pub own-refused : (o : Out Str) (e : Refusal) → length_said (Err e) ≡ length_of o
      → Answered l t (outcome o) l (Err (unplaced e))
  own-refused (ok w) e h = never cc
  own-refused (refused k) e h = let z : number e ≡ k = cc in rw (← z) (own-refusal (unplaced e))

  -- a request whose text is w, which does not fit, or fits
  module _ (w : Str) (b : length l < 2 ^ 64 - 1) where
    end : (adv t w).at ≡ min (t.at + length w) (2 ^ 64 - 1)
    end = let h = allowed.0 in ap (λ (u : Text). u.at) (adv-at t w (omega arith))

    too_long : length l < t.at + length w → Answered l t (gives w) l (Err (unplaced NoRoom))
    too_long h =
        let m : Wrote l t w (put l t w) (adv t w) = record { bytes = refl; state = refl } in
        let a = text-laws.refused_22 l t w l (put l t w) (adv t w) allowed.0 (omega arith) m (omega (arith, end)) in
        record { answer = rw free a.answer; buffer = rw free a.buffer; level = tt }

    fits : (l₂ : Str) (t₂ : Text) → t.at + length w ≤ length l → Wrote l t w l₂ t₂ → Answered l t (gives w) l₂ (Ok t₂)
    fits l₂ t₂ h written =
        let a = text-laws.done-placed l t w l l₂ t₂ l₂ t₂ allowed.0 b written (omega (arith, count)) written in
        record { answer = rw free a.answer; buffer = rw free a.buffer; level = level written }
      where
        count : t₂.at ≡ min (t.at + length w) (2 ^ 64 - 1)
        count = ap (λ (u : Text). u.at) written.state ∙ end

  -- a request that comes to o, which was measured: a text that is too long, or a text that fits
  module _ (n : ℕ) (b : length l < 2 ^ 64 - 1) where
    pub own-long : (o : Out Str) → length_said (Ok n) ≡ length_of o → length l - t.at < n
        → Answered l t (outcome o) l (Err (unplaced NoRoom))
    own-long (ok w) m h =
        let z : n ≡ min (length w) (2 ^ 64 - 1) = cc in let g = allowed.0 in too_long w b (omega arith)
    own-long (refused k) m h = never cc

    -- the text is written from the start of the free part on
    pub own-text : (o : Out Str) → length_said (Ok n) ≡ length_of o → n ≤ length l - t.at
        → (fill : ℕ) → fill ≡ t.at → (l₂ : Str) (q : Result Text Refusal) → Writes o (lent l fill) (with_fill t 0) l₂ q
        → Answered l t (outcome o) (back l fill l₂) (Ok (with_fill t (fill + n)))
    own-text (refused k) m h fill f l₂ q v = never cc
    own-text (ok w) m h fill f l₂ (Ok x) v =
        let k : n ≡ min (length w) (2 ^ 64 - 1) = cc in
        let g = allowed.0 in
        let k₂ : n ≡ length w = omega arith in
        let s : t.at + length w ≤ length l = omega (arith, k₂) in
        let v' = rw f at v in
        rw (f, k₂) (fits w b _ _ s (lent-wrote l t w s b (v'.text w x refl refl)))
    own-text (ok w) m h fill f l₂ (Err e) v = let g = v.refusal in never cc
