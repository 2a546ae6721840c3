-- `requests::text` meets its contract: the level's refusal, no node, field or text, a refusal, or a text. Assumes nothing.
use mathlib.Core.Path.{refl, sym, ◌∙◌}
use Prim.Native.Nat.{◌-◌, ◌^◌, ◌<◌}
use lib.ListN.{length}
use borrow.Author.Rules.{rules}
use Rattle.std.proofs.lemmas.Result.{err_from_is_err_and}
use Rattle.requests.proofs.PassLaws.{nobody, no_field, no_accessor, field-passed, pass-text, pass-refusal, pass-level}
use Rattle.requests.proofs.PassLaws.{pass-allowed}
use Rattle.requests.proofs.text.Goals as goal
use Rattle.requests.proofs.text.Goals.{Start}

room : (c : Start) → length c.args.buf.now < 2 ^ 64 - 1
room c = search rules

pub returns-in_err-state_allowed : goal.returns-in_err-state_allowed
returns-in_err-state_allowed c = record {
  passed = λ nodes x o is.
      let p = err_from_is_err_and c.from_residual.result c.from_residual.ensures.1 in
      rw (p.1, p.2)
      (pass-level (length c.args.buf.now) c.args.level _ _ _ _ (rw c.at_level-start.ensures at c.in_err-state_allowed.ensures));
}

pub returns-in_default : goal.returns-in_default
returns-in_default c = record {
  passed = λ nodes x o is.
      pass-allowed (length c.args.buf.now) c.args.level _ _ _ _ (rw c.at_level-start.ensures at c.in_ok-state_allowed.ensures)
      (no_accessor c.args.source.now.bytes.now nodes c.args.source.now.index.now x c.args.node o _ _ _
      (λ at. rw c.in_default.is-2 refl));
}

pub returns-in_default-2 : goal.returns-in_default-2
returns-in_default-2 c = record {
  passed = λ nodes x o is.
      pass-allowed (length c.args.buf.now) c.args.level _ _ _ _ (rw c.at_level-start.ensures at c.in_ok-state_allowed.ensures)
      (no_field c.args.source.now.bytes.now nodes c.args.source.now.index.now x c.args.node o _ _ _ (rw c.in_default.is-1 at is));
}

pub returns-in_default-3 : goal.returns-in_default-3
returns-in_default-3 c = record {
  passed = λ nodes x o is.
      pass-allowed (length c.args.buf.now) c.args.level _ _ _ _ (rw c.at_level-start.ensures at c.in_ok-state_allowed.ensures)
      (nobody c.args.source.now.bytes.now nodes c.args.source.now.index.now x c.args.node o _ _ _
      (sym c.in_default.is-0 ∙ c.nth.ensures));
}

pub returns-in_err-written : goal.returns-in_err-written
returns-in_err-written c = record {
  passed = λ nodes x o is.
      let p = err_from_is_err_and c.from_residual-in_err-written.result c.from_residual-in_err-written.ensures.1 in
      pass-allowed (length c.args.buf.now) c.args.level _ _ _ _ (rw c.at_level-start.ensures at c.in_ok-state_allowed.ensures)
      (field-passed c.args.source.now.bytes.now nodes c.args.source.now.index.now x c.args.node o _ _ _ _ _
      (sym c.in-Some-Some-Some.is-0 ∙ c.nth.ensures) (rw c.in-Some-Some-Some.is-1 at is) _
      (λ at e h. rw (c.in-Some-Some-Some.is-2, p.1, p.2)
      (pass-refusal _ _ _ _
      (rw c.at_level-start.ensures at (rw c.in_err-written.was at (c.write_accessor.ensures.text nodes x at e h))))));
}

pub returns : goal.returns
returns c = record {
  passed = λ nodes x o is.
      pass-allowed (length c.args.buf.now) c.args.level _ _ _ _ (rw c.at_level-start.ensures at c.in_ok-state_allowed.ensures)
      (field-passed c.args.source.now.bytes.now nodes c.args.source.now.index.now x c.args.node o _ _ _ _ _
      (sym c.in-Some-Some-Some.is-0 ∙ c.nth.ensures) (rw c.in-Some-Some-Some.is-1 at is) _
      (λ at e h. rw c.in-Some-Some-Some.is-2
      (pass-text _ _ _ refl _
      (rw c.at_level-start.ensures at (rw c.in_ok-written.was at (c.write_accessor.ensures.text nodes x at e h))) _ c.fill.ensures
      (room (goal.at.returns c).Start))));
}
