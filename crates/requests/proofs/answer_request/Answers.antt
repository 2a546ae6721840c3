-- `requests::answer_request` meets its contract: a state that is refused comes first; short and long sheets have room for their
-- index. Assumes nothing.
use native.Mathlib.Omega.{arith}
use Rattle.requests.proofs.AnswerLaws.{state-refused, state-free}
use Rattle.requests.proofs.answer_request.Goals as goal

pub returns-in-Err : goal.returns-in-Err
returns-in-Err c =
    rw c.unplaced.ensures (state-refused c.args.buf.now c.args.t _ _ (rw c.in-Err.is at c.state_allowed.ensures))

pub answer_over-requires : goal.answer_over-requires
answer_over-requires c = (
  omega (arith, c.if-s-le-SHORT_SHEET.true),
  omega arith,
  state-free c.args.buf.now c.args.t (rw c.in_default.is at c.state_allowed.ensures),
)

pub answer_over-requires-2 : goal.answer_over-requires-2
answer_over-requires-2 c =
    (omega arith, omega arith, state-free c.args.buf.now c.args.t (rw c.in_default.is at c.state_allowed.ensures))
