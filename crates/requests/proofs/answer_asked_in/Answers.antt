-- `requests::answer_asked_in` meets its contract in each way in which it ends. Assumes nothing.
use Rattle.std.proofs.lemmas.Result.{err_from_is_err_and}
use Rattle.requests.proofs.AnswerLaws.{state-refused, state-free}
use Rattle.requests.proofs.answer_asked_in.Goals as goal

pub returns-in_err-state_allowed-clause-indexed : goal.returns-in_err-state_allowed-clause-indexed
returns-in_err-state_allowed-clause-indexed c = λ nodes x.
    let p = err_from_is_err_and c.from_residual.result c.from_residual.ensures.1 in
    rw (p.1, p.2) (state-refused c.args.buf.now c.args.t _ _ c.in_err-state_allowed.ensures)

pub answer_field_in-requires : goal.answer_field_in-requires
answer_field_in-requires c = state-free c.args.buf.now c.args.t c.in_ok-state_allowed.ensures
