-- `requests::answer_asked` meets its contract in each way in which it ends. Assumes nothing.
use Rattle.std.proofs.lemmas.Result.{err_from_is_err_and}
use Rattle.terms.specs.declared.refusals.Refusal.TheVariants.{NotThere}
use Rattle.requests.specs.Told.{unplaced}
use Rattle.requests.proofs.AnswerLaws.{state-refused, state-free, own-refusal}
use Rattle.requests.proofs.answer_asked.Goals as goal

pub returns-in_err-state_allowed-clause-indexed : goal.returns-in_err-state_allowed-clause-indexed
returns-in_err-state_allowed-clause-indexed c = λ x is nodes d.
    let p = err_from_is_err_and c.from_residual.result c.from_residual.ensures.1 in
    rw (p.1, p.2) (state-refused c.args.buf.now c.args.t _ _ c.in_err-state_allowed.ensures)

pub answer_field-requires : goal.answer_field-requires
answer_field-requires c = state-free c.args.buf.now c.args.t c.in_ok-state_allowed.ensures

pub returns-in-None-clause-indexed : goal.returns-in-None-clause-indexed
returns-in-None-clause-indexed c = λ x is nodes d.
    rw c.in-None.is
    (own-refusal c.args.buf.now c.args.t (state-free c.args.buf.now c.args.t c.in_ok-state_allowed.ensures) (unplaced NotThere))
