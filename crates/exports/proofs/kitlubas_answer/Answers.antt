-- `exports::kitlubas_answer` meets its contract: the request with the number is asked, and its answer said. Assumes nothing.
use Rattle.exports.proofs.AskLaws.{asked}
use Rattle.exports.proofs.kitlubas_answer.Goals as goal

pub returns : goal.returns
returns c =
    rw (← c.request_of-asked.ensures)
    (asked c.args.buf.now _ _ _ _ _ (rw c.at_level-start.ensures at c.answer_request-answer.ensures) _ _ _ _ c.say.ensures)
