-- `exports::index::kitlubas_answer_in` meets its contract: the request with the number is asked over the index, and its answer
-- said. Assumes nothing.
use Rattle.row.specs.Line.{text_at}
use Rattle.row.specs.Rows.{rows}
use Rattle.nodes.specs.Index.{sheet_of}
use Rattle.requests.proofs.SheetLaws.{source_of, source-is}
use Rattle.exports.proofs.AskLaws.{asked_in}
use Rattle.exports.proofs.index.kitlubas_answer_in.Goals as goal

pub returns-clause-asked : goal.returns-clause-asked
returns-clause-asked c =
    let a = c.args in λ ns x.
    asked_in a.buf.now _ _ (sheet_of (text_at (rows a.s.now)) ns) a.id _ _ _ _ _ c.request_of-asked.ensures
    c.at_level-start.ensures
    (c.answer_by_index-answer.ensures.indexed (source_of a.s.now a.index.now) (source-is a.s.now a.index.now) ns x)
    _ _ _ _ c.say.ensures
