-- `requests::measure` meets its contract: a text's end is its length. Assumes nothing.
use mathlib.Core.Path.{refl}
use Rattle.nodes.specs.Index.{sheet_of}
use Rattle.requests.specs.Requests.{accessor_text}
use Rattle.requests.proofs.AnswerLaws.{measured-text}
use Rattle.requests.proofs.measure.Goals as goal

pub returns : goal.returns
returns c = λ nodes x at e h.
    let start = c.at_level-start.ensures in
    measured-text (accessor_text (sheet_of c.args.source.now.root.now nodes) at c.args.accessor c.args.level) refl
    (rw start at (rw c.in_ok-measured.was at (c.field_accessor.ensures.text nodes x at e h))) _ c.fill.ensures
