-- `text::Text::line` meets its contract: its four texts, one after the other. Assumes nothing.
use Rattle.text.proofs.Laws.{◌⋄◌, flat, reworded}
use Rattle.text.proofs.LinesLaws.{line-parts}
use Rattle.text.proofs.Text.line.Goals as goal

pub returns : goal.returns
returns c =
    reworded (λ n. line-parts c.args.s.now c.args.indent n)
    (c.margin-t.ensures ⋄ flat c.indent-t.ensures ⋄ flat c.bytes-t.ensures ⋄ flat c.byte.ensures)
