-- `text::Text::broken_lines` meets its contract. The loop's invariant: what is left of the part, put now, makes what the whole
-- makes from the start, and the level is the one of the start. Assumes nothing.
use mathlib.Core.Path.{refl, ◌∙◌}
use lib.ListN.{drop_of_length-le}
use Rattle.text.proofs.Laws.{left-all, left-lines, left-none, level, at-once}
use Rattle.text.proofs.LinesLaws.{broken-step}
use Rattle.text.specs.Lines.{broken}
use Rattle.text.proofs.Text.broken_lines.Goals as goal

pub loop-i-init : goal.loop-i-init
loop-i-init c = (refl, left-all)

pub loop-i-preserved : goal.loop-i-preserved
loop-i-preserved c =
    let i = c.loop-i.invariant in (
      level c.byte_then_margin-t.ensures.lines ∙ i.0,
      left-lines i.0 (rw (broken-step c.args.s.now c.args.self.level c.loop-i.i c.loop-i-test.true) at i.1)
          c.byte_then_margin-t.ensures,
    )

pub returns : goal.returns
unfolding broken
returns c = at-once (left-none (rw (drop_of_length-le c.args.s.now c.loop-i-test.false) at c.loop-i.invariant.1))
