-- `pointer_constants::words` meets its contract. The loop's invariant: what is left makes what the whole makes, at the
-- level of the start. Assumes nothing.
use mathlib.Core.Path.{ap, ◌∙◌}
use native.Mathlib.Omega.{arith}
use lib.ListN.{drop}
use Rattle.std.specs.Prelude.{Ok}
use Rattle.text.proofs.Laws.{left-lines, left-none, level, at-once}
use Rattle.row.specs.Rows.{rows}
use Rattle.pointer_constants.proofs.Laws.{words_more, words-stop, words-none, text-more, text-none}
use Rattle.pointer_constants.proofs.words.Goals as goal

pub returns-in_default : goal.returns-in_default
returns-in_default c =
    let row = c.next-row.ensures in
    at-once (left-none (rw (text-none _ _ _ (words-stop _ _ _ row.line_value row.s_value _ _ c.loop-test.true
    (rw c.in_default.is (λ e. grind arith)))) at c.loop.invariant.1))

pub returns-in_default-2 : goal.returns-in_default-2
returns-in_default-2 c =
    let row = c.next-row.ensures in
    at-once (left-none (rw (text-none _ _ _ (words-stop _ _ _ row.line_value row.s_value _ _ c.loop-test.true
    (rw c.in_default.is tt))) at c.loop.invariant.1))

pub loop-preserved : goal.loop-preserved
loop-preserved c =
    let row = c.next-row.ensures in
    let w = c.in-Ok-Word in
    let l = rw w.is at w.field-0-is in
    let i = c.loop.invariant in (
      level c.word-t.ensures.lines ∙ i.0,
      left-lines i.0 (rw (text-more _ _ _ _ _ (words_more _ _ _ row.line_value row.s_value _ _ w.value c.loop-test.true
          (w.is ∙ ap Ok l))) at i.1) c.word-t.ensures,
    )

pub returns : goal.returns
returns c =
    at-once (left-none (rw (text-none _ _ _ (words-none _ _ (rows (drop c.loop.at c.args.s.now)) c.loop-test.false))
    at c.loop.invariant.1))
