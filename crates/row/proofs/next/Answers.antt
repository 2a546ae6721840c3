-- `row::next` meets its contract: the line read up to `read_to` says what the row says, and where a good line ends its row
-- ends. Assumes nothing.
use mathlib.Core.Path.{refl, ◌∙◌}
use native.Mathlib.Omega.{arith}
use lib.ListN.{length}
use Rattle.row.specs.Rows.{rest_of}
use Rattle.row.specs.Line.{good_said, line_said, line_at}
use Rattle.row.proofs.Laws.{rows_out, after}
use Rattle.row.proofs.NextLaws.{good-line, good-to}
use Rattle.row.proofs.next.Goals as goal

pub returns-then-s-at : goal.returns-then-s-at
unfolding line_said line_at rest_of
returns-then-s-at c =
    let o = rows_out c.args.s.now c.args.at c.if-s-at.true in
    record { line_value = rw o refl; s_value = rw o }

pub returns-in_default-clause-line_value : goal.returns-in_default-clause-line_value
unfolding line_said
returns-in_default-clause-line_value c = c.in_default.ensures.0

pub returns-in_default-clause-s_value : goal.returns-in_default-clause-s_value
returns-in_default-clause-s_value c =
    let s = c.args.s.now in
    rows_out s (length s) (omega arith) ∙ c.in_default.ensures.1

pub returns-in-Ok-clause-s_value : goal.returns-in-Ok-clause-s_value
unfolding line_said
returns-in-Ok-clause-s_value c =
    let a = c.args in
    let line = c.in-Ok.field-0 in
    let to = rw c.in-Some.is at c.read_to.ensures in
    good-to a.s.now a.at _ to.0 to.1 to.2 (good_said line) c.in-Ok.ensures (good-line line)

pub returns-in-Err-clause-s_value : goal.returns-in-Err-clause-s_value
returns-in-Err-clause-s_value c = after c.args.s.now c.args.at _ c.if-s-at.false c.row_end.ensures
