-- `types::as_type` meets its contract: a T line's kind and numbers, and a Void's for any other line. Assumes nothing.
use mathlib.Core.Path.{sym, ap, ◌∙◌}
use native.Mathlib.Omega.{arith}
use Rattle.std.specs.Prelude.{Ok}
use Rattle.row.specs.Line.{line_said}
use Rattle.terms.proofs.KindLaws.{kind-back}
use Rattle.types.proofs.TypeLaws.{row_other, row-bad}
use Rattle.types.proofs.as_type.Goals as goal

pub returns-in_default : goal.returns-in_default
returns-in_default c = rw c.in_default.is (sym (row_other c.in_default.field-0 c.args.next (λ e. grind arith)))

pub returns-in_default-2 : goal.returns-in_default-2
returns-in_default-2 c = rw c.in_default.is (sym (row-bad c.in_default.field-0 c.args.next))

pub returns : goal.returns
unfolding line_said
returns c =
    let w = c.in-Ok-Typ in
    rw (w.is ∙ ap Ok (rw w.is at w.field-0-is), kind-back _)
