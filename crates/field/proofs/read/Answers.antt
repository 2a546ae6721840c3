-- `field::read` meets its contract: each letter of the first row is one law. Assumes nothing.
use mathlib.Core.Path.{ap, ◌∙◌}
use native.Mathlib.Omega.{arith}
use Rattle.std.specs.Prelude.{Ok}
use Rattle.field.proofs.FieldLaws.{first_slot, fewer-slot, first_group, fewer-group, first-none, first-bad}
use Rattle.field.proofs.read.Goals as goal

pub returns-in-Ok-Field : goal.returns-in-Ok-Field
returns-in-Ok-Field c =
    let a = c.args in
    let g = c.next-got.ensures in
    let w = c.in-Ok-Field in
    let here = rw (w.is ∙ ap Ok (rw w.is at w.field-0-is)) at g.line_value in
    let slot = c.slot_from in
    record {
      first = first_slot a.s.now a.at c.next-got.result.next g.s_value _ _ _ _ here slot.result (slot.ensures.is g.s_value);
      fewer = fewer-slot a.s.now a.at c.next-got.result.next g.s_value _ _ _ _ here slot.result slot.ensures.fewer;
    }

pub returns-in-Ok-Group : goal.returns-in-Ok-Group
returns-in-Ok-Group c =
    let a = c.args in
    let g = c.next-got.ensures in
    let w = c.in-Ok-Group in
    let here = rw (w.is ∙ ap Ok (rw w.is at w.field-0-is)) at g.line_value in
    record {
      first = first_group a.s.now a.at c.next-got.result.next g.s_value _ _ here;
      fewer = fewer-group a.s.now a.at c.next-got.result.next g.s_value _ _ here;
    }

pub returns-in_default-clause-first : goal.returns-in_default-clause-first
returns-in_default-clause-first c =
    first-none c.args.s.now c.args.at c.in_default.field-0 (rw c.in_default.is at c.next-got.ensures.line_value)
    (λ e. grind arith) (λ e. grind arith)

pub returns-in_default-2-clause-first : goal.returns-in_default-2-clause-first
returns-in_default-2-clause-first c =
    first-bad c.args.s.now c.args.at c.in_default.field-0 (rw c.in_default.is at c.next-got.ensures.line_value)
