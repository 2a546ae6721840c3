-- `sheet::field` meets its contract: each return is one law of FieldsLaws for the row's line. Assumes nothing.
use mathlib.Core.Path.{◌≡◌, sym, ◌∙◌, ap}
use Prim.Native.Nat.{◌≤◌}
use native.Mathlib.Omega.{arith}
use denote.Enum.Declared.{tag_of}
use Rattle.std.specs.Prelude.{Ok}
use Rattle.std.proofs.lemmas.Result.{err_from_is_err_and}
use Rattle.row.specs.contracts.Line.{the_type}
use Rattle.row.specs.declared.Line.{Line}
use Rattle.tree.proofs.ElseLaws.{OtherThan, other-than}
use Rattle.sheet.proofs.FieldsLaws.{group-less, group-fits, groups-slot, groups-slot-no, slot-less}
use Rattle.sheet.proofs.FieldsLaws.{slot-room, groups-double, groups-group, field-refused, group-refused, fields-end}
use Rattle.sheet.proofs.field.Goals as goal
use Rattle.sheet.proofs.field.Goals.{After-end_at}

-- the row that is no field is neither an F nor a G row
other : (c : After-end_at) (f : Line) → c.next-row.result.line ≡ Ok f → 3 ≤ tag_of the_type f → tag_of the_type f ≤ 4 → ⊥
other c f e h g = grind arith

no-field : (c : After-end_at) → OtherThan 3 c.next-row.result.line
no-field c = other-than 3 c.next-row.result.line (λ f e h. other c f e (omega arith) (omega arith))

no-group : (c : After-end_at) → OtherThan 4 c.next-row.result.line
no-group c = other-than 4 c.next-row.result.line (λ f e h. other c f e (omega arith) (omega arith))

pub returns-in_err-next-in-Ok-Field : goal.returns-in_err-next-in-Ok-Field
returns-in_err-next-in-Ok-Field c =
    let g = c.next-row.ensures in
    let w = c.in-Ok-Field in
    let f = rw w.is at w.field-0-is in
    let p = err_from_is_err_and c.from_residual.result c.from_residual.ensures.1 in
    rw (p.1, p.2)
    (groups-slot-no _ _ _ g.line_value g.s_value _ _ _ _ (w.is ∙ ap Ok f) _ c.args.s.now _
    (rw c.in_err-next-in-Ok-Field.was at (c.slot.ensures w.field-0-0 w.field-0-3)))

pub returns-then-has : goal.returns-then-has
returns-then-has c =
    let g = c.next-row.ensures in
    let w = c.in-Ok-Group in
    let f = rw w.is at w.field-0-is in
    groups-double _ _ _ g.line_value g.s_value _ _ (w.is ∙ ap Ok f) _ _ c.has.ensures c.if-has.true

pub put-requires : goal.put-requires
put-requires c =
    let g = c.next-row.ensures in
    let w = c.in-Ok-Group in
    let f = rw w.is at w.field-0-is in
    omega (arith, c.requires, group-fits _ _ _ g.line_value g.s_value _ _ (w.is ∙ ap Ok f))

pub returns-in_err-end-in_default : goal.returns-in_err-end-in_default
returns-in_err-end-in_default c =
    let r = c.from_residual-in_err-end-in_default in
    let p = err_from_is_err_and r.result r.ensures.1 in
    let k = (goal.at.returns-in_err-end-in_default c).After-end_at in
    rw (p.1, p.2)
    (field-refused c.args.s.now c.args.at _ c.next-row.ensures.line_value _ (no-field k) (no-group k) _
    (sym c.end_at.ensures ∙ c.in_err-end-in_default.was))

pub returns-in_err-end_at-in_default : goal.returns-in_err-end_at-in_default
returns-in_err-end_at-in_default c =
    let r = c.from_residual-in_err-end_at-in_default in
    let p = err_from_is_err_and r.result r.ensures.1 in
    let k = (goal.at.returns-in_err-end_at-in_default c).After-end_at in
    rw (p.1, p.2)
    (group-refused c.args.s.now c.args.at _ c.next-row.ensures.line_value _ (no-field k) (no-group k) _
    (sym c.end_at.ensures ∙ c.in_ok-end-in_default.was) _
    (sym c.end_at-in_default.ensures ∙ c.in_err-end_at-in_default.was))

pub returns-in_ok-next-in-Ok-Field : goal.returns-in_ok-next-in-Ok-Field
returns-in_ok-next-in-Ok-Field c =
    let g = c.next-row.ensures in
    let w = c.in-Ok-Field in
    let f = rw w.is at w.field-0-is in
    let is = w.is ∙ ap Ok f in
    let past = rw c.in_ok-next-in-Ok-Field.was at (c.slot.ensures w.field-0-0 w.field-0-3) in (
      groups-slot _ _ _ g.line_value g.s_value _ _ _ _ is _ _ past,
      omega (arith, c.requires, slot-room _ _ _ g.line_value g.s_value _ _ _ _ is _ past),
      slot-less _ _ _ g.line_value g.s_value _ _ _ _ is _ past,
    )

pub returns-else-has : goal.returns-else-has
returns-else-has c =
    let g = c.next-row.ensures in
    let w = c.in-Ok-Group in
    let f = rw w.is at w.field-0-is in
    let is = w.is ∙ ap Ok f in
    rw c.put.ensures (
      groups-group _ _ _ g.line_value g.s_value _ _ is _ _ c.has.ensures c.if-has.false,
      omega (arith, c.requires, group-fits _ _ _ g.line_value g.s_value _ _ is),
      group-less _ _ _ g.line_value g.s_value _ _ is,
    )

pub returns-in_ok-end_at-in_default : goal.returns-in_ok-end_at-in_default
returns-in_ok-end_at-in_default c =
    let k = (goal.at.returns-in_ok-end_at-in_default c).After-end_at in (
      fields-end c.args.s.now c.args.at _ c.next-row.ensures.line_value _ (no-field k) (no-group k) _
          (sym c.end_at.ensures ∙ c.in_ok-end-in_default.was) _
          (sym c.end_at-in_default.ensures ∙ c.in_ok-end_at-in_default.was),
      c.requires,
    )
