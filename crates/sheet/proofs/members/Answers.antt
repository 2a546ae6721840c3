-- `sheet::members` meets its contract: P rows and fields by their own contracts, and the entry that is put is read back.
-- Assumes nothing.
use Rattle.std.proofs.lemmas.Result.{err_from_is_err_and}
use Rattle.sheet.proofs.NodeLaws.{params-refused, fields-refused, members-whole}
use Rattle.sheet.proofs.members.Goals as goal

pub returns-in_err-listed : goal.returns-in_err-listed
returns-in_err-listed c =
    let p = err_from_is_err_and c.from_residual.result c.from_residual.ensures.1 in
    rw (p.1, p.2) (params-refused c.args.s.now c.args.node _ c.in_err-listed.field-0.0 c.in_err-listed.ensures)

pub returns-in_err-next : goal.returns-in_err-next
returns-in_err-next c =
    let r = c.from_residual-in_err-next in
    let p = err_from_is_err_and r.result r.ensures.1 in
    rw (p.1, p.2)
    (fields-refused c.args.s.now _ _ _ _ c.args.node _ c.requires.1 c.in_ok-listed.ensures c.in_err-next.field-0.0
    c.in_err-next.ensures)

pub returns : goal.returns
returns c =
    members-whole _ _ _ _ _ _ _ c.requires.1 c.in_ok-listed.ensures c.requires.0.few c.requires.0.first _ c.put.ensures
    _ _ c.in_ok-next.ensures
