-- `programs::each_sheet` meets its contract: a call that answers `Ok` is the first of those that are owed, one that answers an
-- error the last. Assumes nothing.
use Rattle.std.proofs.Common.{refl, rules, arith}
use Rattle.std.specs.Fn.{TakesAt, CalledAt}
use Rattle.std.proofs.lemmas.Fn.{called_at}
use Rattle.std.proofs.lemmas.Result.{err_from_is_err_and}
use Rattle.programs.proofs.HandingLaws.{handing-all, handed-all, may-hand, handed-on, handed-err}
use Rattle.programs.proofs.each_sheet.Goals as goal

pub loop-at-init : goal.loop-at-init
loop-at-init g c = handing-all (TakesAt g.F.FnMut) (CalledAt g.F.FnMut) c.args.f c.args.input.now c.requires

pub f-requires : goal.f-requires
f-requires g c =
    let l = c.loop-at in
    may-hand (TakesAt g.F.FnMut) (CalledAt g.F.FnMut) c.args.f c.args.input.now l.f l.at c.next_sheet-start.result (omega arith)
    c.next_sheet-start.ensures.sheet l.invariant _ refl

pub loop-at-preserved : goal.loop-at-preserved
loop-at-preserved g c =
    let l = c.loop-at in
    handed-on (TakesAt g.F.FnMut) (CalledAt g.F.FnMut) c.args.f c.args.input.now l.f l.at c.next_sheet-start.result (omega arith)
    c.next_sheet-start.ensures.sheet c.f.new.self (omega arith) (called_at g.F.FnMut c.f.ensures (search rules)) l.invariant

pub returns-in_err-f : goal.returns-in_err-f
returns-in_err-f g c =
    let l = c.loop-at in
    let p = err_from_is_err_and c.from_residual.result c.from_residual.ensures.1 in
    rw (p.1, p.2)
    (handed-err (TakesAt g.F.FnMut) (CalledAt g.F.FnMut) c.args.f c.args.input.now l.f l.at c.next_sheet-start.result
    (omega arith) c.next_sheet-start.ensures.sheet c.f.new.self _ (called_at g.F.FnMut c.f.ensures (search rules)) l.invariant)

pub returns : goal.returns
returns g c =
    let l = c.loop-at in
    handed-all (TakesAt g.F.FnMut) (CalledAt g.F.FnMut) c.args.f c.args.input.now l.f l.at (omega arith) l.invariant
