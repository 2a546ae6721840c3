-- `parts::write_part` meets its contract: the header's bytes, and behind them those of what stands under it. Assumes nothing.
use mathlib.Core.Path.{◌∙◌}
use Prim.Native.Nat.{◌^◌, ◌<◌}
use native.Mathlib.Omega.{arith}
use borrow.Author.Rules.{rules}
use lib.ListN.{length}
use Rattle.text.proofs.Laws.{kept}
use Rattle.nodes.specs.Index.{sheet_of}
use Rattle.parts.proofs.FitLaws.{header-few, start-at, text-end, text-whole, lent, lent_length}
use Rattle.parts.proofs.PartLaws.{part-whole}
use Rattle.parts.proofs.write_part.Goals as goal
use Rattle.parts.proofs.write_part.Goals.{Start}

room : (c : Start) → length c.args.out.now < 2 ^ 63
room c = search rules

pub returns-then-out-n-clause-fits : goal.returns-then-out-n-clause-fits
returns-then-out-n-clause-fits c =
    let written = c.header-t.ensures in
    let long = c.fill-n.ensures ∙ text-end (start-at c.at.ensures) written in
    omega (arith, c.if-out-n.true, long, header-few c.args.job.part c.args.name.now, kept written)

pub returns-in_err-m-clause-fits : goal.returns-in_err-m-clause-fits
returns-in_err-m-clause-fits c =
    let written = c.header-t.ensures in
    let long = c.fill-n.ensures ∙ text-end (start-at c.at.ensures) written in
    let few = header-few c.args.job.part c.args.name.now in
    let under : length (lent c.header-t.new.buf c.fill-n.result) < 65536 = rw c.in_err-m.was at c.under_header.ensures.fits in
    rw c.from_residual.ensures
    (omega (arith, under, lent_length c.header-t.new.buf c.fill-n.result, c.if-out-n.false, long, few, kept written))

pub returns-clause-fits : goal.returns-clause-fits
returns-clause-fits c =
    let written = c.header-t.ensures in
    let long = c.fill-n.ensures ∙ text-end (start-at c.at.ensures) written in
    let under = rw c.in_ok-m.was at c.under_header.ensures.fits in
    omega (arith, under, long, header-few c.args.job.part c.args.name.now)

pub returns-clause-said : goal.returns-clause-said
returns-clause-said c =
    let written = c.header-t.ensures in
    let under = rw c.in_ok-m.was at c.under_header.ensures in
    let end = c.fill-n.ensures in
    let there = rw (← end) at
    (text-whole c.at.ensures written (room (goal.at.returns-clause-said c).Start)
    (omega (arith, end, c.if-out-n.false, kept written))) in
    λ ns x at named.
    part-whole (sheet_of c.args.source.now.root.now ns) at c.args.job.part c.args.name.now c.header-t.new.buf
    c.under_header.new.buf c.fill-n.result _ named.name-is c.if-out-n.false under.within there
    (under.said ns x at named.tag-is named.field_is)
