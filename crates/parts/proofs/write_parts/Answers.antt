-- `parts::write_parts` meets its contract. At each turn the bytes so far are the parts before the one that is next. Assumes
-- nothing.
use lib.ListN.{drop_of_length-le}
use Rattle.std.proofs.lemmas.List.{drop_more}
use Rattle.parts.specs.declared.Part.TheVariants.{GetterReader}
use Rattle.parts.proofs.PartLaws.{parts_more, parts_last}
use Rattle.parts.proofs.write_parts.Goals as goal

pub returns-clause-said : goal.returns-clause-said
returns-clause-said c =
    let l = c.loop-part in
    parts_last _ _ _ _ _ _ l.out l.n (rw (drop_of_length-le c.args.parts.now c.loop-part-test.false) at l.invariant)

pub loop-part-preserved : goal.loop-part-preserved
loop-part-preserved c =
    let l = c.loop-part in
    let put = rw c.in_ok-n.was at c.write_part.ensures in
    parts_more _ _ _ _ _ _ l.out l.n _ _
    (rw (drop_more c.args.parts.now l.part-index GetterReader c.loop-part-test.true) at l.invariant)
    c.write_part.new.out _ c.write_part.auto.out put.within put.fits put.said
