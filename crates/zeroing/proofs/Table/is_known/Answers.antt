-- `zeroing::Table::is_known` meets its contract: the fields are read again, or the line's place tells. Assumes nothing.
use lib.ListN.{take}
use native.Mathlib.Omega.{arith}
use Rattle.std.proofs.lemmas.List.{length-map, map-set}
use Rattle.zeroing.specs.Types.{type_number}
use Rattle.zeroing.proofs.TypeLaws.{place-held, place-free}
use Rattle.zeroing.proofs.TableLaws.{knows_again, knows-new}
use Rattle.zeroing.proofs.Table.is_known.Goals as goal

pub returns-then-ne : goal.returns-then-ne
returns-then-ne c =
    λ fs h k. let fits = c.in-Ok.ensures in
    let place = rw fits.1 at c.in-Some.ensures in
    knows_again (take c.args.fields.now.count fs) k _ _ place.0 place.1
    (place-held c.args.self.now.types c.in-Some.i _ (omega arith) _ c.ne.ensures c.if-ne.true)

pub returns : goal.returns
returns c =
    λ fs h k. let fits = c.in-Ok.ensures in
    let place = rw fits.1 at c.in-Some.ensures in
    let types = c.args.self.now.types in
    rw (fits.1, map-set type_number types c.in-Some.i c.args.line.typ)
    (knows-new (take c.args.fields.now.count fs) k _ _ place.0 place.1 c.requires (omega arith) (omega arith)
    (rw (length-map types type_number) (omega arith)) (place-free types c.in-Some.i _ (omega arith) _ c.ne.ensures c.if-ne.false))
