-- `sheet::all_nodes` meets its contract: what is left of a sheet is no longer than the sheet. Assumes nothing.
use native.Mathlib.Omega.{arith}
use Rattle.sheet.proofs.RoomLaws.{rest-fits}
use Rattle.sheet.proofs.all_nodes.Goals as goal

pub nodes_with-requires : goal.nodes_with-requires
nodes_with-requires c =
    let fits = rest-fits c.args.s.now c.args.from 8192 c.if-s-le8192.true in
    (omega arith, omega arith, omega arith)

pub nodes_with-requires-2 : goal.nodes_with-requires-2
nodes_with-requires-2 c =
    let fits = rest-fits c.args.s.now c.args.from 65536 c.requires in
    (omega arith, omega arith, omega arith)
