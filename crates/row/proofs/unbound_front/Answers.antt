-- `row::unbound_front` meets its contract: the twos in front, and one row after them. Assumes nothing.
use Prim.Native.Nat.{◌*◌}
use borrow.Author.Rules.{rules}
use Rattle.row.proofs.UnboundLaws.{front_twos, front-rest}
use Rattle.row.proofs.unbound_front.Goals as goal

pub returns-in-85-clause-rows : goal.returns-in-85-clause-rows
returns-in-85-clause-rows c =
    let t = c.args.t.now in
    let n = c.twos_in_front-n.result in
    front-rest t (2 * n) (front_twos t n c.twos_in_front-n.ensures.is) c.in-85.len_at_least (search rules) (search rules)
