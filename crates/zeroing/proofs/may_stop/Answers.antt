-- `zeroing::may_stop` meets its contract: each search finds what is among the offsets. Assumes nothing.
use mathlib.Core.Path.{◌∙◌}
use native.Mathlib.Omega.{arith}
use Rattle.std.proofs.lemmas.Bool.Decides.{nat_tests}
use Rattle.nodes.proofs.Laws.{among-any}
use Rattle.zeroing.proofs.may_stop.Goals as goal

pub returns : goal.returns
returns c =
    let a = c.args in
    let own = c.among.ensures ∙ among-any a.offset a.offsets.now in
    let free = c.among-2.ensures ∙ among-any 0 a.offsets.now in
    grind (arith, nat_tests)
