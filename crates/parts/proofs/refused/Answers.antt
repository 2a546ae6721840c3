-- `parts::refused` meets its contract: a number of 64 bits has at most 20 digits. Assumes nothing.
use Prim.Native.Nat.{◌^◌, ◌<◌}
use native.Mathlib.Omega.{arith}
use borrow.Author.Rules.{rules}
use lib.ListN.{length}
use Rattle.text.proofs.Laws.{◌⨾◌}
use Rattle.parts.specs.Program.{refused_text}
use Rattle.parts.proofs.FitLaws.{refused-few, start-at, text-end, taken-fits, taken-puts}
use Rattle.parts.proofs.refused.Goals as goal
use Rattle.parts.proofs.refused.Goals.{Start}

room : (c : Start) → length c.args.buf.now < 2 ^ 63
room c = search rules

pub returns-clause-fits : goal.returns-clause-fits
unfolding refused_text
returns-clause-fits c =
    let written = c.bytes-t.ensures ⨾ c.number-t.ensures ⨾ c.byte-t.ensures in
    let few = refused-few c.args.number (search rules) in
    taken-fits c.at.ensures written 65536 _ (omega (arith, few, text-end (start-at c.at.ensures) written)) c.taken.ensures

pub returns-clause-said : goal.returns-clause-said
unfolding refused_text
returns-clause-said c =
    let written = c.bytes-t.ensures ⨾ c.number-t.ensures ⨾ c.byte-t.ensures in
    taken-puts c.at.ensures written (room (goal.at.returns-clause-said c).Start) _ c.taken.ensures
