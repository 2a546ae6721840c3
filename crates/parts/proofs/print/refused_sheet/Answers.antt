-- `parts::print::refused_sheet` meets its contract: three numbers of 64 bits have at most 20 digits each. Assumes nothing.
use Prim.Native.Nat.{◌^◌, ◌<◌}
use native.Mathlib.Omega.{arith}
use borrow.Author.Rules.{rules}
use lib.ListN.{length}
use Rattle.text.proofs.Laws.{◌⨾◌}
use Rattle.parts.specs.Program.{refused_sheet_text}
use Rattle.parts.proofs.FitLaws.{refused-sheet-few, start-at, text-end, taken-fits, taken-puts}
use Rattle.parts.proofs.print.refused_sheet.Goals as goal
use Rattle.parts.proofs.print.refused_sheet.Goals.{Start}

room : (c : Start) → length c.args.buf.now < 2 ^ 63
room c = search rules

pub returns-clause-fits : goal.returns-clause-fits
unfolding refused_sheet_text
returns-clause-fits c =
    let written = c.write_labelled-t.ensures ⨾ c.write_labelled-t-2.ensures ⨾ c.write_labelled-t-3.ensures ⨾ c.byte-t.ensures in
    let few = refused-sheet-few c.number.result c.args.refused.line c.args.refused.column (search rules) (search rules)
    (search rules) in
    taken-fits c.at.ensures written 65536 _ (omega (arith, few, text-end (start-at c.at.ensures) written)) c.taken.ensures

pub returns-clause-said : goal.returns-clause-said
unfolding refused_sheet_text
returns-clause-said c =
    let written = c.write_labelled-t.ensures ⨾ c.write_labelled-t-2.ensures ⨾ c.write_labelled-t-3.ensures ⨾ c.byte-t.ensures in
    taken-puts c.at.ensures (rw c.number.ensures at written) (room (goal.at.returns-clause-said c).Start) _ c.taken.ensures
