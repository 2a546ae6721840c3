-- `calls::not_null` meets its contract: its parts, one after the other. Assumes nothing.
use mathlib.Core.List.{◌++◌}
use Rattle.std.specs.Prelude.{◌≡◌}
use Rattle.text.specs.Decimal.{decimal}
use Rattle.text.proofs.Laws.{◌⨾◌}
use Rattle.calls.specs.Calls.{not_null}
use Rattle.calls.proofs.not_null.Goals as goal
use Rattle.calls.proofs.not_null.Goals.{Joined-is_reader, then-is_reader, else-is_reader}

around : (c : Joined-is_reader) → c.if-is_reader.texts.0.now ++ decimal c.args.offset ++ c.if-is_reader.texts.1.now
    ≡ not_null c.args.is_reader c.args.offset
unfolding not_null
around c =
    elim c.if-is_reader.branch [
      | then-is_reader w ↦ rw (w.texts-is, w.if-is_reader.true)
      | else-is_reader w ↦ rw (w.texts-is, w.if-is_reader.false)
    ]

pub returns : goal.returns
returns c =
    rw (← around (goal.at.returns c).Joined-is_reader) (c.bytes-t.ensures ⨾ c.number-t.ensures ⨾ c.bytes.ensures)
