-- `calls::tag_test` meets its contract: its parts, one after the other. Assumes nothing.
use Rattle.std.specs.Prelude.{◌≡◌}
use Rattle.text.proofs.Laws.{◌⨾◌}
use Rattle.calls.proofs.Laws.{tag_test_head, tag_test_lem}
use Rattle.calls.proofs.tag_test.Goals as goal
use Rattle.calls.proofs.tag_test.Goals.{Joined-is_reader, then-is_reader, else-is_reader}

head : (c : Joined-is_reader) → c.if-is_reader.head.now ≡ tag_test_head c.args.is_reader
head c =
    elim c.if-is_reader.branch [
      | then-is_reader w ↦ rw (w.head-is, w.if-is_reader.true)
      | else-is_reader w ↦ rw (w.head-is, w.if-is_reader.false)
    ]

pub returns : goal.returns
returns c =
    rw (← tag_test_lem _ _ _, ← head (goal.at.returns c).Joined-is_reader)
    (c.bytes-t.ensures ⨾ c.number-t.ensures ⨾ c.bytes-t-2.ensures ⨾ c.number-t-2.ensures ⨾ c.bytes.ensures)
