-- `calls::get_bool_field` meets its contract: its parts, one after the other. Assumes nothing.
use Rattle.std.specs.Prelude.{◌≡◌}
use Rattle.std.specs.Option.{is_some}
use Rattle.text.proofs.Laws.{◌⨾◌}
use Rattle.calls.proofs.Laws.{get_bool_head, get-bool}
use Rattle.calls.proofs.get_bool_field.Goals as goal
use Rattle.calls.proofs.get_bool_field.Goals.{Joined-is_reader, in-true-true, in-true-false, in-false-true, in-false-false}

head : (c : Joined-is_reader) → c.if-is_reader.head.now ≡ get_bool_head c.args.is_reader (is_some c.args.mask)
head c =
    elim c.if-is_reader.branch [
      | in-true-true w ↦ rw (w.head-is, w.in-true-true.is-0, ← w.in-true-true.ensures)
      | in-true-false w ↦ rw (w.head-is, w.in-true-false.is-0, ← w.in-true-false.ensures)
      | in-false-true w ↦ rw (w.head-is, w.in-false-true.is-0, ← w.in-false-true.ensures)
      | in-false-false w ↦ rw (w.head-is, w.in-false-false.is-0, ← w.in-false-false.ensures)
    ]

pub returns : goal.returns
returns c =
    rw (← get-bool _ _ _, ← head (goal.at.returns c).Joined-is_reader)
    (c.bytes-t.ensures ⨾ c.number-t.ensures ⨾ c.last_argument-t.ensures ⨾ c.bytes.ensures)
