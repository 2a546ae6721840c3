-- `calls::set_data_field` meets its contract: its parts, one after the other. Assumes nothing.
use Rattle.std.specs.Prelude.{◌≡◌}
use Rattle.std.specs.Option.{is_some}
use mathlib.Core.Path.{sym, ◌∙◌}
use Rattle.text.proofs.Laws.{◌⨾◌}
use Rattle.calls.proofs.Laws.{set_data_head, set-data}
use Rattle.calls.proofs.set_data_field.Goals as goal
use Rattle.calls.proofs.set_data_field.Goals.{Joined-is_some, then-is_some, else-is_some}

head : (c : Joined-is_some) → c.if-is_some.head.now ≡ set_data_head (is_some c.args.mask)
head c =
    elim c.if-is_some.branch [
      | then-is_some w ↦ rw (w.head-is, sym c.is_some.ensures ∙ w.if-is_some.true)
      | else-is_some w ↦ rw (w.head-is, sym c.is_some.ensures ∙ w.if-is_some.false)
    ]

pub returns : goal.returns
returns c =
    rw (← set-data _ _ _ _, ← head (goal.at.returns c).Joined-is_some)
    (c.bytes-t.ensures ⨾ c.bytes-t-2.ensures ⨾ c.bytes-t-3.ensures ⨾ c.number-t.ensures ⨾ c.bytes-t-4.ensures
    ⨾ c.bytes-t-5.ensures ⨾ c.last_argument-t.ensures ⨾ c.bytes.ensures)
