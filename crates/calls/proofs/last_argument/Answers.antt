-- `calls::last_argument` meets its contract: each arm writes its mask. Assumes nothing.
use mathlib.Core.Path.{refl}
use Rattle.text.specs.Text.{put, adv}
use Rattle.text.proofs.Laws.{◌⨾◌}
use Rattle.calls.proofs.last_argument.Goals as goal

pub returns-in_default : goal.returns-in_default
unfolding put adv
returns-in_default c = rw c.in_default.is record { bytes = refl; state = refl }

pub returns-in-True : goal.returns-in-True
returns-in-True c = rw (c.in-Some.is, c.in-True.is) (c.bytes-t.ensures ⨾ c.bytes.ensures)

pub returns-in-Signed : goal.returns-in-Signed
returns-in-Signed c = rw (c.in-Some.is, c.in-Signed.is) (c.bytes-t.ensures ⨾ c.signed.ensures)

pub returns-in-Plain : goal.returns-in-Plain
returns-in-Plain c = rw (c.in-Some.is, c.in-Plain.is) (c.bytes-t.ensures ⨾ c.number.ensures)

pub returns-in-U32 : goal.returns-in-U32
returns-in-U32 c =
    rw (c.in-Some.is, c.in-U32.is) (c.bytes-t.ensures ⨾ (c.number-t.ensures ⨾ c.bytes-in-U32.ensures))

pub returns-in-U64 : goal.returns-in-U64
returns-in-U64 c =
    rw (c.in-Some.is, c.in-U64.is) (c.bytes-t.ensures ⨾ (c.number-t-in-U64.ensures ⨾ c.bytes-in-U64.ensures))
