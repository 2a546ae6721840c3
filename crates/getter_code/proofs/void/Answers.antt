-- `getter_code::void` meets its contract: nothing, or the unit. Assumes nothing.
use mathlib.Core.Path.{refl}
use Rattle.text.specs.Text.{put, adv}
use Rattle.getter_code.proofs.void.Goals as goal

pub returns-then-is_fn : goal.returns-then-is_fn
unfolding put adv
returns-then-is_fn c =
    rw c.if-is_fn.true record { bytes = refl; state = refl }

pub returns : goal.returns
returns c =
    rw c.if-is_fn.false c.bytes.ensures
