-- `getter::arrow` meets its contract: the arrow, or nothing. Assumes nothing.
use mathlib.Core.Path.{refl}
use Rattle.text.specs.Text.{put, adv}
use Rattle.getter.proofs.arrow.Goals as goal

pub returns-then-is_fn : goal.returns-then-is_fn
returns-then-is_fn c = rw c.if-is_fn.true c.bytes.ensures

pub returns : goal.returns
unfolding put adv
returns c = rw c.if-is_fn.false record { bytes = refl; state = refl }
