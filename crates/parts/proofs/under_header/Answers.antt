-- `parts::under_header` meets its contract: the text that was written is what stands there. Assumes nothing.
use mathlib.Core.Path.{refl}
use Prim.Native.Nat.{◌^◌, ◌<◌}
use borrow.Author.Rules.{rules}
use lib.ListN.{length}
use Rattle.parts.proofs.FitLaws.{taken-puts}
use Rattle.parts.proofs.under_header.Goals as goal
use Rattle.parts.proofs.under_header.Goals.{Start}

room : (c : Start) → length c.args.buf.now < 2 ^ 63
room c = search rules

pub returns-in-Ok-clause-said : goal.returns-in-Ok-clause-said
returns-in-Ok-clause-said c = λ ns x at tag-is is.
    taken-puts refl (rw c.in-Ok.is at (c.job_text.ensures.under ns x at tag-is is))
    (room (goal.at.returns-in-Ok-clause-said c).Start) _ c.taken.ensures
