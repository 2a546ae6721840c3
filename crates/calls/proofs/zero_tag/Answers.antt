-- `calls::zero_tag` meets its contract: 0 in decimal is its digit. Assumes nothing.
use Rattle.text.specs.Decimal.{decimal}
use Rattle.calls.proofs.zero_tag.Goals as goal

pub returns : goal.returns
unfolding decimal
returns c = c.set_tag.ensures
