-- `setter_code::Target::start` meets its contract: its parts, one after the other. Assumes nothing.
use Rattle.text.proofs.Laws.{◌⋄◌, flat}
use Rattle.setter_code.proofs.Target.start.Goals as goal

pub returns : goal.returns
returns c = flat c.bytes-t.ensures ⋄ c.tag_line-t.ensures ⋄ c.inner_margin.ensures
