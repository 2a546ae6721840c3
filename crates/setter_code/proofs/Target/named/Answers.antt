-- `setter_code::Target::named` meets its contract: its parts, one after the other. Assumes nothing.
use Rattle.text.proofs.Laws.{◌⋄◌, flat}
use Rattle.setter_code.proofs.Target.named.Goals as goal

pub returns : goal.returns
returns c = c.margin-t.ensures ⋄ c.broken-t.ensures ⋄ flat c.write-t.ensures ⋄ flat c.bytes.ensures
