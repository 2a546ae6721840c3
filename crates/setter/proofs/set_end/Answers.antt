-- `setter::set_end` meets its contract: its parts, one after the other. Assumes nothing.
use Rattle.text.proofs.Laws.{◌⋄◌, flat}
use Rattle.setter.proofs.set_end.Goals as goal

pub returns : goal.returns
returns c =
    flat c.set_close-t.ensures ⋄ c.tag_line-t.ensures ⋄ c.inner_margin-t.ensures ⋄ flat c.set_pointer-t.ensures ⋄ c.broken.ensures
