-- `setter::new_end` meets its contract: its parts, one after the other; the new pointer and the call on it are one line. Assumes
-- nothing.
use Rattle.text.proofs.Laws.{◌⨾◌, ◌⋄◌, flat}
use Rattle.setter.proofs.new_end.Goals as goal

pub returns : goal.returns
returns c = c.init_start-t.ensures ⋄ flat (c.new_pointer-t.ensures ⨾ c.bytes-t.ensures) ⋄ c.broken.ensures
