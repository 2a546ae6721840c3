-- `pointer_constants::word` meets its contract: its parts, one after the other. Assumes nothing.
use Rattle.text.proofs.Laws.{◌⋄◌, flat}
use Rattle.pointer_constants.proofs.word.Goals as goal

pub returns : goal.returns
returns c =
    c.inner_margin-t.ensures ⋄ flat c.bytes-t.ensures ⋄ flat c.bytes-t-2.ensures ⋄ flat c.bytes-t-3.ensures
    ⋄ flat c.bytes.ensures
