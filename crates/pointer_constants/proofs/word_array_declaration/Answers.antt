-- `pointer_constants::word_array_declaration` meets its contract: its parts, one after the other. Assumes nothing.
use Rattle.text.proofs.Laws.{◌⋄◌, flat}
use Rattle.pointer_constants.proofs.word_array_declaration.Goals as goal

pub returns : goal.returns
returns c =
    c.margin-t.ensures ⋄ flat c.bytes-t.ensures ⋄ flat c.default_name-t.ensures ⋄ flat c.bytes-t-2.ensures
    ⋄ flat c.bytes-t-3.ensures ⋄ flat c.bytes-t-4.ensures ⋄ flat c.number-t.ensures ⋄ flat c.bytes-t-5.ensures
    ⋄ c.words-t.ensures ⋄ c.margin-t-2.ensures ⋄ flat c.bytes.ensures
