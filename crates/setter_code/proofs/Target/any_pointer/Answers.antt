-- `setter_code::Target::any_pointer` meets its contract: its parts, one after the other. Assumes nothing.
use Rattle.text.specs.Bytes.{ascii}
use Rattle.text.proofs.Laws.{◌⋄◌, flat, reworded}
use Rattle.setter_code.proofs.Laws.{pointer-text, begun}
use Rattle.setter_code.proofs.Target.any_pointer.Goals as goal

pub returns : goal.returns
returns c =
    reworded (λ n. pointer-text n _ _ _ _ _)
    (begun c.args.self.now (ascii "::any_pointer::Builder<'a> {\n") (c.init_open-t.ensures ⋄ flat c.bytes-t.ensures)
    c.start-t.ensures ⋄ flat c.bytes-t-2.ensures ⋄ flat c.new_pointer-t.ensures ⋄ c.broken.ensures)
