-- `setter_code::Target::new_pointer` meets its contract: its parts, one after the other. Assumes nothing.
use Rattle.text.specs.Bytes.{ascii}
use Rattle.text.proofs.Laws.{◌⨾◌}
use Rattle.setter_code.proofs.Laws.{in_call}
use Rattle.setter_code.proofs.Target.new_pointer.Goals as goal

pub returns : goal.returns
returns c =
    rw (← in_call _ (ascii "::any_pointer::Builder::new(") (ascii "self.builder.get_pointer_field(") _ (ascii ")") (ascii ")"))
    (c.bytes-t.ensures ⨾ c.bytes-t-2.ensures ⨾ c.number-t.ensures ⨾ c.bytes.ensures)
