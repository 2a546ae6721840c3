-- `setter_code::Target::set_data` meets its contract: its parts, one after the other. Assumes nothing.
use Prim.Native.Nat.{◌+◌}
use Rattle.text.specs.Bytes.{ascii}
use Rattle.text.specs.Lines.{margin, broken}
use Rattle.text.proofs.Laws.{◌⋄◌, flat, reworded}
use Rattle.setter_code.proofs.Laws.{field-line, begun}
use Rattle.setter_code.proofs.Target.set_data.Goals as goal

pub returns : goal.returns
unfolding broken
returns c =
    reworded (λ n. field-line _ _ (ascii "::data::Reader<'_>") (ascii ")  {\n") _ (margin (n + 1))
    (ascii "self.builder.reborrow().get_pointer_field(") _ (ascii ")") (ascii ".set_data(value);") (broken (ascii "\n}\n") n))
    (begun c.args.self.now (ascii "::data::Reader<'_>)  {\n") (c.set_open-t.ensures ⋄ flat c.bytes-t.ensures) c.start-t.ensures
    ⋄ flat c.bytes-t-2.ensures ⋄ flat c.number-t.ensures ⋄ c.broken.ensures)
