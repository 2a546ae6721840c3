-- `setter_code::Target::init_sized` meets its contract: its parts, one after the other. Assumes nothing.
use mathlib.Core.Bool.{true}
use Prim.Native.Nat.{◌+◌}
use Rattle.text.specs.Bytes.{ascii}
use Rattle.text.specs.Decimal.{decimal}
use Rattle.text.specs.Lines.{margin, broken}
use Rattle.text.proofs.Laws.{◌⋄◌, flat, reworded}
use Rattle.names.specs.Names.{name_of}
use Rattle.setter_code.specs.Parts.{tag_line, init_open}
use Rattle.setter_code.proofs.Laws.{sized-line, begun}
use Rattle.setter_code.proofs.Target.init_sized.Goals as goal

pub returns : goal.returns
returns c =
    let a = c.args in
    let x = a.self.now in
    reworded (λ n. sized-line (init_open (name_of x.name) true n) a.root.now a.typ.now (ascii " {\n")
    (tag_line x.tag x.slot.discriminant n) (margin (n + 1)) (ascii "self.builder.get_pointer_field(") (decimal x.slot.offset)
    (ascii ")") a.call.now (broken (ascii "\n}\n") n))
    (begun x (ascii " {\n") (c.init_open-t.ensures ⋄ flat c.bytes-t.ensures ⋄ flat c.bytes-t-2.ensures)
    c.start-t.ensures ⋄ flat c.bytes-t-3.ensures ⋄ flat c.number-t.ensures ⋄ flat c.byte-t.ensures ⋄ flat c.bytes-t-4.ensures
    ⋄ c.broken.ensures)
