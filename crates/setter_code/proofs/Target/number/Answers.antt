-- `setter_code::Target::number` meets its contract: its parts, one after the other. Assumes nothing.
use Rattle.terms.specs.Kinds.{number_of}
use Rattle.text.specs.Bytes.{ascii}
use Rattle.text.proofs.Laws.{◌⋄◌, flat, reworded}
use Rattle.names.specs.Names.{name_of}
use Rattle.calls.specs.Calls.{set_data_field}
use Rattle.calls.specs.Mask.{mask_text}
use Rattle.codegen_types.specs.Primitive.{primitive_text}
use Rattle.setter_code.proofs.Laws.{only-text, begun}
use Rattle.setter_code.proofs.Target.number.Goals as goal

pub returns : goal.returns
returns c =
    let slot = c.args.self.now.slot in
    λ root. reworded (λ n. only-text n root c.args.self.now.tag (name_of c.args.self.now.name) slot.discriminant
    (set_data_field (primitive_text (number_of slot.kind)) slot.offset (ascii "value") (mask_text c.args.mask))
    (primitive_text (number_of slot.kind)))
    (begun c.args.self.now (ascii ")  {\n") (c.set_open-t.ensures ⋄ flat c.type_name-t.ensures) c.start-t.ensures
    ⋄ flat (rw c.primitive-typ.ensures at c.set_data_field-t.ensures) ⋄ c.broken.ensures)
