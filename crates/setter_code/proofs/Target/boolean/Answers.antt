-- `setter_code::Target::boolean` meets its contract: its parts, one after the other. Assumes nothing.
use Prim.Native.Nat.{◌+◌}
use Rattle.text.specs.Bytes.{ascii}
use Rattle.text.specs.Lines.{margin}
use Rattle.text.proofs.Laws.{◌⋄◌, flat, reworded}
use Rattle.names.specs.Names.{name_of}
use Rattle.calls.specs.Calls.{set_bool_field}
use Rattle.calls.specs.Mask.{mask_text}
use Rattle.setter_code.specs.Parts.{tag_line, set_open}
use Rattle.setter_code.proofs.Laws.{only-text, bool_open, begun}
use Rattle.setter_code.proofs.Target.boolean.Goals as goal

pub returns : goal.returns
returns c =
    let slot = c.args.self.now.slot in
    λ root. reworded (λ n. only-text n root c.args.self.now.tag (name_of c.args.self.now.name) slot.discriminant
    (set_bool_field slot.offset (ascii "value") (mask_text c.args.mask)) (ascii "bool"))
    (reworded (λ n. bool_open (set_open (name_of c.args.self.now.name) n) (tag_line c.args.self.now.tag slot.discriminant n)
    (margin (n + 1)))
    (begun c.args.self.now (ascii "bool)  {\n") c.set_open-t.ensures c.start-t.ensures)
    ⋄ flat c.set_bool_field-t.ensures ⋄ c.broken.ensures)
