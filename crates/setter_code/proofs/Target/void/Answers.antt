-- `setter_code::Target::void` meets its contract: its parts, one after the other. Assumes nothing.
use Rattle.names.specs.Names.{name_of}
use Rattle.text.proofs.Laws.{◌⋄◌, flat, reworded}
use Rattle.setter_code.proofs.Laws.{void-text}
use Rattle.setter_code.proofs.Target.void.Goals as goal

pub returns : goal.returns
returns c =
    let self = c.args.self.now in
    λ root. reworded (λ n. void-text n root self.tag (name_of self.name) self.slot.discriminant) (c.named-t.ensures
    ⋄ c.tag_line-t.ensures ⋄ c.margin-t.ensures ⋄ flat c.bytes.ensures)
