-- `setter::setter` meets its contract: the slot's setter, by its snake name. Assumes nothing.
use Rattle.nodes.specs.Index.{sheet_of}
use Rattle.codegen.specs.Profiles.{rule_of}
use Rattle.setter.proofs.ArmLaws.{setter-here}
use Rattle.setter.proofs.setter.Goals as goal

pub returns-clause-text : goal.returns-clause-text
returns-clause-text c =
    let source = c.args.source.now in
    λ ns ix f h. setter-here source.bytes.now c.args.slot f h (rule_of c.args.profile) (sheet_of source.root.now ns)
    c.args.tag _ _
    (c.name.ensures.name f h) c.camel_to_snake_case-name.ensures.whole (c.setter_of.ensures.text ns ix f h)
