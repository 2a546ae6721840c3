-- `setter::setter_of` meets its contract: the arm of the slot's kind; an AnyPointer may be a parameter, and the last arm's kinds
-- are below 14. Assumes nothing.
use mathlib.Core.Path.{ap}
use Rattle.std.proofs.Common.{rules}
use Rattle.terms.specs.Kinds.{number_of}
use Rattle.names.specs.Names.{name_of}
use Rattle.nodes.specs.Index.{sheet_of}
use Rattle.codegen.specs.Profiles.{rule_of}
use Rattle.setter.proofs.ArmLaws.{any_here}
use Rattle.setter.proofs.setter_of.Goals as goal

pub returns-then-target-eq0-clause-text : goal.returns-then-target-eq0-clause-text
returns-then-target-eq0-clause-text c =
    let x = c.args.target.now in
    λ ns ix f h. any_here (rule_of x.profile) (sheet_of c.args.source.now.root.now ns) f.slot x.slot h.slot x.tag (name_of x.name)
    x.slot.discriminant (ap number_of c.in-AnyPointer.is) c.if-target-eq0.true c.any_pointer.ensures

pub returns-in_default-clause-text : goal.returns-in_default-clause-text
returns-in_default-clause-text c = λ ns ix f h. c.plain_setter.ensures.text ns f.slot h.slot (search rules)
