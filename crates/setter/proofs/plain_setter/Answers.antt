-- `setter::plain_setter` meets its contract: the arm of the slot's kind. Assumes nothing.
use mathlib.Core.Path.{ap}
use Rattle.terms.specs.Kinds.{number_of}
use Rattle.text.proofs.Laws.{some-text}
use Rattle.names.specs.Names.{name_of}
use Rattle.nodes.specs.Index.{sheet_of}
use Rattle.codegen.specs.Profiles.{rule_of}
use Rattle.setter.proofs.ArmLaws.{void-here, text-here, data-here}
use Rattle.setter.proofs.plain_setter.Goals as goal

pub returns-in-Void : goal.returns-in-Void
returns-in-Void c =
    let a = c.args in
    let x = a.target.now in
    record {
      text = λ ns sl is below. void-here (rule_of x.profile) (sheet_of a.root.now ns) sl x.slot is x.tag (name_of x.name)
          x.slot.discriminant (ap number_of c.in-Void.is) (c.void.ensures a.root.now);
      within = some-text (c.void.ensures a.root.now).lines;
    }

pub returns-in-Text-clause-text : goal.returns-in-Text-clause-text
returns-in-Text-clause-text c =
    let a = c.args in
    let x = a.target.now in
    λ ns sl is below. text-here (rule_of x.profile) (sheet_of a.root.now ns) sl x.slot is x.tag (name_of x.name)
    x.slot.discriminant (ap number_of c.in-Text.is)
    c.text.ensures

pub returns-in-Data-clause-text : goal.returns-in-Data-clause-text
returns-in-Data-clause-text c =
    let a = c.args in
    let x = a.target.now in
    λ ns sl is below. data-here (rule_of x.profile) (sheet_of a.root.now ns) sl x.slot is x.tag (name_of x.name)
    x.slot.discriminant (ap number_of c.in-Data.is)
    c.«data».ensures
