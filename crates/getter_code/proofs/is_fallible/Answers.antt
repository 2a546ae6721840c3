-- `getter_code::is_fallible` meets its contract: the arm of the slot's kind. Assumes nothing.
use mathlib.Core.Path.{ap, ◌∙◌}
use mathlib.Core.Bool.{not}
use Rattle.terms.specs.Kinds.{number_of}
use Rattle.terms.specs.declared.kinds.Kind.TheVariants as kinds
use Rattle.terms.proofs.KindLaws.{number-own}
use Rattle.getter_code.proofs.Laws.{fallible_pointer, fallible-other}
use Rattle.getter_code.proofs.is_fallible.Goals as goal

pub returns-in-AnyPointer : goal.returns-in-AnyPointer
returns-in-AnyPointer c =
    let s = c.args.slot in
    fallible_pointer (number_of s.kind) s.id (ap number_of c.in-AnyPointer.is)

pub returns-in_default : goal.returns-in_default
returns-in_default c =
    let s = c.args.slot in
    ap not c.is_primitive.ensures
    ∙ fallible-other (number_of s.kind) s.id (number-own s.kind kinds.AnyPointer c.in_default.not-AnyPointer)
