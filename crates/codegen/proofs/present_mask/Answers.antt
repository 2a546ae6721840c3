-- `codegen::present_mask` meets its contract: an enum's by its flag, that of any other kind by its default. Assumes nothing.
use borrow.Author.Tests.{ne_eqb}
use Rattle.terms.specs.Kinds.{number_of}
use Rattle.terms.specs.declared.kinds.Kind.TheVariants as kind
use Rattle.terms.proofs.KindLaws.{number-own}
use Rattle.codegen.specs.Profiles.{present_mask}
use Rattle.codegen.proofs.present_mask.Goals as goal

pub returns-in-Enum : goal.returns-in-Enum
unfolding present_mask
returns-in-Enum c = rw c.in-Enum.is c.explicit_mask.ensures

pub returns-in_default : goal.returns-in_default
unfolding present_mask
returns-in_default c =
    let k = c.args.slot.kind in
    rw (ne_eqb (number_of k) 15 (number-own k kind.Enum c.in_default.not-Enum)) c.prim_default.ensures
