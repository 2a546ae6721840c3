-- `getter::prim_result` meets its contract: Void's own, or an arrow and the type's name. Assumes nothing.
use mathlib.Core.Path.{refl}
use Rattle.terms.specs.declared.kinds.Kind.TheVariants as kind
use Rattle.terms.proofs.KindLaws.{number-own}
use Rattle.text.specs.Bytes.{same}
use Rattle.text.specs.Text.{put, adv}
use Rattle.text.proofs.Laws.{◌⨾◌}
use Rattle.getter.proofs.ResultLaws.{prim_arrow}
use Rattle.getter.proofs.prim_result.Goals as goal

pub returns-in-Void : goal.returns-in-Void
unfolding put adv same
returns-in-Void c = rw (c.in-Void.is, c.if-is_fn.true) record { bytes = refl; state = refl }

pub returns-in_default : goal.returns-in_default
returns-in_default c =
    rw (← prim_arrow _ _ (number-own c.args.kind kind.Void c.in_default.not-Void)) (c.arrow-t.ensures ⨾ c.type_name.ensures)
