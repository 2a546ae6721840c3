-- `setter::prim_setter` meets its contract: the default's refusal, or the setter with its mask. Assumes nothing.
use mathlib.Core.Path.{ap}
use native.Mathlib.Omega.{arith}
use Rattle.terms.specs.Kinds.{number_of}
use Rattle.terms.specs.declared.kinds.Kind.TheVariants as kind
use Rattle.terms.proofs.KindLaws.{number-own}
use Rattle.std.proofs.lemmas.Result.{err_from_is_err_and}
use Rattle.text.proofs.Laws.{some-text}
use Rattle.names.specs.Names.{name_of}
use Rattle.nodes.specs.Index.{sheet_of}
use Rattle.codegen.specs.Profiles.{rule_of}
use Rattle.setter.proofs.ArmLaws.{prim-refused, bool-here, number-here}
use Rattle.setter.proofs.prim_setter.Goals as goal

pub returns-in_err-mask-clause-text : goal.returns-in_err-mask-clause-text
returns-in_err-mask-clause-text c =
    let x = c.args.target.now in
    let e = err_from_is_err_and c.from_residual.result c.from_residual.ensures.1 in
    λ root ns sl is n0 le. rw (e.1, e.2) (prim-refused (rule_of x.profile) (sheet_of root ns) sl x.slot is x.tag (name_of x.name)
    x.slot.discriminant n0 (omega arith) c.in_err-mask.ensures)

pub returns-in-Bool : goal.returns-in-Bool
returns-in-Bool c =
    let x = c.args.target.now in
    record {
      text = λ root ns sl is n0 le. bool-here (rule_of x.profile) (sheet_of root ns) sl x.slot is x.tag (name_of x.name)
          x.slot.discriminant _ c.in_ok-mask.ensures (ap number_of c.in-Bool.is) (c.boolean.ensures root);
      within = some-text (c.boolean.ensures (name_of x.name)).lines;
    }

pub returns-in_default : goal.returns-in_default
returns-in_default c =
    let x = c.args.target.now in
    record {
      text = λ root ns sl is n0 le. number-here (rule_of x.profile) (sheet_of root ns) sl x.slot is x.tag (name_of x.name)
          x.slot.discriminant _ c.in_ok-mask.ensures n0 (number-own x.slot.kind kind.Bool c.in_default.not-Bool) (omega arith)
          (c.number.ensures root);
      within = some-text (c.number.ensures (name_of x.name)).lines;
    }
