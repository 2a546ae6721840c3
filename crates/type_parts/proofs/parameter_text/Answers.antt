-- `type_parts::parameter_text` meets its contract: each arm's leaf chooses its clause of the definition, whose three last parts
-- are one constant in the code. Assumes nothing.
use mathlib.Core.List.{◌++◌}
use Rattle.text.specs.Bytes.{ascii}
use Rattle.codegen_types.proofs.WrittenLaws.{whole}
use Rattle.codegen_types.specs.TypeString.{parameter_string}
use Rattle.type_parts.proofs.Laws.{in_three}
use Rattle.type_parts.proofs.parameter_text.Goals as goal
use Rattle.type_parts.proofs.parameter_text.Goals.{in-Reader-A, in-Reader-Anonymous, in-Builder-A, in-Builder-Anonymous}
use Rattle.type_parts.proofs.parameter_text.Goals.{in-Pipeline}

pub returns-clause-text : goal.returns-clause-text
unfolding parameter_string
returns-clause-text c =
    let head = ascii "<" ++ c.args.name.now ++ ascii " as " ++ c.args.root.now in
    let reader = ascii "::traits::Owned>::Reader<" in
    let builder = ascii "::traits::Owned>::Builder<" in
    let a = ascii "'a" in
    let anonymous = ascii "'_" in
    let end = ascii ">" in
    elim c.match-leaf.branch [
      | in-Reader-A w ↦
          let f = rw w.in-Reader-A.is at w.in-Reader-A.field-0-is in
          rw (w.in-Reader-A.is, f) (whole (in_three head reader a end (rw w.tail-is at c.projected.ensures)))
      | in-Reader-Anonymous w ↦
          let f = rw w.in-Reader-Anonymous.is at w.in-Reader-Anonymous.field-0-is in
          rw (w.in-Reader-Anonymous.is, f) (whole (in_three head reader anonymous end (rw w.tail-is at c.projected.ensures)))
      | in-Builder-A w ↦
          let f = rw w.in-Builder-A.is at w.in-Builder-A.field-0-is in
          rw (w.in-Builder-A.is, f) (whole (in_three head builder a end (rw w.tail-is at c.projected.ensures)))
      | in-Builder-Anonymous w ↦
          let f = rw w.in-Builder-Anonymous.is at w.in-Builder-Anonymous.field-0-is in
          rw (w.in-Builder-Anonymous.is, f) (whole (in_three head builder anonymous end (rw w.tail-is at c.projected.ensures)))
      | in-Pipeline w ↦ rw w.in-Pipeline.is (whole (rw w.tail-is at c.projected.ensures))
    ]
