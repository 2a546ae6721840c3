-- `column::name_end` meets its contract: a name in front of byte 10 ends at the first byte that is no letter, underscore or
-- digit. Assumes nothing.
use mathlib.Core.Path.{refl, sym, ◌∙◌}
use Prim.Native.Nat.{◌+◌}
use native.Mathlib.Nat.{sub_self}
use native.Mathlib.Omega.{arith}
use Rattle.column.specs.Texts.{all}
use Rattle.column.proofs.NameLaws.{name-none, name-not, name-to, words-more}
use Rattle.column.proofs.name_end.Goals as goal
use Rattle.column.proofs.name_end.Goals.{then-b-ne10-via-then-b-ne10, then-b-ne10-via-else-b-ne10+then-not-may_be_name}

pub loop-e-init : goal.loop-e-init
unfolding all
loop-e-init c = rw (sub_self (c.args.a + 1)) refl

pub returns-then-b-ne10 : goal.returns-then-b-ne10
returns-then-b-ne10 c =
    name-not c.args.t.now c.args.a c.loop-e.e c.loop-e.auto.e c.loop-e.invariant (sym c.if-not-is_word.ensures) λ ten may.
    elim c.then-b-ne10.branch [
      | then-b-ne10-via-then-b-ne10 w ↦ w.if-b-ne10.true ten
      | then-b-ne10-via-else-b-ne10+then-not-may_be_name w ↦
          let z = sym may ∙ sym w.may_be_name.ensures ∙ w.if-not-may_be_name.true in cc
    ]

pub returns-then-not-is_word : goal.returns-then-not-is_word
returns-then-not-is_word c =
    name-to c.args.t.now c.args.a c.loop-e.e c.loop-e.auto.e c.loop-e.invariant c.if-t-a-ne32.false c.if-b-ne10.false
    (sym c.if-not-may_be_name.ensures)

pub loop-e-preserved : goal.loop-e-preserved
loop-e-preserved c =
    words-more c.args.t.now c.args.a c.loop-e.e c.loop-e.auto.e c.loop-e.invariant c.loop-e-test.true
    (sym c.if-not-is_word.ensures)

pub returns : goal.returns
returns c =
    name-none c.args.t.now c.args.a c.loop-e.e c.loop-e.auto.e c.loop-e.invariant (omega (arith, c.loop-e-test.false))
