-- `codegen::getter_mask` meets its contract: no mask for zero bits, otherwise the arm of the kind. Assumes nothing.
use borrow.Author.Tests.{eq-eqb, ne_eqb}
use native.Mathlib.Omega.{arith}
use Rattle.std.proofs.lemmas.Grind.{common_steps}
use Rattle.codegen.specs.Default.{getter_mask}
use Rattle.codegen.proofs.getter_mask.Goals as goal

pub returns-in_default : goal.returns-in_default
unfolding getter_mask
returns-in_default c = grind (arith, common_steps)

pub returns-then-bits-eq0 : goal.returns-then-bits-eq0
unfolding getter_mask
returns-then-bits-eq0 c = simp (eq-eqb _ _ c.if-bits-eq0.true)

pub returns-in-Bool : goal.returns-in-Bool
unfolding getter_mask
returns-in-Bool c = simp (ne_eqb _ _ c.if-bits-eq0.false, c.in-Bool.is)

pub returns-in-Int8 : goal.returns-in-Int8
unfolding getter_mask
returns-in-Int8 c = simp (ne_eqb _ _ c.if-bits-eq0.false, c.in-Int8.is)

pub returns-in-Int16 : goal.returns-in-Int16
unfolding getter_mask
returns-in-Int16 c = simp (ne_eqb _ _ c.if-bits-eq0.false, c.in-Int16.is)

pub returns-in-Int32 : goal.returns-in-Int32
unfolding getter_mask
returns-in-Int32 c = simp (ne_eqb _ _ c.if-bits-eq0.false, c.in-Int32.is)

pub returns-in-Int64 : goal.returns-in-Int64
unfolding getter_mask
returns-in-Int64 c = simp (ne_eqb _ _ c.if-bits-eq0.false, c.in-Int64.is)
