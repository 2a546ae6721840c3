-- `codegen::prim_default` meets its contract: a float by its bits with their ending, a Bool or an integer as a getter's mask,
-- any other refused. Assumes nothing.
use mathlib.Core.Path.{refl, sym, ap, ◌∙◌}
use native.Mathlib.Omega.{arith}
use borrow.Author.Tests.{leb-true, leb-false}
use Rattle.terms.specs.Kinds.{number_of}
use Rattle.terms.specs.declared.kinds.Kind.TheVariants as kind
use Rattle.terms.proofs.KindLaws.{number-own}
use Rattle.codegen_types.specs.Out.{ok}
use Rattle.codegen.specs.Default.{prim_default}
use Rattle.codegen.proofs.Laws.{same_mask, refused-above}
use Rattle.codegen.proofs.prim_default.Goals as goal

pub returns-in-Void : goal.returns-in-Void
unfolding prim_default
returns-in-Void c = rw c.in-Void.is refl

pub returns-in-Float32 : goal.returns-in-Float32
unfolding prim_default
returns-in-Float32 c = rw c.in-Float32.is (ap ok c.float_mask.ensures)

pub returns-in-Float64 : goal.returns-in-Float64
unfolding prim_default
returns-in-Float64 c = rw c.in-Float64.is (ap ok c.float_mask-in-Float64.ensures)

pub returns-in_default : goal.returns-in_default
returns-in_default c =
    let d = c.in_default in
    let k = c.args.kind in
    let most = leb-true (number_of k) 11 (sym c.if-is_primitive.ensures) in
    let void = number-own k kind.Void d.not-Void in
    let float = number-own k kind.Float32 d.not-Float32 in
    let double = number-own k kind.Float64 d.not-Float64 in
    ap ok c.getter_mask.ensures ∙ same_mask _ _ (omega arith) (omega arith)

pub returns-in_default-2 : goal.returns-in_default-2
returns-in_default-2 c =
    let past = leb-false (number_of c.args.kind) 11 (sym c.if-is_primitive.ensures) in
    sym (refused-above _ _ (omega arith))
