-- `type_parts::unbound` meets its contract. The loop's invariant: whatever the arguments that are left make of what is written,
-- all of them make of the start; past the end of the buffer those that are left are counted at once. Assumes nothing.
use mathlib.Core.Path.{◌≡◌}
use native.Mathlib.Omega.{arith}
use Prim.Native.Nat.{◌-◌, ◌+◌}
use Rattle.text.proofs.Laws.{◌⨾◌}
use Rattle.type_parts.proofs.Laws as law
use Rattle.type_parts.proofs.MeasuredLaws.{unbound-counted}
use Rattle.type_parts.proofs.unbound.Goals as goal

pub returns-then-buf-fill : goal.returns-then-buf-fill
returns-then-buf-fill c =
    c.loop-done.invariant _ _ (unbound-counted c.args.root.now _ _ _ _ _
    (omega (arith, c.if-buf-fill.true, c.fill.ensures)) (omega arith) (omega arith) c.saturating_mul.ensures c.past-t.ensures)

pub loop-done-preserved : goal.loop-done-preserved
loop-done-preserved c =
    let n = c.args.count - c.loop-done.done in
    let z : n - 1 ≡ c.args.count - (c.loop-done.done + 1) = omega arith in
    λ l' p' h. c.loop-done.invariant l' p'
    (rw (law.replicate-on _ n (omega arith), z) (law.listed_cons (c.byte-t.ensures ⨾ c.any_owned-t.ensures) h))

pub returns : goal.returns
returns c = c.loop-done.invariant _ _ (rw (let z : c.args.count - c.loop-done.done ≡ 0 = omega arith in z) (law.listed-none _ _))
