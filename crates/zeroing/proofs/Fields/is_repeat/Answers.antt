-- `zeroing::Fields::is_repeat` meets its contract: the answer from here, with the count left, is that from the start. Assumes
-- nothing.
use mathlib.Core.Bool.{true, false}
use Prim.Native.Nat.{◌+◌, ◌-◌}
use native.Mathlib.Omega.{arith}
use Rattle.zeroing.proofs.TypeLaws.{same-type}
use Rattle.zeroing.proofs.RepeatLaws.{tells_none, tells-end, tells-here, tells_more, tells-group}
use Rattle.zeroing.proofs.Fields.is_repeat.Goals as goal
use Rattle.zeroing.proofs.Fields.is_repeat.Goals.{in-Slot+else-eq, in_default-field}

pub returns-in_default : goal.returns-in_default
returns-in_default c = (c.loop.invariant false (tells-end c.args.self.now.s.now c.in_default.ensures.first)).tells

pub returns-then-eq : goal.returns-then-eq
returns-then-eq c =
    (c.loop.invariant true
    (tells-here c.args.self.now.s.now c.in-Some.ensures.first (c.args.self.now.count - (c.loop.counter + 1)) (omega arith)
    c.in-Slot.is
    (rw (same-type c.of.result.typ c.args.line.typ, c.of.ensures.offset, c.of.ensures.typ) at c.eq.ensures) c.if-eq.true)).tells

pub loop-preserved : goal.loop-preserved
loop-preserved c =
    λ r x. let s = c.args.self.now.s.now in
    let first = c.in-Some.ensures.first in
    let later = rw c.next-at.ensures at x in
    c.loop.invariant r
    (elim c.match-field.branch [
      | in-Slot+else-eq w ↦
          tells_more s first _ (omega arith) w.in-Slot.is
          (rw (same-type w.of.result.typ c.args.line.typ, w.of.ensures.offset, w.of.ensures.typ) at w.eq.ensures) w.if-eq.false
          (rw w.field-is at later)
      | in_default-field w ↦
          tells-group s first _ (omega arith) w.in_default-field.is (rw (w.field-is, w.in_default-field.is) at later)
    ])

pub returns : goal.returns
returns c = (c.loop.invariant false (tells_none (omega arith))).tells
