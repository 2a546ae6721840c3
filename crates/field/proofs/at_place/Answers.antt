-- `field::at_place` meets its contract: what is found from here with the count left is what was to be found from the start, and
-- no more rows are left from here. Assumes nothing.
use Prim.Native.Nat.{◌-◌}
use native.Mathlib.Omega.{arith}
use Rattle.std.specs.Prelude.{None}
use Rattle.field.proofs.FieldLaws.{place-on, place-stop, place_here}
use Rattle.field.proofs.at_place.Goals as goal

pub loop-preserved : goal.loop-preserved
loop-preserved c =
    let h = c.loop.invariant in
    let x = c.in_ok-read in
    rw c.next-at.ensures record {
      found = λ r more. h.found r
          (place-on c.args.s.now c.loop.at _ c.read.ensures.first _ _ (omega arith) x.field-0 x.was r more);
      fewer = omega (arith, x.ensures.fewer, h.fewer);
    }

pub returns-in_err-read-clause-found : goal.returns-in_err-read-clause-found
returns-in_err-read-clause-found c =
    rw c.from_residual.ensures
    (c.loop.invariant.found None
    (place-stop c.args.s.now c.loop.at _ c.read.ensures.first (c.args.place - c.loop.counter) c.in_err-read.was))

pub returns-clause-found : goal.returns-clause-found
returns-clause-found c =
    c.loop.invariant.found _ (place_here c.args.s.now c.loop.at _ c.read-2.ensures.first _ (omega arith))
