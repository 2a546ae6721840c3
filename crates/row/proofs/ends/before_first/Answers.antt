-- `row::before_first` meets its contract: the zeros below the lowest bit, by the lowest byte that is not 0. Assumes nothing.
use native.Mathlib.Omega.{arith}
use Rattle.row.proofs.WordLaws.{zeros-most, zeros_least}
use Rattle.row.proofs.ends.before_first.Goals as goal

pub returns-then-bits-ne0 : goal.returns-then-bits-ne0
returns-then-bits-ne0 c = omega (arith, zeros-most 64 8 c.args.bits c.if-bits-ne0.true)

pub returns-then-bits-ne0-2 : goal.returns-then-bits-ne0-2
returns-then-bits-ne0-2 c =
    let bits = c.args.bits in
    omega (arith, zeros_least 64 8 bits (omega arith) c.if-bits-ne0.false, zeros-most 64 16 bits c.if-bits-ne0-2.true)

pub returns-then-bits-ne0-3 : goal.returns-then-bits-ne0-3
returns-then-bits-ne0-3 c =
    let bits = c.args.bits in
    omega (arith, zeros_least 64 16 bits (omega arith) c.if-bits-ne0-2.false, zeros-most 64 24 bits c.if-bits-ne0-3.true)

pub returns-then-bits-ne0-4 : goal.returns-then-bits-ne0-4
returns-then-bits-ne0-4 c =
    let bits = c.args.bits in
    omega (arith, zeros_least 64 24 bits (omega arith) c.if-bits-ne0-3.false, zeros-most 64 32 bits c.if-bits-ne0-4.true)
