-- `row::past_parameter` meets its contract: what stands at the position begins with P, a space and a name, or is no P row.
-- Assumes nothing.
use native.Mathlib.Omega.{arith}
use Rattle.row.proofs.PastLaws.{other-letter, no-name, past-name}
use Rattle.row.proofs.past_parameter.Goals as goal
use Rattle.row.proofs.past_parameter.Goals.{then-s-at-via-then-s-at, then-s-at-via-else-s-at+then-s-at-ne80}

pub returns-then-s-at : goal.returns-then-s-at
returns-then-s-at c = other-letter c.args.s.now c.args.at λ inside letter.
    elim c.then-s-at.branch [
      | then-s-at-via-then-s-at w ↦ omega (arith, w.if-s-at.true)
      | then-s-at-via-else-s-at+then-s-at-ne80 w ↦ w.if-s-at-ne80.true letter
    ]

pub returns-in_err-end : goal.returns-in_err-end
returns-in_err-end c = rw c.from_residual.ensures (no-name c.args.s.now c.args.at c.in_err-end.ensures)

pub returns : goal.returns
returns c = past-name c.args.s.now c.args.at c.if-s-at-ne80.false c.in_ok-end.end c.in_ok-end.ensures
