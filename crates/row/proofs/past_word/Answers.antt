-- `row::past_word` meets its contract: the bytes of a W row stand at the position, or some of them do not. Assumes nothing.
use native.Mathlib.Omega.{arith}
use Rattle.row.proofs.PastLaws.{word-short, no-word, no-number, past-word}
use Rattle.row.proofs.past_word.Goals as goal
use Rattle.row.proofs.past_word.Goals.{then-row-ne87-via-then-row-ne87, then-row-ne87-via-else-row-ne87+then-row-ne10}

pub returns-in_err-get : goal.returns-in_err-get
returns-in_err-get c =
    rw c.from_residual.ensures (word-short c.args.s.now c.args.at (omega (arith, c.in_err-get.ensures.lookup)))

pub returns-in_err-row : goal.returns-in_err-row
returns-in_err-row c =
    rw c.from_residual-in_err-row.ensures
    (word-short c.args.s.now c.args.at (omega (arith, c.in_err-row.ensures.cases, c.in_ok-get.ensures.lookup.0.3)))

pub returns-then-row-ne87 : goal.returns-then-row-ne87
returns-then-row-ne87 c =
    no-word c.args.s.now c.args.at _ _ c.in_ok-get.ensures.lookup.0.2 c.in_ok-row.ensures.cases.same λ v letter ten e.
    elim c.then-row-ne87.branch [
      | then-row-ne87-via-then-row-ne87 w ↦ w.if-row-ne87.true letter
      | then-row-ne87-via-else-row-ne87+then-row-ne10 w ↦ w.if-row-ne10.true ten
    ]

pub returns-in_err-column : goal.returns-in_err-column
returns-in_err-column c =
    rw c.from_residual-in_err-column.ensures
    (no-number c.args.s.now c.args.at _ _ c.in_ok-get.ensures.lookup.0.2 c.in_ok-row.ensures.cases.same
    c.in_err-column.ensures)

pub returns : goal.returns
returns c =
    past-word c.args.s.now c.args.at _ _ c.in_ok-get.ensures.lookup.0.2 c.in_ok-row.ensures.cases.same c.in_ok-column.field-0
    (omega (arith, c.in_ok-row.ensures.cases.enough, c.in_ok-get.ensures.lookup.0.3)) c.if-row-ne87.false c.if-row-ne10.false
    c.in_ok-column.ensures
