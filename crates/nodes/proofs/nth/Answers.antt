-- `nodes::nth` meets its contract: each return is one law for the entry with a number. Assumes nothing.
use mathlib.Core.Path.{◌∙◌}
use native.Mathlib.Omega.{arith}
use Rattle.nodes.proofs.Laws.{with-empty, with-past, with_out, with-entry}
use Rattle.nodes.proofs.nth.Goals as goal

pub returns-in_err-count : goal.returns-in_err-count
returns-in_err-count c = c.from_residual.ensures ∙ with-empty _ _ c.in_err-count.ensures.cases

pub returns-then-min-k : goal.returns-then-min-k
returns-then-min-k c = with-past _ _ _ _ c.in_ok-count.ensures.cases.0 (omega arith)

pub returns-in_err-get : goal.returns-in_err-get
returns-in_err-get c =
    c.from_residual-in_err-get.ensures
    ∙ with_out _ _ _ _ c.in_ok-count.ensures.cases.0 (omega arith) (omega (arith, c.in_err-get.ensures.lookup.0))

pub returns-in_err-numbers : goal.returns-in_err-numbers
returns-in_err-numbers c =
    c.from_residual-in_err-numbers.ensures
    ∙ with_out _ _ _ _ c.in_ok-count.ensures.cases.0 (omega arith)
    (omega (arith, c.in_err-numbers.ensures.cases, c.in_ok-get.ensures.lookup.0.3))

pub returns : goal.returns
returns c =
    rw (c.from_numbers.ensures, c.in_ok-numbers.ensures.cases.same, c.in_ok-get.ensures.lookup.0.2)
    (with-entry _ _ _ _ c.in_ok-count.ensures.cases.0 (omega arith)
    (omega (arith, c.in_ok-numbers.ensures.cases.enough, c.in_ok-get.ensures.lookup.0.3)))
