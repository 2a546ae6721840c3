-- `verdict::report::write_report` meets its contract: a refused sheet, or both parts of an admitted one. Assumes nothing.
use Prim.Native.Nat.{ℕ, ◌≤◌}
use native.Mathlib.Omega.{arith}
use lib.ListN.{length}
use Rattle.nodes.specs.Index.{index_size}
use Rattle.verdict.proofs.ReportLaws.{nothing-first, refusal-second, admitted-first, admitted-second}
use Rattle.verdict.proofs.report.write_report.Goals as goal

index-fits : (n : ℕ) → index_size n ≤ 1793
index-fits n = omega arith

pub returns-in-Err-clause-first : goal.returns-in-Err-clause-first
returns-in-Err-clause-first c =
    nothing-first c.args.s.now c.in-Err.refused (rw c.in-Err.is at c.admit.ensures.answer) _ _ c.at.ensures

pub returns-in-Err-clause-second : goal.returns-in-Err-clause-second
returns-in-Err-clause-second c =
    refusal-second c.args.s.now c.in-Err.refused (rw c.in-Err.is at c.admit.ensures.answer) _ _ _ c.refusal.ensures

pub returns-clause-first : goal.returns-clause-first
returns-clause-first c =
    admitted-first c.args.s.now c.admit.new.index tt (rw c.in_default.is at c.admit.ensures.answer)
    (c.admit.ensures.index (index-fits (length c.args.s.now))) c.new.result c.new.ensures _ _ _ _ _ c.list_sheet-sorted.ensures

pub returns-clause-second : goal.returns-clause-second
returns-clause-second c =
    admitted-second c.args.s.now c.admit.new.index tt (rw c.in_default.is at c.admit.ensures.answer)
    (c.admit.ensures.index (index-fits (length c.args.s.now))) c.new.result c.new.ensures _ _ _ _ _ c.list_sheet-sorted.ensures
    _ _ _ c.saturating_add-slots.ensures c.tally.ensures
