-- `programs::each_sheet` ends: each turn goes past a sheet. Before each, the calls that are still owed are those at the sheets
-- from here on. Assumes nothing.
use Rattle.std.proofs.Common.{length, ◌-◌}
use Rattle.std.specs.Fn.{TakesAt, CalledAt}
use Rattle.programs.proofs.HandingLaws.{Handing}
use Rattle.programs.proofs.each_sheet.Given as goal

abbrev pub invariant-loop-at : goal.invariant-loop-at
invariant-loop-at g l = Handing (TakesAt g.F.FnMut) (CalledAt g.F.FnMut) l.fn.f l.input l.f l.at

abbrev pub decreases-loop-at : goal.decreases-loop-at
decreases-loop-at g l = length l.input - l.at
