-- `replay_sheets::main` may hand its closure to `each_sheet`: it may always be called. Assumes nothing.
use Rattle.std.proofs.Common.{of_calls}
use Rattle.programs.proofs.HandingLaws.{callable_always}
use Rattle.replay_sheets.proofs.main.Goals as goal

pub each_sheet-requires : goal.each_sheet-requires
each_sheet-requires c = search (of_calls, callable_always)
