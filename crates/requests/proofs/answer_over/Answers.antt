-- `requests::answer_over` meets its contract: what the index of an admitted sheet answers is what the sheet does.
-- Assumes nothing.
use native.Mathlib.Omega.{arith}
use Rattle.std.proofs.lemmas.List.{length-replicate}
use Rattle.std.proofs.lemmas.Result.{err_from_is_err_and}
use Rattle.requests.proofs.SheetLaws.{sheet-answered, sheet-refused, source_of, source-is}
use Rattle.requests.proofs.answer_over.Goals as goal

pub whole_as_slice-admit : goal.whole_as_slice-admit
whole_as_slice-admit g c = let h = c.requires in omega arith

pub shared_whole_as_slice-answer_by_index : goal.shared_whole_as_slice-answer_by_index
shared_whole_as_slice-answer_by_index g c = let h = c.requires in omega arith

pub returns : goal.returns
returns g c =
    sheet-answered c.args.s.now _ c.args.id c.args.request c.args.buf.now c.args.t _ _ _
    (rw c.in_ok-admit.was at c.admit.ensures.answer)
    (c.admit.ensures.index (rw (length-replicate _ _) (let h = c.requires in h.0))) _ (source-is c.args.s.now _)
    (c.answer_by_index.ensures.indexed (source_of c.args.s.now _) (source-is c.args.s.now _))

pub returns-in_err-admit : goal.returns-in_err-admit
returns-in_err-admit g c =
    let p = err_from_is_err_and c.from_residual.result c.from_residual.ensures.1 in
    rw (p.1, p.2)
    (sheet-refused c.args.s.now c.args.id c.args.request c.args.buf.now c.args.t (let h = c.requires in h.2) _
    c.in_err-admit.ensures.answer)
