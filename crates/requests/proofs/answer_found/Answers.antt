-- `requests::answer_found` meets its contract: what was measured does not fit the free part, or is written there.
-- Assumes nothing.
use Prim.Native.Nat.{◌-◌, ◌^◌, ◌<◌}
use lib.ListN.{length}
use native.Mathlib.Omega.{arith}
use Rattle.nodes.specs.Index.{sheet_of}
use Rattle.requests.specs.Requests.{accessor_text}
use Rattle.std.proofs.lemmas.Result.{err_from_is_err_and}
use Rattle.requests.proofs.AnswerLaws.{own-refused, own-long, own-text}
use borrow.Author.Rules.{rules}
use Rattle.requests.proofs.answer_found.Goals as goal
use Rattle.requests.proofs.answer_found.Goals.{Start}

room : (c : Start) → length c.args.buf.now < 2 ^ 64 - 1
room c = search rules

pub returns-then-buf-fill-clause-indexed : goal.returns-then-buf-fill-clause-indexed
returns-then-buf-fill-clause-indexed c = λ nodes x at e h.
    own-long c.args.buf.now c.args.t c.requires _ (room (goal.at.returns-then-buf-fill-clause-indexed c).Start)
    (accessor_text (sheet_of c.args.source.now.root.now nodes) at c.args.accessor c.args.t.level)
    (rw c.level.ensures at (rw c.in_ok-n.was at (c.measure.ensures nodes x at e h)))
    (omega (arith, c.fill-fill.ensures, c.if-buf-fill.true))

pub returns-clause-indexed : goal.returns-clause-indexed
returns-clause-indexed c = λ nodes x at e h.
    rw c.with_fill-2.ensures
    (own-text c.args.buf.now c.args.t c.requires _ (room (goal.at.returns-clause-indexed c).Start)
    (accessor_text (sheet_of c.args.source.now.root.now nodes) at c.args.accessor c.args.t.level)
    (rw c.level.ensures at (rw c.in_ok-n.was at (c.measure.ensures nodes x at e h)))
    (omega (arith, c.fill-fill.ensures, c.if-buf-fill.false))
    _ c.fill-fill.ensures _ _ (rw c.with_fill.ensures at (c.field_accessor.ensures.text nodes x at e h)))

pub returns-in_err-n-clause-indexed : goal.returns-in_err-n-clause-indexed
returns-in_err-n-clause-indexed c = λ nodes x at e h.
    let p = err_from_is_err_and c.from_residual.result c.from_residual.ensures.1 in
    rw (p.1, p.2)
    (own-refused c.args.buf.now c.args.t c.requires
    (accessor_text (sheet_of c.args.source.now.root.now nodes) at c.args.accessor c.args.t.level) _
    (rw c.level.ensures at (rw c.in_err-n.was at (c.measure.ensures nodes x at e h))))
