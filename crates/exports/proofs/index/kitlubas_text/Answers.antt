-- `exports::index::kitlubas_text` meets its contract: what the pass over the text says is told, whole, longer or refused. Assumes
-- nothing.
use Prim.Native.Nat.{◌-◌, ◌^◌, ◌<◌}
use native.Mathlib.Omega.{arith}
use lib.ListN.{length}
use borrow.Author.Rules.{rules}
use Rattle.requests.proofs.SheetLaws.{source_of, source-is}
use Rattle.exports.proofs.PassLaws.{whole-told, long-told, refusal-told}
use Rattle.exports.proofs.index.kitlubas_text.Goals as goal
use Rattle.exports.proofs.index.kitlubas_text.Goals.{Start}

room : (c : Start) → length c.args.buf.now < 2 ^ 64 - 1
room c = search rules

pub returns-then-n-buf-clause-told : goal.returns-then-n-buf-clause-told
returns-then-n-buf-clause-told c = λ ns x o f.
    let a = c.args in
    let passed = c.in-Ok.ensures.passed (source_of a.s.now a.index.now) (source-is a.s.now a.index.now) ns x o in
    rw (← c.accessor_of-accessor.ensures)
    (whole-told _ _ _ _ (room (goal.at.returns-then-n-buf-clause-told c).Start) (omega (arith, c.if-n-buf.true))
    (passed (rw c.get.ensures f)))

pub returns-else-n-buf-clause-told : goal.returns-else-n-buf-clause-told
returns-else-n-buf-clause-told c = λ ns x o f.
    let a = c.args in
    let passed = c.in-Ok.ensures.passed (source_of a.s.now a.index.now) (source-is a.s.now a.index.now) ns x o in
    rw (← c.accessor_of-accessor.ensures, c.number.ensures)
    (long-told _ _ _ _ (omega (arith, c.if-n-buf.false)) (passed (rw c.get.ensures f)))

pub returns-in-Err-clause-told : goal.returns-in-Err-clause-told
returns-in-Err-clause-told c = λ ns x o f.
    let a = c.args in
    let passed = c.in-Err.ensures.passed (source_of a.s.now a.index.now) (source-is a.s.now a.index.now) ns x o in
    rw (← c.accessor_of-accessor.ensures, c.number-in-Err.ensures) (refusal-told _ _ _ _ (passed (rw c.get.ensures f)))
