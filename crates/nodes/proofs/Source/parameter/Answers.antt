-- `Source::parameter` meets its contract: a parameter before the first mark stands so many rows after the first, any other so
-- many after its mark, and there is a mark wherever there is a parameter. Assumes nothing.
use Prim.Native.Nat.{◌+◌, ◌-◌, ◌/◌, ◌≤◌}
use native.Mathlib.Omega.{arith}
use lib.ListN.{length}
use Rattle.std.specs.Prelude.{None}
use Rattle.nodes.proofs.Laws.{parameter-none, parameter-first, parameter-out, parameter-marked, mark-read}
use Rattle.nodes.proofs.Laws.{rows_none, rows-first, rows-unmarked, rows-marked}
use Rattle.nodes.proofs.Source.parameter.Goals as goal

pub returns-then-node-k : goal.returns-then-node-k
returns-then-node-k c = record {
  name = λ n x. parameter-none _ _ _ _ n x c.if-node-k.true;
  is = rows_none _ _ _ _ c.if-node-k.true;
}

pub returns-then-k-lt-MARK_EVERY : goal.returns-then-k-lt-MARK_EVERY
returns-then-k-lt-MARK_EVERY c =
    let there = c.if-node-k.false in
    record {
      name = λ n x. parameter-first _ _ _ _ n x there c.skip.result c.skip.ensures;
      is = rows-first _ _ _ _ there c.if-k-lt-MARK_EVERY.true c.skip.result c.skip.ensures;
    }

pub returns-in_err-marks-clause-is : goal.returns-in_err-marks-clause-is
returns-in_err-marks-clause-is c =
    rw c.from_residual.ensures
    (rows-unmarked _ _ _ _ c.if-node-k.false c.if-k-lt-MARK_EVERY.false (omega (arith, c.in_err-marks.ensures.lookup.0)))

pub returns-in_err-mark : goal.returns-in_err-mark
returns-in_err-mark c =
    let there = c.if-node-k.false in
    let late = c.if-k-lt-MARK_EVERY.false in
    let out : length c.args.self.now.index.now ≤ c.args.node.marks + (c.args.k / 16 - 1) =
    omega (arith, c.in_ok-marks.ensures.lookup.0.3, c.in_err-mark.ensures.lookup.3) in
    rw c.from_residual-in_err-mark.ensures record {
      name = λ n x. parameter-out _ _ _ _ n x there late None out;
      is = rows-unmarked _ _ _ _ there late out;
    }

pub returns : goal.returns
returns c =
    let there = c.if-node-k.false in
    let late = c.if-k-lt-MARK_EVERY.false in
    let there_is = c.in_ok-marks.ensures.lookup.0 in
    let at = c.in_ok-mark.ensures.lookup.3 in
    let mark = mark-read _ _ _ _ _ there_is.0 there_is.2 (at.1 0) in
    let rows_are = rw mark at c.skip-2.ensures in
    record {
      name = λ n x. parameter-marked _ _ _ _ n x there late c.skip-2.result rows_are;
      is = rows-marked _ _ _ _ there late (omega (arith, there_is.3, at.0)) c.skip-2.result rows_are;
    }
