-- `verdict::report::Listed::slot` meets its contract: seven fragments, one after the other, are a line. Assumes nothing.
use mathlib.Core.Path.{◌≡◌}
use mathlib.Core.List.{append-nil}
use Prim.Native.Nat.{◌+◌, ◌-◌, ◌^◌, min}
use native.Mathlib.Omega.{arith}
use Rattle.text.proofs.Laws.{◌⨾◌}
use Rattle.verdict.specs.Report.{judged_line}
use Rattle.verdict.proofs.report.Listed.slot.Goals as goal

pub returns : goal.returns
unfolding judged_line
returns c =
    let count : c.saturating_add.result ≡ min (c.args.self.count + 1) (2 ^ 64 - 1) = c.saturating_add.ensures in
    record {
      lines =
          rw (append-nil (judged_line (record { node = c.args.id; name = c.args.name.now; verdict = c.args.verdict })))
          (rw c.words.ensures at
          (c.bytes-t.ensures ⨾ c.number-t.ensures ⨾ c.bytes-t-2.ensures ⨾ c.bytes-t-3.ensures ⨾ c.bytes-t-4.ensures
          ⨾ c.bytes-t-5.ensures ⨾ c.bytes-t-6.ensures));
      count = omega (arith, count);
    }
