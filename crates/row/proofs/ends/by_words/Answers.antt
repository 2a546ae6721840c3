-- `row::by_words` meets its contract. At each turn the first byte 10 from `i` on is the first from the start on.
-- Assumes nothing.
use mathlib.Core.Path.{ap, ◌∙◌}
use Rattle.std.specs.Prelude.{Some}
use Prim.Native.Nat.{ℕ, ◌+◌}
use native.Mathlib.Omega.{arith}
use Rattle.row.proofs.NewlineLaws.{found-bit}
use Rattle.row.proofs.ends.by_words.Goals as goal

pub returns-then-bits-ne0 : goal.returns-then-bits-ne0
returns-then-bits-ne0 c =
    let s = c.args.s.now in
    let i = c.loop-i.i in
    ap (λ (k : ℕ). Some (i + k)) c.before_first.ensures
    ∙ found-bit s i _ _ (omega (arith, c.loop-i-test.true, c.loop-i.invariant.0)) (λ j. (c.type_inv.s j).fits)
    c.eight_bytes.ensures c.newline_bits-bits.ensures c.if-bits-ne0.true
    ∙ c.loop-i.invariant.1
