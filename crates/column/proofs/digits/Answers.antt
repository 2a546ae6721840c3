-- `column::digits` meets its contract. At each turn the number of the whole is that of `v` and the digits from `b-index` on, and
-- `v` has at most as many digits as there were turns. Assumes nothing.
use mathlib.Core.Path.{sym, ◌∙◌}
use Prim.Native.Nat.{◌<◌, ◌^◌}
use native.Mathlib.Omega.{arith}
use lib.ListN.{length}
use Rattle.column.proofs.Laws.{DigitAt, in_front, next_digit, no_digit, few_digits, one_more_digit, below_ten}
use Rattle.column.proofs.digits.Goals as goal
use Rattle.column.proofs.digits.Goals.{After-digit}

-- the byte of this turn, in the whole
byte : (c : After-digit) → DigitAt c.args.t.now c.loop-b.b-index c.digit.result
byte c =
    let f = c.split_at.ensures in
    in_front c.args.t.now c.split_at.result.0.now c.min.result c.loop-b.b-index _ f.front (omega arith) c.digit.ensures

small : (c : After-digit) → c.loop-b.v < 10 ^ 18
small c = few_digits c.loop-b.v c.loop-b.b-index c.loop-b.invariant.fits (omega arith)

here : (c : After-digit) → c.loop-b.b-index < length c.args.t.now
here c = omega arith

pub overflow_mul-v : goal.overflow_mul-v
overflow_mul-v c = omega (arith, few_digits c.loop-b.v c.loop-b.b-index c.loop-b.invariant.fits (omega arith))

pub returns-in_err-v : goal.returns-in_err-v
returns-in_err-v c =
    let d = (goal.at.returns-in_err-v c).After-digit in
    let none = no_digit c.args.t.now c.loop-b.b-index c.loop-b.v (here d) (omega (arith, small d)) _ (byte d) c.in_err-v.was in
    c.from_residual.ensures ∙ sym (c.loop-b.invariant.so_far ∙ none)

pub overflow_add-v : goal.overflow_add-v
overflow_add-v c =
    let d = (goal.at.overflow_add-v c).After-digit in
    omega (arith, small d, below_ten c.args.t.now c.loop-b.b-index _ _ (byte d) c.in_ok-v.was)

pub loop-b-preserved : goal.loop-b-preserved
loop-b-preserved c =
    let d = (goal.at.loop-b-preserved c).After-digit in
    let i = c.loop-b.b-index in
    record {
      so_far =
          c.loop-b.invariant.so_far
          ∙ next_digit c.args.t.now i c.loop-b.v (here d) (omega (arith, small d)) _ (byte d) _ c.in_ok-v.was;
      fits = one_more_digit _ _ _ c.loop-b.invariant.fits (below_ten c.args.t.now i _ _ (byte d) c.in_ok-v.was);
    }
