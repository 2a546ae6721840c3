-- `text::Text::bytes` meets its contract, by the test that chose the way. Assumes nothing.
use native.Mathlib.Omega.{arith}
use Rattle.text.proofs.Places.{copied, counted}
use Rattle.text.proofs.Text.bytes.Goals as goal

pub returns-then-at-buf : goal.returns-then-at-buf
returns-then-at-buf c =
    let a = c.args in
    rw c.past.ensures (counted a.buf.now a.self a.s.now (omega arith) (omega arith))

pub returns-then-s-buf : goal.returns-then-s-buf
returns-then-s-buf c = copied _ _ _ _ (omega arith) (omega arith) c.copy.ensures
