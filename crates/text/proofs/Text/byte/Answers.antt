-- `text::Text::byte` meets its contract: before the end the byte is stored, past it only the count moves. Assumes nothing.
use native.Mathlib.Omega.{arith}
use Rattle.text.specs.Bytes.{unit}
use Rattle.text.proofs.Places.{stored, counted}
use Rattle.text.proofs.Text.byte.Goals as goal

pub returns-then-at-buf : goal.returns-then-at-buf
returns-then-at-buf c = stored _ _ _ (omega arith)

pub returns : goal.returns
returns c =
    let a = c.args in
    rw c.past.ensures (counted a.buf.now a.self (unit a.b) (omega arith) (omega arith))
