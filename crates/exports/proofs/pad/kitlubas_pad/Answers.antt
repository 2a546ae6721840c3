-- `exports::kitlubas_pad` meets its contract: a fill count past the end, a sheet that is measured and does not fit, and one that
-- does. Assumes nothing.
use Rattle.exports.proofs.PadLaws.{pad-past, pad-long, pad-done}
use borrow.Author.Rules.{rules}
use Rattle.exports.proofs.pad.kitlubas_pad.Goals as goal

pub returns-then-buf-fill : goal.returns-then-buf-fill
returns-then-buf-fill c =
    let a = c.args in
    rw c.number.ensures (pad-past a.s.now a.buf.now a.fill.now _ c.at-start.ensures _ c.fill.ensures c.if-buf-fill.true)

pub returns-then-buf-fill-2 : goal.returns-then-buf-fill-2
returns-then-buf-fill-2 c =
    let a = c.args in
    rw c.number-then-buf-fill-2.ensures (pad-long a.s.now a.buf.now a.fill.now _ c.at-start.ensures _ c.fill.ensures
    (search rules) c.if-buf-fill.false c.pad-measured.ensures _ c.fill-2.ensures c.if-buf-fill-2.true)

pub returns : goal.returns
returns c =
    let a = c.args in
    pad-done a.s.now a.buf.now a.fill.now _ c.at-start.ensures _ c.fill.ensures (search rules) c.if-buf-fill.false
    c.pad-measured.ensures _ c.fill-2.ensures c.if-buf-fill-2.false c.pad-end.ensures _ c.fill-3.ensures
