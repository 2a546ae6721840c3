-- `getter_code::pointer_default` meets its contract: the constant, or none. Assumes nothing.
use borrow.Author.Tests.{eq-eqb, ne_eqb}
use Rattle.text.proofs.Laws.{◌⨾◌}
use Rattle.getter_code.proofs.pointer_default.Goals as goal

pub returns-then-explicit-eq1 : goal.returns-then-explicit-eq1
returns-then-explicit-eq1 c =
    rw (eq-eqb _ _ c.if-explicit-eq1.true) (c.bytes-t.ensures ⨾ c.default_name-t.ensures ⨾ c.bytes.ensures)

pub returns : goal.returns
returns c =
    rw (ne_eqb _ _ c.if-explicit-eq1.false) c.bytes-2.ensures
