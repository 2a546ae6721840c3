-- `getter_code::untyped` meets its contract: of a parameter's type without a default, or untyped. Assumes nothing.
use Rattle.text.proofs.Laws.{◌⨾◌}
use Rattle.getter_code.proofs.Laws.{any-pointer}
use Rattle.getter_code.proofs.untyped.Goals as goal

pub returns-then-parameter : goal.returns-then-parameter
returns-then-parameter c =
    rw c.if-parameter.true c.from_pointer.ensures

pub returns : goal.returns
returns c =
    rw (c.if-parameter.false, ← any-pointer _ _ _, ← c.any_pointer_head.ensures)
    (c.bytes-t.ensures ⨾ c.bytes-t-2.ensures ⨾ c.number-t.ensures ⨾ c.bytes.ensures)
