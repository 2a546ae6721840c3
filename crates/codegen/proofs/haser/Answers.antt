-- `codegen::haser` meets its contract: no lines, or those of a pointer, their texts one after the other. Assumes nothing.
use mathlib.Core.Path.{sym, ◌∙◌}
use Rattle.text.proofs.Laws.{◌⋄◌, flat, reworded}
use Rattle.codegen.proofs.Laws.{haser-none, haser-lines}
use Rattle.codegen.proofs.haser.Goals as goal

pub returns-then-not-is_pointer : goal.returns-then-not-is_pointer
returns-then-not-is_pointer c =
    rw (haser-none _ _ _ _ _ _ (sym c.is_pointer.ensures ∙ c.if-not-is_pointer.true)) c.no_lines.ensures

pub returns : goal.returns
returns c =
    reworded (haser-lines _ _ _ _ _ _ (sym c.is_pointer.ensures ∙ c.if-not-is_pointer.false))
    (c.margin-t.ensures ⋄ c.broken-t.ensures ⋄ flat c.snake_name-t.ensures ⋄ flat c.bytes-t.ensures ⋄ c.tag_test_line-t.ensures
    ⋄ c.inner_margin-t.ensures ⋄ flat c.not_null-t.ensures ⋄ c.broken.ensures)
