-- `names::Snake::write_capitals` meets its contract. The loop's invariant: the rest of the name in capitals, written now, makes
-- what the whole makes from the start. Assumes nothing.
use mathlib.Core.Path.{◌≡◌}
use mathlib.Core.List.{List, ◌++◌, map}
use Prim.Native.Nat.{ℕ, ◌+◌, ◌<◌}
use lib.ListN.{length, drop, get_or, drop_of_length-le}
use Rattle.text.specs.Bytes.{unit}
use Rattle.text.proofs.Laws.{left-more, left-none, drop-unit}
use Rattle.names.specs.Names.{to_ascii_uppercase}
use Rattle.names.proofs.Laws.{upper_case}
use Rattle.names.proofs.Snake.write_capitals.Goals as goal

turn : (i : ℕ) (s : List ℕ) → i < length s
    → map to_ascii_uppercase (drop i s) ≡ unit (to_ascii_uppercase (get_or s i 0)) ++ map to_ascii_uppercase (drop (i + 1) s)
turn i s h = rw (drop-unit i s h)

pub loop-b-preserved : goal.loop-b-preserved
loop-b-preserved c =
    left-more
    (rw (turn _ _ c.loop-b-test.true, ← upper_case _, ← c.to_ascii_uppercase.ensures.value) at c.loop-b.invariant)
    c.byte-t.ensures

pub returns : goal.returns
returns c =
    rw (← c.name-b-items.ensures)
    (left-none (rw (drop_of_length-le c.name-b-items.result.now c.loop-b-test.false) at c.loop-b.invariant))
