-- The table of a group's lines so far, by type and offset: two lists of 307 places, of which one with type 0 and offset 0 is
-- free. A line is sought from its own place down, and then from the last, up to a place that has it or is free. Assumes
-- nothing.
use Rattle.std.specs.Prelude.{◌≡◌, Bool, true, false, List, ℕ, zero, suc, ◌+◌, ◌*◌, ◌%◌, ◌^◌, ◌<◌, eqb, get_or}
use Rattle.std.specs.Prelude.{Option, None, Some}
use Rattle.std.specs.Option.{unwrap_or}
use Rattle.text.specs.Bytes.{cond, both, either}
use Rattle.tree.specs.Tree.{Field}
use Rattle.tree.specs.Read.{among}
use Rattle.zeroing.specs.Lines.{repeats}

-- how many places the table has
abbrev pub table_size : ℕ
table_size = 307

-- whether a place has a type and an offset
abbrev pub has_both : List ℕ → List ℕ → ℕ → ℕ → ℕ → Bool
has_both offsets types type offset i = both (eqb (get_or offsets i 0) offset) (eqb (get_or types i 0) type)

-- whether a place has the line of a type at an offset, or is free, where both are 0
abbrev pub stops : List ℕ → List ℕ → ℕ → ℕ → ℕ → Bool
stops offsets types type offset i = either (has_both offsets types type offset i) (has_both offsets types 0 0 i)

-- the last such place below one; `none` where there is none
unfoldable pub place_below : List ℕ → List ℕ → ℕ → ℕ → ℕ → ℕ → ℕ
place_below offsets types type offset none zero = none
place_below offsets types type offset none (suc i) =
    cond (stops offsets types type offset i) i (place_below offsets types type offset none i)

-- the place of a number, if it is inside the table; the size stands for none
abbrev pub IsPlace : Option ℕ → ℕ → Type 0
IsPlace (Some i) p = (i ≡ p) × (i < table_size)
IsPlace None p = table_size ≡ p

-- what a search from one place on and below another found: the last place below the other, unless it lies below the one
pub record FoundIn (offsets types : List ℕ) (type offset from to : ℕ) (r : Option ℕ) : Type 0 where
  pub found : place_below offsets types type offset table_size to
      ≡ unwrap_or r (place_below offsets types type offset table_size from)
  pub inside : (i : ℕ) → r ≡ Some i → i < table_size

-- how many places are a block, which a long search looks at in one turn
abbrev pub block_size : ℕ
block_size = 8

-- whether some places may stop a search for a line at an offset, by their offsets alone: a free place has offset 0
abbrev pub may_stop : List ℕ → ℕ → Bool
may_stop offsets offset = either (among offset offsets) (among 0 offsets)

-- a line's own place: the lines of one type at offsets in a row stand 13 apart, and those of the twelve types beside each other
abbrev pub own_place : ℕ → ℕ → ℕ
own_place type offset = (offset % 65536 * 13 + type) % table_size

-- the place where a line stands, or may be put: from its own place down, and from the last where there is none; the size where
-- there is none at all
abbrev pub table_place : List ℕ → List ℕ → ℕ → ℕ → ℕ
table_place offsets types type offset =
    place_below offsets types type offset (place_below offsets types type offset table_size table_size)
    (own_place type offset + 1)

-- the table keeps the lines that some fields have: what it has is one of them, and a line whose place is free is none of them
pub record KeptLines (offsets types : List ℕ) (has : ℕ → ℕ → Bool) : Type 0 where
  pub held : (i : ℕ) → (get_or types i 0 ≡ 0 → ⊥) → has (get_or types i 0) (get_or offsets i 0) ≡ true
  pub free : (type offset : ℕ) → (type ≡ 0 → ⊥) → offset < 2 ^ 32 → table_place offsets types type offset < table_size
      → get_or types (table_place offsets types type offset) 0 ≡ 0 → has type offset ≡ false

-- the lines of some fields, and one more
abbrev pub with_line : ℕ → ℕ → List Field → ℕ → ℕ → Bool
with_line type offset fs c o = either (repeats c o fs) (both (eqb offset o) (eqb type c))

-- whether a line is one of those of some fields, and the table that keeps it with them
pub record Knows (type offset : ℕ) (fs : List Field) (r : Bool) (offsets types : List ℕ) : Type 0 where
  pub again : r ≡ repeats type offset fs
  pub kept : KeptLines offsets types (with_line type offset fs)
