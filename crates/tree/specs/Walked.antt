-- What the code says of a reading: not the tree, but where the reading came to, or what it refused where. Assumes nothing.
use Rattle.std.specs.Prelude.{ℕ, eqb, drop, Result, Ok, Err}
use Rattle.text.specs.Bytes.{Str, cond}
use Rattle.row.specs.Rows.{rows}
use Rattle.row.specs.Line.{fault}
use Rattle.row.specs.declared.Line.{Line}
use Rattle.row.specs.declared.BadLine.{BadLine}
use Rattle.terms.specs.declared.refusals.Refusal.TheVariants as refusal
use Rattle.terms.specs.Refusals.{number}
use Rattle.tree.specs.Reader.{Reading, got, no}
use Rattle.tree.specs.declared.RefusedRow.{RefusedRow}
use Rattle.tree.specs.declared.Counted.{Counted}

-- a reading without what was read
abbrev pub passed : {A : Type 0} → Reading A → Reading (Unit {0})
passed (got a rs) = got tt rs
passed (no k rs) = no k rs

-- a reading that is refused at a row
abbrev pub refused_row : {A : Type 0} → Str → RefusedRow → Reading A
refused_row s r = no (fault (number r.refusal) r.column) (rows (drop r.at s))

-- the rows that a walk's position stands for, or the row that it refuses
abbrev pub walked : Str → Result ℕ RefusedRow → Reading (Unit {0})
walked s (Ok at) = got tt (rows (drop at s))
walked s (Err r) = refused_row s r

-- a walk over rows that are counted
abbrev pub counted : Str → Result Counted RefusedRow → Reading ℕ
counted s (Ok c) = got c.count (rows (drop c.next s))
counted s (Err r) = refused_row s r

-- a bad line that stands at a place is refused by its fault
abbrev pub faulty_at : BadLine → ℕ → RefusedRow
faulty_at b at = record { refusal = b.refusal; column = b.column; at = at }

-- a line that may not stand at a place
abbrev pub misplaced_at : ℕ → RefusedRow
misplaced_at at = record { refusal = refusal.BadLine; column = 1; at = at }

-- where a line with a letter may stand, and this one stands: a bad one is refused by its fault, and at any other the walk ends
abbrev pub end_at : ℕ → Result Line BadLine → ℕ → Result ℕ RefusedRow
end_at letter (Ok l) at = Ok at
end_at letter (Err b) at = cond (eqb b.letter letter) (Err (faulty_at b at)) (Ok at)

-- where a line with a letter must stand, and this one stands: a bad one is refused by its fault, and any other by 2
abbrev pub wrong_at : ℕ → Result Line BadLine → ℕ → RefusedRow
wrong_at letter line at = elim (end_at letter line at) [ Ok q ↦ misplaced_at at | Err r ↦ r ]
