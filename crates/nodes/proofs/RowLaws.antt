-- Where the rows after a row begin, by the search for its end; past the end of the sheet there are none. Assumes nothing.
use mathlib.Core.Path.{◌≡◌}
use Prim.Native.Nat.{ℕ, ◌+◌, ◌<◌}
use native.Mathlib.Decide.{dec_lt}
use native.Mathlib.Omega.{arith}
use lib.ListN.{length, drop}
use Rattle.text.specs.Bytes.{Str}
use Rattle.row.specs.Rows.{row_len, rows, rest_of}
use Rattle.row.proofs.Laws.{after, rows_out}

pub row-after : (s : Str) (at e : ℕ) → e ≡ at + row_len (drop at s) → rows (drop e s) ≡ rest_of (rows (drop at s))
unfolding rest_of
row-after s at e is = go (dec_lt at (length s))
  where
    go : Dec (at < length s) → rows (drop e s) ≡ rest_of (rows (drop at s))
    go (yes h) = after s at e h is
    go (no h) = rw (rows_out s at (omega arith), rows_out s e (omega arith))
