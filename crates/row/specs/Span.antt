-- Where the text of a row stands, for whoever says where the next row begins. Assumes nothing.
use Rattle.std.specs.Prelude.{ℕ, ◌+◌, ◌-◌, ◌≤◌, min, eqb, ltb, length, get_or, take, drop}
use Rattle.text.specs.Bytes.{Str, cond, either}
use Rattle.row.specs.Line.{text_start}
use Rattle.row.specs.declared.Span.{Span}

abbrev pub span : ℕ → ℕ → Span
span start end = record { start = start; end = end }

-- a span lies within s, and the bytes that it spans
abbrev pub SpanWithin : Str → Span → Type 0
SpanWithin s p = (p.start ≤ p.end) × (p.end ≤ length s)

abbrev pub spanned : Str → Span → Str
spanned s p = take (p.end - p.start) (drop p.start s)

-- where the text of the part from `at` to `e` stands, taken as a row with a letter whose text begins k bytes on: up to the
-- part's last byte; a line without a text, and a part that is too short, have an empty one
abbrev pub span_from : ℕ → ℕ → ℕ → Span
span_from k at e = cond (either (eqb k 0) (ltb (e - 1 - at) k)) (span 0 0) (span (at + k) (e - 1))

unfoldable pub span_to : Str → ℕ → ℕ → Span
span_to s at e = span_from (text_start (get_or s at 0)) at e

-- where the text of the row at a position stands if the next row begins at `next`, or the sheet ends before that; empty where
-- no row stands at the position or the next would not begin after it
unfoldable pub span_between : Str → ℕ → ℕ → Span
span_between s at next = cond (ltb at (min (length s) next)) (span_to s at (min (length s) next)) (span 0 0)

-- that text
abbrev pub text_between : Str → ℕ → ℕ → Str
text_between s at next = spanned s (span_between s at next)
