-- Where a text stands: the span of a part that is taken as a row, and that of a row whose next row is said to begin somewhere.
-- It lies in the sheet, and where the next row does begin there it spans the row's text. By the tests of the definitions.
-- Assumes nothing.
use mathlib.Core.Path.{◌≡◌, refl}
use mathlib.Core.Bool.{Bool, true, false}
use mathlib.Core.List.{[]}
use Prim.Native.Nat.{ℕ, ◌+◌, ◌-◌, ◌≤◌, ◌<◌, min}
use native.Mathlib.Omega.{arith}
use lib.Dec.{eqb, ltb}
use lib.ListN.{length, get_or, drop}
use borrow.Author.Tests.{lt-ltb, le-ltb, eqb-true, eqb-false, ltb-true, ltb-false}
use Rattle.text.specs.Bytes.{Str, cond, either}
use Rattle.row.specs.Rows.{row_len, rows, rest_of}
use Rattle.row.specs.Line.{text_start, text_at}
use Rattle.row.specs.Span.{span, SpanWithin, spanned, span_from, span_to, span_between}
use Rattle.row.specs.declared.Span.{Span}
use Rattle.row.proofs.Laws.{text-none, text-short, text-part, text_out, next-after, next-ends, last-ends}

-- ---- a part that is taken as a row

module _ (s : Str) (at e : ℕ) (lo : at < e) (hi : e ≤ length s) where
  pub to_within : SpanWithin s (span_to s at e)
  unfolding span_to
  to_within = go (text_start (get_or s at 0))
    where
      go : (k : ℕ) → SpanWithin s (span_from k at e)
      go k = by (eqb k 0) (ltb (e - 1 - at) k) refl
        where
          by : (p q : Bool) → ltb (e - 1 - at) k ≡ q → SpanWithin s (cond (either p q) (span 0 0) (span (at + k) (e - 1)))
          by true q b = (omega arith, omega arith)
          by false true b = (omega arith, omega arith)
          by false false b = let l = ltb-false (e - 1 - at) k b in (omega arith, omega arith)

  -- of the row that ends there it spans the text
  pub to_text : e ≡ at + row_len (drop at s) → spanned s (span_to s at e) ≡ text_at (rows (drop at s))
  unfolding span_to
  to_text is = go (text_start (get_or s at 0)) refl
    where
      inside : at < length s
      inside = omega arith

      go : (k : ℕ) → k ≡ text_start (get_or s at 0) → spanned s (span_from k at e) ≡ text_at (rows (drop at s))
      go k start = by (eqb k 0) refl (ltb (e - 1 - at) k) refl
        where
          by : (p : Bool) → eqb k 0 ≡ p → (q : Bool) → ltb (e - 1 - at) k ≡ q
              → spanned s (cond (either p q) (span 0 0) (span (at + k) (e - 1))) ≡ text_at (rows (drop at s))
          by true a q b = text-none s at k inside start (eqb-true k 0 a)
          by false a true b = text-short s at e inside is k start (eqb-false k 0 a) (ltb-true (e - 1 - at) k b)
          by false a false b = text-part s at e inside is k start (eqb-false k 0 a) (ltb-false (e - 1 - at) k b)

-- ---- a row whose next row is said to begin at `next`

module _ (s : Str) (at next : ℕ) where
  module _ (e : ℕ) (least : e ≡ min next (length s)) where
    pub between_none : e ≤ at → span 0 0 ≡ span_between s at next
    unfolding span_between
    between_none h = rw (le-ltb at (min (length s) next) (omega arith))

    pub between_some : (p : Span) → at < e → p ≡ span_to s at e → p ≡ span_between s at next
    unfolding span_between
    between_some p h is =
        let m : min (length s) next ≡ e = omega arith in
        rw (m, lt-ltb at e h) is

  between-within : SpanWithin s (span_between s at next)
  unfolding span_between
  between-within = go (ltb at (min (length s) next)) refl
    where
      go : (p : Bool) → ltb at (min (length s) next) ≡ p → SpanWithin s (cond p (span_to s at (min (length s) next)) (span 0 0))
      go true h = let l = ltb-true at (min (length s) next) h in to_within s at (min (length s) next) l (omega arith)
      go false h = (omega arith, omega arith)

  between-text :
      rows (drop next s) ≡ rest_of (rows (drop at s)) → spanned s (span_between s at next) ≡ text_at (rows (drop at s))
  unfolding span_between
  between-text is = go (ltb at (min (length s) next)) refl
    where
      ends : at < length s → min (length s) next ≡ at + row_len (drop at s)
      ends h = by (ltb (length s) next) refl
        where
          by : (p : Bool) → ltb (length s) next ≡ p → min (length s) next ≡ at + row_len (drop at s)
          by true l = let m = ltb-true (length s) next l in omega (arith, last-ends s at next h is m)
          by false l = let m = ltb-false (length s) next l in omega (arith, next-ends s at next h is m)

      go : (p : Bool) → ltb at (min (length s) next) ≡ p
          → spanned s (cond p (span_to s at (min (length s) next)) (span 0 0)) ≡ text_at (rows (drop at s))
      go true h =
          let l = ltb-true at (min (length s) next) h in
          to_text s at (min (length s) next) l (omega arith) (ends (omega arith))
      go false h = let l = ltb-false at (min (length s) next) h in out (ltb at (length s)) refl l
        where
          out : (p : Bool) → ltb at (length s) ≡ p → min (length s) next ≤ at → [] ≡ text_at (rows (drop at s))
          out true i l =
              let j = ltb-true at (length s) i in
              let z : ⊥ = omega (arith, next-after s at next j is) in
              absurd z
          out false i l = text_out s at (ltb-false at (length s) i)

  -- what `text_span` promises of its span
  pub between_told :
      (p : Span) → p ≡ span_between s at next
      → SpanWithin s p
      × ((rows (drop next s) ≡ rest_of (rows (drop at s)) → spanned s p ≡ text_at (rows (drop at s)))
      × (p ≡ span_between s at next))
  between_told p e = rw e (between-within, (between-text, refl))

-- the span between two rows, where there is none and where there is one
pub ruleset between = (between_told, between_none, between_some)
