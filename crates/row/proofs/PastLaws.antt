-- Laws of a row that is passed over. A P row is its letter, a space, and a name that ends in byte 10; so its end is the name's.
-- A W row is its letter, a number in its columns, and byte 10; so its end is known. Assumes nothing.
use mathlib.Core.Path.{◌≡◌, refl, sym, ap, ◌∙◌}
use mathlib.Core.List.{[], ◌∷◌, ◌++◌, append_assoc}
use Rattle.std.specs.Prelude.{None, Some}
use Prim.Native.Nat.{ℕ, ◌+◌, ◌-◌, ◌≤◌, ◌<◌}
use native.Mathlib.Nat.{add-zero, add-sub_cancel_left}
use native.Mathlib.Numerals.{add-one}
use native.Mathlib.Omega.{arith}
use lib.ListN.{length, get_or, take, drop, take-append-drop, length-append, length-drop, drop_of_length-le}
use lib.Seq.{drop-drop, drop-cons, get_or-drop, take-append_seam, get_or-append_seam, length-take-le}
use Rattle.text.specs.Bytes.{Str, unit}
use Rattle.column.specs.Number.{most, padded, column_of}
use Rattle.column.specs.Texts.{NameTo}
use Rattle.column.proofs.Laws.{rest-is}
use Rattle.column.proofs.NameLaws.{bounds}
use Rattle.column.proofs.PaddedLaws.{padded-length, column-printed, column_stands}
use Rattle.row.specs.Rows.{row_len, rows, rest_of}
use Rattle.row.specs.Line.{Content, Parameter, Word, empty_row, line_of, line_at, text_of}
use Rattle.row.specs.Print.{columns, row_text, print_parameter, print_word, print_line, Fits}
use Rattle.row.specs.Past.{ParameterAt, WordAt}
use Rattle.row.proofs.Laws.{rows_split}
use Rattle.row.proofs.PrintLaws.{read-printed, rows-printed}
use Rattle.row.proofs.ReadLaws.{Good, printed-line}

-- a P row printed in front of other bytes
printed : (text rest : Str) → print_parameter text ++ rest ≡ 80 ∷ 32 ∷ (text ++ 10 ∷ rest)
unfolding row_text columns
printed text rest = ap (λ (s : Str). 80 ∷ 32 ∷ s) (append_assoc text (unit 10) rest)

-- a W row printed
word-printed : (v : ℕ) → print_word v ≡ 87 ∷ (padded v ++ unit 10)
unfolding row_text columns
word-printed v = refl

-- bytes of which the first row says a line
record Front (l : Content) (d : Str) : Type 0 where
  text : Str
  rest : Str
  is : d ≡ print_line l text ++ rest
  fits : Fits l text

front : (l : Content) (d : Str) → Good l → line_at (rows d) ≡ l → Front l d
unfolding rows line_at
front l [] g e = let z : Good empty_row = rw (← e) at g in absurd z
front l (b ∷ u) g e =
    let d : Str = b ∷ u in
    let r = take (row_len d) d in
    let said : line_of r ≡ l = rw (rows_split b u) at e in
    let p = printed-line r l g said in
    record {
      text = text_of r;
      rest = drop (row_len d) d;
      is = sym (take-append-drop (row_len d) d) ∙ ap (λ (s : Str). s ++ drop (row_len d) d) p.whole;
      fits = p.fits;
    }

-- the bytes from a position on, and whether their first row is a P row
module _ (s : Str) (at : ℕ) where
  -- the bytes of one that is
  bytes-of : (f : Front Parameter (drop at s)) → drop at s ≡ 80 ∷ 32 ∷ (f.text ++ 10 ∷ f.rest)
  bytes-of f = f.is ∙ printed f.text f.rest

  byte-of : (f : Front Parameter (drop at s)) (k : ℕ) → get_or s (at + k) 0 ≡ get_or (80 ∷ 32 ∷ (f.text ++ 10 ∷ f.rest)) k 0
  byte-of f k = sym (get_or-drop at s k 0) ∙ ap (λ (d : Str). get_or d k 0) (bytes-of f)

  pub other-letter : (at < length s → get_or s at 0 ≡ 80 → ⊥) → line_at (rows (drop at s)) ≡ Parameter → ⊥
  other-letter h e =
      let f = front Parameter (drop at s) tt e in
      let room : 1 ≤ length (drop at s) = rw (bytes-of f) (omega arith) in
      h (omega (arith, length-drop at s, room)) (rw (add-zero at) at (byte-of f 0))

  pub no-name : ((e : ℕ) → NameTo s (at + 1) e → ⊥) → line_at (rows (drop at s)) ≡ Parameter → ⊥
  no-name h e =
      let f = front Parameter (drop at s) tt e in
      let k = at + 1 + 1 in
      let two : at + 2 ≡ k = omega arith in
      let n = length f.text in
      let here : drop k s ≡ f.text ++ 10 ∷ f.rest = rw two at (sym (drop-drop 2 at s) ∙ ap (drop 2) (bytes-of f)) in
      let ten : get_or (drop k s) n 0 ≡ 10 = rw here (get_or-append_seam f.text 10 f.rest 0) in
      h (k + n) (record {
        space = byte-of f 1;
        name = rw (add-sub_cancel_left k n, here, take-append_seam f.text (10 ∷ f.rest)) f.fits;
        ends = sym (get_or-drop k s n 0) ∙ ten;
      })

  -- a byte, and what follows it
  starts-with : (k b : ℕ) → k < length s → get_or s k 0 ≡ b → drop k s ≡ b ∷ drop (k + 1) s
  starts-with k b l e = rw add-one (drop-cons s k 0 l) ∙ ap (λ (c : ℕ). c ∷ drop (k + 1) s) e

  pub past-name : get_or s at 0 ≡ 80 → (e : ℕ) → NameTo s (at + 1) e → ParameterAt s at (e + 1)
  unfolding line_at rest_of
  past-name letter e f =
      let b = bounds s (at + 1) e f in
      let k = at + 1 + 1 in
      let n = e - k in
      let name = take n (drop k s) in
      let rest = drop (e + 1) s in
      let end : k + n ≡ e = omega (arith, b) in
      let cut : drop n (drop k s) ≡ 10 ∷ rest = drop-drop n k s ∙ rw end (starts-with e 10 b.1 f.ends) in
      let split : drop k s ≡ name ++ 10 ∷ rest = sym (take-append-drop n (drop k s)) ∙ ap (λ (r : Str). name ++ r) cut in
      let second = starts-with (at + 1) 32 (omega (arith, b)) f.space ∙ ap (λ (r : Str). 32 ∷ r) split in
      let row : drop at s ≡ print_parameter name ++ rest =
      starts-with at 80 (omega (arith, b)) letter ∙ ap (λ (r : Str). 80 ∷ r) second ∙ sym (printed name rest) in
      let first = ap rows row ∙ rows-printed Parameter name rest f.name in
      record { says = rw first (read-printed Parameter name f.name); rest = rw first refl }

-- the bytes from a position on, and whether their first row is a W row
module _ (s : Str) (at : ℕ) where
  word-length : (v : ℕ) → v ≤ most 64 → length (print_word v) ≡ 23
  word-length v l = let w = padded-length v (omega arith) in rw (word-printed v, length-append) (omega arith)

  pub word-short : length s < at + 23 → (v : ℕ) → line_at (rows (drop at s)) ≡ Word v → ⊥
  word-short h v e =
      let f = front (Word v) (drop at s) tt e in
      omega (arith, length-drop at s, ap length f.is, length-append (print_word v) f.rest, word-length v f.fits.0)

  -- as many bytes as a W row has, of what is left
  module _ (left row : Str) (rest : left ≡ take (length s - at) (drop at s)) (cut : row ≡ take 23 left) where
    is : row ≡ take 23 (drop at s)
    is = cut ∙ ap (take 23) (rest ∙ rest-is s at)

    pub no-word :
        ((v : ℕ) → get_or row 0 0 ≡ 87 → get_or row 22 0 ≡ 10 → column_of row 1 0 (most 64) ≡ Some v → ⊥) → (v : ℕ)
        → line_at (rows (drop at s)) ≡ Word v → ⊥
    no-word h v e =
        let f = front (Word v) (drop at s) tt e in
        let w = padded-length v (omega (arith, f.fits.0)) in
        let whole : take 23 (print_word v ++ f.rest) ≡ print_word v =
        rw (← word-length v f.fits.0) (take-append_seam (print_word v) f.rest) in
        let text : row ≡ 87 ∷ (padded v ++ unit 10) = is ∙ ap (take 23) f.is ∙ whole ∙ word-printed v in
        let ten : get_or (padded v ++ unit 10) 21 0 ≡ 10 = rw (← w) (get_or-append_seam (padded v) 10 [] 0) in
        h v (rw text refl) (rw text ten)
        (column-printed row (unit 10) 1 0 (most 64) v (rw text refl) (omega (arith, f.fits.0)) (omega arith) f.fits.0)

    pub no-number : None ≡ column_of row 1 0 (most 64) → (v : ℕ) → line_at (rows (drop at s)) ≡ Word v → ⊥
    no-number n = no-word λ v letter ten e. let z : ◌≡◌ {A = ℕ} 0 1 = cc in omega arith

    pub past-word :
        (v : ℕ) → at + 23 ≤ length s → get_or row 0 0 ≡ 87 → get_or row 22 0 ≡ 10 → Some v ≡ column_of row 1 0 (most 64)
        → WordAt s at (at + 23)
    unfolding line_at rest_of
    past-word v room letter ten e =
        let c = column_stands row 1 0 (most 64) v (sym e) in
        let m : length row ≡ 23 = rw is (length-take-le 23 (drop at s) (omega (arith, length-drop at s))) in
        let out : length row ≤ 23 = omega arith in
        let last : drop 22 row ≡ unit 10 = drop-cons row 22 0 (omega arith) ∙ rw (ten, drop_of_length-le row out) in
        let text : row ≡ print_word v = drop-cons row 0 0 (omega arith) ∙ rw (letter, c.here, last, word-printed v) in
        let others = drop (at + 23) s in
        let fits : Fits (Word v) [] = (c.high, refl) in
        let split : drop at s ≡ print_word v ++ others =
        sym (take-append-drop 23 (drop at s)) ∙ rw (← is, text, drop-drop 23 at s) in
        let first = ap rows split ∙ rows-printed (Word v) [] others fits in
        record { value = v; says = rw first (read-printed (Word v) [] fits); rest = rw first refl }
