-- Laws of rows and of the loops over them: what the rows from a position on are, by the byte there. Assumes nothing.
use mathlib.Core.Path.{◌≡◌, refl, sym, ap, ◌∙◌}
use mathlib.Core.Bool.{Bool, true, false}
use mathlib.Core.List.{List, [], ◌∷◌, ◌++◌}
use Prim.Native.Nat.{ℕ, zero, suc, ◌+◌, ◌-◌, ◌<◌, ◌≤◌, min}
use native.Mathlib.Decide.{dec_le}
use native.Mathlib.Omega.{arith}
use native.Mathlib.Nat.{add-sub_cancel_left, suc-add, zero-add, sub-zero, suc-sub-suc}
use lib.ListN.{length, get_or, drop, take, drop_of_length-le, length-take, length-drop}
use lib.Seq.{drop-cons, drop-drop, take_all, take-take, take-nil, length-take-le, get_or-drop, get_or-take}
use lib.Dec.{eqb}
use borrow.Author.Tests.{eq-eqb, ne_eqb}
use Rattle.std.specs.Prelude.{count_by}
use Rattle.std.proofs.lemmas.List.Recursion.{is_count_by}
use Rattle.text.specs.Bytes.{Str, cond, unit}
use Rattle.row.specs.Rows.{row_len, onto, rows, joined, rest_of, newlines, size, line_no}
use Rattle.row.specs.Line.{reader, bad_line, line_of, text_start, text_of, text_at}

-- where a row goes on and where it ends
pub row_len-end : (s : Str) (i : ℕ) → length s ≤ i → row_len (drop i s) ≡ 0
unfolding row_len
row_len-end s i h = rw (drop_of_length-le s h)

-- a row is no longer than what is left, and has a byte where there is one
pub row_len_le : (s : Str) → row_len s ≤ length s
unfolding row_len
row_len_le [] = omega arith
row_len_le (b ∷ s) = go (row_len_le s) (eqb b 10) refl
  where
    go : row_len s ≤ length s → (t : Bool) → eqb b 10 ≡ t → row_len (b ∷ s) ≤ suc (length s)
    go h true e = rw (row_len, e) (omega arith)
    go h false e = rw (row_len, e) (omega arith)

pub row_len-some : (s : Str) → 0 < length s → 0 < row_len s
unfolding row_len
row_len-some [] h = h
row_len-some (b ∷ s) h = go (eqb b 10) refl
  where
    go : (t : Bool) → eqb b 10 ≡ t → 0 < row_len (b ∷ s)
    go true e = rw (row_len, e) (omega arith)
    go false e = rw (row_len, e) (omega arith)

-- the first row, and the rows after it
Split : Str → Type 0
Split s = rows s ≡ take (row_len s) s ∷ rows (drop (row_len s) s)

split-end : (b : ℕ) (s : Str) → eqb b 10 ≡ true → Split (b ∷ s)
unfolding Split rows row_len
split-end b s e = rw (rows, row_len, e)

split-last : (b : ℕ) → eqb b 10 ≡ false → Split (b ∷ [])
unfolding Split rows row_len onto
split-last b e = rw (rows, row_len, e)

rows_on : (b : ℕ) (s : Str) → eqb b 10 ≡ false → rows (b ∷ s) ≡ onto b (rows s)
unfolding rows
rows_on b s e = rw (rows, e)

row_len-on : (b : ℕ) (s : Str) → eqb b 10 ≡ false → row_len (b ∷ s) ≡ suc (row_len s)
unfolding row_len
row_len-on b s e = rw (row_len, e)

split-on : (b x : ℕ) (s : Str) → eqb b 10 ≡ false → Split (x ∷ s) → Split (b ∷ x ∷ s)
unfolding Split onto
split-on b x s e h = rows_on b (x ∷ s) e ∙ ap (onto b) h ∙ rw (row_len-on b (x ∷ s) e)

pub rows_split : (b : ℕ) (s : Str) → rows (b ∷ s) ≡ take (row_len (b ∷ s)) (b ∷ s) ∷ rows (drop (row_len (b ∷ s)) (b ∷ s))
unfolding Split
rows_split b [] = by-test (eqb b 10) refl
  where
    by-test : (t : Bool) → eqb b 10 ≡ t → Split (b ∷ [])
    by-test true e = split-end b [] e
    by-test false e = split-last b e
rows_split b (x ∷ s) = by-test (rows_split x s) (eqb b 10) refl
  where
    by-test : Split (x ∷ s) → (t : Bool) → eqb b 10 ≡ t → Split (b ∷ x ∷ s)
    by-test h true e = split-end b (x ∷ s) e
    by-test h false e = split-on b x s e h

-- the row at a position inside the sheet: where it ends, and the rows from it on
module _ (s : Str) (at e : ℕ) (h : at < length s) (is : e ≡ at + row_len (drop at s)) where
  row-starts : at < e
  row-starts = omega (arith, row_len-some (drop at s) (rw (length-drop at s) (omega arith)))

  row_ends : e ≤ length s
  row_ends = omega (arith, row_len_le (drop at s), length-drop at s)

  pub row-bounds : (at < e) × (e ≤ length s)
  row-bounds = (row-starts, row_ends)

  pub rows_at : rows (drop at s) ≡ take (e - at) (drop at s) ∷ rows (drop e s)
  rows_at =
      rw (is, add-sub_cancel_left at (row_len (drop at s)), ← drop-drop (row_len (drop at s)) at s, drop-cons s at 0 h)
      (rows_split (get_or s at 0) (drop (suc at) s))

pub rows_out : (s : Str) (at : ℕ) → length s ≤ at → rows (drop at s) ≡ []
unfolding rows
rows_out s at h = rw (drop_of_length-le s h)

-- inside the text there is a row, so the rows after it are fewer
pub rows_shrink : (s : Str) (at : ℕ) → at < length s → length (rest_of (rows (drop at s))) < length (rows (drop at s))
unfolding rest_of
rows_shrink s at h = rw (drop-cons s at 0 h, rows_split (get_or s at 0) (drop (suc at) s)) (omega arith)

-- the rows have all the bytes
size-onto : (b : ℕ) (rs : List Str) → size (onto b rs) ≡ suc (size rs)
unfolding size onto
size-onto b [] = refl
size-onto b (r ∷ rs) = suc-add (length r) (size rs)

pub size-rows : (s : Str) → size (rows s) ≡ length s
unfolding size rows
size-rows [] = refl
size-rows (b ∷ s) = go (size-rows s) (eqb b 10) refl
  where
    go : size (rows s) ≡ length s → (t : Bool) → eqb b 10 ≡ t → size (rows (b ∷ s)) ≡ suc (length s)
    go h true e = rw (rows, e) (omega (arith, h))
    go h false e = rw (rows, e) (size-onto b (rows s) ∙ ap suc h)

-- there are no more rows than bytes
pub rows-length : (s : Str) → length (rows s) ≤ length s
unfolding rows onto
rows-length [] = omega arith
rows-length (b ∷ s) = go (eqb b 10) (rows s) (rows-length s)
  where
    go : (t : Bool) (rs : List Str) → length rs ≤ length s
        → length {A = Str} (elim t [ true ↦ (b ∷ []) ∷ rs | false ↦ onto b rs ]) ≤ suc (length s)
    go true rs h = omega arith
    go false [] h = omega arith
    go false (r ∷ rs) h = omega arith

-- bytes that are dropped make no more rows
rows_drop : (k : ℕ) (s : Str) → length (rows (drop k s)) ≤ length (rows s)
unfolding rows onto
rows_drop zero s = omega arith
rows_drop (suc k) [] = omega arith
rows_drop (suc k) (b ∷ s) = go (eqb b 10) (rows s) (rows_drop k s)
  where
    go : (t : Bool) (rs : List Str) → length (rows (drop k s)) ≤ length rs
        → length (rows (drop k s)) ≤ length {A = Str} (elim t [ true ↦ (b ∷ []) ∷ rs | false ↦ onto b rs ])
    go true rs h = omega arith
    go false [] h = omega arith
    go false (r ∷ rs) h = h

pub rows-fewer : (s : Str) (a b : ℕ) → a ≤ b → length (rows (drop b s)) ≤ length (rows (drop a s))
rows-fewer s a b h =
    let e : a + (b - a) ≡ b = omega arith in
    rw e at (rw (drop-drop (b - a) a s) at (rows_drop (b - a) (drop a s)))

-- rows joined are the bytes again
pub joined-rows : (s : Str) → joined (rows s) ≡ s
unfolding joined rows onto
joined-rows [] = refl
joined-rows (b ∷ s) = go (joined-rows s) (eqb b 10) refl
  where
    onto-joined : (rs : List Str) → joined (onto b rs) ≡ b ∷ joined rs
    onto-joined [] = refl
    onto-joined (r ∷ rs) = refl

    go : joined (rows s) ≡ s → (t : Bool) → eqb b 10 ≡ t → joined (rows (b ∷ s)) ≡ b ∷ s
    go h true e = rw (rows, e) (ap (λ (r : Str). b ∷ r) h)
    go h false e = rw (rows, e) (onto-joined (rows s) ∙ ap (λ (r : Str). b ∷ r) h)

-- a line that ends in its only byte 10 is the first row of what it stands in front of
pub rows-line : (s rest : Str) → newlines s ≡ 0 → rows ((s ++ unit 10) ++ rest) ≡ (s ++ unit 10) ∷ rows rest
unfolding rows newlines onto
rows-line [] rest h = refl
rows-line (b ∷ s) rest h = go (rows-line s rest) (eqb b 10) refl
  where
    go :
        (newlines s ≡ 0 → rows ((s ++ unit 10) ++ rest) ≡ (s ++ unit 10) ∷ rows rest) → (t : Bool) → eqb b 10 ≡ t
        → rows (b ∷ ((s ++ unit 10) ++ rest)) ≡ (b ∷ (s ++ unit 10)) ∷ rows rest
    go f true e = let z = rw (newlines, e) at h in let y : ⊥ = omega arith in absurd y
    go f false e = rw (rows, e) (ap (onto b) (f (rw (newlines, e) at h)))

pub line_no-at : (s : Str) (at : ℕ) → line_no s (rows (drop at s)) ≡ suc (newlines (take at s))
unfolding line_no
line_no-at s at = rw (size-rows (drop at s), length-drop at s) (go (dec_le at (length s)))
  where
    go : Dec (at ≤ length s) → suc (newlines (take (length s - (length s - at)) s)) ≡ suc (newlines (take at s))
    go (yes l) = let e : length s - (length s - at) ≡ at = omega arith in rw e
    go (no l) =
        let e : length s - (length s - at) ≡ length s = omega arith in
        let g : length s ≤ at = omega arith in
        let k : length s ≤ length s = omega arith in
        rw (e, take_all at s g, take_all (length s) s k)

pub newlines_append : (s t : Str) → newlines (s ++ t) ≡ newlines s + newlines t
unfolding newlines
newlines_append [] t = sym (zero-add (newlines t))
newlines_append (x ∷ s) t = go (newlines_append s t) (eqb x 10) refl
  where
    go :
        newlines (s ++ t) ≡ newlines s + newlines t → (v : Bool) → eqb x 10 ≡ v
        → newlines (x ∷ (s ++ t)) ≡ newlines (x ∷ s) + newlines t
    go h true e = rw (newlines, e) (ap suc h ∙ sym (suc-add (newlines s) (newlines t)))
    go h false e = rw (newlines, e) h

-- they are those bytes that the code counts
newlines-by : (s : Str) → newlines s ≡ count_by (λ b. eqb b 10) s
unfolding newlines
newlines-by = is_count_by newlines (λ b. eqb b 10) refl λ b s. go (eqb b 10) (newlines s)
  where
    go : (t : Bool) (n : ℕ) → elim t [ true ↦ suc n | false ↦ n ] ≡ cond t (1 + n) n
    go true n = omega arith
    go false n = refl

-- the number of the row at a position, by the bytes in front of it
pub line_no_counted :
    (s : Str) (at k n : ℕ) → k ≡ min at (length s) → n ≡ count_by (λ b. eqb b 10) (take k s)
    → 1 + n ≡ line_no s (rows (drop at s))
line_no_counted s at k n e is =
    omega (arith, is ∙ sym (newlines-by (take k s)) ∙ ap newlines (same (dec_le at (length s))), line_no-at s at)
  where
    same : Dec (at ≤ length s) → take k s ≡ take at s
    same (yes l) = let m : k ≡ at = omega arith in rw m
    same (no l) = take_all k s (omega arith) ∙ sym (take_all at s (omega arith))

pub drop-take : (m n : ℕ) (l : Str) → drop m (take n l) ≡ take (n - m) (drop m l)
drop-take zero n l = rw (sub-zero n)
drop-take (suc m) zero l = let z : 0 - suc m ≡ 0 = omega arith in rw z
drop-take (suc m) (suc n) [] = sym (take-nil (suc n - suc m))
drop-take (suc m) (suc n) (x ∷ l) = drop-take m n l ∙ rw (suc-sub-suc n m)

-- a row as the part of the sheet from at to e: its length, its last byte, its first, and what stands in front of its last
module _ (s : Str) (at e : ℕ) (lo : at < e) (hi : e ≤ length s) where
  row-length : length (take (e - at) (drop at s)) ≡ e - at
  row-length = length-take-le (e - at) (drop at s) (rw (length-drop at s) (omega arith))

  row_last : get_or (take (e - at) (drop at s)) (e - at - 1) 0 ≡ get_or s (e - 1) 0
  row_last =
      let i : e - at - 1 < e - at = omega arith in
      let j : at + (e - at - 1) ≡ e - 1 = omega arith in
      rw (get_or-take, get_or-drop, j)

  row_first : get_or (take (e - at) (drop at s)) 0 0 ≡ get_or s at 0
  row_first =
      let i : 0 < e - at = omega arith in
      let j : at + 0 ≡ at = omega arith in
      rw (get_or-take, get_or-drop, j)

  row-front : take (e - at - 1) (take (e - at) (drop at s)) ≡ take (e - 1 - at) (drop at s)
  row-front =
      let i : e - at - 1 ≡ e - 1 - at = omega arith in
      let j : e - 1 - at ≤ e - at = omega arith in
      rw (i, take-take (e - 1 - at) (e - at) (drop at s) j)

  pub line_row :
      line_of (take (e - at) (drop at s))
      ≡ cond (eqb (get_or s (e - 1) 0) 10) (reader (get_or s at 0)) bad_line (take (e - 1 - at) (drop at s))
  unfolding line_of
  line_row = rw (row-length, row_last, row_first, row-front)

  pub text-row :
      text_of (take (e - at) (drop at s))
      ≡ cond (eqb (text_start (get_or s at 0)) 0) [] (drop (text_start (get_or s at 0)) (take (e - 1 - at) (drop at s)))
  unfolding text_of
  text-row = rw (row-length, row_first, row-front)

-- where the rows after the row at a position begin, and its text
module _ (s : Str) (at e : ℕ) (h : at < length s) (is : e ≡ at + row_len (drop at s)) where
  pub after : rows (drop e s) ≡ rest_of (rows (drop at s))
  unfolding rest_of
  after = rw (rows_at s at e h is)

  texts :
      text_at (rows (drop at s))
      ≡ cond (eqb (text_start (get_or s at 0)) 0) [] (drop (text_start (get_or s at 0)) (take (e - 1 - at) (drop at s)))
  unfolding text_at
  texts = rw (rows_at s at e h is) (text-row s at e (row-starts s at e h is) (row_ends s at e h is))

  -- its text begins k bytes on: past the row's last byte, or before it
  module _ (k : ℕ) (start : k ≡ text_start (get_or s at 0)) (some : k ≡ 0 → ⊥) where
    pub text-short : e - 1 - at < k → [] ≡ text_at (rows (drop at s))
    text-short l =
        let m = length-take (e - 1 - at) (drop at s) in
        let n : length (take (e - 1 - at) (drop at s)) ≤ k = omega (arith, m) in
        rw (texts, ← start, ne_eqb k 0 some, drop_of_length-le (take (e - 1 - at) (drop at s)) n)

    pub text-part : k ≤ e - 1 - at → take (e - 1 - (at + k)) (drop (at + k) s) ≡ text_at (rows (drop at s))
    text-part l =
        let n : e - 1 - at - k ≡ e - 1 - (at + k) = omega arith in
        rw (texts, ← start, ne_eqb k 0 some, drop-take k (e - 1 - at) (drop at s), drop-drop k at s, n)

-- a line without a text
pub text-none : (s : Str) (at k : ℕ) → at < length s → k ≡ text_start (get_or s at 0) → k ≡ 0 → [] ≡ text_at (rows (drop at s))
text-none s at k h start none = rw (texts s at (at + row_len (drop at s)) h refl, ← start, none)

pub text_out : (s : Str) (at : ℕ) → length s ≤ at → [] ≡ text_at (rows (drop at s))
unfolding text_at
text_out s at h = rw (rows_out s at h)

-- the rows after the row at a position begin at `next`: where the row ends
module _ (s : Str) (at next : ℕ) (h : at < length s) (is : rows (drop next s) ≡ rest_of (rows (drop at s))) where
  left_over : length s - next ≡ length s - (at + row_len (drop at s))
  left_over =
      let e = at + row_len (drop at s) in
      sym (size-rows (drop next s) ∙ length-drop next s) ∙ ap size (is ∙ sym (after s at e h refl))
      ∙ (size-rows (drop e s) ∙ length-drop e s)

  pub next-after : at < next
  next-after = omega (arith, left_over, row-bounds s at _ h refl)

  pub next-ends : next ≤ length s → next ≡ at + row_len (drop at s)
  next-ends l = omega (arith, left_over, row-bounds s at _ h refl)

  pub last-ends : length s < next → length s ≡ at + row_len (drop at s)
  last-ends l = omega (arith, left_over, row-bounds s at _ h refl)
