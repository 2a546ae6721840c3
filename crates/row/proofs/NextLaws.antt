-- What stands from a position on as a row: a good line has no byte 10 but its last, so where such a line ends the row ends; and
-- read to the first byte 10 past the least bytes that its letter has, a line says what its row says. Assumes nothing.
use mathlib.Core.Path.{◌≡◌, refl, sym, ap, ◌∙◌}
use mathlib.Core.Bool.{Bool, true, false}
use mathlib.Core.List.{[], ◌∷◌, ◌++◌}
use Prim.Native.Nat.{ℕ, zero, suc, ◌+◌, ◌-◌, ◌<◌, ◌≤◌}
use native.Mathlib.Decide.{dec_lt}
use native.Mathlib.Omega.{arith}
use lib.Dec.{eqb}
use lib.ListN.{length, get_or, take, drop, take-append-drop, length-drop, drop_of_length-le}
use Rattle.std.specs.Prelude.{Option, None, Some}
use lib.Seq.{drop-drop, get_or-drop, take-append-add, length-take-le}
use borrow.Author.Tests.{eqb-true, eq-eqb, ne_eqb}
use Rattle.text.specs.Bytes.{Str}
use Rattle.row.specs.Rows.{row_len, rows, rest_of}
use Rattle.row.specs.Line.{Content, good_said, reader, line_of, line_at, text_of}
use Rattle.row.specs.declared.Line.{Line}
use Rattle.row.specs.declared.Line.TheVariants as line
use Rattle.row.proofs.Laws.{row_len-some, row-bounds, rows_at, line_row}
use Rattle.row.specs.Newline.{newline_from}
use Rattle.row.specs.Stop.{ReadTo}
use Rattle.row.proofs.NewlineLaws.{found_first, ends_found, ends_none}
use Rattle.row.proofs.PrintLaws.{rows-printed}
use Rattle.row.proofs.ReadLaws.{Good, printed-line}

-- what a good line of the code says is no bad line
pub good-line : (l : Line) → Good (good_said l)
good-line line.Root = tt
good-line (line.Node i p s x g c o) = tt
good-line line.Parameter = tt
good-line (line.Field o d e p) = tt
good-line (line.Group i d) = tt
good-line (line.Typ k a b c) = tt
good-line (line.Scope i n) = tt
good-line line.Unbound = tt
good-line (line.Value k b) = tt
good-line (line.Word v) = tt

module _ (s : Str) (at e : ℕ) (lo : at < e) (l : Content) (is : l ≡ line_of (take (e - at) (drop at s))) (good : Good l) where
  r : Str
  r = take (e - at) (drop at s)

  parts : drop at s ≡ r ++ drop e s
  unfolding r
  parts =
      let j : at + (e - at) ≡ e = omega arith in
      sym (ap (λ (x : Str). r ++ x) (sym (drop-drop (e - at) at s ∙ rw j)) ∙ take-append-drop (e - at) (drop at s))

  first : rows (drop at s) ≡ r ∷ rows (drop e s)
  unfolding r
  first =
      let p = printed-line r l good (sym is) in
      ap rows parts ∙ ap (λ (x : Str). rows (x ++ drop e s)) p.whole ∙ rows-printed l (text_of r) (drop e s) p.fits
      ∙ ap (λ (x : Str). x ∷ rows (drop e s)) (sym p.whole)

  good-row : (l ≡ line_at (rows (drop at s))) × (rows (drop e s) ≡ rest_of (rows (drop at s)))
  unfolding line_at rest_of r
  good-row = (rw first is, rw first)

-- past k bytes of a longer row
row_len-past : (k : ℕ) (u : Str) → k < row_len u → row_len u ≡ k + row_len (drop k u)
unfolding row_len
row_len-past zero u h = omega arith
row_len-past (suc k) [] h = let z : ⊥ = omega arith in absurd z
row_len-past (suc k) (b ∷ u) h = go (row_len-past k u) (eqb b 10) refl
  where
    go :
        (k < row_len u → row_len u ≡ k + row_len (drop k u)) → (t : Bool) → eqb b 10 ≡ t
        → row_len (b ∷ u) ≡ suc k + row_len (drop k u)
    go f true e = let i = rw (row_len, e) at h in let z : ⊥ = omega arith in absurd z
    go f false e = let i = rw (row_len, e) at h in rw (row_len, e) (omega (arith, f (omega arith)))

-- a row with bytes after it ends in byte 10: so it is n bytes, the byte, and what follows
row-split : (u : Str) (n : ℕ) → row_len u ≡ suc n → suc n < length u → (u ≡ take n u ++ 10 ∷ drop (suc n) u) × (n ≤ length u)
unfolding row_len
row-split [] n e h = let z : ⊥ = omega arith in absurd z
row-split (b ∷ u) n e h = go (row-split u) (eqb b 10) refl n e h
  where
    go : ((n : ℕ) → row_len u ≡ suc n → suc n < length u → (u ≡ take n u ++ 10 ∷ drop (suc n) u) × (n ≤ length u))
        → (t : Bool) → eqb b 10 ≡ t → (n : ℕ) → row_len (b ∷ u) ≡ suc n → suc n < length (b ∷ u)
        → (b ∷ u ≡ take n (b ∷ u) ++ 10 ∷ drop (suc n) (b ∷ u)) × (n ≤ length (b ∷ u))
    go more true t zero e h = (ap (λ (c : ℕ). c ∷ u) (eqb-true b 10 t), omega arith)
    go more true t (suc n) e h = let i = rw (row_len, t) at e in let z : ⊥ = omega arith in absurd z
    go more false t zero e h =
        let i = rw (row_len, t) at e in
        let some = row_len-some u (omega arith) in
        let z : ⊥ = omega arith in
        absurd z
    go more false t (suc n) e h =
        let i = rw (row_len, t) at e in
        let r = more n (omega arith) (omega arith) in
        (ap (λ (x : Str). b ∷ x) r.0, omega (arith, r.1))

seam : (u x : Str) (n : ℕ) → length u ≡ n → get_or (u ++ 10 ∷ x) n 0 ≡ 10
seam [] x n e = rw (← e) refl
seam (b ∷ u) x zero e = let z : ⊥ = omega arith in absurd z
seam (b ∷ u) x (suc n) e = seam u x n (omega arith)

-- ---- the line at a position, read to the first byte 10 past k bytes

module _
    (s : Str) (at e k : ℕ) (h : at + k < length s) (is : e ≡ at + k + row_len (drop (at + k) s)) (last : get_or s (e - 1) 0 ≡ 10)
    (short : (u w : Str) → 0 < length u → length u < k → reader (get_or s at 0) u ≡ reader (get_or s at 0) (u ++ 10 ∷ w))
  where
    inside : at < length s
    inside = omega arith

    -- the row is no shorter
    long-row : k < row_len (drop at s) → line_of (take (e - at) (drop at s)) ≡ line_at (rows (drop at s))
    unfolding line_at
    long-row l =
        let j = rw (drop-drop k at s) at (row_len-past k (drop at s) l) in
        let own : e ≡ at + row_len (drop at s) = omega arith in
        rw (rows_at s at e inside own) refl

    -- a line of no byte has no letter, and any other has the same fault with more bytes
    same-fault : (n : ℕ) (u w : Str) → length u ≡ n → n < k → get_or (drop at s) n 0 ≡ 10
        → reader (get_or s at 0) (u ++ 10 ∷ w) ≡ reader (get_or s at 0) u
    unfolding reader
    same-fault n u w l m ten = go (dec_lt 0 n)
      where
        go : Dec (0 < n) → reader (get_or s at 0) (u ++ 10 ∷ w) ≡ reader (get_or s at 0) u
        go (yes p) = sym (short u w (omega arith) (omega arith))
        go (no p) =
            let i : at + n ≡ at = omega arith in
            let letter : get_or s at 0 ≡ 10 = rw (get_or-drop at s n 0, i) at ten in
            rw letter refl

    -- it is shorter: n bytes, a byte 10, and more
    short_row :
        (n : ℕ) → row_len (drop at s) ≡ suc n → suc n ≤ k → line_of (take (e - at) (drop at s)) ≡ line_at (rows (drop at s))
    unfolding line_at
    short_row n m l =
        let d : Str = drop at s in
        let b = row-bounds s (at + k) e h is in
        let ld : length d ≡ length s - at = length-drop at s in
        let (cut, few) = row-split d n m (omega arith) in
        let r : ℕ = at + suc n in
        let own : r ≡ at + row_len d = omega arith in
        let u : Str = take n d in
        let lu : length u ≡ n = length-take-le n d few in
        let j : ℕ = e - 1 - at - suc n in
        let w : Str = take j (drop (suc n) d) in
        let long : e - 1 - at ≡ length u + suc j = omega (arith, b) in
        let further : take (e - 1 - at) d ≡ u ++ 10 ∷ w =
        ap (λ (x : ℕ). take x d) long ∙ ap (λ (x : Str). take (length u + suc j) x) cut
        ∙ take-append-add u (10 ∷ drop (suc n) d) (suc j) in
        let at-ten : get_or d n 0 ≡ 10 = ap (λ (x : Str). get_or x n 0) cut ∙ seam u (drop (suc n) d) n lu in
        let there : r - 1 ≡ at + n = omega arith in
        let ten : get_or s (r - 1) 0 ≡ 10 = rw (there, ← get_or-drop at s n 0) at-ten in
        let here : r - 1 - at ≡ n = omega arith in
        rw (
          rows_at s at r inside own,
          line_row s at e (omega (arith, b)) b.1,
          line_row s at r (omega arith) (omega arith),
          eq-eqb _ _ last,
          eq-eqb _ _ ten,
          here,
          further,
        ) (same-fault n u w lu l at-ten)

    read-so : line_of (take (e - at) (drop at s)) ≡ line_at (rows (drop at s))
    read-so = go (dec_lt k (row_len (drop at s)))
      where
        go : Dec (k < row_len (drop at s)) → line_of (take (e - at) (drop at s)) ≡ line_at (rows (drop at s))
        go (yes l) = long-row l
        go (no l) =
            let some = row_len-some (drop at s) (rw (length-drop at s) (omega arith)) in
            short_row (row_len (drop at s) - 1) (omega arith) (omega arith)

-- ---- how far a line is read

module _ (s : Str) (at z : ℕ) (lo : at ≤ z) (hi : z < length s) (ten : get_or s z 0 ≡ 10) where
  -- the line in front of a byte 10 is that of the part with it
  front_line : line_of (take (z + 1 - at) (drop at s)) ≡ reader (get_or s at 0) (take (z - at) (drop at s))
  front_line =
      let back : z + 1 - 1 ≡ z = omega arith in
      rw (back, eq-eqb _ _ ten) at (line_row s at (z + 1) (omega arith) (omega arith))

  upto : line_of (take (z + 1 - at) (drop at s)) ≡ line_at (rows (drop at s)) → ReadTo s at (Some z)
  upto says = (lo, hi, ten, sym front_line ∙ says)

  -- where it is a good one, the row ends there
  pub good-to :
      (l : Content) → l ≡ reader (get_or s at 0) (take (z - at) (drop at s)) → Good l
      → rows (drop (z + 1) s) ≡ rest_of (rows (drop at s))
  good-to l is good = (good-row s at (z + 1) (omega arith) l (is ∙ sym front_line) good).1

pub read-past :
    (s : Str) (at k z : ℕ) → at + k < length s → Some z ≡ newline_from s (at + k)
    → ((u w : Str) → 0 < length u → length u < k → reader (get_or s at 0) u ≡ reader (get_or s at 0) (u ++ 10 ∷ w))
    → ReadTo s at (Some z)
read-past s at k z h e short =
    let first = found_first s (at + k) (Some z) e in
    let back : z + 1 - 1 ≡ z = omega arith in
    upto s at z (omega (arith, first.0)) first.1 first.2
    (read-so s at (z + 1) k h (ends_found s (at + k) z e) (rw back first.2) short)

pub read_first : (s : Str) (at : ℕ) → at < length s → (o : Option ℕ) → o ≡ newline_from s at → ReadTo s at o
unfolding line_at rest_of rows
read_first s at h (Some z) e =
    let first = found_first s at (Some z) e in
    upto s at z first.0 first.1 first.2 (rw (rows_at s at (z + 1) h (ends_found s at z e)) refl)
read_first s at h None e =
    let all = ends_none s at h e in
    let other = found_first s at None e in
    let last : get_or s (length s - 1) 0 ≡ 10 → ⊥ = other (length s - 1) (omega arith) (omega arith) in
    let row = rw (ne_eqb _ _ last) at (line_row s at (length s) h (omega arith)) in
    let none : drop (length s) s ≡ [] = drop_of_length-le s {i = length s} (omega arith) in
    (rw (rows_at s at (length s) h all) (sym row), rw (rows_at s at (length s) h all, none) refl)
