-- A G row has 44 bytes or more, its letter, two numbers of 21 columns and byte 10; an N row 151 or more, its letter, seven
-- numbers, a space, a module and byte 10; and a P row 4 or more: its letter, a space, a name and byte 10. So the groups, the
-- entries and the marks of a sheet have room. A row that says a line is that line printed, and its length is counted there.
-- Assumes nothing.
use mathlib.Core.Path.{◌≡◌, refl, ap}
use mathlib.Core.Bool.{true}
use mathlib.Core.List.{List, [], ◌∷◌, ◌++◌}
use Prim.Native.Nat.{ℕ, ◌+◌, ◌≤◌, ◌<◌, ◌^◌}
use native.Mathlib.Omega.{arith}
use lib.ListN.{length, drop, length-append, length-drop}
use Rattle.text.specs.Bytes.{Str, unit}
use Rattle.column.specs.Number.{padded}
use Rattle.column.specs.Texts.{is_name, is_graphic_text}
use Rattle.column.proofs.Laws.{may_length, name_may}
use Rattle.column.proofs.PaddedLaws.{padded-length}
use Rattle.row.specs.Rows.{rows, rest_of, size}
use Rattle.row.specs.Line.{line_of, line_at, text_of}
use Rattle.row.specs.Print.{columns, row_text}
use Rattle.row.proofs.Laws.{size-rows}
use Rattle.row.proofs.ReadLaws.{printed-line}
use Rattle.tree.specs.Reader.{Rows}
use Rattle.tree.proofs.OtherLines.{never}
use Rattle.row.specs.Line as line

-- a name has a byte
name-some : (t : Str) → is_name t ≡ true → 1 ≤ length t
name-some t h = (may_length t (name_may t h)).0

-- and so has a module
module-some : (t : Str) → is_graphic_text 128 t ≡ true → 1 ≤ length t
unfolding is_graphic_text
module-some [] h = never cc
module-some (b ∷ t) h = omega arith

-- one number, and what stands after it
one-column : (n : ℕ) (ns : List ℕ) (end : Str) → n < 2 ^ 64 → length (columns (n ∷ ns) end) ≡ 21 + length (columns ns end)
unfolding columns
one-column n ns end a = let x = padded-length n a in omega (arith, length-append (padded n) (columns ns end))

no-column : (end : Str) → length (columns [] end) ≡ length end
unfolding columns
no-column end = refl

group-long : (r : Str) (i d : ℕ) → line_of r ≡ line.Group i d → 44 ≤ length r
unfolding row_text
group-long r i d e =
    let p = printed-line r (line.Group i d) tt e in
    let f = p.fits in
    let end = (32 ∷ text_of r) ++ unit 10 in
    omega (
      arith,
      ap length p.whole,
      one-column i (d ∷ []) end (omega arith),
      one-column d [] end (omega arith),
      no-column end,
    )

node-long : (r : Str) (i p s x g c o : ℕ) → line_of r ≡ line.Node i p s x g c o → 151 ≤ length r
unfolding row_text
node-long r i p s x g c o e =
    let w = printed-line r (line.Node i p s x g c o) tt e in
    let f = w.fits in
    let end = (32 ∷ text_of r) ++ unit 10 in
    omega (
      arith,
      ap length w.whole,
      one-column i (p ∷ s ∷ x ∷ g ∷ c ∷ o ∷ []) end (omega arith),
      one-column p (s ∷ x ∷ g ∷ c ∷ o ∷ []) end (omega arith),
      one-column s (x ∷ g ∷ c ∷ o ∷ []) end (omega arith),
      one-column x (g ∷ c ∷ o ∷ []) end (omega arith),
      one-column g (c ∷ o ∷ []) end (omega arith),
      one-column c (o ∷ []) end (omega arith),
      one-column o [] end (omega arith),
      no-column end,
      length-append (text_of r) (unit 10),
      module-some (text_of r) f.7,
    )

parameter-long : (r : Str) → line_of r ≡ line.Parameter → 4 ≤ length r
unfolding row_text columns
parameter-long r e =
    let p = printed-line r line.Parameter tt e in
    omega (arith, ap length p.whole, length-append (text_of r) (unit 10), name-some (text_of r) p.fits)

-- what is left of a sheet is no longer than the sheet
pub rest-fits : (s : Str) (e most : ℕ) → length s ≤ most → size (rows (drop e s)) ≤ most
rest-fits s e most h = omega (arith, size-rows (drop e s), length-drop e s)

-- after a G row there are 44 bytes less
pub group-room : (rs : Rows) (i d : ℕ) → line_at rs ≡ line.Group i d → 44 + size (rest_of rs) ≤ size rs
unfolding line_at rest_of size
group-room [] i d e = never cc
group-room (r ∷ rs) i d e = let h = group-long r i d e in omega arith

-- after an N row there are 151 bytes less
pub node-room :
    (rs : Rows) (i p s x g c o : ℕ) → line_at rs ≡ line.Node i p s x g c o → 151 + size (rest_of rs) ≤ size rs
unfolding line_at rest_of size
node-room [] i p s x g c o e = never cc
node-room (r ∷ rs) i p s x g c o e = let h = node-long r i p s x g c o e in omega arith

-- after a P row there are 4 bytes less
pub parameter-room : (rs : Rows) → line_at rs ≡ line.Parameter → 4 + size (rest_of rs) ≤ size rs
unfolding line_at rest_of size
parameter-room [] e = never cc
parameter-room (r ∷ rs) e = let h = parameter-long r e in omega arith
