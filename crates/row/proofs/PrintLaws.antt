-- A line printed within document 01's bounds is read as that line, and a row that reads as a line is that line printed.
-- Each number is taken off by the length of its columns. Assumes nothing.
use mathlib.Core.Path.{◌≡◌, refl, sym, ap, ◌∙◌}
use mathlib.Core.Bool.{Bool, true, false}
use mathlib.Core.List.{List, [], ◌∷◌, ◌++◌, append_assoc, map}
use Rattle.std.specs.Prelude.{Some}
use Prim.Native.Nat.{ℕ, zero, suc, ◌+◌, ◌-◌, ◌*◌, ◌/◌, ◌%◌, ◌^◌, ◌≤◌, ◌<◌}
use native.Mathlib.Numerals.{add-one}
use native.Mathlib.Omega.{arith}
use lib.Dec.{eqb, ltb, leb}
use borrow.Author.Tests.{ne_eqb, leb-true, ltb-true, ltb-false}
use lib.ListN.{length, get_or, drop, replicate, length-append, get_or-map}
use lib.Seq.{drop-cons, drop-length, drop-drop, drop-append_seam, take-append_seam, get_or-append_seam}
use Rattle.text.specs.Bytes.{Str, cond, both, unit}
use Rattle.text.specs.Decimal.{decimal}
use Rattle.text.proofs.DecimalLaws.{decimal-low, decimal-high}
use Rattle.column.specs.Number.{most, padded, column_of}
use Rattle.column.specs.Texts.{ends_in, is_word, is_graphic, all, is_name, is_field_name, is_graphic_text}
use Rattle.column.proofs.Laws.{name-all, field-name_chars, graphic_all}
use Rattle.column.proofs.CharLaws.{or_high, chars_all}
use Rattle.column.proofs.PaddedLaws.{padded-length, column-printed, ends-printed}
use Rattle.row.specs.Rows.{newlines, rows}
use Rattle.row.specs.Line.{root_line, node_line, parameter_line, field_line, group_line}
use Rattle.row.specs.Line.{type_line, scope_line, unbound_line, value_line, word_line}
use Rattle.row.specs.Line.{most_a, most_b, most_c, most_count, most_bits, widths, reader, line_of, text_start, text_of}
use Rattle.row.specs.Print.{columns, row_text, spaced, print_line, Fits}
use Rattle.row.specs.Line.{Content, Root, Node, Parameter, Field, Group, Typ, Scope, Unbound, Value, Word, Bad}
use Rattle.row.proofs.Laws.{newlines_append, rows-line}

-- numbers that fit their columns
abbrev pub Narrow : List ℕ → Type 0
Narrow [] = Unit
Narrow (n ∷ ns) = (n < 2 ^ 64) × Narrow ns

pub narrow_at : (ns : List ℕ) (k : ℕ) → Narrow ns → k < length ns → get_or ns k 0 < 2 ^ 64
narrow_at [] k f l = let z : ⊥ = omega arith in absurd z
narrow_at (n ∷ ns) zero f l = f.0
narrow_at (n ∷ ns) (suc k) f l = narrow_at ns k f.1 (omega arith)

pub columns_append : (ns : List ℕ) (s t : Str) → columns ns (s ++ t) ≡ columns ns s ++ t
unfolding columns
columns_append [] s t = refl
columns_append (n ∷ ns) s t = rw (columns_append ns s t) (sym (append_assoc (padded n) (columns ns s) t))

-- a row printed is a line in front of byte 10
pub row_is : (letter : ℕ) (ns : List ℕ) (end : Str) → row_text letter ns end ≡ (letter ∷ columns ns end) ++ unit 10
unfolding row_text
row_is letter ns end = rw (columns_append ns end (unit 10))

front_length : (s : Str) → length (s ++ unit 10) - 1 ≡ length s
front_length s = rw length-append (omega arith)

-- the line in front of byte 10 is read by its letter
pub line_read : (s : Str) → line_of (s ++ unit 10) ≡ reader (get_or (s ++ unit 10) 0 0) s
unfolding line_of
line_read s = rw (front_length s, get_or-append_seam s 10 [] 0, take-append_seam s (unit 10))

pub text-read :
    (s : Str) → text_of (s ++ unit 10)
    ≡ cond (eqb (text_start (get_or (s ++ unit 10) 0 0)) 0) [] (drop (text_start (get_or (s ++ unit 10) 0 0)) s)
unfolding text_of
text-read s = rw (front_length s, take-append_seam s (unit 10))

drop-seam : (k : ℕ) (s t : Str) → length s ≡ k → drop k (s ++ t) ≡ t
drop-seam k s t e = rw (← e) (drop-append_seam s t)

-- what stands after k of the numbers
pub drop-columns :
    (k : ℕ) (ns : List ℕ) (end : Str) → Narrow ns → k ≤ length ns → drop (k * 21) (columns ns end) ≡ columns (drop k ns) end
unfolding columns
drop-columns zero ns end f l = refl
drop-columns (suc k) [] end f l = let z : ⊥ = omega arith in absurd z
drop-columns (suc k) (n ∷ ns) end f l =
    let e : suc k * 21 ≡ 21 + k * 21 = omega arith in
    ap (λ (m : ℕ). drop m (padded n ++ columns ns end)) e ∙ sym (drop-drop (k * 21) 21 (padded n ++ columns ns end))
    ∙ ap (λ (s : Str). drop (k * 21) s) (drop-seam 21 (padded n) (columns ns end) (padded-length n f.0))
    ∙ drop-columns k ns end f.1 (omega arith)

-- numbers and a text that are printed are read
module _ (letter : ℕ) (ns : List ℕ) (end : Str) (fits : Narrow ns) where
  column-read :
      (k least most : ℕ) → k < length ns → least ≤ get_or ns k 0 → get_or ns k 0 ≤ most
      → column_of (letter ∷ columns ns end) (suc (k * 21)) least most ≡ Some (get_or ns k 0)
  unfolding columns
  column-read k least most l lo hi =
      column-printed _ (columns (drop (suc k) ns) end) (suc (k * 21)) least most (get_or ns k 0)
      (drop-columns k ns end fits (omega arith) ∙ rw (drop-cons ns k 0 l)) (narrow_at ns k fits l) lo hi

  rest_read : drop (suc (length ns * 21)) (letter ∷ columns ns end) ≡ end
  unfolding columns
  rest_read = drop-columns (length ns) ns end fits (omega arith) ∙ rw (drop-length ns)

  ends_read :
      (ok : Str → Bool) (text : Str) → end ≡ 32 ∷ text → ends_in ok (letter ∷ columns ns end) (suc (length ns * 21)) ≡ ok text
  ends_read ok text e = ends-printed ok _ text (suc (length ns * 21)) (rest_read ∙ e)

pub columns-length : (ns : List ℕ) → Narrow ns → length (columns ns []) ≡ length ns * 21
unfolding columns
columns-length [] f = refl
columns-length (n ∷ ns) f =
    let i = columns-length ns f.1 in
    let w = padded-length n f.0 in
    rw (length-append (padded n) (columns ns [])) (omega arith)

length-read : (letter : ℕ) (ns : List ℕ) → Narrow ns → length (letter ∷ columns ns []) ≡ suc (length ns * 21)
length-read letter ns fits = ap suc (columns-length ns fits)

-- a row printed, read
row_read : (letter : ℕ) (ns : List ℕ) (end : Str) → line_of (row_text letter ns end) ≡ reader letter (letter ∷ columns ns end)
row_read letter ns end = rw (row_is letter ns end) (line_read (letter ∷ columns ns end))

-- the greatest numbers fit their columns
cond_le : (p : Bool) (x y m : ℕ) → x ≤ m → y ≤ m → cond p x y ≤ m
cond_le true x y m h g = h
cond_le false x y m h g = g

pub most_a-fits : (k : ℕ) → most_a k ≤ most 64
unfolding most_a
most_a-fits k = cond_le (ltb k 15) _ _ _ (omega arith) (cond_le (ltb k 18) _ _ _ (omega arith) (omega arith))

pub most_count-fits : (b : ℕ) → most_count b ≤ most 64
unfolding most_count
most_count-fits b = cond_le (eqb b 0) _ _ _ (omega arith) (omega arith)

pub most_b-fits : (k a : ℕ) → most_b k a ≤ most 64
unfolding most_b most_count
most_b-fits k a = cond_le (ltb k 15) _ _ _ (omega arith) (cond_le (ltb k 18) _ _ _ (omega arith) (most_count-fits a))

pub most_c-fits : (k a : ℕ) → most_c k a ≤ most 64
unfolding most_c
most_c-fits k a = cond_le (ltb k 18) _ _ _ (omega arith) (cond_le (eqb a 0) _ _ _ (omega arith) (omega arith))

every : ℕ → List ℕ → Bool
every m [] = true
every m (x ∷ xs) = both (leb x m) (every m xs)

below_all : (m : ℕ) (xs : List ℕ) → every m xs ≡ true → (k : ℕ) → get_or xs k 0 ≤ m
unfolding every
below_all m [] e k = omega arith
below_all m (x ∷ xs) e k = go (below_all m xs) (leb x m) refl e k
  where
    go :
        (every m xs ≡ true → (k : ℕ) → get_or xs k 0 ≤ m) → (p : Bool) → leb x m ≡ p → both p (every m xs) ≡ true → (k : ℕ)
        → get_or (x ∷ xs) k 0 ≤ m
    go f true h e zero = leb-true x m h
    go f true h e (suc k) = f e k
    go f false h e k = let z : ◌≡◌ {A = ℕ} 0 1 = cc in let y : ⊥ = omega arith in absurd y

pub most_bits-fits : (k : ℕ) → most_bits k ≤ most 64
unfolding most_bits every
most_bits-fits k = rw (← get_or-map most widths k 0) (below_all (most 64) (map most widths) refl k)

root-read : (text : Str) → Fits Root text → line_of (print_line Root text) ≡ Root
unfolding reader root_line
root-read text f =
    let ns : List ℕ = [] in
    let w : Narrow ns = tt in
    row_read 82 ns (spaced text)
    ∙ rw (
      ends_read 82 ns (spaced text) w (is_graphic_text 64) text refl,
      f,
    )

node-read :
    (i p s x g c o : ℕ) (text : Str) → Fits (Node i p s x g c o) text
    → line_of (print_line (Node i p s x g c o) text) ≡ Node i p s x g c o
unfolding reader node_line
node-read i p s x g c o text f =
    let ns = i ∷ p ∷ s ∷ x ∷ g ∷ c ∷ o ∷ [] in
    let w : Narrow ns =
    (omega arith, (omega arith, (omega arith, (omega arith, (omega arith, (omega arith, (omega arith, tt)))))))
    in
    let read = column-read 78 ns (spaced text) w in
    row_read 78 ns (spaced text)
    ∙ rw (
      read 0 1 (2 ^ 64 - 1) (omega arith) f.0.0 f.0.1,
      read 1 0 (2 ^ 64 - 1) (omega arith) (omega arith) f.1,
      read 2 0 (2 ^ 64 - 1) (omega arith) (omega arith) f.2,
      read 3 0 1 (omega arith) (omega arith) f.3,
      read 4 0 1 (omega arith) (omega arith) f.4,
      read 5 0 (2 ^ 16 - 1) (omega arith) (omega arith) f.5,
      read 6 0 (2 ^ 32 - 1) (omega arith) (omega arith) f.6,
      ends_read 78 ns (spaced text) w (is_graphic_text 128) text refl,
      f.7,
    )

parameter-read : (text : Str) → Fits Parameter text → line_of (print_line Parameter text) ≡ Parameter
unfolding reader parameter_line
parameter-read text f =
    let ns : List ℕ = [] in
    let w : Narrow ns = tt in
    row_read 80 ns (spaced text)
    ∙ rw (
      ends_read 80 ns (spaced text) w is_name text refl,
      f,
    )

field-read : (o d e p : ℕ) (text : Str) → Fits (Field o d e p) text → line_of (print_line (Field o d e p) text) ≡ Field o d e p
unfolding reader field_line
field-read o d e p text f =
    let ns = o ∷ d ∷ e ∷ p ∷ [] in
    let w : Narrow ns = (omega arith, (omega arith, (omega arith, (omega arith, tt)))) in
    let read = column-read 70 ns (spaced text) w in
    row_read 70 ns (spaced text)
    ∙ rw (
      read 0 0 (2 ^ 32 - 1) (omega arith) (omega arith) f.0,
      read 1 0 (2 ^ 16 - 1) (omega arith) (omega arith) f.1,
      read 2 0 1 (omega arith) (omega arith) f.2,
      read 3 0 1 (omega arith) (omega arith) f.3,
      ends_read 70 ns (spaced text) w is_field_name text refl,
      f.4,
    )

group-read : (i d : ℕ) (text : Str) → Fits (Group i d) text → line_of (print_line (Group i d) text) ≡ Group i d
unfolding reader group_line
group-read i d text f =
    let ns = i ∷ d ∷ [] in
    let w : Narrow ns = (omega arith, (omega arith, tt)) in
    let read = column-read 71 ns (spaced text) w in
    row_read 71 ns (spaced text)
    ∙ rw (
      read 0 1 (2 ^ 64 - 1) (omega arith) f.0.0 f.0.1,
      read 1 0 (2 ^ 16 - 1) (omega arith) (omega arith) f.1,
      ends_read 71 ns (spaced text) w is_field_name text refl,
      f.2,
    )

type-read : (k a b c : ℕ) (text : Str) → Fits (Typ k a b c) text → line_of (print_line (Typ k a b c) text) ≡ Typ k a b c
unfolding reader type_line
type-read k a b c text f =
    let ns = k ∷ a ∷ b ∷ c ∷ [] in
    let m0 = most_a-fits k in
    let m1 = most_b-fits k a in
    let m2 = most_c-fits k a in
    let w : Narrow ns = (omega arith, (omega arith, (omega arith, (omega arith, tt)))) in
    let read = column-read 84 ns [] w in
    row_read 84 ns []
    ∙ rw (
      read 0 0 18 (omega arith) (omega arith) f.0,
      read 1 0 (most_a k) (omega arith) (omega arith) f.1,
      read 2 0 (most_b k a) (omega arith) (omega arith) f.2,
      read 3 0 (most_c k a) (omega arith) (omega arith) f.3,
      length-read 84 ns w,
    )

scope-read : (i b n : ℕ) (text : Str) → Fits (Scope i b n) text → line_of (print_line (Scope i b n) text) ≡ Scope i b n
unfolding reader scope_line
scope-read i b n text f =
    let ns = i ∷ b ∷ n ∷ [] in
    let m0 = most_count-fits b in
    let w : Narrow ns = (omega arith, (omega arith, (omega arith, tt))) in
    let read = column-read 83 ns [] w in
    row_read 83 ns []
    ∙ rw (
      read 0 0 (2 ^ 64 - 1) (omega arith) (omega arith) f.0,
      read 1 0 1 (omega arith) (omega arith) f.1,
      read 2 0 (most_count b) (omega arith) (omega arith) f.2,
      length-read 83 ns w,
    )

unbound-read : (text : Str) → Fits Unbound text → line_of (print_line Unbound text) ≡ Unbound
unfolding reader unbound_line
unbound-read text f =
    let ns : List ℕ = [] in
    let w : Narrow ns = tt in
    row_read 85 ns []
    ∙ rw (length-read 85 ns w)

value_read : (k b : ℕ) (text : Str) → Fits (Value k b) text → line_of (print_line (Value k b) text) ≡ Value k b
unfolding reader value_line
value_read k b text f =
    let ns = k ∷ b ∷ [] in
    let m0 = most_bits-fits k in
    let w : Narrow ns = (omega arith, (omega arith, tt)) in
    let read = column-read 86 ns [] w in
    row_read 86 ns []
    ∙ rw (
      read 0 0 18 (omega arith) (omega arith) f.0,
      read 1 0 (most_bits k) (omega arith) (omega arith) f.1,
      length-read 86 ns w,
    )

word_read : (v : ℕ) (text : Str) → Fits (Word v) text → line_of (print_line (Word v) text) ≡ Word v
unfolding reader word_line
word_read v text f =
    let ns = v ∷ [] in
    let w : Narrow ns = (omega arith, tt) in
    let read = column-read 87 ns [] w in
    row_read 87 ns []
    ∙ rw (
      read 0 0 (2 ^ 64 - 1) (omega arith) (omega arith) f.0,
      length-read 87 ns w,
    )

-- a line printed within its bounds is read as that line
pub read-printed : (l : Content) (text : Str) → Fits l text → line_of (print_line l text) ≡ l
read-printed Root text f = root-read text f
read-printed (Node i p s x g c o) text f = node-read i p s x g c o text f
read-printed Parameter text f = parameter-read text f
read-printed (Field o d e p) text f = field-read o d e p text f
read-printed (Group i d) text f = group-read i d text f
read-printed (Typ k a b c) text f = type-read k a b c text f
read-printed (Scope i b n) text f = scope-read i b n text f
read-printed Unbound text f = unbound-read text f
read-printed (Value k b) text f = value_read k b text f
read-printed (Word v) text f = word_read v text f
read-printed (Bad x k) text f = absurd f

-- the text of a row printed, after its numbers and its space; and of a row without one
text-after :
    (letter : ℕ) (ns : List ℕ) (text : Str) → Narrow ns → text_start letter ≡ suc (suc (length ns * 21))
    → text_of (row_text letter ns (spaced text)) ≡ text
text-after letter ns text w e =
    let t = letter ∷ columns ns (spaced text) in
    let m = suc (length ns * 21) in
    let d : drop (suc m) t ≡ text =
    ap (λ (k : ℕ). drop k t) (sym (add-one m)) ∙ sym (drop-drop 1 m t)
    ∙ ap (λ (r : Str). drop 1 r) (rest_read letter ns (spaced text) w)
    in
    rw (row_is letter ns (spaced text)) (text-read t ∙ rw (e, ne_eqb (suc m) 0 (omega arith), d))

text-no : (letter : ℕ) (ns : List ℕ) → text_start letter ≡ 0 → text_of (row_text letter ns []) ≡ []
text-no letter ns e = rw (row_is letter ns []) (text-read (letter ∷ columns ns []) ∙ rw e)

pub text-printed : (l : Content) (text : Str) → Fits l text → text_of (print_line l text) ≡ text
unfolding text_start
text-printed Root text f = text-after 82 [] text tt refl
text-printed (Node i p s x g c o) text f =
    text-after 78 (i ∷ p ∷ s ∷ x ∷ g ∷ c ∷ o ∷ []) text
    (omega arith, (omega arith, (omega arith, (omega arith, (omega arith, (omega arith, (omega arith, tt))))))) refl
text-printed Parameter text f = text-after 80 [] text tt refl
text-printed (Field o d e p) text f =
    text-after 70 (o ∷ d ∷ e ∷ p ∷ []) text (omega arith, (omega arith, (omega arith, (omega arith, tt)))) refl
text-printed (Group i d) text f = text-after 71 (i ∷ d ∷ []) text (omega arith, (omega arith, tt)) refl
text-printed (Typ k a b c) text f = text-no 84 (k ∷ a ∷ b ∷ c ∷ []) refl ∙ sym f.4
text-printed (Scope i b n) text f = text-no 83 (i ∷ b ∷ n ∷ []) refl ∙ sym f.3
text-printed Unbound text f = text-no 85 [] refl ∙ sym f
text-printed (Value k b) text f = text-no 86 (k ∷ b ∷ []) refl ∙ sym f.2
text-printed (Word v) text f = text-no 87 (v ∷ []) refl ∙ sym f.1
text-printed (Bad x k) text f = absurd f

-- ---- a line printed has one byte 10, its last

newline_no : (b : ℕ) (s : Str) → (b ≡ 10 → ⊥) → newlines (b ∷ s) ≡ newlines s
unfolding newlines
newline_no b s h = rw (newlines, ne_eqb b 10 h)

spaces-newlines : (k : ℕ) → newlines (replicate k 32) ≡ 0
unfolding newlines
spaces-newlines zero = refl
spaces-newlines (suc k) = newline_no 32 (replicate k 32) (omega arith) ∙ spaces-newlines k

digit-newlines : (d : ℕ) → newlines (unit (48 + d)) ≡ 0
unfolding newlines
digit-newlines d = newline_no (48 + d) [] (omega arith)

decimal-newlines : (k n : ℕ) → n ≤ k → newlines (decimal n) ≡ 0
decimal-newlines zero n h = rw (decimal-low n (omega arith)) (digit-newlines n)
decimal-newlines (suc k) n h = go (decimal-newlines k (n / 10)) (ltb n 10) refl
  where
    go : (n / 10 ≤ k → newlines (decimal (n / 10)) ≡ 0) → (b : Bool) → ltb n 10 ≡ b → newlines (decimal n) ≡ 0
    go f true e = rw (decimal-low n (ltb-true n 10 e)) (digit-newlines n)
    go f false e =
        let l = ltb-false n 10 e in
        rw (decimal-high n l, newlines_append) (omega (arith, f (omega arith), digit-newlines (n % 10)))

columns-newlines : (ns : List ℕ) (end : Str) → newlines end ≡ 0 → newlines (columns ns end) ≡ 0
unfolding columns padded
columns-newlines [] end h = h
columns-newlines (n ∷ ns) end h =
    let k = 21 - length (decimal n) in
    let i = columns-newlines ns end h in
    let j = newlines_append (replicate k 32) (decimal n) in
    rw (newlines_append (padded n) (columns ns end)) (omega (arith, spaces-newlines k, decimal-newlines n n (omega arith)))

all-newlines : (ok : ℕ → Bool) (t : Str) → ok 10 ≡ false → all ok t ≡ true → newlines t ≡ 0
unfolding all newlines
all-newlines ok [] n e = refl
all-newlines ok (b ∷ t) n e = go (all-newlines ok t n) (ok b) refl e
  where
    differ : true ≡ false → ⊥
    differ e = let z : ◌≡◌ {A = ℕ} 0 1 = cc in omega arith

    go : (all ok t ≡ true → newlines t ≡ 0) → (p : Bool) → ok b ≡ p → cond p (all ok t) false ≡ true → newlines (b ∷ t) ≡ 0
    go f true h e = newline_no b t (λ z. differ (sym h ∙ ap ok z ∙ n)) ∙ f e
    go f false h e = let z : ◌≡◌ {A = ℕ} 0 1 = cc in let y : ⊥ = omega arith in absurd y

name-newlines : (text : Str) → is_name text ≡ true → newlines (spaced text) ≡ 0
unfolding is_word
name-newlines text e = newline_no 32 text (omega arith) ∙ all-newlines is_word text refl (name-all text e)

field-name-newlines : (text : Str) → is_field_name text ≡ true → newlines (spaced text) ≡ 0
unfolding is_word
field-name-newlines text e =
    newline_no 32 text (omega arith)
    ∙ all-newlines (or_high is_word) text refl (chars_all is_word false text (field-name_chars text e))

graphic_newlines : (most : ℕ) (text : Str) → is_graphic_text most text ≡ true → newlines (spaced text) ≡ 0
unfolding is_graphic
graphic_newlines most text e = newline_no 32 text (omega arith) ∙ all-newlines is_graphic text refl (graphic_all most text e)

first-row :
    (letter : ℕ) (ns : List ℕ) (end rest : Str) → (letter ≡ 10 → ⊥) → newlines end ≡ 0
    → rows (row_text letter ns end ++ rest) ≡ row_text letter ns end ∷ rows rest
first-row letter ns end rest l h =
    rw (row_is letter ns end)
    (rows-line (letter ∷ columns ns end) rest (newline_no letter (columns ns end) l ∙ columns-newlines ns end h))

-- a line printed in front of others is their first row
pub rows-printed :
    (l : Content) (text rest : Str) → Fits l text → rows (print_line l text ++ rest) ≡ print_line l text ∷ rows rest
unfolding newlines
rows-printed Root text rest f = first-row 82 [] _ rest (omega arith) (graphic_newlines 64 text f)
rows-printed (Node i p s x g c o) text rest f = first-row 78 _ _ rest (omega arith) (graphic_newlines 128 text f.7)
rows-printed Parameter text rest f = first-row 80 [] _ rest (omega arith) (name-newlines text f)
rows-printed (Field o d e p) text rest f = first-row 70 _ _ rest (omega arith) (field-name-newlines text f.4)
rows-printed (Group i d) text rest f = first-row 71 _ _ rest (omega arith) (field-name-newlines text f.2)
rows-printed (Typ k a b c) text rest f = first-row 84 _ [] rest (omega arith) refl
rows-printed (Scope i b n) text rest f = first-row 83 _ [] rest (omega arith) refl
rows-printed Unbound text rest f = first-row 85 [] [] rest (omega arith) refl
rows-printed (Value k b) text rest f = first-row 86 _ [] rest (omega arith) refl
rows-printed (Word v) text rest f = first-row 87 _ [] rest (omega arith) refl
rows-printed (Bad x k) text rest f = absurd f
