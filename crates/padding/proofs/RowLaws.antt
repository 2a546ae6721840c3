-- A line printed stays as it is, and comes back from its short form: whatever spaces stand in front of its numbers, each number
-- is the next word. Assumes nothing.
use mathlib.Core.Path.{◌≡◌, refl, ap, ◌∙◌}
use mathlib.Core.Bool.{Bool, true, false}
use mathlib.Core.List.{List, [], ◌∷◌, ◌++◌, append_assoc}
use Prim.Native.Nat.{ℕ, zero, suc, ◌+◌, ◌-◌, ◌/◌, ◌%◌, ◌≤◌, ◌<◌}
use native.Mathlib.Omega.{arith}
use lib.Dec.{eqb, leb}
use lib.ListN.{length, get_or, take, drop, replicate, length-append, length-replicate}
use lib.Seq.{drop_at, drop-append_seam, take-append_seam}
use borrow.Author.Tests.{ne_eqb, leb-true, eqb-true}
use Rattle.text.specs.Bytes.{Str, cond, either, unit}
use Rattle.text.specs.Decimal.{decimal}
use Rattle.text.proofs.BytesLaws.{both_true}
use Rattle.text.proofs.DecimalLaws.{by_last_digit, decimal-length}
use Rattle.column.specs.Number.{padded}
use Rattle.column.specs.Texts.{between, is_digit, is_word, is_graphic, all, is_name, is_field_name, is_graphic_text}
use Rattle.column.proofs.Laws.{name-all, field-name_chars, graphic_all}
use Rattle.column.proofs.CharLaws.{or_high, chars_all}
use Rattle.row.specs.Print.{columns, row_text, spaced, print_line, Fits}
use Rattle.row.proofs.PrintLaws.{most_a-fits, most_b-fits, most_c-fits, most_count-fits, most_bits-fits}
use Rattle.row.specs.Line.{Content, Root, Node, Parameter, Field, Group, Typ, Scope, Unbound, Value, Word, Bad}
use Rattle.padding.specs.Padded.{number_count, space_len, word_len, right_justified, words_padded, padded_row}
use Rattle.padding.specs.Short.{short}
use Rattle.padding.proofs.ShortLaws.{short-kept, short-spaces}

-- ---- words: bytes that are neither spaces nor byte 10

abbrev Solid : Str → Type 0
Solid [] = Unit {0}
Solid (b ∷ s) = (33 ≤ b) × Solid s

solid_append : (s t : Str) → Solid s → Solid t → Solid (s ++ t)
solid_append [] t f g = g
solid_append (b ∷ s) t f g = (f.0, solid_append s t f.1 g)

-- such bytes do not begin with a space, whatever follows that is none
not_space : (s t : Str) → Solid s → (get_or t 0 0 ≡ 32 → ⊥) → get_or (s ++ t) 0 0 ≡ 32 → ⊥
not_space [] t f h e = h e
not_space (b ∷ s) t f h e = let l = f.0 in omega arith

-- a test that only such bytes pass
all_solid : (ok : ℕ → Bool) → ((b : ℕ) → ok b ≡ true → 33 ≤ b) → (s : Str) → all ok s ≡ true → Solid s
unfolding all
all_solid ok low [] e = tt
all_solid ok low (b ∷ s) e = go (all_solid ok low s) (ok b) refl e
  where
    go : (all ok s ≡ true → Solid s) → (t : Bool) → ok b ≡ t → cond t (all ok s) false ≡ true → Solid (b ∷ s)
    go f true h e = (low b h, f e)
    go f false h e = cc

between-low : (lo hi b : ℕ) → between lo hi b ≡ true → lo ≤ b
between-low lo hi b e = leb-true lo b (both_true (leb lo b) (leb b hi) e).0

graphic_low : (b : ℕ) → is_graphic b ≡ true → 33 ≤ b
unfolding is_graphic
graphic_low b e = between-low 33 126 b e

word_low : (b : ℕ) → is_word b ≡ true → 33 ≤ b
unfolding is_word
word_low b e = go (between 97 122 b) refl (between 65 90 b) refl (eqb b 95) refl e
  where
    go :
        (p : Bool) → between 97 122 b ≡ p → (q : Bool) → between 65 90 b ≡ q → (r : Bool) → eqb b 95 ≡ r
        → either p (either q (either r (is_digit b))) ≡ true → 33 ≤ b
    go true l q _ r _ e = omega (arith, between-low 97 122 b l)
    go false _ true l r _ e = omega (arith, between-low 65 90 b l)
    go false _ false _ true l e = omega (arith, eqb-true b 95 l)
    go false _ false _ false _ e = omega (arith, between-low 48 57 b e)

high-low : (b : ℕ) → or_high is_word b ≡ true → 33 ≤ b
high-low b e = go (is_word b) refl e
  where
    go : (p : Bool) → is_word b ≡ p → either p (leb 128 b) ≡ true → 33 ≤ b
    go true h e = word_low b h
    go false h e = omega (arith, leb-true 128 b e)

name_solid : (t : Str) → is_name t ≡ true → Solid t
name_solid t e = all_solid is_word word_low t (name-all t e)

field-name_solid : (t : Str) → is_field_name t ≡ true → Solid t
field-name_solid t e = all_solid (or_high is_word) high-low t (chars_all is_word false t (field-name_chars t e))

graphic_solid : (most : ℕ) (t : Str) → is_graphic_text most t ≡ true → Solid t
graphic_solid most t e = all_solid is_graphic graphic_low t (graphic_all most t e)

-- a number is such bytes, and at least one; by its last digit
digit_solid : (d : ℕ) → Solid (unit (48 + d))
digit_solid d = (omega arith, tt)

decimal_solid : (n : ℕ) → Solid (decimal n)
decimal_solid =
    by_last_digit (λ n s. Solid s) (λ n l. digit_solid n)
    (λ n l f. solid_append (decimal (n / 10)) (unit (48 + n % 10)) f (digit_solid (n % 10)))

decimal-some : (n : ℕ) → 0 < length (decimal n)
decimal-some = by_last_digit (λ n s. 0 < length s) (λ n l. omega arith) (λ n l f. rw length-append (omega arith))

-- a number in front of anything does not begin with a space
number-first : (n : ℕ) (t : Str) → get_or (decimal n ++ t) 0 0 ≡ 32 → ⊥
number-first n t e = go (decimal n) (decimal_solid n) (decimal-some n) e
  where
    go : (s : Str) → Solid s → 0 < length s → get_or (s ++ t) 0 0 ≡ 32 → ⊥
    go [] f l e = omega arith
    go (b ∷ s) f l e = let k = f.0 in omega arith

-- ---- the next word

spaces_are : (k : ℕ) (s : Str) → (get_or s 0 0 ≡ 32 → ⊥) → space_len (replicate k 32 ++ s) ≡ k
unfolding space_len
spaces_are zero [] h = refl
spaces_are zero (b ∷ s) h = rw (space_len, ne_eqb b 32 h)
spaces_are (suc k) s h = ap suc (spaces_are k s h)

word-is : (w rest : Str) → Solid w → word_len rest ≡ 0 → word_len (w ++ rest) ≡ length w
unfolding word_len
word-is [] rest f h = h
word-is (b ∷ w) rest f h =
    let l = f.0 in
    let i = word-is w rest f.1 h in
    rw (word_len, ne_eqb b 32 (omega arith), ne_eqb b 10 (omega arith)) (ap suc i)

-- spaces, a number, and what begins with a space or byte 10
next_word :
    (k n count : ℕ) (rest : Str) → word_len rest ≡ 0
    → words_padded (suc count) (replicate k 32 ++ (decimal n ++ rest)) ≡ padded n ++ words_padded count rest
unfolding words_padded right_justified padded
next_word k n count rest h =
    let w = decimal n in
    let s : drop (space_len (replicate k 32 ++ (w ++ rest))) (replicate k 32 ++ (w ++ rest)) ≡ w ++ rest =
    ap (λ (m : ℕ). drop m (replicate k 32 ++ (w ++ rest))) (spaces_are k (w ++ rest) (number-first n rest))
    ∙ drop_at (replicate k 32) (w ++ rest) k (length-replicate k 32) in
    let size = word-is w rest (decimal_solid n) h in
    ap (λ (u : Str). right_justified (take (word_len u) u) ++ words_padded count (drop (word_len u) u)) s
    ∙ ap (λ (m : ℕ). right_justified (take m (w ++ rest)) ++ words_padded count (drop m (w ++ rest))) size
    ∙ rw (take-append_seam w rest, drop-append_seam w rest)

-- ---- numbers after spaces, as many as a rule gives for each

spaced_numbers : (ℕ → ℕ) → List ℕ → Str → Str
spaced_numbers gap [] end = end
spaced_numbers gap (n ∷ ns) end = replicate (gap n) 32 ++ (decimal n ++ spaced_numbers gap ns end)

-- at least one in front of each
abbrev Apart : (ℕ → ℕ) → List ℕ → Type 0
Apart gap [] = Unit {0}
Apart gap (n ∷ ns) = (0 < gap n) × Apart gap ns

-- as they are printed, and in the short form
abbrev in_columns : ℕ → ℕ
in_columns n = 21 - length (decimal n)

abbrev single : ℕ → ℕ
single n = 1

single-apart : (ns : List ℕ) → Apart single ns
single-apart [] = tt
single-apart (n ∷ ns) = (omega arith, single-apart ns)

columns_are : (ns : List ℕ) (end : Str) → columns ns end ≡ spaced_numbers in_columns ns end
unfolding columns padded spaced_numbers
columns_are [] end = refl
columns_are (n ∷ ns) end =
    append_assoc (replicate (in_columns n) 32) (decimal n) (columns ns end)
    ∙ ap (λ (s : Str). replicate (in_columns n) 32 ++ (decimal n ++ s)) (columns_are ns end)

no_word : (k : ℕ) (s : Str) → 0 < k → word_len (replicate k 32 ++ s) ≡ 0
unfolding word_len
no_word zero s l = absurd (omega arith)
no_word (suc k) s l = refl

numbers-first :
    (gap : ℕ → ℕ) (ns : List ℕ) (end : Str) → Apart gap ns → word_len end ≡ 0
    → word_len (spaced_numbers gap ns end) ≡ 0
unfolding spaced_numbers
numbers-first gap [] end a h = h
numbers-first gap (n ∷ ns) end a h = no_word (gap n) (decimal n ++ spaced_numbers gap ns end) a.0

-- they go into their columns
pad-numbers :
    (gap : ℕ → ℕ) (ns : List ℕ) (end : Str) → Apart gap ns → word_len end ≡ 0 → space_len end ≤ 1
    → words_padded (length ns) (spaced_numbers gap ns end) ≡ columns ns end
unfolding spaced_numbers columns words_padded
pad-numbers gap [] end a h l =
    let z : space_len end - 1 ≡ 0 = omega arith in
    ap (λ (k : ℕ). drop k end) z
pad-numbers gap (n ∷ ns) end a h l =
    next_word (gap n) n (length ns) (spaced_numbers gap ns end) (numbers-first gap ns end a.1 h)
    ∙ ap (λ (s : Str). padded n ++ s) (pad-numbers gap ns end a.1 h l)

-- the short form keeps words, and of the spaces one
short_solid : (w t : Str) → Solid w → short (w ++ t) ≡ w ++ short t
short_solid [] t f = refl
short_solid (b ∷ w) t f =
    let l = f.0 in
    short-kept b (w ++ t) (omega arith) ∙ ap (λ (s : Str). b ∷ s) (short_solid w t f.1)

short-numbers :
    (gap : ℕ → ℕ) (ns : List ℕ) (end : Str) → Apart gap ns
    → short (spaced_numbers gap ns end) ≡ spaced_numbers single ns (short end)
unfolding spaced_numbers
short-numbers gap [] end a = refl
short-numbers gap (n ∷ ns) end a =
    let rest = spaced_numbers gap ns end in
    short-spaces (gap n) (decimal n ++ rest) a.0 (number-first n rest)
    ∙ ap (λ (s : Str). 32 ∷ s)
    (short_solid (decimal n) rest (decimal_solid n)
    ∙ ap (λ (s : Str). decimal n ++ s) (short-numbers gap ns end a.1))

-- ---- a row

-- what stands after the numbers is no word, begins with one space at most, and is its own short form
record Tail (end : Str) : Type 0 where
  word : word_len end ≡ 0
  spaces : space_len end ≤ 1
  shortest : short end ≡ end

tail_none : Tail (unit 10)
unfolding word_len space_len short
tail_none = record { word = refl; spaces = omega arith; shortest = refl }

tail_text : (text : Str) → Solid text → Tail (spaced text ++ unit 10)
unfolding word_len space_len short
tail_text text f =
    let n = not_space text (unit 10) f (omega arith) in
    record {
      word = refl;
      spaces = rw (spaces_are 0 (text ++ unit 10) n) (omega arith);
      shortest =
          short-spaces 1 (text ++ unit 10) (omega arith) n ∙ ap (λ (s : Str). 32 ∷ s) (short_solid text (unit 10) f);
    }

-- a row stays as it is, and comes back from its short form
pub record Comes (r : Str) : Type 0 where
  pub keeps : padded_row r ≡ r
  pub returns : padded_row (short r) ≡ r

comes :
    (letter : ℕ) (ns : List ℕ) (end : Str) → number_count letter ≡ length ns → (letter ≡ 32 → ⊥) → Apart in_columns ns
    → Tail (end ++ unit 10) → Comes (row_text letter ns end)
unfolding padded_row row_text
comes letter ns end count other apart tail =
    let e = end ++ unit 10 in
    let pads : (s : Str) → words_padded (length ns) s ≡ columns ns e
    → padded_row (letter ∷ s) ≡ letter ∷ columns ns e =
    (λ s h. ap (λ (k : ℕ). letter ∷ words_padded k s) count ∙ ap (λ (u : Str). letter ∷ u) h) in
    record {
      keeps = pads (columns ns e)
          (ap (words_padded (length ns)) (columns_are ns e)
          ∙ pad-numbers in_columns ns e apart tail.word tail.spaces);
      returns =
          ap padded_row (short-kept letter (columns ns e) other)
          ∙ pads (short (columns ns e))
          (ap (λ (s : Str). words_padded (length ns) (short s)) (columns_are ns e)
          ∙ ap (words_padded (length ns))
          (short-numbers in_columns ns e apart ∙ ap (spaced_numbers single ns) tail.shortest)
          ∙ pad-numbers single ns e (single-apart ns) tail.word tail.spaces);
    }

-- the row of each line; each number fits its columns with a space in front
pub line-comes : (l : Content) (text : Str) → Fits l text → Comes (print_line l text)
unfolding number_count
line-comes Root text f = comes 82 [] (spaced text) refl (omega arith) tt (tail_text text (graphic_solid 64 text f))
line-comes (Node i p s x g c o) text f =
    comes 78 (i ∷ p ∷ s ∷ x ∷ g ∷ c ∷ o ∷ []) (spaced text) refl (omega arith) (omega (arith, decimal-length 19))
    (tail_text text (graphic_solid 128 text f.7))
line-comes Parameter text f = comes 80 [] (spaced text) refl (omega arith) tt (tail_text text (name_solid text f))
line-comes (Field o d e p) text f =
    comes 70 (o ∷ d ∷ e ∷ p ∷ []) (spaced text) refl (omega arith) (omega (arith, decimal-length 19))
    (tail_text text (field-name_solid text f.4))
line-comes (Group i d) text f =
    comes 71 (i ∷ d ∷ []) (spaced text) refl (omega arith) (omega (arith, decimal-length 19))
    (tail_text text (field-name_solid text f.2))
line-comes (Typ k a b c) text f =
    let m0 = most_a-fits k in
    let m1 = most_b-fits k a in
    let m2 = most_c-fits k a in
    comes 84 (k ∷ a ∷ b ∷ c ∷ []) [] refl (omega arith) (omega (arith, decimal-length 19)) tail_none
line-comes (Scope i b n) text f =
    let m0 = most_count-fits b in
    comes 83 (i ∷ b ∷ n ∷ []) [] refl (omega arith) (omega (arith, decimal-length 19)) tail_none
line-comes Unbound text f = comes 85 [] [] refl (omega arith) tt tail_none
line-comes (Value k b) text f =
    let m0 = most_bits-fits k in
    comes 86 (k ∷ b ∷ []) [] refl (omega arith) (omega (arith, decimal-length 19)) tail_none
line-comes (Word v) text f = comes 87 (v ∷ []) [] refl (omega arith) (omega (arith, decimal-length 19)) tail_none
line-comes (Bad x k) text f = absurd f
