-- A row that reads as a line is that line printed with the row's text, and lies in document 01's bounds.
-- Each number that was read stands printed in its columns, and what is left of the row follows it. Assumes nothing.
use mathlib.Core.Path.{◌≡◌, refl, sym, ap, ◌∙◌}
use mathlib.Core.Bool.{Bool, true, false}
use mathlib.Core.List.{List, [], ◌∷◌, ◌++◌}
use Prim.Native.Nat.{ℕ, suc, ◌+◌, ◌-◌, ◌≤◌, ◌<◌}
use native.Mathlib.Omega.{arith}
use lib.Dec.{eqb}
use lib.ListN.{length, get_or, take, drop, drop_of_length-le}
use lib.Seq.{take-length, take-suc}
use borrow.Author.Tests.{eqb-true}
use Rattle.text.specs.Bytes.{Str, cond, unit}
use Rattle.column.specs.Number.{padded}
use Rattle.column.specs.Texts.{is_name, is_field_name, is_graphic_text}
use Rattle.column.proofs.PaddedLaws.{Stands, column_stands, Ends, ends_stands}
use Rattle.row.specs.Line.{root_line, node_line, parameter_line, field_line, group_line}
use Rattle.row.specs.Line.{type_line, scope_line, unbound_line, value_line, word_line}
use Rattle.row.specs.Line.{Fault, with_number, reader, empty_row, bad_line, line_of, text_start, text_of}
use Rattle.row.specs.Print.{columns, row_text, print_line, Fits}
use Rattle.row.specs.Line.{Content, Root, Node, Parameter, Field, Group, Typ, Scope, Unbound, Value, Word, Bad}
use Rattle.row.proofs.ColumnLaws.{by_number}
use Rattle.row.proofs.PrintLaws.{row_is, line_read, text-read}

-- any line but the bad one
abbrev pub Good : Content → Type 0
Good Root = Unit
Good (Node i p s x g c o) = Unit
Good Parameter = Unit
Good (Field o d e p) = Unit
Good (Group i d) = Unit
Good (Typ k a b c) = Unit
Good (Scope i b n) = Unit
Good Unbound = Unit
Good (Value k b) = Unit
Good (Word v) = Unit
Good (Bad x k) = ⊥

-- row r is line l printed with its text, in the line's bounds
pub record Printed (r : Str) (l : Content) : Type 0 where
  pub fits : Fits l (text_of r)
  pub whole : r ≡ print_line l (text_of r)

abbrev Told : Str → Content → Type 0
Told r l = Good l → Printed r l

told-bad : (r : Str) (x : ℕ) (k : Fault) → Told r (Bad x k)
told-bad r x k h = absurd h

-- a line that goes on with a number, and one that goes on where a test holds
module _ (r : Str) where
  on-column :
      (t : Str) (a least most : ℕ) (f : ℕ → Content) → ((v : ℕ) → Stands t a least most v → Told r (f v))
      → Told r (with_number t a least most f)
  on-column t a least most f g = by_number (Told r) t a _ f (told-bad r _ _) λ v e. g v (column_stands t a least most v e)

  on_test : (b : Bool) (l : Content) (x : ℕ) (k : Fault) → (b ≡ true → Told r l) → Told r (cond b l (Bad x k))
  on_test true l x k g = g refl
  on_test false l x k g = told-bad r x k

-- what stands from a on: numbers, and an end
record Rest (t : Str) (a : ℕ) (ns : List ℕ) (end : Str) : Type 0 where
  is : drop a t ≡ columns ns end

infixr 50 ◌then◌
◌then◌ :
    {t : Str} {a least most n : ℕ} {ns : List ℕ} {end : Str} → Stands t a least most n → Rest t (a + 21) ns end
    → Rest t a (n ∷ ns) end
unfolding columns
◌then◌ {n = n} c e = record { is = c.here ∙ ap (λ (s : Str). padded n ++ s) e.is }

text-end : {ok : Str → Bool} {t : Str} {a : ℕ} → Ends ok t a → Rest t a [] (32 ∷ drop (a + 1) t)
unfolding columns
text-end c = record { is = c.here }

no_end : {t : Str} {a : ℕ} → length t ≡ a → Rest t a [] []
unfolding columns
no_end {t} {a} e = let l : length t ≤ a = omega arith in record { is = drop_of_length-le t l }

-- a row of a letter, its numbers and its end, with its text
printed_as :
    (letter : ℕ) (u : Str) (ns : List ℕ) (end text : Str) (l : Content) → Rest (letter ∷ u) 1 ns end
    → text_of ((letter ∷ u) ++ unit 10) ≡ text
    → Fits l text → row_text letter ns end ≡ print_line l text → Printed ((letter ∷ u) ++ unit 10) l
printed_as letter u ns end text l c e f g = record {
  fits = rw e f;
  whole = ap (λ (s : Str). (letter ∷ s) ++ unit 10) c.is ∙ sym (row_is letter ns end) ∙ g ∙ rw e;
}

root_told : (u : Str) → Told ((82 ∷ u) ++ unit 10) (root_line (82 ∷ u))
unfolding root_line text_start
root_told u =
    let t : Str = 82 ∷ u in
    let r = t ++ unit 10 in
    on_test r _ _ _ _ λ z _.
    let q = ends_stands (is_graphic_text 64) t 1 z in
    printed_as 82 u [] (32 ∷ drop 2 t) (drop 2 t) Root
    (text-end q) (text-read t)
    q.good refl

node-told : (u : Str) → Told ((78 ∷ u) ++ unit 10) (node_line (78 ∷ u))
unfolding node_line text_start
node-told u =
    let t : Str = 78 ∷ u in
    let r = t ++ unit 10 in
    on-column r t _ _ _ _ λ i c₀.
    on-column r t _ _ _ _ λ p c₁.
    on-column r t _ _ _ _ λ s c₂.
    on-column r t _ _ _ _ λ x c₃.
    on-column r t _ _ _ _ λ g c₄.
    on-column r t _ _ _ _ λ c c₅.
    on-column r t _ _ _ _ λ o c₆.
    on_test r _ _ _ _ λ z _.
    let q = ends_stands (is_graphic_text 128) t 148 z in
    printed_as 78 u (i ∷ p ∷ s ∷ x ∷ g ∷ c ∷ o ∷ []) (32 ∷ drop 149 t) (drop 149 t) (Node i p s x g c o)
    (c₀ then c₁ then c₂ then c₃ then c₄ then c₅ then c₆ then text-end q) (text-read t)
    ((c₀.low, c₀.high), c₁.high, c₂.high, c₃.high, c₄.high, c₅.high, c₆.high, q.good) refl

parameter-told : (u : Str) → Told ((80 ∷ u) ++ unit 10) (parameter_line (80 ∷ u))
unfolding parameter_line text_start
parameter-told u =
    let t : Str = 80 ∷ u in
    let r = t ++ unit 10 in
    on_test r _ _ _ _ λ z _.
    let q = ends_stands is_name t 1 z in
    printed_as 80 u [] (32 ∷ drop 2 t) (drop 2 t) Parameter
    (text-end q) (text-read t)
    q.good refl

field_told : (u : Str) → Told ((70 ∷ u) ++ unit 10) (field_line (70 ∷ u))
unfolding field_line text_start
field_told u =
    let t : Str = 70 ∷ u in
    let r = t ++ unit 10 in
    on-column r t _ _ _ _ λ o c₀.
    on-column r t _ _ _ _ λ d c₁.
    on-column r t _ _ _ _ λ e c₂.
    on-column r t _ _ _ _ λ p c₃.
    on_test r _ _ _ _ λ z _.
    let q = ends_stands is_field_name t 85 z in
    printed_as 70 u (o ∷ d ∷ e ∷ p ∷ []) (32 ∷ drop 86 t) (drop 86 t) (Field o d e p)
    (c₀ then c₁ then c₂ then c₃ then text-end q) (text-read t)
    (c₀.high, c₁.high, c₂.high, c₃.high, q.good) refl

group-told : (u : Str) → Told ((71 ∷ u) ++ unit 10) (group_line (71 ∷ u))
unfolding group_line text_start
group-told u =
    let t : Str = 71 ∷ u in
    let r = t ++ unit 10 in
    on-column r t _ _ _ _ λ i c₀.
    on-column r t _ _ _ _ λ d c₁.
    on_test r _ _ _ _ λ z _.
    let q = ends_stands is_field_name t 43 z in
    printed_as 71 u (i ∷ d ∷ []) (32 ∷ drop 44 t) (drop 44 t) (Group i d)
    (c₀ then c₁ then text-end q) (text-read t)
    ((c₀.low, c₀.high), c₁.high, q.good) refl

type-told : (u : Str) → Told ((84 ∷ u) ++ unit 10) (type_line (84 ∷ u))
unfolding type_line text_start
type-told u =
    let t : Str = 84 ∷ u in
    let r = t ++ unit 10 in
    on-column r t _ _ _ _ λ k c₀.
    on-column r t _ _ _ _ λ a c₁.
    on-column r t _ _ _ _ λ b c₂.
    on-column r t _ _ _ _ λ c c₃.
    on_test r _ _ _ _ λ z _.
    printed_as 84 u (k ∷ a ∷ b ∷ c ∷ []) [] [] (Typ k a b c)
    (c₀ then c₁ then c₂ then c₃ then no_end (eqb-true _ 85 z)) (text-read t)
    (c₀.high, c₁.high, c₂.high, c₃.high, refl) refl

scope-told : (u : Str) → Told ((83 ∷ u) ++ unit 10) (scope_line (83 ∷ u))
unfolding scope_line text_start
scope-told u =
    let t : Str = 83 ∷ u in
    let r = t ++ unit 10 in
    on-column r t _ _ _ _ λ i c₀.
    on-column r t _ _ _ _ λ b c₁.
    on-column r t _ _ _ _ λ n c₂.
    on_test r _ _ _ _ λ z _.
    printed_as 83 u (i ∷ b ∷ n ∷ []) [] [] (Scope i b n)
    (c₀ then c₁ then c₂ then no_end (eqb-true _ 64 z)) (text-read t)
    (c₀.high, c₁.high, c₂.high, refl) refl

unbound-told : (u : Str) → Told ((85 ∷ u) ++ unit 10) (unbound_line (85 ∷ u))
unfolding unbound_line text_start
unbound-told u =
    let t : Str = 85 ∷ u in
    let r = t ++ unit 10 in
    on_test r _ _ _ _ λ z _.
    printed_as 85 u [] [] [] Unbound
    (no_end (eqb-true _ 1 z)) (text-read t)
    refl refl

value-told : (u : Str) → Told ((86 ∷ u) ++ unit 10) (value_line (86 ∷ u))
unfolding value_line text_start
value-told u =
    let t : Str = 86 ∷ u in
    let r = t ++ unit 10 in
    on-column r t _ _ _ _ λ k c₀.
    on-column r t _ _ _ _ λ b c₁.
    on_test r _ _ _ _ λ z _.
    printed_as 86 u (k ∷ b ∷ []) [] [] (Value k b)
    (c₀ then c₁ then no_end (eqb-true _ 43 z)) (text-read t)
    (c₀.high, c₁.high, refl) refl

word-told : (u : Str) → Told ((87 ∷ u) ++ unit 10) (word_line (87 ∷ u))
unfolding word_line text_start
word-told u =
    let t : Str = 87 ∷ u in
    let r = t ++ unit 10 in
    on-column r t _ _ _ _ λ v c₀.
    on_test r _ _ _ _ λ z _.
    printed_as 87 u (v ∷ []) [] [] (Word v)
    (c₀ then no_end (eqb-true _ 22 z)) (text-read t)
    (c₀.high, refl) refl

-- the reader of a letter: that letter's, or another's
by_letter :
    (b x : ℕ) (u : Str) (f g : Str → Content) → ((v : Str) → Told ((x ∷ v) ++ unit 10) (f (x ∷ v)))
    → Told ((b ∷ u) ++ unit 10) (g (b ∷ u))
    → Told ((b ∷ u) ++ unit 10) (cond (eqb b x) f g (b ∷ u))
by_letter b x u f g h k = go (eqb b x) refl
  where
    go : (p : Bool) → eqb b x ≡ p → Told ((b ∷ u) ++ unit 10) (cond p f g (b ∷ u))
    go true e = rw (eqb-true b x e) (h u)
    go false e = k

reader-told : (b : ℕ) (u : Str) → Told ((b ∷ u) ++ unit 10) (reader b (b ∷ u))
unfolding reader
reader-told b u =
    by_letter b 82 u root_line _ root_told
    (by_letter b 78 u node_line _ node-told
    (by_letter b 80 u parameter_line _ parameter-told
    (by_letter b 70 u field_line _ field_told
    (by_letter b 71 u group_line _ group-told
    (by_letter b 84 u type_line _ type-told
    (by_letter b 83 u scope_line _ scope-told
    (by_letter b 85 u unbound_line _ unbound-told
    (by_letter b 86 u value_line _ value-told
    (by_letter b 87 u word_line bad_line word-told (told-bad _ _ _))))))))))

no-letter : line_of (unit 10) ≡ empty_row
unfolding line_of reader
no-letter = refl

line-told : (t : Str) → Told (t ++ unit 10) (line_of (t ++ unit 10))
line-told [] = rw no-letter (told-bad (unit 10) _ _)
line-told (b ∷ u) = rw (line_read (b ∷ u)) (reader-told b u)

-- a row without byte 10
line_open : (r : Str) → eqb (get_or r (length r - 1) 0) 10 ≡ false → line_of r ≡ empty_row
unfolding line_of
line_open r e = rw e

-- a row that ends in byte 10 is what stands in front of it, and byte 10
row-split : (r : Str) → get_or r (length r - 1) 0 ≡ 10 → r ≡ take (length r - 1) r ++ unit 10
row-split [] e = let z : ⊥ = omega arith in absurd z
row-split (b ∷ u) e =
    let m : suc (length u) - 1 ≡ length u = omega arith in
    let l : length u < suc (length u) = omega arith in
    let f : get_or (b ∷ u) (length u) 0 ≡ 10 = rw m at e in
    rw m (sym (take-length (b ∷ u)) ∙ take-suc (b ∷ u) (length u) 0 l ∙ rw f)

row_told : (r : Str) → Told r (line_of r)
row_told r = go (eqb (get_or r (length r - 1) 0) 10) refl
  where
    same : (r s : Str) → r ≡ s → Told s (line_of s) → Told r (line_of r)
    same r s e h = rw e h

    go : (p : Bool) → eqb (get_or r (length r - 1) 0) 10 ≡ p → Told r (line_of r)
    go true e = same r (take (length r - 1) r ++ unit 10) (row-split r (eqb-true _ 10 e)) (line-told (take (length r - 1) r))
    go false e = rw (line_open r e) (told-bad r _ _)

-- a row that says a line is that line printed: `printed-line r (Field o d e p) tt e` for e : line_of r ≡ Field o d e p
pub printed-line : (r : Str) (l : Content) → Good l → line_of r ≡ l → Printed r l
printed-line r l g e = let t : Told r l = rw (← e) (row_told r) in t g
