-- A line that has a byte 10 before the least bytes that a good one has: the column or the text in which the byte stands is bad,
-- and all before it is as it was, so that the line has the same fault up to that byte and with what stands after it.
-- Assumes nothing.
use mathlib.Core.Path.{◌≡◌, refl, ap, ◌∙◌}
use mathlib.Core.Bool.{Bool, true, false}
use mathlib.Core.List.{[], ◌∷◌, ◌++◌}
use Rattle.std.specs.Prelude.{Option, None, Some}
use Prim.Native.Nat.{ℕ, zero, suc, ◌+◌, ◌-◌, ◌*◌, ◌^◌, ◌<◌, ◌≤◌}
use native.Mathlib.Decide.{dec_lt}
use native.Mathlib.Omega.{arith}
use lib.Dec.{eqb, ltb}
use lib.ListN.{length, get_or, take, drop, drop_of_length-le, length-drop}
use lib.Seq.{drop-append-le, drop-append_seam, take-append-le, take-append-add}
use borrow.Author.Tests.{lt-ltb, le-ltb}
use Rattle.text.specs.Bytes.{Str, cond}
use Rattle.column.specs.Number.{trimmed, digits, lone, unpadded, number, within, column_of}
use Rattle.column.specs.Texts.{sized, may_be_name, ends_in, is_word, is_graphic, all, are_chars}
use Rattle.column.specs.Texts.{is_name, is_field_name, is_graphic_text}
use Rattle.row.specs.Line.{Content, Bad, fault, letter_of, given, with_number, with_text}
use Rattle.row.specs.Line.{root_line, node_line, parameter_line, field_line, group_line}
use Rattle.row.specs.Line.{type_line, scope_line, value_line, word_line, most_a, most_b, most_c, most_count, most_bits}

-- ---- no number has a byte 10

digits_ten : (n : ℕ) (p q : Str) → digits n (p ++ 10 ∷ q) ≡ None
unfolding digits
digits_ten n [] q = refl
digits_ten n (b ∷ p) q = go (ltb b 48) (ltb 57 b) (ltb (n * 10 + (b - 48)) (2 ^ 64)) (digits_ten (n * 10 + (b - 48)) p q)
  where
    go : (x y z : Bool) → digits (n * 10 + (b - 48)) (p ++ 10 ∷ q) ≡ None
        → cond x None (cond y None (cond z (digits (n * 10 + (b - 48)) (p ++ 10 ∷ q)) None)) ≡ None
    go true y z h = refl
    go false true z h = refl
    go false false true h = h
    go false false false h = refl

number_ten : (p q : Str) → number (p ++ 10 ∷ q) ≡ None
unfolding trimmed unpadded digits
number_ten [] q = refl
number_ten (b ∷ p) q = go (eqb b 32) (eqb b 48) (number_ten p q)
  where
    lone-ten : (p : Str) → lone (p ++ 10 ∷ q) ≡ None
    lone-ten [] = refl
    lone-ten (c ∷ p) = refl

    go : (x y : Bool) → number (p ++ 10 ∷ q) ≡ None
        → unpadded (cond x (trimmed (p ++ 10 ∷ q)) (b ∷ p ++ 10 ∷ q)) ≡ None
    go true y h = h
    go false y h = by_zero (eqb b 48) refl
      where
        by_zero : (t : Bool) → eqb b 48 ≡ t → unpadded (b ∷ p ++ 10 ∷ q) ≡ None
        by_zero true e = rw (unpadded, e) (lone-ten p)
        by_zero false e = rw (unpadded, e) (digits_ten 0 (b ∷ p) q)

-- ---- no text begins with a byte 10

either_way : (b : Bool) → cond b false false ≡ false
either_way true = refl
either_way false = refl

graphic_ten : (most : ℕ) (w : Str) → is_graphic_text most (10 ∷ w) ≡ false
unfolding is_graphic_text all is_graphic
graphic_ten most w = either_way (sized most (10 ∷ w))

name_ten : (w : Str) → is_name (10 ∷ w) ≡ false
unfolding is_name all is_word
name_ten w = either_way (may_be_name (10 ∷ w))

field-name_ten : (w : Str) → is_field_name (10 ∷ w) ≡ false
unfolding is_field_name are_chars is_word
field-name_ten w = either_way (may_be_name (10 ∷ w))

-- ---- a line up to a byte 10, and with what stands after it

get_d_append : (u x : Str) (a : ℕ) → a < length u → get_or (u ++ x) a 0 ≡ get_or u a 0
get_d_append [] x a h = let z : ⊥ = omega arith in absurd z
get_d_append (b ∷ u) x zero h = refl
get_d_append (b ∷ u) x (suc a) h = get_d_append u x a (omega arith)

get_d_past : (u : Str) (a : ℕ) → length u ≤ a → get_or u a 0 ≡ 0
get_d_past [] a h = refl
get_d_past (b ∷ u) zero h = let z : ⊥ = omega arith in absurd z
get_d_past (b ∷ u) (suc a) h = get_d_past u a (omega arith)

get_d_seam : (u : Str) (b : ℕ) (x : Str) → get_or (u ++ b ∷ x) (length u) 0 ≡ b
get_d_seam [] b x = refl
get_d_seam (c ∷ u) b x = get_d_seam u b x

module _ (u w : Str) (some_bytes : 0 < length u) where
  v : Str
  v = u ++ 10 ∷ w

  letter-same : letter_of u ≡ letter_of v
  unfolding v
  letter-same = go u some_bytes
    where
      go : (u : Str) → 0 < length u → letter_of u ≡ letter_of (u ++ 10 ∷ w)
      go [] h = let z : ⊥ = omega arith in absurd z
      go (b ∷ u) h = refl

  longer : length u < length v
  unfolding v
  longer = go u
    where
      go : (u : Str) → length u < length (u ++ 10 ∷ w)
      go [] = omega arith
      go (b ∷ u) = let h = go u in omega arith

  -- a number that stands before the byte, and one in which it stands
  column-same : (a least most : ℕ) → a + 21 ≤ length u → column_of v a least most ≡ column_of u a least most
  unfolding column_of v
  column-same a least most h =
      let l : a ≤ length u = omega arith in
      let m : 21 ≤ length (drop a u) = omega (arith, length-drop a u) in
      let n = longer in
      rw (
        le-ltb (length (u ++ 10 ∷ w)) (a + 21) (omega (arith, n)),
        le-ltb (length u) (a + 21) h,
        drop-append-le a u (10 ∷ w) l,
        take-append-le 21 (drop a u) (10 ∷ w) m,
      ) refl

  cut-column : (a : ℕ) → a ≤ length u → length u < a + 21
      → take 21 (drop a (u ++ 10 ∷ w)) ≡ drop a u ++ 10 ∷ take (20 - length (drop a u)) w
  cut-column a l h =
      let m = length-drop a u in
      let e : 21 ≡ length (drop a u) + suc (20 - length (drop a u)) = omega arith in
      rw (drop-append-le a u (10 ∷ w) l)
      (ap (λ (n : ℕ). take n (drop a u ++ 10 ∷ w)) e ∙ take-append-add (drop a u) (10 ∷ w) (suc (20 - length (drop a u))))

  column-none : (a least most : ℕ) → a ≤ length u → length u < a + 21 → column_of v a least most ≡ None
  unfolding column_of v
  column-none a least most l h = go (ltb (length (u ++ 10 ∷ w)) (a + 21))
    where
      go : (b : Bool) → cond b None (within least most (number (take 21 (drop a (u ++ 10 ∷ w))))) ≡ None
      go true = refl
      go false = rw (cut-column a l h, number_ten (drop a u) (take (20 - length (drop a u)) w)) refl

  -- a number of a line, and what the line goes on with
  number_cut :
      (a least most : ℕ) (f g : ℕ → Content) → a ≤ length u → (a + 21 ≤ length u → (x : ℕ) → f x ≡ g x)
      → with_number u a least most f ≡ with_number v a least most g
  unfolding column_of
  number_cut a least most f g l h = go (dec_lt (length u) (a + 21))
    where
      same : ((x : ℕ) → f x ≡ g x) → (o : Option ℕ) → given u a o f ≡ given v a o g
      same h (Some x) = h x
      same h None = ap (λ (b : ℕ). Bad b (fault 16 (a + 1))) letter-same

      go : Dec (length u < a + 21) → with_number u a least most f ≡ with_number v a least most g
      go (yes k) =
          rw (column-none a least most l k, lt-ltb (length u) (a + 21) k)
          (ap (λ (b : ℕ). Bad b (fault 16 (a + 1))) letter-same)
      go (no k) =
          let m : a + 21 ≤ length u = omega arith in
          rw (column-same a least most m) (same (h m) (column_of u a least most))

  -- a text of which at most the space stands before the byte
  text-cut :
      (ok : Str → Bool) (a : ℕ) (line : Content) → a ≤ length u → length u < a + 2 → ok [] ≡ false
      → ok (10 ∷ w) ≡ false → with_text ok u a line ≡ with_text ok v a line
  unfolding ends_in v
  text-cut ok a line l h e f = go (dec_lt a (length u))
    where
      go : Dec (a < length u)
          → cond (cond (eqb (get_or u a 0) 32) (ok (drop (a + 1) u)) false) line
          (Bad (letter_of u) (fault 17 (cond (eqb (get_or u a 0) 32) (a + 2) (a + 1))))
          ≡ cond (cond (eqb (get_or (u ++ 10 ∷ w) a 0) 32) (ok (drop (a + 1) (u ++ 10 ∷ w))) false) line
          (Bad (letter_of (u ++ 10 ∷ w)) (fault 17 (cond (eqb (get_or (u ++ 10 ∷ w) a 0) 32) (a + 2) (a + 1))))
      go (yes k) =
          let n : a + 1 ≡ length u = omega arith in
          let all_read : length u ≤ length u = omega arith in
          rw (
            n,
            drop_of_length-le u all_read,
            drop-append_seam u (10 ∷ w),
            e,
            f,
            get_d_append u (10 ∷ w) a k,
            either_way (eqb (get_or u a 0) 32),
            ← letter-same,
          ) refl
      go (no k) =
          let n : a ≡ length u = omega arith in
          rw (n, get_d_past u (length u) (omega arith), get_d_seam u 10 w, ← letter-same) refl

  -- ---- the lines of each letter

  pub root-cut : length u < 3 → root_line u ≡ root_line (u ++ 10 ∷ w)
  unfolding root_line is_graphic_text v
  root-cut h = text-cut (is_graphic_text 64) 1 _ (omega arith) h refl (graphic_ten 64 w)

  pub node-cut : length u < 150 → node_line u ≡ node_line (u ++ 10 ∷ w)
  unfolding node_line is_graphic_text v
  node-cut h =
      number_cut 1 _ _ _ _ (omega arith) λ h₁ _.
      number_cut 22 _ _ _ _ (omega arith) λ h₂ _.
      number_cut 43 _ _ _ _ (omega arith) λ h₃ _.
      number_cut 64 _ _ _ _ (omega arith) λ h₄ _.
      number_cut 85 _ _ _ _ (omega arith) λ h₅ _.
      number_cut 106 _ _ _ _ (omega arith) λ h₆ _.
      number_cut 127 _ _ _ _ (omega arith) λ h₇ _.
      text-cut (is_graphic_text 128) 148 _ (omega arith) h refl (graphic_ten 128 w)

  pub parameter-cut : length u < 3 → parameter_line u ≡ parameter_line (u ++ 10 ∷ w)
  unfolding parameter_line is_name v
  parameter-cut h = text-cut is_name 1 _ (omega arith) h refl (name_ten w)

  pub field_cut : length u < 87 → field_line u ≡ field_line (u ++ 10 ∷ w)
  unfolding field_line is_field_name v
  field_cut h =
      number_cut 1 _ _ _ _ (omega arith) λ h₁ _.
      number_cut 22 _ _ _ _ (omega arith) λ h₂ _.
      number_cut 43 _ _ _ _ (omega arith) λ h₃ _.
      number_cut 64 _ _ _ _ (omega arith) λ h₄ _.
      text-cut is_field_name 85 _ (omega arith) h refl (field-name_ten w)

  pub group-cut : length u < 45 → group_line u ≡ group_line (u ++ 10 ∷ w)
  unfolding group_line is_field_name v
  group-cut h =
      number_cut 1 _ _ _ _ (omega arith) λ h₁ _.
      number_cut 22 _ _ _ _ (omega arith) λ h₂ _.
      text-cut is_field_name 43 _ (omega arith) h refl (field-name_ten w)

  -- where all numbers stand before the byte, the line is not so short
  too_long : {A : Type 0} (n : ℕ) → n ≤ length u → length u < n → A
  too_long n l h = let z : ⊥ = omega arith in absurd z

  pub type-cut : length u < 85 → type_line u ≡ type_line (u ++ 10 ∷ w)
  unfolding type_line v
  type-cut h =
      number_cut 1 _ _ _ _ (omega arith) λ h₁ kind.
      number_cut 22 _ (most_a kind) _ _ (omega arith) λ h₂ a.
      number_cut 43 _ (most_b kind a) _ _ (omega arith) λ h₃ b.
      number_cut 64 _ (most_c kind a) _ _ (omega arith) λ h₄ c.
      too_long 85 (omega arith) h

  pub scope-cut : length u < 64 → scope_line u ≡ scope_line (u ++ 10 ∷ w)
  unfolding scope_line v
  scope-cut h =
      number_cut 1 _ _ _ _ (omega arith) λ h₁ _.
      number_cut 22 _ _ _ _ (omega arith) λ h₂ bind.
      number_cut 43 _ (most_count bind) _ _ (omega arith) λ h₃ _.
      too_long 64 (omega arith) h

  pub value-cut : length u < 43 → value_line u ≡ value_line (u ++ 10 ∷ w)
  unfolding value_line v
  value-cut h =
      number_cut 1 _ _ _ _ (omega arith) λ h₁ kind.
      number_cut 22 _ (most_bits kind) _ _ (omega arith) λ h₂ _.
      too_long 43 (omega arith) h

  pub word_cut : length u < 22 → word_line u ≡ word_line (u ++ 10 ∷ w)
  unfolding word_line v
  word_cut h = number_cut 1 _ _ _ _ (omega arith) λ h₁ _. too_long 22 (omega arith) h
