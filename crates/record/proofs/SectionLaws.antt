-- Sections: what a write leaves, bit by bit; what is found and stored inside a section and past it. Assumes nothing.
use mathlib.Core.Path.{◌≡◌, refl, sym, ap, ◌∙◌, subst}
use mathlib.Core.Bool.{Bool, false}
use Rattle.std.specs.Prelude.{None, Some}
use mathlib.Core.Logic.{◌⊎◌, inl, inr}
use mathlib.Core.List.{List, ◌++◌}
use Prim.Native.Nat.{ℕ, ◌+◌, ◌-◌, ◌≤◌, ◌<◌}
use native.Mathlib.Omega.{arith}
use native.Mathlib.Decide.{dec_lt}
use lib.ListN.{length, take, drop, get_or, replicate, length-append, length-take, length-drop, get_or-append}
use lib.Seq.{take_at, drop_at, ext_get_or, get_or-drop, get_or-take, get_or-append-add, length-take-le}
use borrow.Author.Tests.{le-leb, lt-leb}
use Rattle.record.specs.Record.{read, write, found, stored}

-- past the first list, of length n
at_right : (xs ys : List Bool) (n q : ℕ) → length xs ≡ n → get_or (xs ++ ys) (n + q) false ≡ get_or ys q false
at_right xs ys n q e = subst (λ (x : ℕ). get_or (xs ++ ys) (x + q) false ≡ get_or ys q false) e (get_or-append-add xs ys q false)

-- ---- a write inside the section

module _ (a : ℕ) (vs l : List Bool) (h : a + length vs ≤ length l) where
  head-length : length (take a l) ≡ a
  head-length = length-take-le a l (omega arith)

  pub length-write : length (write a vs l) ≡ length l
  length-write = simp (length-append, length-take, length-drop) (omega arith)

  pub read-write : read a (length vs) (write a vs l) ≡ vs
  read-write =
      rw (drop_at (take a l) (vs ++ drop (a + length vs) l) a head-length) (take_at vs (drop (a + length vs) l) (length vs) refl)

  write-below : (p : ℕ) → p < a → get_or (write a vs l) p false ≡ get_or l p false
  write-below p k =
      get_or-append (take a l) (vs ++ drop (a + length vs) l) false p (omega (arith, head-length)) ∙ get_or-take a l p false k

  write-above : (p : ℕ) → a + length vs ≤ p → get_or (write a vs l) p false ≡ get_or l p false
  write-above p k =
      let q : ℕ = p - (a + length vs) in
      let e : a + (length vs + q) ≡ p = omega arith in
      let f : a + length vs + q ≡ p = omega arith in
      subst (λ (x : ℕ). get_or (write a vs l) x false ≡ get_or l p false) e
      (at_right (take a l) (vs ++ drop (a + length vs) l) a (length vs + q) head-length
      ∙ at_right vs (drop (a + length vs) l) (length vs) q refl
      ∙ get_or-drop (a + length vs) l q false
      ∙ ap (λ (x : ℕ). get_or l x false) f)

  write-within : (p : ℕ) → p < length vs → get_or (write a vs l) (a + p) false ≡ get_or vs p false
  write-within p k =
      at_right (take a l) (vs ++ drop (a + length vs) l) a p head-length
      ∙ get_or-append vs (drop (a + length vs) l) false p k

  -- the same, by the bit's own position
  pub write-at : (b : ℕ) → a ≤ b → b < a + length vs → get_or (write a vs l) b false ≡ get_or vs (b - a) false
  write-at b h₁ h₂ =
      let e : a + (b - a) ≡ b = omega arith in
      subst (λ (x : ℕ). get_or (write a vs l) x false ≡ get_or vs (b - a) false) e (write-within (b - a) (omega arith))

-- where a bit lies: inside n bits from a on, before or after them
pub where? : (a n b : ℕ) → ((a ≤ b) × (b < a + n)) ⊎ ((b < a) ⊎ (a + n ≤ b))
where? a n b = go (dec_lt b a) (dec_lt b (a + n))
  where
    go : Dec (b < a) → Dec (b < a + n) → ((a ≤ b) × (b < a + n)) ⊎ ((b < a) ⊎ (a + n ≤ b))
    go (yes h) d = inr (inl h)
    go (no h) (yes k) = inl (omega arith, k)
    go (no h) (no k) = inr (inr (omega arith))

pub write_out : (a : ℕ) (vs l : List Bool) → a + length vs ≤ length l → (b : ℕ) → ((a ≤ b) × (b < a + length vs) → ⊥)
    → get_or (write a vs l) b false ≡ get_or l b false
write_out a vs l h b k = go (where? a (length vs) b)
  where
    go : ((a ≤ b) × (b < a + length vs)) ⊎ ((b < a) ⊎ (a + length vs ≤ b)) → get_or (write a vs l) b false ≡ get_or l b false
    go (inl x) = absurd (k x)
    go (inr (inl x)) = write-below a vs l h b x
    go (inr (inr x)) = write-above a vs l h b x

-- sections that agree on some bits are the same there
read_ext : (a n : ℕ) (l m : List Bool) → length m ≡ length l
    → ((b : ℕ) → (a ≤ b) × (b < a + n) → get_or m b false ≡ get_or l b false) → read a n m ≡ read a n l
read_ext a n l m e f =
    ext_get_or false (read a n m) (read a n l) (simp (length-take, length-drop, e))
    (λ i k. let j : i < n = omega (arith, simp (length-take, length-drop) at k) in
    get_or-take n (drop a m) i false j
    ∙ get_or-drop a m i false
    ∙ f (a + i) (omega arith)
    ∙ sym (get_or-drop a l i false)
    ∙ sym (get_or-take n (drop a l) i false j))

pub length-read : (a n : ℕ) (l : List Bool) → a + n ≤ length l → length (read a n l) ≡ n
length-read a n l h = simp (length-take, length-drop) (omega arith)

-- a write inside a part, the part written back: a write at the sum of the two places
module _ (a j n : ℕ) (vs l : List Bool) (fits : j + length vs ≤ n) (holds : a + n ≤ length l) where
  part : List Bool
  part = write j vs (read a n l)

  part-fits : j + length vs ≤ length (read a n l)
  part-fits = rw (length-read a n l holds) fits

  part_length : length part ≡ n
  unfolding part
  part_length = length-write j vs (read a n l) part-fits ∙ length-read a n l holds

  whole-fits : a + length part ≤ length l
  whole-fits = rw part_length holds

  sum_fits : a + j + length vs ≤ length l
  sum_fits = omega arith

  at_part : (i : ℕ) → i < n → get_or part i false ≡ get_or (write (a + j) vs l) (a + i) false
  unfolding part
  at_part i h = go (where? j (length vs) i)
    where
      old : get_or (read a n l) i false ≡ get_or l (a + i) false
      old = get_or-take n (drop a l) i false h ∙ get_or-drop a l i false

      go : ((j ≤ i) × (i < j + length vs)) ⊎ ((i < j) ⊎ (j + length vs ≤ i))
          → get_or (write j vs (read a n l)) i false ≡ get_or (write (a + j) vs l) (a + i) false
      go (inl x) =
          let e : i - j ≡ a + i - (a + j) = omega arith in
          write-at j vs (read a n l) part-fits i x.0 x.1
          ∙ ap (λ (y : ℕ). get_or vs y false) e
          ∙ sym (write-at (a + j) vs l sum_fits (a + i) (omega arith) (omega arith))
      go (inr (inl x)) =
          write-below j vs (read a n l) part-fits i x ∙ old ∙ sym (write-below (a + j) vs l sum_fits (a + i) (omega arith))
      go (inr (inr x)) =
          write-above j vs (read a n l) part-fits i x ∙ old ∙ sym (write-above (a + j) vs l sum_fits (a + i) (omega arith))

  pub write-part : write a (write j vs (read a n l)) l ≡ write (a + j) vs l
  unfolding part
  write-part =
      ext_get_or false (write a part l) (write (a + j) vs l)
      (length-write a part l whole-fits ∙ sym (length-write (a + j) vs l sum_fits))
      (λ b _. go b (where? a (length part) b))
    where
      go : (b : ℕ) → ((a ≤ b) × (b < a + length part)) ⊎ ((b < a) ⊎ (a + length part ≤ b))
          → get_or (write a part l) b false ≡ get_or (write (a + j) vs l) b false
      go b (inl x) =
          let e : a + (b - a) ≡ b = omega arith in
          write-at a part l whole-fits b x.0 x.1
          ∙ at_part (b - a) (omega (arith, part_length))
          ∙ ap (λ (y : ℕ). get_or (write (a + j) vs l) y false) e
      go b (inr (inl x)) = write-below a part l whole-fits b x ∙ sym (write-below (a + j) vs l sum_fits b (omega arith))
      go b (inr (inr x)) =
          write-above a part l whole-fits b x ∙ sym (write-above (a + j) vs l sum_fits b (omega (arith, part_length)))

-- ---- what is found and what is stored, inside and past the section

pub found_inside : (a n : ℕ) (l : List Bool) → a + n ≤ length l → found a n l ≡ read a n l
unfolding found
found_inside a n l h = rw (le-leb _ _ h)

pub found-past : (a n : ℕ) (l : List Bool) → length l < a + n → found a n l ≡ replicate n false
unfolding found
found-past a n l h = rw (lt-leb _ _ h)

-- sections of one length that agree on these bits: the same is found
pub found_ext : (a n : ℕ) (l m : List Bool) → length m ≡ length l
    → ((b : ℕ) → (a ≤ b) × (b < a + n) → get_or m b false ≡ get_or l b false) → found a n m ≡ found a n l
unfolding found
found_ext a n l m e f = rw (e, read_ext a n l m e f)

pub stored-inside : (a : ℕ) (vs l : List Bool) → a + length vs ≤ length l → stored a vs l ≡ Some (write a vs l)
unfolding stored
stored-inside a vs l h = rw (le-leb _ _ h)

pub stored_past : (a : ℕ) (vs l : List Bool) → length l < a + length vs → stored a vs l ≡ None
unfolding stored
stored_past a vs l h = rw (lt-leb _ _ h)
