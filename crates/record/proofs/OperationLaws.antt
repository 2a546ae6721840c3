-- What the code does to bytes is what the definitions do to bits: a law for each operation, inside the section and past it, one
-- for each answer of the code, from where it looked and what it found there. Assumes nothing.
use mathlib.Core.Path.{◌≡◌, refl, sym, ap, ◌∙◌, subst}
use mathlib.Core.Bool.{Bool, true, false, not, beq}
use Rattle.std.specs.Prelude.{Option, None, Some, Ok, Err, ⊤, MatchOption}
use Rattle.std.specs.Slice.{IsItemAt, IsGetRangeResult}
use denote.Ref.{Bor}
use Rattle.std.specs.List.{slice_range}
use Rattle.std.specs.Int.RustNames.{bit_or, bit_and}
use mathlib.Core.Logic.{◌⊎◌, inl, inr}
use mathlib.Core.List.{List, [], ◌∷◌, ◌++◌, append_assoc, append-nil}
use Prim.Native.Nat.{ℕ, zero, suc, ◌+◌, ◌-◌, ◌*◌, ◌/◌, ◌%◌, ◌^◌, ◌≤◌, ◌<◌}
use native.Mathlib.Nat.{mod-lt, mod-eq_of_lt, div-add-mod', zero-lt-suc, pow-suc, one-mul, zero-mul}
use Rattle.std.specs.Int.{w64, byte_worth, sum_through, from_le_bytes}
use native.Mathlib.Omega.{arith}
use lib.Arith.{digits_div, digits_mod}
use lib.Bits.{bit_xor, xor_lt, or_zero_r}
use Rattle.std.proofs.lemmas.Nat.{or_disjoint, shr_high, shr_split, and_mask, and-not, and_comm}
use Rattle.std.proofs.lemmas.Nat.Bits.{and_pow}
use borrow.Rule.Slice.PartMut.{put_mid}
use lib.Dec.{eqb, lit<}
use lib.ListN.{replicate, drop_of_length-le, length, take, drop, get_or, set, length-append, length-take, length-drop}
use lib.Pow.{high, low, pow_pos, pow-lt, shl_exact}
use lib.Seq.{drop-cons, take_at, drop_at, sets, set_split, set_out, sets-eq, drop-drop}
use Rattle.record.specs.Bits.{to_bits, bit, with_bit, section_bits, little, little_bytes, flags}
use Rattle.record.specs.Bytes.{Bytes, SetBytesHolds}
use Rattle.record.specs.Offsets.{Place, bytes_of, bool_at, data_at, from, bit_count}
use Rattle.record.specs.Offsets.{bit_address, element_address, pointer_address}
use Rattle.record.specs.Record.{read, write, coded, get_bits, put_bits, null_flag, clear_flag}
use Rattle.record.specs.Answers.{Put, Cleared}
use Rattle.record.specs.declared.BitAddress.{BitAddress}
use Rattle.record.specs.declared.BitOffset.{BitOffset}
use Rattle.record.specs.declared.ElementOffset.{ElementOffset}
use Rattle.record.specs.declared.PointerOffset.{PointerOffset}
use Rattle.record.specs.declared.NoMeaning.{NoMeaning}
use Rattle.record.specs.declared.Width.{Width}
use Rattle.record.specs.declared.Width.TheVariants.{One}
use Rattle.record.proofs.BitLaws.{length-to_bits, length-xors, bit-two, to_bits_append, to_bits_mod, mask_bits}
use Rattle.record.proofs.BitLaws.{mask_alone, xors_xor}
use Rattle.record.proofs.SectionLaws.{write-part, length-read, found_inside, found-past, stored-inside, stored_past}
use Rattle.record.proofs.ByteLaws.{length_section, read_section, write_section, bool_at_lem, number_at}
use Rattle.record.proofs.ByteLaws.{to_bits-bytes, length-little_bytes, length-flags, flag_at}

-- ---- one bit of a byte

-- with its weight p, what stands above it h, and what stands below it r: t of it taken out and x of it put in
exchanged : (o b p h t r x : ℕ) → o + t * p ≡ b + x * p → (h * 2 + t) * p + r ≡ b → o ≡ (h * 2 + x) * p + r
exchanged o b p h t r x e f = omega arith

module _ (b j : ℕ) (hb : b < 256) (hj : j < 8) where
  weight : 1 * 2 ^ j % 2 ^ 8 ≡ 2 ^ j
  weight = shl_exact {a = 1} 1 j 8 (lit< tt) (omega arith) ∙ one-mul (2 ^ j)

  parts : (b / 2 ^ j / 2 * 2 + b / 2 ^ j % 2) * 2 ^ j + b % 2 ^ j ≡ b
  parts = rw (div-add-mod' (b / 2 ^ j) 2) (shr_split b j)

  -- with that bit cleared
  off : bit_and b (255 - 1 * 2 ^ j % 2 ^ 8) ≡ with_bit b j 0
  off =
      let p : ℕ = 2 ^ j in
      let f : p < 2 ^ 8 = pow-lt hj in
      let n = and-not 8 p b f hb in
      exchanged (bit_and b (255 - 1 * 2 ^ j % 2 ^ 8)) b p (b / p / 2) (b / p % 2) (b % p) 0
      (rw (weight, ← and_pow b j, and_comm b (255 - p), and_comm b p) (omega (arith, n))) parts

  apart : bit_and (with_bit b j 0) (2 ^ j) ≡ 0
  apart =
      let h : ℕ = b / 2 ^ j / 2 * 2 + 0 in
      let even : h % 2 ≡ 0 = omega arith in
      and_pow (with_bit b j 0) j ∙ rw (shr_high h j (b % 2 ^ j) (mod-lt b (pow_pos j)), even) (zero-mul (2 ^ j))

  pub bit_put : (x : Bool) → bit_or (bit_and b (255 - 1 * 2 ^ j % 2 ^ 8)) (bit x * 2 ^ j % 2 ^ 8) ≡ with_bit b j (bit x)
  bit_put true = rw (off, weight) (or_disjoint (with_bit b j 0) (2 ^ j) apart ∙ omega arith)
  bit_put false = rw (off, zero-mul (2 ^ j)) (or_zero_r (with_bit b j 0))

-- a mask on a Bool
bit-xor : (a b : Bool) → bit (not (beq a b)) ≡ bit_xor (bit a) (bit b)
bit-xor true true = refl
bit-xor false true = refl
bit-xor _ _ = refl

bit_below : (b : Bool) → bit b < 2
bit_below true = omega arith
bit_below false = omega arith

-- the bits of a number with another bit
with-bit-bits : (j k b x : ℕ) → x < 2 → to_bits (j + suc k) (with_bit b j x) ≡ write j (to_bits 1 x) (to_bits (j + suc k) b)
with-bit-bits j k b x hx =
    let p : ℕ = 2 ^ j in
    let y : ℕ = b / p / 2 * 2 + x in
    let l : b % p < p = mod-lt b (pow_pos j) in
    let low_same : to_bits j (y * p + b % p) ≡ to_bits j b =
    sym (to_bits_mod j (y * p + b % p)) ∙ ap (to_bits j) (low y j l) ∙ to_bits_mod j b in
    let x-mod : x % 2 ≡ x = omega arith in
    rw (to_bits_append j (suc k) (y * p + b % p), to_bits_append j (suc k) b, high y j l, low_same)
    (rw (
      digits_mod (b / p / 2) hx,
      digits_div (b / p / 2) hx,
      x-mod,
      take_at (to_bits j b) (to_bits (suc k) (b / p)) j (length-to_bits j b),
      ← append_assoc (to_bits j b) (eqb (b / p % 2) 1 ∷ []) (to_bits k (b / p / 2)),
      drop_at (to_bits j b ++ (eqb (b / p % 2) 1 ∷ [])) (to_bits k (b / p / 2)) (j + 1)
          (length-append (to_bits j b) (eqb (b / p % 2) 1 ∷ []) ∙ rw (length-to_bits j b)),
    ))

-- ---- Bools

read_one : (a : ℕ) (l : List Bool) → a < length l → read a 1 l ≡ get_or l a false ∷ []
read_one a l h = rw (drop-cons l a false h)

odd_mod : (x : ℕ) → bit (eqb (x % 2) 1) + 2 * 0 ≡ x % 2
odd_mod x = omega (arith, bit-two (x % 2) (mod-lt x (zero-lt-suc 1)))

module _ (l : List ℕ) (o : BitOffset) (h : o.0 / 8 < length l) where
  bool-inside : from (bool_at o) + 1 ≤ length (section_bits l)
  bool-inside = rw (length_section l) (omega (arith, mod-lt o.0 (zero-lt-suc 7)))

  pub get-bool : (m : ℕ) → m < 2
      → get_bits (bool_at o) m (section_bits l) ≡ bit_xor (get_or l (o.0 / 8) 0 / 2 ^ (o.0 % 8) % 2) m
  unfolding get_bits
  get-bool m hm =
      let s : List Bool = section_bits l in
      let e : m % 2 ≡ m = omega arith in
      rw (
        found_inside (from (bool_at o)) 1 s bool-inside,
        mask_bits 1 m (read (from (bool_at o)) 1 s) (length-read (from (bool_at o)) 1 s bool-inside),
        e,
        read_one (from (bool_at o)) s (omega (arith, bool-inside)),
        bool_at_lem l o,
        odd_mod (get_or l (o.0 / 8) 0 / 2 ^ (o.0 % 8)),
      )

  byte-bits : read (o.0 / 8 * 8) 8 (section_bits l) ≡ to_bits 8 (get_or l (o.0 / 8) 0)
  byte-bits = read_section (o.0 / 8) 1 l ∙ rw (drop-cons l (o.0 / 8) 0 h) (append-nil (to_bits 8 (get_or l (o.0 / 8) 0)))

  put-bool : (v m : ℕ) → v < 2 → m < 2
      → put_bits (bool_at o) v m (section_bits l)
      ≡ Some (section_bits (set l (o.0 / 8) (with_bit (get_or l (o.0 / 8) 0) (o.0 % 8) (bit_xor v m))))
  unfolding put_bits
  put-bool v m hv hm =
      let s : List Bool = section_bits l in
      let a : ℕ = o.0 / 8 in
      let i : ℕ = o.0 % 8 in
      let b : ℕ = get_or l a 0 in
      let x : ℕ = bit_xor v m in
      let hi : i < 8 = mod-lt o.0 (zero-lt-suc 7) in
      let e : i + suc (7 - i) ≡ 8 = omega arith in
      let f : a * 8 + 8 ≤ length s = rw (length_section l) (omega arith) in
      let byte : write i (to_bits 1 x) (to_bits 8 b) ≡ to_bits 8 (with_bit b i x) =
      subst (λ (n : ℕ). write i (to_bits 1 x) (to_bits n b) ≡ to_bits n (with_bit b i x)) e
      (sym (with-bit-bits i (7 - i) b x (xor_lt 1 v m hv hm))) in
      rw (xors_xor 1 v m, stored-inside (a * 8 + i) (to_bits 1 x) s bool-inside)
      (ap Some (sym (write-part (a * 8) i 8 (to_bits 1 x) s (omega arith) f)
      ∙ rw (byte-bits, byte)
      (ap (λ (w : List Bool). write (a * 8) w s) (sym (append-nil (to_bits 8 (with_bit b i x))))
      ∙ write_section a (with_bit b i x ∷ []) l (omega arith))))

-- ---- numbers

module _ (l : List ℕ) (w : Width) (o : ElementOffset) (h : o.0 * bytes_of w + bytes_of w ≤ length l) where
  data-inside : from (data_at w o) + bit_count (data_at w o) ≤ length (section_bits l)
  data-inside = rw (length_section l) (omega arith)

  pub get-data : Bytes l → (m : ℕ) (part : List ℕ)
      → part ≡ slice_range l (o.0 * bytes_of w) (o.0 * bytes_of w + bytes_of w)
      → get_bits (data_at w o) m (section_bits l) ≡ bit_xor (little part) (m % 2 ^ (bytes_of w * 8))
  unfolding get_bits
  get-data bytes m part e =
      let z : o.0 * bytes_of w + bytes_of w - o.0 * bytes_of w ≡ bytes_of w = omega arith in
      let s : List Bool = section_bits l in
      let a : ℕ = from (data_at w o) in
      let n : ℕ = bit_count (data_at w o) in
      rw (found_inside a n s data-inside, mask_bits n m (read a n s) (length-read a n s data-inside), number_at l w o bytes, e, z)

  put-data : (v m : ℕ)
      → put_bits (data_at w o) v m (section_bits l)
      ≡ Some (section_bits (sets l (o.0 * bytes_of w) (little_bytes (bytes_of w) (bit_xor v m))))
  unfolding put_bits
  put-data v m =
      let n : ℕ = bytes_of w in
      let x : ℕ = bit_xor v m in
      let new : List ℕ = little_bytes n x in
      let e : length new ≡ n = length-little_bytes n x in
      rw (
        xors_xor (n * 8) v m,
        to_bits-bytes n x,
        stored-inside (o.0 * n * 8) (section_bits new) (section_bits l)
            (rw (length_section new, length_section l) (omega (arith, e))),
        write_section (o.0 * n) new l (omega (arith, e)),
      )

-- which bytes a set changes
pub set-bytes : SetBytesHolds
set-bytes = (put-bool, put-data)

-- ---- past the section

module _ (p : Place) (l : List ℕ) (h : length l * 8 < from p + bit_count p) where
  get-past-bytes : (m : ℕ) → get_bits p m (section_bits l) ≡ m % 2 ^ bit_count p
  unfolding get_bits
  get-past-bytes m =
      rw (found-past (from p) (bit_count p) (section_bits l) (rw (length_section l) h)) (mask_alone (bit_count p) m)

  put-past-bytes : (v m : ℕ) → put_bits p v m (section_bits l) ≡ None
  unfolding put_bits
  put-past-bytes v m =
      stored_past (from p) (coded p v m) (section_bits l) (rw (length_section l, length-xors (bit_count p) v m) h)

-- as many ones as the width has bits
ones : (w : Width) → 18446744073709551615 / 2 ^ (64 - bytes_of w * 8) ≡ 2 ^ (bytes_of w * 8) - 1
ones One = refl
ones _ = refl

pub low_ones : {n : ℕ} (w : Width) (x : ℕ) → n ≡ bytes_of w
    → bit_and x (18446744073709551615 / 2 ^ (64 - n * 8)) ≡ x % 2 ^ (bytes_of w * 8)
low_ones w x e = rw (e, ones w) (and_mask x (bytes_of w * 8))

-- ---- what the code answers and leaves, from where it looked and what it found

module _ (l : List ℕ) (o : BitOffset) (a : BitAddress) (e : a ≡ bit_address o) where
  pub bool_got : (found m : Bool) (b : Bor ℕ) → IsItemAt l a.byte (Some b) → bit found ≡ b.now / 2 ^ a.bit % 2
      → bit (not (beq found m)) ≡ get_bits (bool_at o) (bit m) (section_bits l)
  bool_got found m b item f =
      let at = rw e at item in
      rw (bit-xor found m, f, e, at.4 (omega arith) 0) (sym (get-bool l o at.3.0 (bit m) (bit_below m)))

  pub bool_not_got : (m : Bool) → length l ≤ a.byte → bit m ≡ get_bits (bool_at o) (bit m) (section_bits l)
  bool_not_got m h =
      let k = rw e at h in
      sym (get-past-bytes (bool_at o) l (omega arith) (bit m) ∙ mod-eq_of_lt (bit_below m))

  pub bool_put : {x : ℕ} {u : ⊤} (v m : Bool) → a.byte < length l → x ≡ with_bit (get_or l a.byte 0) a.bit (bit (not (beq v m)))
      → Put (bool_at o) (bit v) (bit m) l (set l a.byte x) (Ok u)
  bool_put v m h f =
      let put = put-bool l o (rw e at h) (bit v) (bit m) (bit_below v) (bit_below m) in
      rw (f, bit-xor v m, e) (record { answer = rw put; left = rw put })

  pub bool_not_put : {v m : ℕ} {r : NoMeaning} → length l ≤ a.byte → Put (bool_at o) v m l l (Err r)
  bool_not_put {v} {m} h =
      let k = rw e at h in
      let none = put-past-bytes (bool_at o) l (omega arith) v m in
      record { answer = rw none; left = rw none }

module _ (l : List ℕ) (w : Width) (o : ElementOffset) (a n : ℕ) (e : a ≡ element_address w o) (f : n ≡ bytes_of w) where
  pub data_got : {word low : ℕ} (m : ℕ) (part : Bor (List ℕ)) → Bytes l → IsGetRangeResult l a (a + n) (Some part)
      → word ≡ little part.now → low ≡ m % 2 ^ (bytes_of w * 8)
      → bit_xor word low ≡ get_bits (data_at w o) m (section_bits l)
  data_got m part bytes g h k =
      let found = rw (e, f) at g.0 in
      rw (h, k) (sym (get-data l w o found.1 bytes m part.now found.2))

  -- a part that is none does not lie inside
  past : (a + n < a) ⊎ (length l < a + n) → length l * 8 < from (data_at w o) + bit_count (data_at w o)
  past (inl h) = absurd (omega arith)
  past (inr h) = let k = rw (e, f) at h in omega arith

  pub data_not_got : {low : ℕ} (m : ℕ) → IsGetRangeResult l a (a + n) None → low ≡ m % 2 ^ (bytes_of w * 8)
      → low ≡ get_bits (data_at w o) m (section_bits l)
  data_not_got m g k = rw (k, get-past-bytes (data_at w o) l (past g.0) m)

  pub data_put : {new : List ℕ} {u : ⊤} (v m : ℕ) → a + n ≤ length l
      → new ≡ little_bytes (length (take (a + n - a) (drop a l))) (bit_xor v m)
      → Put (data_at w o) v m l (put_mid a (a + n - a) l new) (Ok u)
  data_put {new} v m h g =
      let z : a + n - a ≡ n = omega arith in
      let size : length (take (a + n - a) (drop a l)) ≡ n = simp (length-take, length-drop) (omega arith) in
      let i : new ≡ little_bytes n (bit_xor v m) = rw size at g in
      let k : length new ≡ n = ap length i ∙ length-little_bytes n (bit_xor v m) in
      let there : put_mid a n l new ≡ sets l a new =
      ap (λ (r : List ℕ). take a l ++ (new ++ r)) (drop-drop n a l ∙ ap (λ (j : ℕ). drop (a + j) l) (sym k))
      ∙ sym (sets-eq new l a (omega (arith, k)) ∙ append_assoc (take a l) new (drop (a + length new) l)) in
      let put = put-data l w o (rw (e, f) at h) v m in
      rw (z, there, i, e, f) (record { answer = rw put; left = rw put })

  pub data_not_put : {v m : ℕ} {r : NoMeaning} → length l < a + n → Put (data_at w o) v m l l (Err r)
  data_not_put {v} {m} h =
      let none = put-past-bytes (data_at w o) l (past (inr h)) v m in
      record { answer = rw none; left = rw none }

-- ---- pointers

not-bit : (b : Bool) → eqb (bit (not b) + 2 * 0) 0 ≡ b
not-bit true = refl
not-bit false = refl

set-flags : (l : List ℕ) (i : ℕ) → flags (set l i 0) ≡ set (flags l) i false
set-flags (b ∷ l) (suc i) = ap (λ (r : List Bool). not (eqb b 0) ∷ r) (set-flags l i)
set-flags _ _ = refl

module _ (l : List ℕ) (i : PointerOffset) where
  null-inside : i.0 < length l → null_flag i (flags l) ≡ eqb (get_or l i.0 0) 0
  unfolding null_flag
  null-inside h =
      let g : i.0 < length (flags l) = rw (length-flags l) h in
      rw (
        found_inside i.0 1 (flags l) (omega arith),
        read_one i.0 (flags l) g,
        flag_at l i.0,
        not-bit (eqb (get_or l i.0 0) 0),
      )

  null-past-bytes : length l ≤ i.0 → null_flag i (flags l) ≡ true
  unfolding null_flag
  null-past-bytes h = rw (found-past i.0 1 (flags l) (rw (length-flags l) (omega arith)))

  -- what a test of the byte answers, where there is one
  pub null_told : {r : Bool} {Told : Bor ℕ → Type 0} (o : Option (Bor ℕ)) → IsItemAt l i.0 o
      → ((b : Bor ℕ) → Told b → r ≡ eqb b.now 0) → MatchOption o (r ≡ true) Told → r ≡ null_flag i (flags l)
  null_told None item f e = rw (null-past-bytes item.3) e
  null_told (Some b) item f e = rw (null-inside item.3.0, ← item.4 (omega arith) 0) (f b e)

  pub clear-inside : i.0 < length l → clear_flag i (flags l) ≡ Some (flags (set l i.0 0))
  unfolding clear_flag
  clear-inside h =
      let g : i.0 < length (flags l) = rw (length-flags l) h in
      let e : i.0 + 1 ≡ suc i.0 = omega arith in
      rw (stored-inside i.0 (false ∷ []) (flags l) (omega arith), e, set-flags l i.0, set_split (flags l) i.0 false g)

  clear-past : length l ≤ i.0 → clear_flag i (flags l) ≡ None
  unfolding clear_flag
  clear-past h = stored_past i.0 (false ∷ []) (flags l) (rw (length-flags l) (omega arith))

module _ (l : List ℕ) (i : PointerOffset) (a : ℕ) (e : a ≡ pointer_address i) where
  pub clear_done : {u : ⊤} → a < length l → Cleared i l (set l a 0) (Ok u)
  clear_done h =
      let k = rw e at h in
      rw e (record { answer = rw (clear-inside l i k); left = rw (clear-inside l i k); bytes = refl })

  pub clear_none : {r : NoMeaning} → length l ≤ a → Cleared i l l (Err r)
  clear_none h =
      let k = rw e at h in
      record { answer = rw (clear-past l i k); left = rw (clear-past l i k); bytes = sym (set_out l i.0 0 k) }

-- ---- the bytes of a word

-- a number is its byte and what stands behind it; past the bytes both are 0
little-step : (i : ℕ) (l : List ℕ) → little (drop i l) ≡ get_or l i 0 + 256 * little (drop (suc i) l)
little-step zero [] = refl
little-step zero (b ∷ l) = refl
little-step (suc i) [] = refl
little-step (suc i) (b ∷ l) = little-step i l

-- one byte more of these is one less of those behind them
one-more : {n : ℕ} (s b p r : ℕ) → s + p * (b + 256 * r) ≡ n → s + b * p + p * 256 * r ≡ n
one-more s b p r e = omega arith

-- so many bytes by their worth, and what stands behind them
worth-through : (k : ℕ) (l : List ℕ)
    → sum_through (λ (i : ℕ). byte_worth i (get_or l i 0)) k + 256 ^ suc k * little (drop (suc k) l) ≡ little l
worth-through zero l = omega (arith, little-step 0 l)
worth-through (suc k) l =
    rw (pow-suc 256 (suc k))
    (one-more _ (get_or l (suc k) 0) (256 ^ suc k) _ (rw (little-step (suc k) l) at (worth-through k l)))

-- zeros are 0, and change no number that they stand behind
little_zeros : (n k : ℕ) → little (drop n (replicate k 0)) ≡ 0
little_zeros zero zero = refl
little_zeros zero (suc k) = rw (little_zeros zero k)
little_zeros (suc n) zero = refl
little_zeros (suc n) (suc k) = little_zeros n k

little-front : (l rest : List ℕ) → little rest ≡ 0 → little (l ++ rest) ≡ little l
little-front [] rest e = e
little-front (b ∷ l) rest e = rw (little-front l rest e)

-- nothing stands behind eight bytes
little_drop : (l : List ℕ) → length l ≡ 8 → little (drop 8 l) ≡ 0
little_drop l e = rw (drop_of_length-le l {i = 8} (omega arith))

-- the number of the bytes in front of so many zeros as make them eight
pub loaded : {bytes front : List ℕ} {word : ℕ} → length bytes ≤ 8 → front ≡ bytes
    → word ≡ from_le_bytes w64 (front ++ drop (length bytes) (replicate 8 0)) → word ≡ little bytes
loaded {bytes} h e f =
    let zeros : List ℕ = drop (length bytes) (replicate 8 0) in
    let l : List ℕ = bytes ++ zeros in
    let size : length l ≡ 8 = rw (length-append bytes zeros) (simp (length-drop) (omega arith)) in
    rw e at f ∙ omega (arith, worth-through 7 l, little_drop l size) ∙ little-front bytes zeros (little_zeros (length bytes) 8)
