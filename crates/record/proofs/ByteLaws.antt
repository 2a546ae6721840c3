-- The section as bits is the section as bytes, in document 01's own words: which bit of which byte a Bool is, which bytes a
-- number is, and which bytes a set changes. By induction on the bytes. Assumes nothing.
use mathlib.Core.Path.{◌≡◌, refl, sym, ap, ap₂, ◌∙◌}
use mathlib.Core.Bool.{Bool, false, not}
use mathlib.Core.List.{List, [], ◌∷◌, ◌++◌, append_assoc}
use Prim.Native.Nat.{ℕ, zero, suc, ◌+◌, ◌*◌, ◌/◌, ◌%◌, ◌^◌, ◌≤◌, ◌<◌}
use native.Mathlib.Nat.{mod-lt, zero-div, zero-lt-suc, pow-suc, suc-mul}
use native.Mathlib.Omega.{arith}
use native.Mathlib.Decide.{dec_lt}
use lib.Dec.{eqb}
use lib.ListN.{length, take, drop, get_or, drop_of_length-le, get_or-append, get_or-eq_default}
use lib.Seq.{drop-append-add, take-append-add, drop-nil, take-nil, get_or-drop, drop-cons, sets, sets-eq}
use Rattle.record.specs.Bits.{to_bits, of_bits, section_bits, little, little_bytes, flags}
use Rattle.record.specs.Bytes.{Bytes, BoolAtHolds, NumberAtHolds, SameBytesHolds}
use Rattle.record.specs.Offsets.{bytes_of}
use Rattle.record.specs.Record.{read, write}
use Rattle.record.proofs.BitLaws.{of_to, to_bits-at, to_bits_append, to_bits_mod}

bytes_rest : (b : ℕ) (l : List ℕ) → Bytes (b ∷ l) → Bytes l
bytes_rest b l h i = h (suc i)

bytes_drop : (n : ℕ) (l : List ℕ) → Bytes l → Bytes (drop n l)
bytes_drop (suc n) (x ∷ l) h = bytes_drop n l (bytes_rest x l h)
bytes_drop _ _ h = h

bytes_take : (n : ℕ) (l : List ℕ) → Bytes l → Bytes (take n l)
bytes_take zero l h i = zero-lt-suc 255
bytes_take (suc n) [] h i = h i
bytes_take (suc n) (x ∷ l) h zero = h zero
bytes_take (suc n) (x ∷ l) h (suc i) = bytes_take n l (bytes_rest x l h) i

-- ---- parts of a section

pub length_section : (bs : List ℕ) → length (section_bits bs) ≡ length bs * 8
length_section [] = refl
length_section (b ∷ bs) = rw (suc-mul, ← length_section bs) (omega arith)

drop_section : (k : ℕ) (bs : List ℕ) → drop (k * 8) (section_bits bs) ≡ section_bits (drop k bs)
drop_section zero bs = refl
drop_section (suc k) [] = drop-nil (suc k * 8)
drop_section (suc k) (b ∷ bs) =
    let e : suc k * 8 ≡ 8 + k * 8 = omega arith in
    rw e (drop-append-add (to_bits 8 b) (section_bits bs) (k * 8) ∙ drop_section k bs)

take_section : (k : ℕ) (bs : List ℕ) → take (k * 8) (section_bits bs) ≡ section_bits (take k bs)
take_section zero bs = refl
take_section (suc k) [] = take-nil (suc k * 8)
take_section (suc k) (b ∷ bs) =
    let e : suc k * 8 ≡ 8 + k * 8 = omega arith in
    rw e (take-append-add (to_bits 8 b) (section_bits bs) (k * 8) ∙ ap (λ (l : List Bool). to_bits 8 b ++ l) (take_section k bs))

-- the bits of n bytes from byte k on
pub read_section : (k n : ℕ) (bs : List ℕ) → read (k * 8) (n * 8) (section_bits bs) ≡ section_bits (take n (drop k bs))
read_section k n bs = rw (drop_section k bs) (take_section n (drop k bs))

section_append : (a b : List ℕ) → section_bits (a ++ b) ≡ section_bits a ++ section_bits b
section_append [] b = refl
section_append (x ∷ a) b = ap (λ (l : List Bool). to_bits 8 x ++ l) (section_append a b)

-- bytes put from byte k on
pub write_section : (k : ℕ) (new bs : List ℕ) → k + length new ≤ length bs
    → write (k * 8) (section_bits new) (section_bits bs) ≡ section_bits (sets bs k new)
write_section k new bs h =
    let e : k * 8 + length new * 8 ≡ (k + length new) * 8 = omega arith in
    rw (
      length_section new,
      e,
      take_section k bs,
      drop_section (k + length new) bs,
      sets-eq new bs k h,
      append_assoc (take k bs) new (drop (k + length new) bs),
    )
    (sym (section_append (take k bs) (new ++ drop (k + length new) bs)
    ∙ ap (λ (l : List Bool). section_bits (take k bs) ++ l) (section_append new (drop (k + length new) bs))))

pub section_injective : SameBytesHolds
section_injective [] [] ha hb e = refl
section_injective (x ∷ a) (y ∷ b) ha hb e =
    ap₂ ◌∷◌
    (sym (of_to 8 x (ha 0)) ∙ ap (λ (l : List Bool). of_bits (take 8 l)) e ∙ of_to 8 y (hb 0))
    (section_injective a b (bytes_rest x a ha) (bytes_rest y b hb) (ap (λ (l : List Bool). drop 8 l) e))
section_injective _ _ ha hb e = cc

-- ---- which bit a Bool is

-- bit j of byte k; past the bytes both sides are false
bit_of_byte : (bs : List ℕ) (k j : ℕ) → j < 8
    → get_or (section_bits bs) (k * 8 + j) false ≡ eqb (get_or bs k 0 / 2 ^ j % 2) 1
bit_of_byte bs k j l = sym (get_or-drop (k * 8) (section_bits bs) j false) ∙ rw (drop_section k bs) (go (dec_lt k (length bs)))
  where
    go : Dec (k < length bs) → get_or (section_bits (drop k bs)) j false ≡ eqb (get_or bs k 0 / 2 ^ j % 2) 1
    go (yes h) =
        rw (drop-cons bs k 0 h)
        (get_or-append (to_bits 8 (get_or bs k 0)) (section_bits (drop (suc k) bs)) false j l ∙ to_bits-at 8 (get_or bs k 0) j l)
    go (no h) = rw (drop_of_length-le bs {i = k} (omega arith), get_or-eq_default bs 0 {n = k} (omega arith), zero-div (2 ^ j))

pub bool_at_lem : BoolAtHolds
bool_at_lem bs o = bit_of_byte bs (o.0 / 8) (o.0 % 8) (mod-lt o.0 (zero-lt-suc 7))

-- ---- which bytes a number is

of_append : (l m : List Bool) → of_bits (l ++ m) ≡ of_bits l + 2 ^ length l * of_bits m
of_append [] m = omega arith
of_append (b ∷ l) m = rw (of_append l m, pow-suc) (omega arith)

of_section : (bs : List ℕ) → Bytes bs → of_bits (section_bits bs) ≡ little bs
of_section [] h = refl
of_section (b ∷ bs) h = of_append (to_bits 8 b) (section_bits bs) ∙ rw (of_to 8 b (h 0), of_section bs (bytes_rest b bs h))

pub number_at : NumberAtHolds
number_at bs w o h =
    let n : ℕ = bytes_of w in
    rw (read_section (o.0 * n) n bs)
    (of_section (take n (drop (o.0 * n) bs)) (bytes_take n (drop (o.0 * n) bs) (bytes_drop (o.0 * n) bs h)))

-- the bits of a number are those of its bytes
pub to_bits-bytes : (n v : ℕ) → to_bits (n * 8) v ≡ section_bits (little_bytes n v)
to_bits-bytes zero v = refl
to_bits-bytes (suc n) v =
    let e : suc n * 8 ≡ 8 + n * 8 = omega arith in
    rw e (to_bits_append 8 (n * 8) v ∙ ap₂ (λ (a b : List Bool). a ++ b) (sym (to_bits_mod 8 v)) (to_bits-bytes n (v / 256)))

pub length-little_bytes : (n v : ℕ) → length (little_bytes n v) ≡ n
length-little_bytes zero v = refl
length-little_bytes (suc n) v = ap suc (length-little_bytes n (v / 256))

-- ---- flags of pointers

pub length-flags : (l : List ℕ) → length (flags l) ≡ length l
length-flags [] = refl
length-flags (b ∷ l) = ap suc (length-flags l)

pub flag_at : (l : List ℕ) (i : ℕ) → get_or (flags l) i false ≡ not (eqb (get_or l i 0) 0)
flag_at (b ∷ l) (suc i) = flag_at l i
flag_at _ _ = refl
