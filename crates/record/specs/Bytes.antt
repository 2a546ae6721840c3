-- What ties the bits of a section to its bytes, in document 01's words: which bit of which byte a Bool is, which bytes a number
-- is, and which bytes a set changes. Worked instances follow, computed. Assumes nothing.
use Rattle.std.specs.Prelude.{ℕ, ◌+◌, ◌*◌, ◌/◌, ◌%◌, ◌^◌, ◌≤◌, ◌<◌, ◌≡◌, refl, true, false, List, [], ◌∷◌, eqb, length, take}
use Rattle.std.specs.Prelude.{drop, get_or, set}
use Rattle.std.specs.Prelude.{Some}
use Rattle.std.specs.Int.Bits.{bit_xor}
use Rattle.std.proofs.lemmas.List.Edits.{sets}
use Rattle.record.specs.Bits.{of_bits, with_bit, section_bits, little, little_bytes}
use Rattle.record.specs.Offsets.{bytes_of, bool_at, data_at, from, bit_count}
use Rattle.record.specs.Record.{read, stored, put_bits}
use Rattle.record.specs.declared.BitOffset.{BitOffset}
use Rattle.record.specs.declared.ElementOffset.{ElementOffset}
use Rattle.record.specs.declared.Width.{Width}
use Rattle.record.specs.declared.Width.TheVariants.{Two}

-- each is a byte
abbrev pub Bytes : List ℕ → Type 0
Bytes l = (i : ℕ) → get_or l i 0 < 256

-- Bool at o: bit o modulo 8, lowest first, of the byte whose number is o divided by 8, rounded down; past the bytes false
abbrev pub BoolAtHolds : Type 0
BoolAtHolds =
    (l : List ℕ) (o : BitOffset)
    → get_or (section_bits l) (from (bool_at o)) false ≡ eqb (get_or l (o.0 / 8) 0 / 2 ^ (o.0 % 8) % 2) 1

-- A type of w bytes at o: w bytes, little-endian, the first of them at o times w.
abbrev pub NumberAtHolds : Type 0
NumberAtHolds =
    (l : List ℕ) (w : Width) (o : ElementOffset) → Bytes l
    → of_bits (read (from (data_at w o)) (bit_count (data_at w o)) (section_bits l))
    ≡ little (take (bytes_of w) (drop (o.0 * bytes_of w) l))

-- A set of a Bool changes that bit of that byte, and a set of a number those bytes; masked is exclusive or.
abbrev pub SetBytesHolds : Type 0
SetBytesHolds =
    ((l : List ℕ) (o : BitOffset) → o.0 / 8 < length l → (v m : ℕ) → v < 2 → m < 2
    → put_bits (bool_at o) v m (section_bits l)
    ≡ Some (section_bits (set l (o.0 / 8) (with_bit (get_or l (o.0 / 8) 0) (o.0 % 8) (bit_xor v m)))))
    × ((l : List ℕ) (w : Width) (o : ElementOffset) → o.0 * bytes_of w + bytes_of w ≤ length l → (v m : ℕ)
    → put_bits (data_at w o) v m (section_bits l)
    ≡ Some (section_bits (sets l (o.0 * bytes_of w) (little_bytes (bytes_of w) (bit_xor v m)))))

-- Bytes with the same bits are the same, so that a contract that says the bits of lent bytes says the bytes.
abbrev pub SameBytesHolds : Type 0
SameBytesHolds = (a b : List ℕ) → Bytes a → Bytes b → section_bits a ≡ section_bits b → a ≡ b

-- ---- worked instances

abbrev pub some_bytes : List ℕ
some_bytes = 1 ∷ 8 ∷ 3 ∷ 4 ∷ []

-- the Bool at 11 is bit 3 of byte 1, which is 8
pub bool_eleven :
    (get_or (section_bits some_bytes) (from (bool_at (record { 0 = 11 }))) false ≡ true)
    × (eqb (get_or some_bytes 1 0 / 2 ^ 3 % 2) 1 ≡ true)
bool_eleven = (refl, refl)

-- the two bytes of element 1 are 3 and 4: 3 + 256 * 4
pub number-one :
    (of_bits (read (from (data_at Two (record { 0 = 1 }))) 16 (section_bits some_bytes)) ≡ 1027)
    × (little (take 2 (drop 2 some_bytes)) ≡ 1027)
number-one = (refl, refl)

-- false set at 11 takes 8 from byte 1; 258, masked with 3, set at element 1 makes its bytes 1 and 1
pub sets-right :
    (put_bits (bool_at (record { 0 = 11 })) 0 0 (section_bits some_bytes) ≡ Some (section_bits (1 ∷ 0 ∷ 3 ∷ 4 ∷ [])))
    × (put_bits (data_at Two (record { 0 = 1 })) 258 3 (section_bits some_bytes) ≡ Some (section_bits (1 ∷ 8 ∷ 1 ∷ 1 ∷ [])))
unfolding stored put_bits
sets-right = (refl, refl)

-- a byte is below 256: with any numbers the same bits would not say the same
pub byte_needed : section_bits (256 ∷ []) ≡ section_bits (0 ∷ [])
byte_needed = refl
