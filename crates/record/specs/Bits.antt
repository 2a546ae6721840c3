-- Numbers, bytes and flags as lists of bits, the lowest bit first. Assumes nothing.
use Rattle.std.specs.Prelude.{ℕ, zero, suc, ◌+◌, ◌*◌, ◌/◌, ◌%◌, ◌^◌, Bool, true, false, not, List, [], ◌∷◌, ◌++◌, eqb}

-- the n lowest bits of a number
abbrev pub to_bits : ℕ → ℕ → List Bool
to_bits zero v = []
to_bits (suc n) v = eqb (v % 2) 1 ∷ to_bits n (v / 2)

abbrev pub bit : Bool → ℕ
bit true = 1
bit false = 0

-- the number with these bits
abbrev pub of_bits : List Bool → ℕ
of_bits [] = 0
of_bits (b ∷ bs) = bit b + 2 * of_bits bs

-- exclusive or, of two bits and bit by bit
abbrev pub flip : Bool → Bool → Bool
flip true b = not b
flip false b = b

abbrev pub xors : List Bool → List Bool → List Bool
xors [] bs = bs
xors (a ∷ r) [] = a ∷ r
xors (a ∷ r) (b ∷ bs) = flip a b ∷ xors r bs

-- a number with bit i made x, which is 0 or 1: what stands above bit i, x, and what stands below it
abbrev pub with_bit : ℕ → ℕ → ℕ → ℕ
with_bit b i x = (b / 2 ^ i / 2 * 2 + x) * 2 ^ i + b % 2 ^ i

-- The bits of a section of bytes: bit p of the section is bit p modulo 8, lowest first, of byte p / 8 (`BoolAtHolds`), and bytes
-- from an address on are one little-endian number (`NumberAtHolds`, both in Bytes).
abbrev pub section_bits : List ℕ → List Bool
section_bits [] = []
section_bits (b ∷ bs) = to_bits 8 b ++ section_bits bs

-- the number that bytes are, little-endian
abbrev pub little : List ℕ → ℕ
little [] = 0
little (b ∷ bs) = b + 256 * little bs

-- the w low bytes of a number, little-endian
abbrev pub little_bytes : ℕ → ℕ → List ℕ
little_bytes zero v = []
little_bytes (suc w) v = v % 256 ∷ little_bytes w (v / 256)

-- The pointers of a lent record, a byte for each: 0 is null, any other is not.
abbrev pub flags : List ℕ → List Bool
flags [] = []
flags (b ∷ bs) = not (eqb b 0) ∷ flags bs
