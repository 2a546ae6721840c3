-- A record and what can be done to it (document 01, "What a line does to a record"). A section, of data bits or of the pointers'
-- flags, is a list of Bools, so that one get and one set serve Bools, numbers and pointers. Assumes nothing.
use Rattle.std.specs.Prelude.{ℕ, ◌+◌, ◌≤◌, ◌<◌, ◌≡◌, Bool, false, List, [], ◌∷◌, ◌++◌, eqb, leb, length, take, drop}
use Rattle.std.specs.Prelude.{get_or, replicate, Option}
use Rattle.std.specs.Bool.{then_some}
use Rattle.std.specs.Option.{option_map}
use Rattle.text.specs.Bytes.{cond}
use Rattle.record.specs.Bits.{to_bits, of_bits, xors}
use Rattle.record.specs.Offsets.{Place, data_at, from, bit_count, pointer_address}
use Rattle.record.specs.declared.ElementOffset.{ElementOffset}
use Rattle.record.specs.declared.PointerOffset.{PointerOffset}
use Rattle.record.specs.declared.Width.TheVariants.{Two}

-- n bits from a on, and the section with vs put there
abbrev pub read : ℕ → ℕ → List Bool → List Bool
read a n l = take n (drop a l)

abbrev pub write : ℕ → List Bool → List Bool → List Bool
write a vs l = take a l ++ (vs ++ drop (a + length vs) l)

-- whether n bits from a on lie wholly inside the section
abbrev pub inside : ℕ → ℕ → List Bool → Bool
inside a n l = leb (a + n) (length l)

-- What a get or a null test finds: zero bits where they are not wholly inside the section.
unfoldable pub found : ℕ → ℕ → List Bool → List Bool
found a n l = cond (inside a n l) (read a n l) (replicate n false)

-- What a set or a clear leaves: it has no meaning where it is not wholly inside its section.
unfoldable pub stored : ℕ → List Bool → List Bool → Option (List Bool)
stored a vs l = then_some (inside a (length vs) l) (write a vs l)

-- exclusive or with the mask, on the way out and on the way in
abbrev pub masked : Place → ℕ → List Bool → ℕ
masked p m bs = of_bits (xors bs (to_bits (bit_count p) m))

abbrev pub coded : Place → ℕ → ℕ → List Bool
coded p v m = xors (to_bits (bit_count p) v) (to_bits (bit_count p) m)

-- ---- on a section

-- get with mask m, which is 0 where the call has none
unfoldable pub get_bits : Place → ℕ → List Bool → ℕ
get_bits p m l = masked p m (found (from p) (bit_count p) l)

-- set value v with mask m
unfoldable pub put_bits : Place → ℕ → ℕ → List Bool → Option (List Bool)
put_bits p v m l = stored (from p) (coded p v m) l

-- whether the 16 bits of a tag are the number of a member
abbrev pub tag_is : ElementOffset → ℕ → List Bool → Bool
tag_is o n l = eqb (get_bits (data_at Two o) 0 l) n

-- whether pointer i is null, and the pointers with i null
unfoldable pub null_flag : PointerOffset → List Bool → Bool
null_flag i l = eqb (of_bits (found (pointer_address i) 1 l)) 0

unfoldable pub clear_flag : PointerOffset → List Bool → Option (List Bool)
clear_flag i l = stored (pointer_address i) (false ∷ []) l

-- ---- on a record

-- the data section's bits, and for each pointer whether it is not null
pub record Record : Type 0 where
  pub bits : List Bool
  pub pointers : List Bool

abbrev pub get : Place → ℕ → Record → ℕ
get p m r = get_bits p m r.bits

abbrev pub put_value : Place → ℕ → ℕ → Record → Option Record
put_value p v m r = option_map (λ bs. record { bits = bs; pointers = r.pointers }) (put_bits p v m r.bits)

abbrev pub null : PointerOffset → Record → Bool
null i r = null_flag i r.pointers

abbrev pub clear : PointerOffset → Record → Option Record
clear i r = option_map (λ ps. record { bits = r.bits; pointers = ps }) (clear_flag i r.pointers)

-- ---- what the statements say of records

-- bit b of the data section is one of the place's
abbrev pub Covers : Place → ℕ → Type 0
Covers p b = (from p ≤ b) × (b < from p + bit_count p)

-- no bit in common
abbrev pub Clear : Place → Place → Type 0
Clear p q = (b : ℕ) → Covers p b → Covers q b → ⊥

-- long enough: the section holds the place whole; the record has the pointer
abbrev pub Holds : Place → Record → Type 0
Holds p r = from p + bit_count p ≤ length r.bits

abbrev pub HoldsPointer : PointerOffset → Record → Type 0
HoldsPointer i r = pointer_address i < length r.pointers

-- the two records differ at most in the data bits of P: the lengths and all pointers are the same
pub record Same (P : ℕ → Type 0) (r s : Record) : Type 0 where
  pub length-same : length s.bits ≡ length r.bits
  pub bits-same : (b : ℕ) → (P b → ⊥) → get_or s.bits b false ≡ get_or r.bits b false
  pub pointers-same : s.pointers ≡ r.pointers
