-- Reading from the front of a line: fixed bytes, numbers, types and masks as they are written in a call. Assumes nothing.
use Rattle.std.specs.Bool.{then_some}
use Rattle.std.specs.Option.{option_and_then, option_or}
use Rattle.std.specs.Prelude.{ℕ, ◌+◌, ◌-◌, ◌*◌, ◌^◌, Bool, [], ◌∷◌, ◌==◌, nat_le, nat_lt}
use Prim.Native.String.{String}
use Rattle.std.specs.Prelude.{Option, None, Some}
use Rattle.text.specs.Bytes.{Str, ascii, cond, both, either}
use Rattle.record.specs.Masks.{half_of}
use Rattle.record.specs.Types.{Num, int, uint, float32, float64, bits_of, type_name_of}
use Rattle.record.specs.declared.Width.TheVariants.{One, Two, Four, Eight}

-- a reading gives what was read and the rest, or nothing
abbrev pub Reads : Type 0 → Type 0
Reads A = Str → Option (A × Str)

infixl 20 ◌>>=◌ ◌>>◌
abbrev pub ◌>>=◌ : {A B : Type 0} → Reads A → (A → Reads B) → Reads B
◌>>=◌ m f = λ s. option_and_then (λ x. f x.0 x.1) (m s)

abbrev pub ◌>>◌ : {A B : Type 0} → Reads A → Reads B → Reads B
◌>>◌ m f = λ s. option_and_then (λ x. f x.1) (m s)

abbrev pub pure : {A : Type 0} → A → Reads A
pure a = λ s. Some (a, s)

-- the first reading, or where it finds nothing the second
infixr 15 ◌or◌
abbrev pub ◌or◌ : {A : Type 0} → Reads A → Reads A → Reads A
◌or◌ f g = λ s. option_or (f s) (g s)

-- these bytes
abbrev pub strip : Str → Reads (Unit {0})
strip [] s = Some (tt, s)
strip (c ∷ p) [] = None
strip (c ∷ p) (x ∷ s) = cond (c == x) (strip p s) None

abbrev pub lit : String → Reads (Unit {0})
lit t = strip (ascii t)

-- the end of the line
abbrev pub end : Reads (Unit {0})
end [] = Some (tt, [])
end (x ∷ s) = None

-- ---- numbers

abbrev pub digit_byte : ℕ → Bool
digit_byte c = both (nat_le 48 c) (nat_le c 57)

-- a letter, a digit or an underscore
abbrev pub word_byte : ℕ → Bool
word_byte c =
    either (digit_byte c) (either (both (nat_le 65 c) (nat_le c 90)) (either (both (nat_le 97 c) (nat_le c 122)) (c == 95)))

-- the digits in front, after those whose number is n
abbrev pub digits_from : ℕ → Str → ℕ × Str
digits_from n [] = (n, [])
digits_from n (c ∷ s) = cond (digit_byte c) (digits_from (n * 10 + (c - 48)) s) (n, c ∷ s)

-- a number: one digit at least, and all that follow
abbrev pub numeral : Reads ℕ
numeral [] = None
numeral (c ∷ s) = then_some (digit_byte c) (digits_from 0 (c ∷ s))

-- a number below a limit
abbrev pub below : ℕ → Reads ℕ
below limit s = option_and_then (λ x. then_some (nat_lt x.0 limit) x) (numeral s)

-- the bits of a negative number by what stands after its sign: 1 to half, which is the sign's bit
abbrev pub negative : ℕ → Reads ℕ
negative half s = option_and_then (λ x. then_some (both (nat_lt 0 x.0) (nat_le x.0 half)) (half + half - x.0, x.1)) (numeral s)

-- a number with a sign as its bits: -5 of 8 bits is 251
abbrev pub signed_number : ℕ → Reads ℕ
signed_number half = below half or (lit "-" >> negative half)

-- ---- types

-- a type by its name
unfoldable pub type_name : Reads Num
type_name =
    (lit "i8" >> pure (int One))
    or (lit "u8" >> pure (uint One))
    or (lit "i16" >> pure (int Two))
    or (lit "u16" >> pure (uint Two))
    or (lit "i32" >> pure (int Four))
    or (lit "u32" >> pure (uint Four))
    or (lit "f32" >> pure float32)
    or (lit "i64" >> pure (int Eight))
    or (lit "u64" >> pure (uint Eight))
    or (lit "f64" >> pure float64)

-- ---- masks: as defaults of the call's own type are written, and no others

-- true is 1, false 0
unfoldable pub truth : Reads ℕ
truth = (lit "true" >> pure 1) or (lit "false" >> pure 0)

-- in a get: an integer with its sign, a float's bits
unfoldable pub get_mask_of : Num → Reads ℕ
get_mask_of (int w) = signed_number (half_of w)
get_mask_of (uint w) = below (2 ^ bits_of (uint w))
get_mask_of float32 = below (2 ^ 32)
get_mask_of float64 = below (2 ^ 64)

-- in a set: the same, with an ending that adds nothing to a float's bits
unfoldable pub set_mask_of : Num → Reads ℕ
set_mask_of (int w) = signed_number (half_of w)
set_mask_of (uint w) = below (2 ^ bits_of (uint w))
set_mask_of float32 = do m ← below (2 ^ 32); lit "u32"; pure m
set_mask_of float64 = do m ← below (2 ^ 64); lit "u64"; pure m

-- ---- what is set: the accessor's `value`, or a constant's bits

pub data Arg : Type 0 where
  value : Arg
  constant : ℕ → Arg

-- The constants of a type, of which zeroing and tags write some: a float's only constant is 0, since any other would not be its
-- bits.
abbrev pub limit : Num → ℕ
limit (int w) = half_of w
limit (uint w) = 2 ^ bits_of (uint w)
limit float32 = 1
limit float64 = 1

-- the type's own name after a constant adds nothing
abbrev pub ending : Num → Reads (Unit {0})
ending t = strip (type_name_of t) or pure tt

-- an enum's value is written as its number, of type u16
abbrev pub enum_value : Num → Reads Arg
enum_value (int w) = λ s. None
enum_value (uint One) = λ s. None
enum_value (uint Two) = lit "value as u16" >> pure value
enum_value (uint Four) = λ s. None
enum_value (uint Eight) = λ s. None
enum_value float32 = λ s. None
enum_value float64 = λ s. None

unfoldable pub data_arg : Num → Reads Arg
data_arg t = (do k ← below (limit t); ending t; pure (constant k)) or enum_value t or (lit "value" >> pure value)

unfoldable pub bool_arg : Reads Arg
bool_arg = (do k ← truth; pure (constant k)) or (lit "value" >> pure value)
