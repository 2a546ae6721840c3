-- The types of slots that have bits: Bool, the numeric types and enums, with document 01's numbers for them. Assumes nothing.
use Rattle.std.specs.Prelude.{List, [], ◌∷◌, ℕ, ◌*◌, get_or}
use Rattle.std.specs.Prelude.{Option, None, Some}
use Rattle.text.specs.Bytes.{Str, ascii}
use Rattle.record.specs.Offsets.{Place, bool_at, data_at, bytes_of}
use Rattle.record.specs.declared.Width.{Width}
use Rattle.record.specs.declared.Width.TheVariants.{One, Two, Four, Eight}

-- the numeric types
pub data Num : Type 0 where
  int : Width → Num
  uint : Width → Num
  float32 float64 : Num

abbrev pub width_of : Num → Width
width_of (int w) = w
width_of (uint w) = w
width_of float32 = Four
width_of float64 = Eight

-- how many bits a number of the type has
abbrev pub bits_of : Num → ℕ
bits_of t = bytes_of (width_of t) * 8

-- a type's text: type_string of a number, for every leaf
abbrev pub type_name_of : Num → Str
type_name_of (int One) = ascii "i8"
type_name_of (int Two) = ascii "i16"
type_name_of (int Four) = ascii "i32"
type_name_of (int Eight) = ascii "i64"
type_name_of (uint One) = ascii "u8"
type_name_of (uint Two) = ascii "u16"
type_name_of (uint Four) = ascii "u32"
type_name_of (uint Eight) = ascii "u64"
type_name_of float32 = ascii "f32"
type_name_of float64 = ascii "f64"

-- what a slot with bits is; an enum is taken and given as its 16-bit number
pub data Kind : Type 0 where
  bool : Kind
  num : Num → Kind
  enum : Kind

-- how many bits a slot has
abbrev pub slot_bits : Kind → ℕ
slot_bits bool = 1
slot_bits (num t) = bits_of t
slot_bits enum = 16

-- the kinds by document 01's numbers, 0 to 15: Void and the pointer kinds have no bits, nor have 16 to 18, past the list
abbrev pub kinds : List (Option Kind)
kinds =
    None ∷ Some bool
    ∷ Some (num (int One)) ∷ Some (num (int Two)) ∷ Some (num (int Four)) ∷ Some (num (int Eight))
    ∷ Some (num (uint One)) ∷ Some (num (uint Two)) ∷ Some (num (uint Four)) ∷ Some (num (uint Eight))
    ∷ Some (num float32) ∷ Some (num float64)
    ∷ None ∷ None ∷ None ∷ Some enum ∷ []

unfoldable pub kind_of : ℕ → Option Kind
kind_of n = get_or kinds n None

-- where a slot's bits stand: its offset is in bits for a Bool, in elements for any other
abbrev pub place_of : Kind → ℕ → Place
place_of bool o = bool_at (record { 0 = o })
place_of (num t) o = data_at (width_of t) (record { 0 = o })
place_of enum o = data_at Two (record { 0 = o })

-- the place of a union's tag, whose offset is in elements of two bytes
abbrev pub tag_place : ℕ → Place
tag_place o = data_at Two (record { 0 = o })
