-- The types of lines by their numbers, of which `line_type` and the table speak. Assumes nothing.
use Rattle.std.specs.Prelude.{List, map, ℕ}
use Rattle.zeroing.specs.declared.LineType.{LineType}
use Rattle.zeroing.specs.declared.LineType.TheVariants as typ

abbrev pub type_number : LineType → ℕ
type_number typ.Void = 0
type_number typ.Bool = 1
type_number typ.Int8 = 2
type_number typ.Int16 = 3
type_number typ.Int32 = 4
type_number typ.Int64 = 5
type_number typ.Uint8 = 6
type_number typ.Uint16 = 7
type_number typ.Uint32 = 8
type_number typ.Uint64 = 9
type_number typ.Float32 = 10
type_number typ.Float64 = 11
type_number typ.Pointer = 12

-- the types of a table's places
abbrev pub type_numbers : List LineType → List ℕ
type_numbers = map type_number
