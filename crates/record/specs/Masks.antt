-- The masks of a slot's getter and setter, from its kind, its default's bits and its explicit flag: as bits, and as they are
-- written. Assumes nothing.
use Rattle.std.specs.Prelude.{Bool, ◌++◌, ℕ, ◌-◌, ◌*◌, ◌^◌, eqb}
use Rattle.std.specs.Prelude.{Option, None, Some}
use Rattle.text.specs.Bytes.{Str, ascii, cond, either}
use Rattle.text.specs.Decimal.{decimal, signed}
use Rattle.record.specs.Offsets.{bytes_of}
use Rattle.record.specs.Types.{int, uint, float32, float64, Kind, bool, num, enum}
use Rattle.record.specs.declared.Width.{Width}

-- the sign's bit of a number of so many bytes
abbrev pub half_of : Width → ℕ
half_of w = 2 ^ (bytes_of w * 8 - 1)

abbrev unless_zero : ℕ → Option ℕ
unless_zero d = cond (eqb d 0) None (Some d)

-- the getter's rule: a default whose bits are not all zero (getter_text)
abbrev pub get_mask : Kind → ℕ → Bool → Option ℕ
get_mask k d explicit = unless_zero d

-- the present setter's rule: prim_default, for which -0.0 is zero too; an enum's default counts where it is explicit
-- (generate_setter)
abbrev pub set_mask : Kind → ℕ → Bool → Option ℕ
set_mask bool d explicit = unless_zero d
set_mask (num (int w)) d explicit = unless_zero d
set_mask (num (uint w)) d explicit = unless_zero d
set_mask (num float32) d explicit = cond (either (eqb d 0) (eqb d (2 ^ 31))) None (Some d)
set_mask (num float64) d explicit = cond (either (eqb d 0) (eqb d (2 ^ 63))) None (Some d)
set_mask enum d explicit = cond explicit (Some d) None

-- how a getter writes a mask: a signed number with its sign, a float as its bits
unfoldable pub get_mask_text : Kind → ℕ → Str
get_mask_text bool m = cond (eqb m 0) (ascii "false") (ascii "true")
get_mask_text (num (int w)) m = signed (half_of w) m
get_mask_text (num (uint w)) m = decimal m
get_mask_text (num float32) m = decimal m
get_mask_text (num float64) m = decimal m
get_mask_text enum m = decimal m

-- how a setter writes it, by either rule: the same, but that a float's bits have an ending
unfoldable pub set_mask_text : Kind → ℕ → Str
set_mask_text bool m = cond (eqb m 0) (ascii "false") (ascii "true")
set_mask_text (num (int w)) m = signed (half_of w) m
set_mask_text (num (uint w)) m = decimal m
set_mask_text (num float32) m = decimal m ++ ascii "u32"
set_mask_text (num float64) m = decimal m ++ ascii "u64"
set_mask_text enum m = decimal m

-- no mask counts as 0
abbrev pub mask_bits : Option ℕ → ℕ
mask_bits None = 0
mask_bits (Some m) = m
