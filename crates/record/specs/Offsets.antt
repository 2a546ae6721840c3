-- Where a value stands: offsets in bits, in elements and in pointers, each with its own address. Assumes nothing.
use Rattle.std.specs.Prelude.{ℕ, ◌+◌, ◌*◌, ◌/◌, ◌%◌, Option, None, Some, Result, eqb}
use Rattle.std.specs.Option.{ok_or}
use Rattle.text.specs.Bytes.{cond}
use Rattle.record.specs.declared.BitAddress.{BitAddress}
use Rattle.record.specs.declared.BitOffset.{BitOffset}
use Rattle.record.specs.declared.ElementOffset.{ElementOffset}
use Rattle.record.specs.declared.NoWidth.{NoWidth}
use Rattle.record.specs.declared.PointerOffset.{PointerOffset}
use Rattle.record.specs.declared.Width.{Width}
use Rattle.record.specs.declared.Width.TheVariants.{One, Two, Four, Eight}

-- how many bytes an element takes
abbrev pub bytes_of : Width → ℕ
bytes_of One = 1
bytes_of Two = 2
bytes_of Four = 4
bytes_of Eight = 8

-- the width of so many bytes, if there is one
abbrev pub as_width : ℕ → Option Width
as_width n =
    cond (eqb n 1) (Some One)
    (cond (eqb n 2) (Some Two) (cond (eqb n 4) (Some Four) (cond (eqb n 8) (Some Eight) None)))

-- the same, or the number that is no width
abbrev pub measured : ℕ → Result Width NoWidth
measured n = ok_or (as_width n) (record { 0 = n })

-- Bool at o: bit o modulo 8, lowest first, of the byte whose number is o divided by 8, rounded down
abbrev pub bit_address : BitOffset → BitAddress
bit_address o = record { byte = o.0 / 8; bit = o.0 % 8 }

-- a type of w bytes at o: the first of its bytes is at o times w
abbrev pub element_address : Width → ElementOffset → ℕ
element_address w o = o.0 * bytes_of w

-- pointer o, counted from 0
abbrev pub pointer_address : PointerOffset → ℕ
pointer_address o = o.0

-- A place in the data section: a Bool's bit, or a number's bytes.
pub data Place : Type 0 where
  bool_at : BitOffset → Place
  data_at : Width → ElementOffset → Place

-- a place's first bit in the section, and how many bits it has
abbrev pub from : Place → ℕ
from (bool_at o) = (bit_address o).byte * 8 + (bit_address o).bit
from (data_at w o) = element_address w o * 8

abbrev pub bit_count : Place → ℕ
bit_count (bool_at o) = 1
bit_count (data_at w o) = bytes_of w * 8
