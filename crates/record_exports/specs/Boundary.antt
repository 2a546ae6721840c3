-- What the boundary's functions answer and leave, from the definitions on sections. Assumes nothing.
use Rattle.std.specs.Prelude.{◌≡◌, Bool, List, ℕ, Option, is_some}
use Rattle.std.specs.Option.{unwrap_or, option_map, option_and_then}
use Rattle.record.specs.Bits.{section_bits}
use Rattle.record.specs.Offsets.{bool_at, data_at}
use Rattle.record.specs.Record.{get_bits, put_bits}
use Rattle.record.specs.declared.BitOffset.{BitOffset}
use Rattle.record.specs.declared.ElementOffset.{ElementOffset}
use Rattle.record.specs.declared.PointerOffset.{PointerOffset}
use Rattle.record.specs.declared.Width.{Width}

-- offsets by their numbers
abbrev pub bits : ℕ → BitOffset
bits n = record { 0 = n }

abbrev pub elements : ℕ → ElementOffset
elements n = record { 0 = n }

abbrev pub pointer_at : ℕ → PointerOffset
pointer_at n = record { 0 = n }

-- a get and a set of a Bool
abbrev pub gets_bool : ℕ → ℕ → List ℕ → ℕ
gets_bool o m l = get_bits (bool_at (bits o)) m (section_bits l)

abbrev pub put_bool : ℕ → ℕ → ℕ → List ℕ → Option (List Bool)
put_bool o v m l = put_bits (bool_at (bits o)) v m (section_bits l)

-- a get and a set of a number: of no width nothing is found or set
abbrev pub get_of : Option Width → ElementOffset → ℕ → List Bool → Option ℕ
get_of w o m l = option_map (λ x. get_bits (data_at x o) m l) w

abbrev pub put_of : Option Width → ElementOffset → ℕ → ℕ → List Bool → Option (List Bool)
put_of w o v m l = option_and_then (λ x. put_bits (data_at x o) v m l) w

-- what a get of a number answers and leaves in its value
pub record Gave (found : Option ℕ) (old new : ℕ) (r : Bool) : Type 0 where
  pub answer : r ≡ is_some found
  pub value : new ≡ unwrap_or found old

-- what a set answers and leaves of the section's bits
pub record SetLeft (stored : Option (List Bool)) (old new : List Bool) (r : Bool) : Type 0 where
  pub answer : r ≡ is_some stored
  pub left : new ≡ unwrap_or stored old
