-- What sets and clears of a lent record answer and leave, in the words of the definitions on sections. Assumes nothing.
use Rattle.std.specs.Prelude.{ℕ, ◌≡◌, List, set, Result, ⊤, is_ok, is_some}
use Rattle.std.specs.Option.{unwrap_or}
use Rattle.record.specs.Bits.{section_bits, flags}
use Rattle.record.specs.Offsets.{Place, pointer_address}
use Rattle.record.specs.Record.{put_bits, clear_flag}
use Rattle.record.specs.declared.PointerOffset.{PointerOffset}
use Rattle.record.specs.declared.NoMeaning.{NoMeaning}

-- a set of v with mask m at a place, on data bytes l, leaves l' and answers r: where it has no meaning, the bits before it
pub record Put (p : Place) (v m : ℕ) (l l' : List ℕ) (r : Result ⊤ NoMeaning) : Type 0 where
  pub answer : is_ok r ≡ is_some (put_bits p v m (section_bits l))
  pub left : section_bits l' ≡ unwrap_or (put_bits p v m (section_bits l)) (section_bits l)

-- a clear of pointer i, on a byte for each pointer, leaves l' and answers r; no other byte changes
pub record Cleared (i : PointerOffset) (l l' : List ℕ) (r : Result ⊤ NoMeaning) : Type 0 where
  pub answer : is_ok r ≡ is_some (clear_flag i (flags l))
  pub left : flags l' ≡ unwrap_or (clear_flag i (flags l)) (flags l)
  pub bytes : l' ≡ set l (pointer_address i) 0
