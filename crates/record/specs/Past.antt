-- What a get and a null test find where a record ends before them (request N6). Assumes nothing.
use Rattle.std.specs.Prelude.{ℕ, ◌^◌, ◌<◌, ◌≡◌, true}
use Rattle.record.specs.Offsets.{Place, bit_count}
use Rattle.record.specs.Record.{Record, get, null, Holds, HoldsPointer}
use Rattle.record.specs.declared.PointerOffset.{PointerOffset}

-- Where the section does not hold the place whole, a get finds zero bits, so it answers its mask, the slot's default.
abbrev pub DefaultGetHolds : Type 0
DefaultGetHolds = (p : Place) (m : ℕ) (r : Record) → m < 2 ^ bit_count p → (Holds p r → ⊥) → get p m r ≡ m

-- A pointer past the pointers tests absent.
abbrev pub AbsentHolds : Type 0
AbsentHolds = (i : PointerOffset) (r : Record) → (HoldsPointer i r → ⊥) → null i r ≡ true
