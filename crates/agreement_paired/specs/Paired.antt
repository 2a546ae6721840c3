-- Request N9 of document 02 from answered bytes: what the paired setter of a slot does with whatever default, and where its text
-- is the present setter's. The words are those of demand 3 in crate agreement. Assumes nothing.
use Rattle.std.specs.Prelude.{◌≡◌, ℕ, ◌^◌, ◌<◌, Bool, true, not, ◌⊎◌, ◌==◌, Some}
use Rattle.text.specs.Bytes.{Str, both, either}
use Rattle.tree.specs.Tree.{kind, Slot}
use Rattle.tree.specs.Read.{admitted}
use Rattle.record.specs.Record.{Record, Covers, Holds, Same}
use Rattle.record.specs.Types.{Kind, slot_bits, kind_of}
use Rattle.meaning.specs.Claims.{TagHolds, TagHas, TagClear, TagIs, setter_leaves}
use Rattle.meaning.specs.Meaning.{run_setter, run_getter}
use Rattle.requests.specs.Requests.{of_field, refuses, outcome_of}
use Rattle.requests.specs.declared.Accessor.TheVariants.{Getter, Setter, PairedSetter}
use Rattle.agreement.specs.Slots.{Generated, Ran, SlotAt, slot_kind, tag_at, place_at, OwnDefault}
use Rattle.agreement.specs.Claims.{Means}

-- ---- a generated getter implies a generated paired setter

-- of whatever slot, with bits or without, at every level
abbrev pub PairedGivenHolds : Type 0
PairedGivenHolds =
    (s : Str) (id place : ℕ) (a : SlotAt s id place) (is_reader is_fn : Bool) (g : Str)
    → Ran s id place (Getter is_reader is_fn) g → (level : ℕ)
    → (w : Str) × Generated s id place PairedSetter level w

-- ---- a paired setter alone

-- a Bool, numeric or enum slot whose V line is of its T line's kind, and its paired setter's text
pub record PairedSet {s : Str} {id place : ℕ} (a : SlotAt s id place) (k : Kind) (w : Str) : Type 0 where
  pub has-bits : kind_of (slot_kind a) ≡ Some k
  pub own_default : OwnDefault a
  pub setter : Ran s id place PairedSetter w

-- on every record, of any length: the discriminant is put into the tag, then v under the default's bits into the slot
abbrev pub PairedSetHolds : Type 0
PairedSetHolds =
    (s : Str) (id place : ℕ) (a : SlotAt s id place) (k : Kind) (w : Str) (v : ℕ) (r : Record) → PairedSet a k w
    → run_setter w v r ≡ setter_leaves (tag_at a) (place_at a k) v a.slot.default.bits r

-- it has a meaning exactly where the section holds slot and tag whole
abbrev pub PairedMeansHolds : Type 0
PairedMeansHolds =
    (s : Str) (id place : ℕ) (a : SlotAt s id place) (k : Kind) (w : Str) (v : ℕ) (r : Record) → PairedSet a k w
    → (Holds (place_at a k) r → TagHolds (tag_at a) r → Means w v r)
    × (Means w v r → Holds (place_at a k) r × TagHolds (tag_at a) r)

-- ---- set and get

-- A case of demand 3 with the paired setter: a Bool, numeric or enum slot, its paired setter's text and the text of one of its
-- getters, a value of its width, and a record that is long enough, with the slot's bits clear of its tag. Nothing is asked of the
-- default or its flag, nor of what stands in the record.
pub record PairedCase {s : Str} {id place : ℕ} (a : SlotAt s id place) (k : Kind) (w : Str) (is_reader is_fn : Bool) (g : Str)
    (v : ℕ) (r : Record) : Type 0 where
  pub has-bits : kind_of (slot_kind a) ≡ Some k
  pub setter : Ran s id place PairedSetter w
  pub getter : Ran s id place (Getter is_reader is_fn) g
  pub value : v < 2 ^ slot_bits k
  pub long : Holds (place_at a k) r
  pub tag_long : TagHolds (tag_at a) r
  pub clear : TagClear (tag_at a) (place_at a k)

-- The paired setter's text w runs with v and leaves a record on which the getter's text g answers v, without an exception; no bit
-- but the slot's and the tag's changes, no pointer and no length; the tag holds the discriminant.
pub record PairedSetGet {s : Str} {id place : ℕ} (a : SlotAt s id place) (k : Kind) (w g : Str) (v : ℕ) (r : Record)
    : Type 0 where
  pub left : Record
  pub runs : run_setter w v r ≡ Some left
  pub answers : run_getter g left ≡ Some v
  pub same : Same (λ b. Covers (place_at a k) b ⊎ TagHas (tag_at a) b) r left
  pub tagged : TagIs (tag_at a) left

-- for the bytes of every sheet, every slot in it, every value and every record
abbrev pub PairedSetGetHolds : Type 0
PairedSetGetHolds =
    (s : Str) (id place : ℕ) (a : SlotAt s id place) (k : Kind) (w : Str) (is_reader is_fn : Bool) (g : Str) (v : ℕ) (r : Record)
    → PairedCase a k w is_reader is_fn g v r → PairedSetGet a k w g v r

-- ---- beside the present setter

-- the three cases: a float default of -0.0; an enum's default other than 0 without its flag; an enum's default of 0 with its flag
abbrev pub is_negative_zero : ℕ → ℕ → Bool
is_negative_zero k bits = either (both (k == 10) (bits == 2 ^ 31)) (both (k == 11) (bits == 2 ^ 63))

abbrev pub is_unflagged : ℕ → ℕ → ℕ → Bool
is_unflagged k explicit bits = both (k == 15) (both (explicit == 0) (not (bits == 0)))

abbrev pub is_flagged_zero : ℕ → ℕ → ℕ → Bool
is_flagged_zero k explicit bits = both (k == 15) (both (not (explicit == 0)) (bits == 0))

-- one of them, by the slot's kind, its flag and its default's bits
abbrev pub one_of_three : ℕ → ℕ → ℕ → Bool
one_of_three k explicit bits =
    either (is_negative_zero k bits) (either (is_unflagged k explicit bits) (is_flagged_zero k explicit bits))

-- a slot in one of the three cases: its default is of its type
abbrev pub in_three_cases : Slot → Bool
in_three_cases s = both (kind s.ty == s.default.kind) (one_of_three (kind s.ty) s.explicit s.default.bits)

-- everywhere else the request for the paired setter comes to what that for the present one comes to, text or refusal: for any
-- bytes, any id and any place, of pointers, groups and what is not there too
abbrev pub SameTextHolds : Type 0
SameTextHolds =
    (s : Str) (id place level : ℕ) → ((a : SlotAt s id place) → in_three_cases a.slot ≡ true → ⊥)
    → outcome_of (admitted s) id (of_field place PairedSetter) level ≡ outcome_of (admitted s) id (of_field place Setter) level

-- in each of the three cases the texts differ
abbrev pub OtherTextHolds : Type 0
OtherTextHolds =
    (s : Str) (id place : ℕ) (a : SlotAt s id place) (level : ℕ) (w x : Str) → in_three_cases a.slot ≡ true
    → Generated s id place PairedSetter level w → Generated s id place Setter level x → w ≡ x → ⊥

-- both are refused alike, always
abbrev pub SameRefusalHolds : Type 0
SameRefusalHolds =
    (s : Str) (id place level : ℕ) (number line column : ℕ)
    → (outcome_of (admitted s) id (of_field place PairedSetter) level ≡ refuses number line column
    → outcome_of (admitted s) id (of_field place Setter) level ≡ refuses number line column)
    × (outcome_of (admitted s) id (of_field place Setter) level ≡ refuses number line column
    → outcome_of (admitted s) id (of_field place PairedSetter) level ≡ refuses number line column)
