-- What is claimed of the texts of a slot's accessors, each as a run of the entry left it, at any level: a getter alone, a setter
-- alone, set and then get, the Void setter, hasers. `expected` (crate meaning) is v but for document 01's two exceptions. Assumes
-- nothing.
use Rattle.std.specs.Prelude.{◌≡◌, ℕ, ◌^◌, ◌<◌, ◌≤◌, Bool, true, false, not, ◌⊎◌, ◌==◌, Ok}
use Rattle.std.specs.Prelude.{Option, None, Some}
use Rattle.text.specs.Bytes.{Str, both, unit}
use Rattle.text.specs.declared.Text.{Text}
use Rattle.tree.specs.Read.{admitted}
use Rattle.codegen_types.specs.TypeString.{is_pointer}
use Rattle.record.specs.Lines.{Tag}
use Rattle.record.specs.Record.{Record, get, null, Covers, Holds, HoldsPointer, Same}
use Rattle.record.specs.Types.{Kind, slot_bits, kind_of}
use Rattle.meaning.specs.Claims.{TagHolds, TagHas, TagClear, TagIs, setter_leaves, void_leaves, has_answer}
use Rattle.meaning.specs.Meaning.{run_setter, run_getter, run_haser}
use Rattle.requests.specs.Requests.{gives, outcome_of}
use Rattle.requests.specs.Told.{Answered}
use Rattle.requests.specs.declared.Request.{Request}
use Rattle.requests.specs.declared.Accessor.{Accessor}
use Rattle.requests.specs.declared.Accessor.TheVariants.{Getter, Setter, Haser}
use Rattle.agreement.specs.Slots.{Generated, bytes_between, Ran, SlotAt, slot_kind, tag_at, place_at, OwnDefault, setter_mask}
use Rattle.agreement.specs.Slots.{expected_at}

-- ---- answered bytes

-- the bytes between the two fill counts of an entry that is done are the text of its request
abbrev pub AnsweredHolds : Type 0
AnsweredHolds =
    (s : Str) (id : ℕ) (asked : Option Request) (l : Str) (t : Text) (l' : Str) (t' : Text)
    → Answered l t (outcome_of (admitted s) id asked t.level) l' (Ok t')
    → outcome_of (admitted s) id asked t.level ≡ gives (bytes_between t.at t'.at l')

-- what a run of the entry left is what is generated at a level from 0 to 8, and what is generated there some run leaves
abbrev pub RanHolds : Type 0
RanHolds =
    (s : Str) (id place : ℕ) (accessor : Accessor) (w : Str)
    → (Ran s id place accessor w → (level : ℕ) × ((level ≤ 8) × Generated s id place accessor level w))
    × ((level : ℕ) → level ≤ 8 → Generated s id place accessor level w → Ran s id place accessor w)

-- ---- a getter alone

-- on every record, of any length: the bits of the slot, or zero bits where the section does not hold them all, exclusive or those
-- of its V line
abbrev pub GetHolds : Type 0
GetHolds =
    (s : Str) (id place : ℕ) (a : SlotAt s id place) (k : Kind) (is_reader is_fn : Bool) (g : Str) (r : Record)
    → kind_of (slot_kind a) ≡ Some k → Ran s id place (Getter is_reader is_fn) g
    → run_getter g r ≡ Some (get (place_at a k) a.slot.default.bits r)

-- exactly the default on every record whose section does not hold the slot whole
abbrev pub DefaultHolds : Type 0
DefaultHolds =
    (s : Str) (id place : ℕ) (a : SlotAt s id place) (k : Kind) (is_reader is_fn : Bool) (g : Str) (r : Record)
    → kind_of (slot_kind a) ≡ Some k → Ran s id place (Getter is_reader is_fn) g → (Holds (place_at a k) r → ⊥)
    → run_getter g r ≡ Some a.slot.default.bits

-- a slot with a getter has a V line of its T line's kind
abbrev pub OwnDefaultHolds : Type 0
OwnDefaultHolds =
    (s : Str) (id place : ℕ) (a : SlotAt s id place) (is_reader is_fn : Bool) (g : Str)
    → Ran s id place (Getter is_reader is_fn) g → OwnDefault a

-- ---- a setter alone

-- a Bool, numeric or enum slot whose V line is of its T line's kind, and its setter's text
pub record SetCase {s : Str} {id place : ℕ} (a : SlotAt s id place) (k : Kind) (w : Str) : Type 0 where
  pub has-bits : kind_of (slot_kind a) ≡ Some k
  pub own_default : OwnDefault a
  pub setter : Ran s id place Setter w

-- on every record, of any length: the discriminant is put into the tag, then v under the setter's mask into the slot
abbrev pub SetHolds : Type 0
SetHolds =
    (s : Str) (id place : ℕ) (a : SlotAt s id place) (k : Kind) (w : Str) (v : ℕ) (r : Record) → SetCase a k w
    → run_setter w v r ≡ setter_leaves (tag_at a) (place_at a k) v (setter_mask a k) r

-- the text has a meaning on the record: it leaves one
abbrev pub Means : Str → ℕ → Record → Type 0
Means w v r = (left : Record) × (run_setter w v r ≡ Some left)

-- it has one exactly where the section holds slot and tag whole
abbrev pub SetMeansHolds : Type 0
SetMeansHolds =
    (s : Str) (id place : ℕ) (a : SlotAt s id place) (k : Kind) (w : Str) (v : ℕ) (r : Record) → SetCase a k w
    → (Holds (place_at a k) r → TagHolds (tag_at a) r → Means w v r)
    × (Means w v r → Holds (place_at a k) r × TagHolds (tag_at a) r)

-- In the words of request N6, for a slot whose setter and one of whose getters are generated: no meaning exactly where slot or
-- tag is not wholly inside.
abbrev pub NoMeaningHolds : Type 0
NoMeaningHolds =
    (s : Str) (id place : ℕ) (a : SlotAt s id place) (k : Kind) (w : Str) (is_reader is_fn : Bool) (g : Str) (v : ℕ) (r : Record)
    → kind_of (slot_kind a) ≡ Some k → Ran s id place Setter w → Ran s id place (Getter is_reader is_fn) g
    → ((Holds (place_at a k) r × TagHolds (tag_at a) r → ⊥) → run_setter w v r ≡ None)
    × (run_setter w v r ≡ None → Holds (place_at a k) r × TagHolds (tag_at a) r → ⊥)

-- ---- set and get

-- A case of demand 3: a Bool, numeric or enum slot, its setter's text and the text of one of its getters, a value of its width,
-- and a record that is long enough, with the slot's bits clear of its tag. Nothing is asked of what stands in the record.
pub record Case {s : Str} {id place : ℕ} (a : SlotAt s id place) (k : Kind) (w : Str) (is_reader is_fn : Bool) (g : Str) (v : ℕ)
    (r : Record) : Type 0 where
  pub has-bits : kind_of (slot_kind a) ≡ Some k
  pub setter : Ran s id place Setter w
  pub getter : Ran s id place (Getter is_reader is_fn) g
  pub value : v < 2 ^ slot_bits k
  pub long : Holds (place_at a k) r
  pub tag_long : TagHolds (tag_at a) r
  pub clear : TagClear (tag_at a) (place_at a k)

-- The setter's text w runs with v and leaves a record on which the getter's text g answers v, but for the two exceptions; no
-- bit but the slot's and the tag's changes, no pointer and no length; the tag holds the discriminant.
pub record SetGet {s : Str} {id place : ℕ} (a : SlotAt s id place) (k : Kind) (w g : Str) (v : ℕ) (r : Record) : Type 0 where
  pub left : Record
  pub runs : run_setter w v r ≡ Some left
  pub answers : run_getter g left ≡ Some (expected_at a k v)
  pub same : Same (λ b. Covers (place_at a k) b ⊎ TagHas (tag_at a) b) r left
  pub tagged : TagIs (tag_at a) left

-- for the bytes of every sheet, every slot in it, every value and every record
abbrev pub SetGetHolds : Type 0
SetGetHolds =
    (s : Str) (id place : ℕ) (a : SlotAt s id place) (k : Kind) (w : Str) (is_reader is_fn : Bool) (g : Str) (v : ℕ) (r : Record)
    → Case a k w is_reader is_fn g v r → SetGet a k w g v r

-- ---- the Void setter: just the tag

-- on every record, of any length: the discriminant is put into the tag
abbrev pub VoidHolds : Type 0
VoidHolds =
    (s : Str) (id place : ℕ) (a : SlotAt s id place) (w : Str) (v : ℕ) (r : Record)
    → slot_kind a ≡ 0 → Ran s id place Setter w
    → run_setter w v r ≡ void_leaves (tag_at a) r

-- it has a meaning exactly where the section holds the tag whole, or there is none
abbrev pub VoidMeansHolds : Type 0
VoidMeansHolds =
    (s : Str) (id place : ℕ) (a : SlotAt s id place) (w : Str) (v : ℕ) (r : Record)
    → slot_kind a ≡ 0 → Ran s id place Setter w
    → (TagHolds (tag_at a) r → Means w v r) × (Means w v r → TagHolds (tag_at a) r)

-- the setter's text runs, and only the tag changes: to the discriminant
pub record VoidSet {s : Str} {id place : ℕ} (a : SlotAt s id place) (w : Str) (v : ℕ) (r : Record) : Type 0 where
  pub left : Record
  pub runs : run_setter w v r ≡ Some left
  pub same : Same (TagHas (tag_at a)) r left
  pub tagged : TagIs (tag_at a) left

-- for every Void slot with a setter, and every record that holds the tag
abbrev pub VoidSetHolds : Type 0
VoidSetHolds =
    (s : Str) (id place : ℕ) (a : SlotAt s id place) (w : Str) (v : ℕ) (r : Record)
    → slot_kind a ≡ 0 → Ran s id place Setter w → TagHolds (tag_at a) r
    → VoidSet a w v r

-- ---- hasers

-- of a pointer slot, on every record: false where the tag is another number, else whether the pointer is not null; past the end
-- a tag is 0 and a pointer null
abbrev pub HaserHolds : Type 0
HaserHolds =
    (s : Str) (id place : ℕ) (a : SlotAt s id place) (is_reader : Bool) (h : Str) (r : Record)
    → is_pointer a.slot.ty ≡ true → Ran s id place (Haser is_reader) h
    → run_haser h r ≡ Some (has_answer (tag_at a) (record { 0 = a.slot.offset }) r)

-- a tag that is not wholly inside reads 0: the member with discriminant 0 goes on to its pointer, any other says false
abbrev pub TagPastHolds : Type 0
TagPastHolds =
    (s : Str) (id place : ℕ) (a : SlotAt s id place) (is_reader : Bool) (h : Str) (r : Record) (t : Tag)
    → is_pointer a.slot.ty ≡ true → Ran s id place (Haser is_reader) h → tag_at a ≡ Some t → (TagHolds (Some t) r → ⊥)
    → run_haser h r ≡ Some (both (0 == t.1) (not (null (record { 0 = a.slot.offset }) r)))

-- false on every record that does not have the pointer
abbrev pub HaserPastHolds : Type 0
HaserPastHolds =
    (s : Str) (id place : ℕ) (a : SlotAt s id place) (is_reader : Bool) (h : Str) (r : Record)
    → is_pointer a.slot.ty ≡ true → Ran s id place (Haser is_reader) h → (HoldsPointer (record { 0 = a.slot.offset }) r → ⊥)
    → run_haser h r ≡ Some false

-- of any other slot: one newline
abbrev pub NoHaserHolds : Type 0
NoHaserHolds =
    (s : Str) (id place : ℕ) (a : SlotAt s id place) (is_reader : Bool) (h : Str)
    → is_pointer a.slot.ty ≡ false → Ran s id place (Haser is_reader) h
    → h ≡ unit 10
