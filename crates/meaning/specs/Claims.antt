-- What is claimed of accessor texts, from their bytes: a getter, a setter, one after the other, the Void setter, hasers, zeroing.
-- The masks of setter and getter are parameters; `expected` says what document 01's rules for masks make of them. Assumes
-- nothing.
use Rattle.std.specs.Option.{option_map, option_and_then}
use Rattle.std.specs.Prelude.{◌≡◌, ℕ, ◌^◌, ◌<◌, Bool, true, false, not, ◌⊎◌, List, [], ◌∷◌, length, ◌==◌, bit_xor, slice_index_or}
use Rattle.std.specs.Prelude.{Option, None, Some}
use Rattle.text.specs.Bytes.{Str, cond, both}
use Rattle.text.specs.Lines.{FormattedText, to_lines, stringify}
use Rattle.calls.specs.Calls.{clear_pointer}
use Rattle.record.specs.Lines.{Tag, get_line, setter_text, void_setter_text, getter_lines, haser_text, Zero, of_slot, of_tag}
use Rattle.record.specs.Lines.{of_pointer}
use Rattle.record.specs.Lines.{zero_call, zero_texts}
use Rattle.record.specs.Masks.{get_mask, set_mask, get_mask_text, set_mask_text, mask_bits}
use Rattle.record.specs.Offsets.{Place, bit_count}
use Rattle.record.specs.Record.{Record, get, put_value, null, Covers, Clear, Holds, HoldsPointer, Same}
use Rattle.record.specs.Types.{int, uint, float32, float64, Kind, bool, num, enum, slot_bits, place_of, tag_place}
use Rattle.record.specs.declared.PointerOffset.{PointerOffset}
use Rattle.meaning.specs.Meaning.{whole, run_setter, run_getter, run_haser, run_zeroing}

-- ---- conditions

-- a mask is of the slot's type: its bits fit
abbrev pub MaskFits : Kind → Option ℕ → Type 0
MaskFits k None = Unit {0}
MaskFits k (Some m) = m < 2 ^ slot_bits k

-- a member's discriminant value has 16 bits
abbrev pub TagFits : Option Tag → Type 0
TagFits None = Unit {0}
TagFits (Some t) = t.1 < 2 ^ 16

-- of no tag: nothing to hold, no bits, nothing in common
abbrev pub TagHolds : Option Tag → Record → Type 0
TagHolds None r = Unit {0}
TagHolds (Some t) r = Holds (tag_place t.0) r

abbrev pub TagHas : Option Tag → ℕ → Type 0
TagHas None b = ⊥
TagHas (Some t) b = Covers (tag_place t.0) b

abbrev pub TagClear : Option Tag → Place → Type 0
TagClear None p = Unit {0}
TagClear (Some t) p = Clear p (tag_place t.0)

-- the tag reads as the member's discriminant value; past the end of the section it reads 0
abbrev pub TagIs : Option Tag → Record → Type 0
TagIs None r = Unit {0}
TagIs (Some t) r = get (tag_place t.0) 0 r ≡ t.1

-- ---- a getter alone, a setter alone

-- A getter's text answers the bits of its slot, exclusive or its mask: for every record, by the one definition of a get.
abbrev pub TextGetHolds : Type 0
TextGetHolds =
    (typ : Str) (is_reader : Bool) (k : Kind) (o : ℕ) (mg : Option ℕ) (r : Record) → whole typ ≡ true → MaskFits k mg
    → run_getter (getter_lines typ (get_line is_reader k o (option_map (get_mask_text k) mg))) r
    ≡ Some (get (place_of k o) (mask_bits mg) r)

-- what the tag's line leaves, and after it the value's line
abbrev pub void_leaves : Option Tag → Record → Option Record
void_leaves None r = Some r
void_leaves (Some t) r = put_value (tag_place t.0) t.1 0 r

abbrev pub setter_leaves : Option Tag → Place → ℕ → ℕ → Record → Option Record
setter_leaves tag p v m r = option_and_then (put_value p v m) (void_leaves tag r)

-- A setter's text writes its tag and then its value under its mask, on every record.
abbrev pub TextSetHolds : Type 0
TextSetHolds =
    (opening : Str) (tag : Option Tag) (k : Kind) (o : ℕ) (ms : Option ℕ) (v : ℕ) (r : Record) → whole opening ≡ true
    → TagFits tag → MaskFits k ms
    → run_setter (setter_text opening tag k o (option_map (set_mask_text k) ms)) v r
    ≡ setter_leaves tag (place_of k o) v (mask_bits ms) r

-- It has a meaning exactly where the section holds its slot and its tag whole.
abbrev pub SetterMeansHolds : Type 0
SetterMeansHolds =
    (tag : Option Tag) (p : Place) (v m : ℕ) (r : Record)
    → (Holds p r → TagHolds tag r → (left : Record) × (setter_leaves tag p v m r ≡ Some left))
    × ((left : Record) → setter_leaves tag p v m r ≡ Some left → Holds p r × TagHolds tag r)

-- What it leaves: a get of the slot under mask k gives the value, exclusive or both masks; only the slot's bits and the tag's
-- change; the tag is the member's where the slot has no bit in common with it.
pub record SetterLeft (tag : Option Tag) (p : Place) (v m : ℕ) (r left : Record) : Type 0 where
  pub reads : (k : ℕ) → k < 2 ^ bit_count p → get p k left ≡ bit_xor (bit_xor v m) k
  pub same : Same (λ b. Covers p b ⊎ TagHas tag b) r left
  pub tagged : TagClear tag p → TagIs tag left

abbrev pub SetterLeavesHolds : Type 0
SetterLeavesHolds =
    (tag : Option Tag) (p : Place) (v m : ℕ) (r left : Record) → TagFits tag → v < 2 ^ bit_count p → m < 2 ^ bit_count p
    → setter_leaves tag p v m r ≡ Some left → SetterLeft tag p v m r left

-- A Void slot's setter writes its tag and nothing else.
abbrev pub TextVoidHolds : Type 0
TextVoidHolds =
    (opening : Str) (tag : Option Tag) (v : ℕ) (r : Record) → whole opening ≡ true → TagFits tag
    → run_setter (void_setter_text opening tag) v r ≡ void_leaves tag r

-- ---- set and get

-- The setter's text runs; each getter's text then answers the value, exclusive or both masks; only the slot's bits and the tag's
-- change.
pub record TextSetGet (opening : Str) (tag : Option Tag) (k : Kind) (o : ℕ) (ms mg : Option ℕ) (v : ℕ) (r : Record) : Type 0 where
  pub left : Record
  pub runs : run_setter (setter_text opening tag k o (option_map (set_mask_text k) ms)) v r ≡ Some left
  pub answers : (typ : Str) → whole typ ≡ true → (is_reader : Bool)
      → run_getter (getter_lines typ (get_line is_reader k o (option_map (get_mask_text k) mg))) left
      ≡ Some (bit_xor (bit_xor v (mask_bits ms)) (mask_bits mg))
  pub same : Same (λ b. Covers (place_of k o) b ⊎ TagHas tag b) r left
  pub tagged : TagClear tag (place_of k o) → TagIs tag left

-- for every Bool, numeric or enum slot, every value of its width, every record that is long enough
abbrev pub TextSetGetHolds : Type 0
TextSetGetHolds =
    (opening : Str) (tag : Option Tag) (k : Kind) (o : ℕ) (ms mg : Option ℕ) (v : ℕ) (r : Record)
    → whole opening ≡ true → TagFits tag → MaskFits k ms → MaskFits k mg → v < 2 ^ slot_bits k → Holds (place_of k o) r
    → TagHolds tag r
    → TextSetGet opening tag k o ms mg v r

-- What a value v reads as under document 01's rules for masks, of a default d with or without its flag: v, except that a float
-- default of -0.0 flips its sign, and an enum default without its flag is combined with it by exclusive or.
abbrev pub expected : Kind → ℕ → Bool → ℕ → ℕ
expected bool d explicit v = v
expected (num (int w)) d explicit v = v
expected (num (uint w)) d explicit v = v
expected (num float32) d explicit v = cond (d == 2 ^ 31) (bit_xor v (2 ^ 31)) v
expected (num float64) d explicit v = cond (d == 2 ^ 63) (bit_xor v (2 ^ 63)) v
expected enum d explicit v = cond explicit v (bit_xor v d)

abbrev pub ExpectedHolds : Type 0
ExpectedHolds =
    (k : Kind) (d : ℕ) (explicit : Bool) (v : ℕ)
    → bit_xor (bit_xor v (mask_bits (set_mask k d explicit))) (mask_bits (get_mask k d explicit)) ≡ expected k d explicit v

-- ---- the Void setter: just the tag

pub record TextVoidSet (opening : Str) (tag : Option Tag) (v : ℕ) (r : Record) : Type 0 where
  pub left : Record
  pub runs : run_setter (void_setter_text opening tag) v r ≡ Some left
  pub same : Same (TagHas tag) r left
  pub tagged : TagIs tag left

abbrev pub TextVoidSetHolds : Type 0
TextVoidSetHolds =
    (opening : Str) (tag : Option Tag) (v : ℕ) (r : Record) → whole opening ≡ true → TagFits tag → TagHolds tag r
    → TextVoidSet opening tag v r

-- ---- hasers

-- false where the tag is another number, else whether the pointer is not null
abbrev pub has_answer : Option Tag → PointerOffset → Record → Bool
has_answer None i r = not (null i r)
has_answer (Some t) i r = both (get (tag_place t.0) 0 r == t.1) (not (null i r))

-- A haser's text answers on every record.
abbrev pub TextHaserHolds : Type 0
TextHaserHolds =
    (opening : Str) (is_reader : Bool) (tag : Option Tag) (i : ℕ) (r : Record) → whole opening ≡ true
    → run_haser (haser_text opening is_reader tag i) r ≡ Some (has_answer tag (record { 0 = i }) r)

-- ---- zeroing

abbrev pub In : {A : Type 0} → A → List A → Type 0
In a [] = ⊥
In a (x ∷ l) = (a ≡ x) ⊎ In a l

-- long enough: the sections hold what a zeroing line touches
abbrev pub HoldsZero : Zero → Record → Type 0
HoldsZero (of_slot k o) r = Holds (place_of k o) r
HoldsZero (of_tag o) r = Holds (tag_place o) r
HoldsZero (of_pointer i) r = HoldsPointer (record { 0 = i }) r

-- the bits and the pointers that it touches
abbrev pub ZeroHas : Zero → ℕ → Type 0
ZeroHas (of_slot k o) b = Covers (place_of k o) b
ZeroHas (of_tag o) b = Covers (tag_place o) b
ZeroHas (of_pointer i) b = ⊥

abbrev pub ZeroClears : Zero → ℕ → Type 0
ZeroClears (of_slot k o) j = ⊥
ZeroClears (of_tag o) j = ⊥
ZeroClears (of_pointer i) j = j ≡ i

-- The zeroing's text, of level 0, runs. A slot with bits whose line is among its lines then reads as its default, the getter's
-- mask; a pointer slot tests absent, and each of its hasers says false. What no line touches stays.
pub record TextZeroed (zs : List Zero) (ft : FormattedText) (r : Record) : Type 0 where
  pub left : Record
  pub runs : run_zeroing (stringify ft 0) r ≡ Some left
  pub defaults : (k : Kind) (o : ℕ) → In (zero_call k o) (zero_texts zs) → (mg : Option ℕ) → MaskFits k mg
      → (typ : Str) → whole typ ≡ true → (is_reader : Bool)
      → run_getter (getter_lines typ (get_line is_reader k o (option_map (get_mask_text k) mg))) left ≡ Some (mask_bits mg)
  pub absent : (i : ℕ) → In (clear_pointer i) (zero_texts zs) → null (record { 0 = i }) left ≡ true
  pub hasers : (i : ℕ) → In (clear_pointer i) (zero_texts zs) → (opening : Str) → whole opening ≡ true
      → (is_reader : Bool) (tag : Option Tag) → run_haser (haser_text opening is_reader tag i) left ≡ Some false
  pub lengths : (length left.bits ≡ length r.bits) × (length left.pointers ≡ length r.pointers)
  pub bits-same :
      (b : ℕ) → ((z : Zero) → In z zs → ZeroHas z b → ⊥) → slice_index_or left.bits b false ≡ slice_index_or r.bits b false
  pub pointers-same : (j : ℕ) → ((z : Zero) → In z zs → ZeroClears z j → ⊥)
      → slice_index_or left.pointers j false ≡ slice_index_or r.pointers j false

-- for every tree of code whose lines are those of zeros, and every record that is long enough
abbrev pub TextZeroingHolds : Type 0
TextZeroingHolds =
    (zs : List Zero) (ft : FormattedText) (r : Record) → to_lines ft 0 ≡ zero_texts zs → ((z : Zero) → In z zs → HoldsZero z r)
    → TextZeroed zs ft r
