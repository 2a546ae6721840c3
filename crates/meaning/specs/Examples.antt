-- Worked examples, computed: document 01's cases as one table of lines, values written and values read; texts that have no
-- meaning; gets and tests past the section; hasers and a zeroing. Assumes nothing.
use Rattle.std.specs.Option.{option_map, option_and_then}
use Rattle.std.specs.Prelude.{◌≡◌, ℕ, Bool, true, false, List, [], ◌∷◌, replicate, ◌==◌}
use Prim.Native.String.{String}
use Rattle.std.specs.Prelude.{refl, Option, None, Some, is_some}
use Rattle.text.specs.Bytes.{Str, ascii, both, same}
use Rattle.text.specs.Decimal.{decimal, signed}
use Rattle.text.specs.Lines.{FormattedTexts, Branch, Line, none as no_more, ◌&◌, to_lines, flat_map, join, stringify}
use Rattle.record.specs.Bits.{section_bits}
use Rattle.calls.specs.Calls.{get_bool_field, get_data_field, set_bool_field, set_data_field, clear_pointer, not_null, tag_test}
use Rattle.record.specs.Lines.{get_line, set_line, function_text, setter_text, void_setter_text, getter_lines, haser_text}
use Rattle.record.specs.Lines.{Zero, of_slot, of_tag, of_pointer, zeroing_line}
use Rattle.record.specs.Masks.{get_mask, set_mask, get_mask_text, set_mask_text}
use Rattle.record.specs.Record.{Record, found, stored, get_bits, put_bits, null_flag, clear_flag}
use Rattle.record.specs.Types.{int, uint, float32, Kind, bool, num, enum, kind_of}
use Rattle.record.specs.declared.Width.TheVariants.{One, Two, Eight}
use Rattle.meaning.specs.Reading.{type_name, truth, get_mask_of, set_mask_of, data_arg, bool_arg}
use Rattle.meaning.specs.Meaning.{writes, gets, gets_in, tests, run_op, run_line, run_lines, run_setter, run_getter, run_zeroing}
use Rattle.meaning.specs.Meaning.{tests_of, run_tests, run_haser}

-- document 01's numbers for kinds: Void, Bool, the first and the last of the numeric types, Text, Enum, AnyPointer
pub kinds-right :
    (kind_of 0 ≡ None) × (kind_of 1 ≡ Some bool) × (kind_of 2 ≡ Some (num (int One))) × (kind_of 9 ≡ Some (num (uint Eight)))
    × (kind_of 10 ≡ Some (num float32)) × (kind_of 12 ≡ None) × (kind_of 15 ≡ Some enum) × (kind_of 18 ≡ None)
unfolding kind_of
kinds-right = (refl, refl, refl, refl, refl, refl, refl, refl)

-- a slot with its default, the lines of its accessors, a value written and the value read
pub record WorkedSlot : Type 0 where
  pub kind : Kind
  pub offset : ℕ
  pub default : ℕ
  pub explicit : Bool
  pub setter : String
  pub getter : String
  pub writes : ℕ
  pub reads : ℕ

abbrev pub worked_slot : Kind → ℕ → ℕ → Bool → String → String → ℕ → ℕ → WorkedSlot
worked_slot k o d e s g v x =
    record { kind = k; offset = o; default = d; explicit = e; setter = s; getter = g; writes = v; reads = x }

abbrev pub worked_slots : List WorkedSlot
worked_slots =
    -- isFree, a Bool with default true
    worked_slot bool 3 1 true "self.builder.set_bool_field_mask(3, value, true);" "self.reader.get_bool_field_mask(3, true)" 1 1
    ∷ worked_slot bool 3 1 true "self.builder.set_bool_field_mask(3, value, true);" "self.reader.get_bool_field_mask(3, true)" 0 0
    -- Int8 with default -5
    ∷ worked_slot (num (int One)) 2 251 true
    "self.builder.set_data_field_mask::<i8>(2, value, -5);" "self.reader.get_data_field_mask::<i8>(2, -5)" 7 7
    -- Float32 with default 1.5
    ∷ worked_slot (num float32) 0 1069547520 true
    "self.builder.set_data_field_mask::<f32>(0, value, 1069547520u32);"
    "self.reader.get_data_field_mask::<f32>(0, 1069547520)" 1065353216 1065353216
    -- Float32 with default -0.0: the setter is plain, the getter masks
    ∷ worked_slot (num float32) 1 2147483648 true
    "self.builder.set_data_field::<f32>(1, value);" "self.reader.get_data_field_mask::<f32>(1, 2147483648)" 1065353216 3212836864
    -- an enum with default 2, explicit unset: 2 written reads 0
    ∷ worked_slot enum 1 2 false
    "self.builder.set_data_field::<u16>(1, value as u16);"
    "::core::convert::TryFrom::try_from(self.reader.get_data_field_mask::<u16>(1, 2))" 2 0
    -- the same with explicit set
    ∷ worked_slot enum 1 2 true
    "self.builder.set_data_field_mask::<u16>(1, value as u16, 2);"
    "::core::convert::TryFrom::try_from(self.reader.get_data_field_mask::<u16>(1, 2))" 2 2
    -- explicit set, default 0: the setter masks with 0, the getter is plain, and they agree
    ∷ worked_slot enum 1 0 true
    "self.builder.set_data_field_mask::<u16>(1, value as u16, 0);"
    "::core::convert::TryFrom::try_from(self.reader.get_data_field::<u16>(1))" 5 5
    ∷ worked_slot (num (uint Eight)) 1 0 false
    "self.builder.set_data_field::<u64>(1, value);" "self.reader.get_data_field::<u64>(1)"
    18446744073709551615 18446744073709551615
    ∷ []

-- sixteen bytes that are not zero, and two pointers of which the first is null
abbrev pub some16 : Record
some16 = record { bits = section_bits (replicate 16 165); pointers = false ∷ true ∷ [] }

abbrev pub is : Option ℕ → ℕ → Bool
is None x = false
is (Some v) x = v == x

-- a slot's lines by the rules for masks
abbrev pub setter_line : WorkedSlot → Str
setter_line x = set_line x.kind x.offset (option_map (set_mask_text x.kind) (set_mask x.kind x.default x.explicit))

abbrev pub getter_line : WorkedSlot → Str
getter_line x = get_line true x.kind x.offset (option_map (get_mask_text x.kind) (get_mask x.kind x.default x.explicit))

-- a setter with this line, on the sixteen bytes with this value
abbrev pub set_with : Str → ℕ → Option Record
set_with l v = run_setter (function_text (ascii "pub fn set_x(&mut self, value: T)  {") (Line l & no_more)) v some16

-- the lines are those of the table, and the texts made of them write and read its values
abbrev pub slot_right : WorkedSlot → Bool
slot_right x =
    both (same (setter_line x) (ascii x.setter))
    (both (same (getter_line x) (ascii x.getter))
    (is (option_and_then (run_getter (getter_lines (ascii "T") (getter_line x))) (set_with (setter_line x) x.writes)) x.reads))

abbrev pub all_hold : {A : Type 0} → (A → Bool) → List A → Bool
all_hold f [] = true
all_hold f (x ∷ l) = both (f x) (all_hold f l)

pub worked-right : all_hold slot_right worked_slots ≡ true
unfolding to_lines flat_map join stringify same decimal signed get_bool_field get_data_field set_bool_field set_data_field
    function_text getter_lines get_mask_text set_mask_text found stored get_bits put_bits type_name truth get_mask_of
    set_mask_of data_arg bool_arg writes gets gets_in run_op run_line run_lines run_setter run_getter
worked-right = refl

-- ---- texts without a meaning

abbrev pub no_set : String → Bool
no_set l = fails (set_with (ascii l) 1)
  where
    fails : Option Record → Bool
    fails None = true
    fails (Some r) = false

abbrev pub no_sets : List String
no_sets =
    -- a default that is not of the slot's type: a number for a Bool, true for a number, too wide, a sign, an ending, no ending
    "self.builder.set_bool_field_mask(3, value, 3);"
    ∷ "self.builder.set_data_field_mask::<i8>(2, value, true);"
    ∷ "self.builder.set_data_field_mask::<i8>(2, value, 200);"
    ∷ "self.builder.set_data_field_mask::<i8>(2, value, -129);"
    ∷ "self.builder.set_data_field_mask::<u8>(2, value, 256);"
    ∷ "self.builder.set_data_field_mask::<u8>(2, value, -5);"
    ∷ "self.builder.set_data_field_mask::<i8>(2, value, 5u32);"
    ∷ "self.builder.set_data_field_mask::<f32>(2, value, 5);"
    -- past the section
    ∷ "self.builder.set_data_field::<u64>(2, value);"
    ∷ "self.builder.set_bool_field(128, value);"
    ∷ "self.builder.reborrow().get_pointer_field(2).clear();"
    -- none of the calls
    ∷ "self.builder.set_data_field::<u64>(1, value)"
    ∷ "self.builder.set_data_field::<usize>(1, value);"
    ∷ "self.builder.set_data_field::<u8>(, value);"
    ∷ "return;"
    ∷ []

pub no-sets : all_hold no_set no_sets ≡ true
unfolding to_lines flat_map join stringify function_text found stored get_bits put_bits clear_flag type_name truth get_mask_of
    set_mask_of data_arg bool_arg writes run_op run_line run_lines run_setter
no-sets = refl

-- a getter with two gets has no meaning, nor has one with none
pub two-gets : run_getter (ascii "bool\nself.reader.get_bool_field(0) && self.reader.get_bool_field(1)\n") some16 ≡ None
unfolding type_name truth get_mask_of gets gets_in run_getter
two-gets = refl

pub no-get : run_getter (ascii "self.reader.get_bool_field(0)\n()\n") some16 ≡ None
unfolding type_name truth get_mask_of gets gets_in run_getter
no-get = refl

-- a call inside a longer word is no get
pub in_a_word :
    (run_getter (ascii "bool\nmyself.reader.get_bool_field(0)\n") some16 ≡ None)
    × (run_getter (ascii "bool\nself.reader.get_bool_field(0) && !myself.reader.get_bool_field(1)\n") some16 ≡ Some 1)
unfolding found get_bits type_name truth get_mask_of gets gets_in run_getter
in_a_word = (refl, refl)

-- a get whose mask is not of its type leaves the text no meaning, also beside one that has one
pub ill_mask : run_getter (ascii "bool\nself.reader.get_bool_field(0) && self.reader.get_bool_field_mask(0, 3)\n") some16 ≡ None
unfolding type_name truth get_mask_of gets gets_in run_getter
ill_mask = refl

-- ---- past the section

-- the last bit and the last byte of the section are read; past it a get finds zero bits, under its mask
pub past_the_section :
    (run_getter (ascii "bool\nself.reader.get_bool_field(127)\n") some16 ≡ Some 1)
    × (run_getter (ascii "bool\nself.reader.get_bool_field(128)\n") some16 ≡ Some 0)
    × (run_getter (ascii "bool\nself.reader.get_bool_field_mask(128, true)\n") some16 ≡ Some 1)
    × (run_getter (ascii "u8\nself.builder.get_data_field::<u8>(15)\n") some16 ≡ Some 165)
    × (run_getter (ascii "u64\nself.builder.get_data_field_mask::<u64>(2, 7)\n") some16 ≡ Some 7)
unfolding found get_bits type_name truth get_mask_of gets gets_in run_getter
past_the_section = (refl, refl, refl, refl, refl)

-- a number of which only the first of two bytes is there reads its mask, though that byte is not zero
abbrev pub some3 : Record
some3 = record { bits = section_bits (replicate 3 165); pointers = [] }

pub one-byte_of_two :
    (run_getter (ascii "u8\nself.reader.get_data_field::<u8>(2)\n") some3 ≡ Some 165)
    × (run_getter (ascii "u16\nself.reader.get_data_field::<u16>(1)\n") some3 ≡ Some 0)
    × (run_getter (ascii "u16\nself.reader.get_data_field_mask::<u16>(1, 513)\n") some3 ≡ Some 513)
unfolding found get_bits type_name truth get_mask_of gets gets_in run_getter
one-byte_of_two = (refl, refl, refl)

-- a Bool's setter in a union whose tag is element o: element 7 is the last of the section
abbrev pub in_union : ℕ → Option Record
in_union o = run_setter (setter_text (ascii "pub fn set_x(&mut self, value: bool)  {") (Some (o, 1)) bool 0 None) 0 some16

pub tag_held : (is_some (in_union 7) ≡ true) × (in_union 8 ≡ None)
unfolding to_lines flat_map join stringify decimal set_bool_field set_data_field function_text found stored put_bits type_name
    truth set_mask_of data_arg bool_arg writes run_op run_line run_lines run_setter
tag_held = (refl, refl)

-- a setter whose tag is inside and whose slot is past the section has no meaning, though its tag's line alone has one
abbrev pub slot_past : Option Record
slot_past =
    run_setter (setter_text (ascii "pub fn set_x(&mut self, value: u64)  {") (Some (0, 1)) (num (uint Eight)) 2 None) 9 some16

abbrev pub tag_alone : Option Record
tag_alone = run_setter (void_setter_text (ascii "pub fn set_x(&mut self, _value: ())  {") (Some (0, 1))) 9 some16

pub slot_held : (is_some tag_alone ≡ true) × (slot_past ≡ None)
unfolding to_lines flat_map join stringify decimal set_bool_field set_data_field function_text found stored put_bits type_name
    truth set_mask_of data_arg bool_arg writes run_op run_line run_lines run_setter
slot_held = (refl, refl)

-- ---- a haser of the second pointer in a union, whose tag is 42405 = 165 * 257; a zeroing

pub has-second : run_haser (haser_text (ascii "pub fn has_x(&self) -> bool {") true (Some (3, 42405)) 1) some16 ≡ Some true
unfolding to_lines flat_map join stringify decimal not_null tag_test function_text found get_bits null_flag type_name tests
    tests_of run_tests run_haser
has-second = refl

pub has_other_tag : run_haser (haser_text (ascii "pub fn has_x(&self) -> bool {") false (Some (3, 7)) 1) some16 ≡ Some false
unfolding to_lines flat_map join stringify decimal not_null tag_test function_text found get_bits null_flag type_name tests
    tests_of run_tests run_haser
has_other_tag = refl

-- a tag past the section reads 0: the member with discriminant 0 goes on to its pointer, any other says false
pub tag_past :
    (run_haser (haser_text (ascii "pub fn has_x(&self) -> bool {") true (Some (8, 0)) 1) some16 ≡ Some true)
    × (run_haser (haser_text (ascii "pub fn has_x(&self) -> bool {") true (Some (8, 0)) 0) some16 ≡ Some false)
    × (run_haser (haser_text (ascii "pub fn has_x(&self) -> bool {") true (Some (8, 1)) 1) some16 ≡ Some false)
unfolding to_lines flat_map join stringify decimal not_null tag_test function_text found get_bits null_flag type_name tests
    tests_of run_tests run_haser
tag_past = (refl, refl, refl)

-- a pointer past the pointers is absent
pub no_third : run_haser (haser_text (ascii "pub fn has_x(&self) -> bool {") true None 2) some16 ≡ Some false
unfolding to_lines flat_map join stringify decimal not_null function_text found null_flag type_name tests tests_of run_tests
    run_haser
no_third = refl

abbrev pub zeros : List Zero → FormattedTexts
zeros [] = no_more
zeros (z ∷ zs) = Line (zeroing_line z) & zeros zs

-- an element of two bytes zeroed as a number, as an enum and as a tag; a Bool; the second pointer
pub zeroed :
    option_map (λ r. r.pointers)
    (run_zeroing
    (stringify (Branch (zeros (of_tag 4 ∷ of_slot (num (uint Two)) 4 ∷ of_slot enum 4 ∷ of_slot bool 0 ∷ of_pointer 1 ∷ []))) 0)
    some16)
    ≡ Some (false ∷ false ∷ [])
unfolding to_lines flat_map join stringify decimal set_bool_field set_data_field clear_pointer found stored put_bits clear_flag
    type_name truth data_arg bool_arg writes run_op run_line run_lines run_zeroing
zeroed = refl
