-- Worked cases of the claims, computed from the bytes of a sheet: isFree with default true, the bed's status with default 2
-- without and with its flag, a Float32 with default -0.0, and members of a union. Each text is what a run of the entry left in a
-- longer buffer. The record is sixteen bytes 165 and two pointers, of which the first is null; on shorter ones getters give their
-- defaults, hasers find a tag of 0 and null pointers, and setters have no meaning. Assumes nothing.
use Rattle.std.specs.Option.{option_and_then}
use Rattle.std.specs.Prelude.{◌≡◌, ℕ, ◌+◌, ◌^◌, ◌<◌, true, false, List, [], ◌∷◌, ◌++◌, length, replicate, Ok}
use Prim.Native.String.{String}
use Rattle.std.specs.Prelude.{refl}
use Rattle.std.proofs.Common.{sym, ap, ◌∙◌, arith}
use Rattle.std.specs.Prelude.{Option, None, Some}
use Rattle.text.specs.Bytes.{Str, ascii, unit, same}
use Rattle.text.specs.Answer as text
use Rattle.text.specs.Decimal.{decimal, signed}
use Rattle.text.specs.Lines.{to_lines, flat_map, join, stringify, margin}
use Rattle.column.specs.Number.{trimmed, digits, unpadded, column_of, padded}
use Rattle.column.specs.Texts.{is_word, is_graphic, all, are_chars, is_name, is_field_name, is_graphic_text, ends_in}
use Rattle.row.specs.Rows.{rows, joined, onto, rest_of}
use Rattle.row.specs.Line.{root_line, node_line, parameter_line, field_line, group_line}
use Rattle.row.specs.Line.{type_line, scope_line, unbound_line, value_line, word_line}
use Rattle.row.specs.Line.{most_a, most_b, most_c, most_count, most_bits, reader, line_of, line_at, text_start, text_of, text_at}
use Rattle.row.specs.Print.{columns, row_text}
use Rattle.names.specs.Names.{taken, snake_from, camel_to_snake_case}
use Rattle.tree.specs.Tree.{plain, enum, end, Slot, slot, Field, Node, Sheet}
use Rattle.tree.specs.Reader.{times}
use Rattle.tree.specs.Read as read
use Rattle.tree.specs.Read.{sheet, admitted}
use Rattle.tree.specs.Read.{read_binding, read_scope, type_from, read_type, value_of, read_words_up_to, read_words, read_slot}
use Rattle.tree.specs.Read.{among, overlap, fields_up_to, read_fields, group_ids, read_params, read_members, read_node}
use Rattle.tree.specs.Read.{read_nodes}
use Rattle.tree.specs.Read.{read_sheet}
use Rattle.tree.specs.Print.{scope_count, type_rows, word_rows, field_rows, param_rows, node_rows, sheet_rows, printed}
use Rattle.tree.specs.Worked.{slot_of, slot_with, named_field, node, worked_sheet}
use Rattle.codegen_types.specs.Out.{ok}
use Rattle.codegen_types.specs.TypeString as types
use Rattle.codegen_types.specs.TypeString.{type_string, is_pointer}
use Rattle.calls.specs.Calls.{get_bool_field, get_data_field, set_bool_field, set_data_field, not_null, tag_test}
use Rattle.codegen.specs.Default.{prim_default, getter_mask}
use Rattle.codegen.specs.Getter.{getter_text, getter_request}
use Rattle.codegen.specs.Haser.{generate_haser, haser_request}
use Rattle.codegen.specs.Profiles.{present_mask}
use Rattle.codegen.specs.Setter.{generate_setter, setter_request}
use Rattle.nodes.specs.Index.{by_id, nth}
use Rattle.record.specs.Bits.{section_bits}
use Rattle.record.specs.Record.{Record, found, stored, get_bits, put_bits, null_flag, get, Holds, HoldsPointer}
use Rattle.record.specs.Types as kinds
use Rattle.record.specs.Types.{uint, float32, Kind, bool, num, kind_of, slot_bits}
use Rattle.record.specs.declared.Width.TheVariants.{One}
use Rattle.meaning.specs.Claims.{TagHolds, TagClear, setter_leaves, void_leaves}
use Rattle.meaning.specs.Examples.{some16}
use Rattle.meaning.specs.Reading.{type_name, truth, get_mask_of, set_mask_of, data_arg, bool_arg}
use Rattle.meaning.specs.Meaning.{writes, gets, gets_in, tests, run_op, run_line, run_lines, run_setter, run_getter, tests_of}
use Rattle.meaning.specs.Meaning.{run_tests}
use Rattle.meaning.specs.Meaning.{run_haser}
use Rattle.requests.specs.Requests.{field_at, accessor_text, of_field, gives, refuses, outcome_of, outcome}
use Rattle.requests.specs.Requests.{state_refusal, entry_answer, entry_buffer}
use Rattle.requests.specs.Requests as requests
use Rattle.requests.specs.Told.{Answered}
use Rattle.requests.specs.declared.Accessor.{Accessor}
use Rattle.requests.specs.declared.Accessor.TheVariants.{Getter, Setter, Haser}
use Rattle.agreement.specs.Slots.{Generated, bytes_between, Ran, SlotAt, slot_kind, tag_at, place_at, setter_mask, expected_at}
use Rattle.agreement.specs.Claims.{SetCase, Case}

-- ---- runs of the entry

-- a buffer with six bytes in front of a text, and six behind it
abbrev pub around : Str → Str
around w = ascii "before" ++ w ++ ascii "behind"

-- what is left to compute of a run at a level that puts a text into such a buffer, zeros where it will stand, at the fill count 6
abbrev pub PutAround : ℕ → Str → Type 0
PutAround level w =
    let l = around (replicate (length w) 0) in
    ◌≡◌ {A = text.Answer × Str × Str}
    (entry_answer l 6 level (gives w), entry_buffer l 6 level (gives w), bytes_between 6 (6 + length w) (around w))
    (text.done (6 + length w), around w, w)

pub ran_of : (s : Str) (id place : ℕ) (a : Accessor) (level : ℕ) (w : Str) → Generated s id place a level w → PutAround level w
    → Ran s id place a w
ran_of s id place a level w e p = record {
  buffer = around (replicate (length w) 0);
  state = record { at = 6; level = level };
  left = around w;
  after = record { at = 6 + length w; level = level };
  answered = rw e (record { answer = sym (ap (λ x. x.0) p); buffer = sym (ap (λ x. x.1) p); level = refl });
  bytes = sym (ap (λ x. x.2) p);
}

-- ---- the sheet

-- Bool at 3, default true
abbrev pub is_free : Slot
is_free = slot_with (plain 1) 3 1 1

-- an enum at 1 with default 2, without and with its flag
abbrev pub status : Slot
status = slot_with (enum 8 end) 1 0 2

abbrev pub planned : Slot
planned = slot_with (enum 8 end) 1 1 2

-- an enum at 1 with its flag and default 0
abbrev pub cleaned : Slot
cleaned = slot_with (enum 8 end) 1 1 0

-- Float32 at 1, default -0.0
abbrev pub heat : Slot
heat = slot_with (plain 10) 1 1 2147483648

-- the members of a union with its tag at 4: a Uint8, two Texts at one pointer, a Void
abbrev pub nights : Slot
nights = slot_with (plain 6) 0 0 0

abbrev pub guest : Slot
guest = slot_with (plain 12) 1 0 0

abbrev visitor : Slot
visitor = slot_with (plain 12) 1 0 0

abbrev vacant : Slot
vacant = slot_with (plain 0) 0 0 0

-- a Bool at 5 whose V line is an Int8's
abbrev pub odd : Slot
odd = slot_of (plain 1) 5 1 2 3 []

abbrev pub bed : Node
bed = node 7 "bed" 4 4 (
    named_field "isFree" 65535 (slot is_free)
    ∷ named_field "status" 65535 (slot status)
    ∷ named_field "planned" 65535 (slot planned)
    ∷ named_field "heat" 65535 (slot heat)
    ∷ named_field "nights" 1 (slot nights)
    ∷ named_field "guest" 42405 (slot guest)
    ∷ named_field "vacant" 2 (slot vacant)
    ∷ named_field "odd" 65535 (slot odd)
    ∷ named_field "visitor" 0 (slot visitor)
    ∷ named_field "cleaned" 65535 (slot cleaned)
    ∷ [])

-- with the enum
abbrev pub tree : Sheet
tree = worked_sheet (bed ∷ node 8 "status" 0 0 [] ∷ [])

-- its bytes
abbrev pub bytes : Str
bytes = printed tree

pub is-admitted : admitted bytes ≡ sheet tree
unfolding joined printed sheet_rows node_rows param_rows field_rows word_rows type_rows scope_count row_text columns padded
    decimal admitted read_sheet read_nodes read_node read_members read_params group_ids read_fields fields_up_to read.read_field
    overlap among read_slot read_words read_words_up_to value_of read_type type_from read_scope read_binding times rest_of onto
    rows text_at text_of text_start line_at line_of reader root_line node_line parameter_line field_line group_line type_line
    scope_line unbound_line value_line word_line most_a most_b most_c most_count most_bits column_of unpadded digits trimmed
    is_graphic_text is_name is_field_name are_chars all is_graphic is_word ends_in
is-admitted = refl

-- a slot of the bed by its place
abbrev pub slot_at : (place : ℕ) (f : Field) (s : Slot) → field_at tree.nodes 7 place ≡ ok (bed, f) → f.arm ≡ slot s
    → SlotAt bytes 7 place
slot_at place f s e h = record {
  tree = tree;
  node = bed;
  field = f;
  slot = s;
  is-admitted = is-admitted;
  is_found = e;
  is-slot = h;
}

-- a text that the tree gives is given from its bytes
given-bytes : (place : ℕ) (a : Accessor) (level : ℕ) (w : Str) → requests.request_text tree 7 (of_field place a) level ≡ ok w
    → Generated bytes 7 place a level w
given-bytes place a level w e = ap (λ x. outcome_of x 7 (of_field place a) level) is-admitted ∙ ap outcome e

-- and a run of the entry leaves it
pub ran_bytes : (place : ℕ) (a : Accessor) (level : ℕ) (w : Str) → requests.request_text tree 7 (of_field place a) level ≡ ok w
    → PutAround level w
    → Ran bytes 7 place a w
ran_bytes place a level w e p = ran_of bytes 7 place a level w (given-bytes place a level w e) p

-- ---- set and get

-- a slot at a place of the bed, its kind, the texts of its setter and of its reader's getter at a level, a value written and the
-- value read
pub record Example : Type 0 where
  pub place : ℕ
  pub field : Field
  pub slot : Slot
  pub kind : Kind
  pub level : ℕ
  pub setter : Str
  pub getter : Str
  pub writes : ℕ
  pub reads : ℕ

-- a setter's text: what stands after `set_`, and the lines in it
abbrev pub setter_with : String → String → Str
setter_with opening lines = ascii "#[inline]\npub fn set_" ++ ascii opening ++ ascii ")  {\n" ++ ascii lines ++ ascii "}\n"

-- an example of a reader's getter at level 0, by its place, its field's name and discriminant, and what else belongs to it
abbrev pub example : ℕ → String → ℕ → Slot → Kind → Str → Str → ℕ → ℕ → Example
example place name d s k setter getter v x = record {
  place = place;
  field = named_field name d (slot s);
  slot = s;
  kind = k;
  level = 0;
  setter = setter;
  getter = getter;
  writes = v;
  reads = x;
}

-- isFree, with the value v
abbrev pub free : ℕ → Example
free v =
    example 0 "isFree" 65535 is_free bool
    (setter_with "is_free(&mut self, value: bool" "    self.builder.set_bool_field_mask(3, value, true);\n")
    (ascii "bool\nself.reader.get_bool_field_mask(3, true)\n") v v

-- the getter of an enum at 1 with the mask 2
abbrev pub status_getter : Str
status_getter =
    ascii "::core::result::Result<status,::capnp::NotInSchema>\n"
    ++ ascii "::core::convert::TryFrom::try_from(self.reader.get_data_field_mask::<u16>(1, 2))\n"

-- the enum's default 2 without its flag: 2 written reads 0
abbrev pub no_flag : Example
no_flag =
    example 1 "status" 65535 status kinds.enum
    (setter_with "status(&mut self, value: status" "    self.builder.set_data_field::<u16>(1, value as u16);\n") status_getter 2 0

-- with its flag
abbrev pub with_flag : Example
with_flag =
    example 2 "planned" 65535 planned kinds.enum
    (setter_with "planned(&mut self, value: status" "    self.builder.set_data_field_mask::<u16>(1, value as u16, 2);\n")
    status_getter 2 2

-- the default -0.0: the sign is flipped
abbrev pub negative_zero : Example
negative_zero =
    example 3 "heat" 65535 heat (num float32)
    (setter_with "heat(&mut self, value: f32" "    self.builder.set_data_field::<f32>(1, value);\n")
    (ascii "f32\nself.reader.get_data_field_mask::<f32>(1, 2147483648)\n") 1065353216 3212836864

-- a member of the union
abbrev pub member : Example
member =
    example 4 "nights" 1 nights (num (uint One))
    (setter_with "nights(&mut self, value: u8"
    "    self.builder.set_data_field::<u16>(4, 1);\n    self.builder.set_data_field::<u8>(0, value);\n")
    (ascii "u8\nself.reader.get_data_field::<u8>(0)\n") 9 9

-- isFree at level 2: each line has eight spaces in front
abbrev pub moved_in : Example
moved_in = record {
  place = 0;
  field = named_field "isFree" 65535 (slot is_free);
  slot = is_free;
  kind = bool;
  level = 2;
  setter =
      ascii "        #[inline]\n        pub fn set_is_free(&mut self, value: bool)  {\n"
      ++ ascii "            self.builder.set_bool_field_mask(3, value, true);\n        }\n";
  getter = ascii "        bool\n        self.reader.get_bool_field_mask(3, true)\n";
  writes = 1;
  reads = 1;
}

-- a record without bytes, and one without pointers
abbrev pub no_bytes : Record
no_bytes = record { bits = []; pointers = some16.pointers }

abbrev no_pointers : Record
no_pointers = record { bits = some16.bits; pointers = [] }

-- it meets the conditions of set and get, and the value is read that the claim says; on a record without bytes, its default
pub record Worked (x : Example) : Type 0 where
  pub at : SlotAt bytes 7 x.place
  pub case : Case at x.kind x.setter true false x.getter x.writes some16
  pub reads : expected_at at x.kind x.writes ≡ x.reads
  pub runs : option_and_then (run_getter x.getter) (run_setter x.setter x.writes some16) ≡ Some x.reads
  pub past : Holds (place_at at x.kind) no_bytes → ⊥
  pub default : run_getter x.getter no_bytes ≡ Some x.slot.default.bits

-- each of some examples is worked
pub data All : List Example → Type 0 where
  nil : All []
  add : {x : Example} {l : List Example} → Worked x → All l → All (x ∷ l)

-- what is left to compute of an example
module _ (x : Example) (e : field_at tree.nodes 7 x.place ≡ ok (bed, x.field)) (h : x.field.arm ≡ slot x.slot) where
  abbrev here : SlotAt bytes 7 x.place
  here = slot_at x.place x.field x.slot e h

  abbrev worked :
      kind_of (slot_kind here) ≡ Some x.kind
      → requests.request_text tree 7 (of_field x.place Setter) x.level ≡ ok x.setter
      → requests.request_text tree 7 (of_field x.place (Getter true false)) x.level ≡ ok x.getter
      → PutAround x.level x.setter → PutAround x.level x.getter
      → x.writes < 2 ^ slot_bits x.kind → Holds (place_at here x.kind) some16 → TagHolds (tag_at here) some16
      → TagClear (tag_at here) (place_at here x.kind)
      → expected_at here x.kind x.writes ≡ x.reads
      → option_and_then (run_getter x.getter) (run_setter x.setter x.writes some16) ≡ Some x.reads
      → (Holds (place_at here x.kind) no_bytes → ⊥) → run_getter x.getter no_bytes ≡ Some x.slot.default.bits
      → Worked x
  worked k s g p q v l t c r u n d = record {
    at = here;
    case = record {
      has-bits = k;
      setter = ran_bytes x.place Setter x.level x.setter s p;
      getter = ran_bytes x.place (Getter true false) x.level x.getter g q;
      value = v;
      long = l;
      tag_long = t;
      clear = c;
    };
    reads = r;
    runs = u;
    past = n;
    default = d;
  }

-- all of them
pub all-worked : All (free 1 ∷ free 0 ∷ no_flag ∷ with_flag ∷ negative_zero ∷ member ∷ moved_in ∷ [])
unfolding field_at by_id nth accessor_text same are_chars taken snake_from camel_to_snake_case type_string types.node_of
    get_bool_field get_data_field set_bool_field set_data_field present_mask prim_default getter_mask getter_text getter_request
    generate_setter setter_request to_lines flat_map join stringify decimal signed kind_of found stored get_bits put_bits
    type_name truth get_mask_of set_mask_of data_arg bool_arg writes gets gets_in run_op run_line run_lines run_setter
    run_getter margin state_refusal text.answer_of text.buffer_of text.placed
all-worked =
    add (worked (free 1) refl refl refl refl refl refl refl (omega arith) (omega arith) tt tt refl refl (λ h. omega arith) refl)
    (add (worked (free 0) refl refl refl refl refl refl refl (omega arith) (omega arith) tt tt refl refl (λ h. omega arith) refl)
    (add (worked no_flag refl refl refl refl refl refl refl (omega arith) (omega arith) tt tt refl refl (λ h. omega arith) refl)
    (add (worked with_flag refl refl refl refl refl refl refl (omega arith) (omega arith) tt tt refl refl (λ h. omega arith) refl)
    (add
    (worked negative_zero refl refl refl refl refl refl refl (omega arith) (omega arith) tt tt refl refl (λ h. omega arith) refl)
    (add
    (worked member refl refl refl refl refl refl refl (omega arith) (omega arith) (omega arith) (λ b h g. omega arith) refl refl
    (λ h. omega arith) refl)
    (add (worked moved_in refl refl refl refl refl refl refl (omega arith) (omega arith) tt tt refl refl (λ h. omega arith) refl)
    nil))))))

-- ---- a getter alone, a setter alone

-- isFree at its place
pub free_at : SlotAt bytes 7 0
unfolding field_at by_id nth
free_at = slot_at 0 (named_field "isFree" 65535 (slot is_free)) is_free refl refl

-- three bits, and a fourth that is set
abbrev three_bits : Record
three_bits = record { bits = true ∷ false ∷ true ∷ []; pointers = [] }

abbrev four_bits : Record
four_bits = record { bits = three_bits.bits ++ (true ∷ []); pointers = [] }

-- The getter of isFree gives its bit, 1 of the four and 0 in a byte 165, exclusive or its default true; on a record that does not
-- reach to its bit it gives the default.
pub free-read :
    (kind_of (slot_kind free_at) ≡ Some bool) × Ran bytes 7 0 (Getter true false) (free 1).getter
    × (run_getter (free 1).getter some16 ≡ Some 1) × (get (place_at free_at bool) 1 some16 ≡ 1)
    × (run_getter (free 1).getter four_bits ≡ Some 0) × (get (place_at free_at bool) 1 four_bits ≡ 0)
    × (run_getter (free 1).getter three_bits ≡ Some 1) × (get (place_at free_at bool) 1 three_bits ≡ 1)
unfolding free_at field_at by_id nth accessor_text type_string get_bool_field getter_mask getter_text getter_request to_lines
    flat_map join stringify decimal kind_of found get_bits type_name truth get_mask_of gets gets_in run_getter margin
    state_refusal text.answer_of text.buffer_of text.placed
free-read = (refl, ran_bytes 0 (Getter true false) 0 (free 1).getter refl refl, refl, refl, refl, refl, refl, refl)

-- status at its place
pub status_at : SlotAt bytes 7 1
unfolding field_at by_id nth
status_at = slot_at 1 (named_field "status" 65535 (slot status)) status refl refl

-- three bytes, of which the last is the first of the status
abbrev three_bytes : Record
three_bytes = record { bits = section_bits (replicate 3 165); pointers = [] }

-- neither bits nor pointers
abbrev nothing : Record
nothing = record { bits = []; pointers = [] }

-- Its two bytes are read under its default 2, reserved. Where the section holds one of them alone, that byte does not count and
-- the default is read, as on a record with nothing in it.
pub status-read :
    (run_getter status_getter some16 ≡ Some 42407)
    × (Holds (place_at status_at kinds.enum) three_bytes → ⊥) × (run_getter status_getter three_bytes ≡ Some 2)
    × (get (place_at status_at kinds.enum) 2 three_bytes ≡ 2)
    × (Holds (place_at status_at kinds.enum) nothing → ⊥) × (run_getter status_getter nothing ≡ Some 2)
unfolding status_at found get_bits type_name truth get_mask_of gets gets_in run_getter
status-read = (refl, (λ h. omega arith), refl, refl, (λ h. omega arith), refl)

-- nights, a member of the union, at its place
pub nights_at : SlotAt bytes 7 4
unfolding field_at by_id nth
nights_at = slot_at 4 (named_field "nights" 1 (slot nights)) nights refl refl

abbrev uint8 : Kind
uint8 = num (uint One)

pub nights-case : SetCase nights_at uint8 member.setter
unfolding nights_at field_at by_id nth accessor_text are_chars taken snake_from camel_to_snake_case type_string set_data_field
    present_mask prim_default generate_setter setter_request to_lines flat_map join stringify decimal kind_of margin state_refusal
    text.answer_of text.buffer_of text.placed
nights-case = record {
  has-bits = refl;
  own_default = refl;
  setter = ran_bytes 4 Setter 0 member.setter refl refl;
}

-- of the sixteen bytes its setter leaves, with 9: 9 in the first, 1 in the two of the tag
abbrev nine : Record
nine = record {
  bits = section_bits ((9 ∷ replicate 7 165) ++ (1 ∷ 0 ∷ replicate 6 165));
  pointers = some16.pointers;
}

abbrev leaves : Record → Option Record
leaves = setter_leaves (tag_at nights_at) (place_at nights_at uint8) 9 (setter_mask nights_at uint8)

-- one byte holds the slot and not the tag
abbrev one_byte : Record
one_byte = record { bits = section_bits (165 ∷ []); pointers = [] }

-- its setter leaves that, and on one byte it has no meaning
pub nights-set :
    (run_setter member.setter 9 some16 ≡ Some nine) × (leaves some16 ≡ Some nine) × Holds (place_at nights_at uint8) one_byte
    × (run_setter member.setter 9 one_byte ≡ None) × (leaves one_byte ≡ None)
unfolding nights_at found stored get_bits put_bits type_name truth set_mask_of data_arg bool_arg writes run_op run_line
    run_lines run_setter
nights-set = (refl, refl, omega arith, refl, refl)

-- A default that is not of the slot's kind: there is no getter, and the setter masks with what is no Bool, so that it has no
-- meaning where its bit is held.
abbrev pub odd_setter : Str
odd_setter = setter_with "odd(&mut self, value: bool" "    self.builder.set_bool_field_mask(5, value, 3);\n"

pub odd-worked :
    (outcome_of (admitted bytes) 7 (of_field 7 (Getter true false)) 0 ≡ refuses 10 0 0) × Ran bytes 7 7 Setter odd_setter
    × (run_setter odd_setter 1 some16 ≡ None)
unfolding field_at by_id nth accessor_text are_chars taken snake_from camel_to_snake_case type_string getter_text getter_request
    set_bool_field present_mask prim_default generate_setter setter_request to_lines flat_map join stringify decimal signed
    type_name truth
    set_mask_of data_arg bool_arg writes run_op run_line run_lines run_setter margin state_refusal text.answer_of text.buffer_of
    text.placed
odd-worked =
    (ap (λ x. outcome_of x 7 (of_field 7 (Getter true false)) 0) is-admitted, ran_bytes 7 Setter 0 odd_setter refl refl, refl)

-- ---- the Void setter and hasers

abbrev vacant_setter : Str
vacant_setter = setter_with "vacant(&mut self, _value: ()" "    self.builder.set_data_field::<u16>(4, 2);\n"

-- vacant, the Void member of the union, at its place
pub vacant_at : SlotAt bytes 7 6
unfolding field_at by_id nth
vacant_at = slot_at 6 (named_field "vacant" 2 (slot vacant)) vacant refl refl

-- of the sixteen bytes its setter leaves 2 in the two of the tag
abbrev tag_two : Record
tag_two = record { bits = section_bits (replicate 8 165 ++ (2 ∷ 0 ∷ replicate 6 165)); pointers = some16.pointers }

-- its setter leaves that; on a record without its tag it has no meaning
pub vacant-worked :
    (slot_kind vacant_at ≡ 0) × Ran bytes 7 6 Setter vacant_setter
    × TagHolds (tag_at vacant_at) some16 × (run_setter vacant_setter 0 some16 ≡ Some tag_two)
    × (void_leaves (tag_at vacant_at) some16 ≡ Some tag_two)
    × (TagHolds (tag_at vacant_at) one_byte → ⊥) × (run_setter vacant_setter 0 one_byte ≡ None)
unfolding vacant_at field_at by_id nth accessor_text are_chars taken snake_from camel_to_snake_case set_data_field
    generate_setter setter_request to_lines flat_map join stringify decimal stored put_bits type_name truth data_arg bool_arg
    writes run_op run_line run_lines run_setter margin state_refusal text.answer_of text.buffer_of text.placed
vacant-worked = (refl, ran_bytes 6 Setter 0 vacant_setter refl refl, omega arith, refl, refl, (λ h. omega arith), refl)

-- a haser of the second pointer, by what stands after `has_` and the tag's number
abbrev haser_with : String → String → Str
haser_with name n =
    ascii "#[inline]\npub fn has_" ++ ascii name ++ ascii "(&self) -> bool {\n"
    ++ ascii "    if self.reader.get_data_field::<u16>(4) != " ++ ascii n ++ ascii " { return false; }\n"
    ++ ascii "    !self.reader.get_pointer_field(1).is_null()\n}\n"

abbrev guest_haser : Str
guest_haser = haser_with "guest" "42405"

-- guest at its place
pub guest_at : SlotAt bytes 7 5
unfolding field_at by_id nth
guest_at = slot_at 5 (named_field "guest" 42405 (slot guest)) guest refl refl

-- A pointer in the union, whose tag is 42405 = 165 * 257: the second pointer is not null. Past the pointers it is null, and a tag
-- past the bytes is 0, so another.
pub guest-worked :
    (is_pointer guest_at.slot.ty ≡ true) × Ran bytes 7 5 (Haser true) guest_haser
    × (run_haser guest_haser some16 ≡ Some true)
    × (HoldsPointer (record { 0 = guest_at.slot.offset }) no_pointers → ⊥) × (run_haser guest_haser no_pointers ≡ Some false)
    × (TagHolds (tag_at guest_at) no_bytes → ⊥) × (run_haser guest_haser no_bytes ≡ Some false)
unfolding guest_at field_at by_id nth accessor_text are_chars taken snake_from camel_to_snake_case not_null tag_test
    generate_haser haser_request to_lines flat_map join stringify decimal found get_bits null_flag type_name tests tests_of
    run_tests run_haser margin state_refusal text.answer_of text.buffer_of text.placed
guest-worked =
    (refl, ran_bytes 5 (Haser true) 0 guest_haser refl refl, refl, (λ h. omega arith), refl, (λ h. omega arith), refl)

abbrev visitor_haser : Str
visitor_haser = haser_with "visitor" "0"

-- visitor at its place
pub visitor_at : SlotAt bytes 7 8
unfolding field_at by_id nth
visitor_at = slot_at 8 (named_field "visitor" 0 (slot visitor)) visitor refl refl

-- A member of the union with the number 0, which is not the tag's where there is one. A tag past the bytes is 0, so the pointer
-- decides, and past the pointers it is null.
pub visitor-worked :
    (is_pointer visitor_at.slot.ty ≡ true) × Ran bytes 7 8 (Haser true) visitor_haser
    × (run_haser visitor_haser some16 ≡ Some false)
    × (TagHolds (tag_at visitor_at) no_bytes → ⊥) × (run_haser visitor_haser no_bytes ≡ Some true)
    × (run_haser visitor_haser three_bytes ≡ Some false)
unfolding visitor_at field_at by_id nth accessor_text are_chars taken snake_from camel_to_snake_case not_null tag_test
    generate_haser haser_request to_lines flat_map join stringify decimal found get_bits null_flag type_name tests tests_of
    run_tests run_haser margin state_refusal text.answer_of text.buffer_of text.placed
visitor-worked = (refl, ran_bytes 8 (Haser true) 0 visitor_haser refl refl, refl, (λ h. omega arith), refl, refl)

-- the haser of a Bool is one newline at every level
pub no-haser-worked : (is_pointer free_at.slot.ty ≡ false) × Ran bytes 7 0 (Haser true) (unit 10)
unfolding free_at field_at by_id nth accessor_text generate_haser haser_request to_lines flat_map join stringify margin
    state_refusal text.answer_of text.buffer_of text.placed
no-haser-worked = (refl, ran_bytes 0 (Haser true) 3 (unit 10) refl refl)

-- ---- answered bytes

-- the haser of a Bool, put into three bytes at 1, at level 8
pub answered-worked :
    Answered (0 ∷ 0 ∷ 0 ∷ []) (record { at = 1; level = 8 }) (outcome_of (admitted bytes) 7 (of_field 0 (Haser true)) 8)
    (0 ∷ 10 ∷ 0 ∷ [])
    (Ok (record { at = 2; level = 8 }))
unfolding field_at by_id nth accessor_text generate_haser haser_request to_lines flat_map join stringify margin state_refusal
    text.answer_of text.buffer_of text.placed
answered-worked =
    rw (given-bytes 0 (Haser true) 8 (unit 10) refl) (record { answer = refl; buffer = refl; level = refl })
