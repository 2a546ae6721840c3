-- A worked sheet, computed: a group in a group, whose slots share an offset, on a record that holds something else
-- than their defaults. The texts are what runs of the entry left. Assumes nothing.
use Rattle.std.specs.Prelude.{◌≡◌, ℕ, Bool, true, false, [], ◌∷◌, ◌++◌, replicate}
use Rattle.std.specs.Prelude.{refl}
use Rattle.std.specs.Prelude.{Option, None, Some}
use Rattle.std.proofs.Common.{arith}
use Rattle.text.specs.Bytes.{Str, ascii, same}
use Rattle.text.specs.Answer as text
use Rattle.text.specs.Decimal.{decimal}
use Rattle.text.specs.Lines.{margin, to_lines, flat_map, join, stringify}
use Rattle.names.specs.Names.{taken, snake_from, camel_to_snake_case}
use Rattle.tree.specs.Tree.{plain, enum, end, slot, group, Field, Node, Sheet}
use Rattle.column.specs.Number.{trimmed, digits, unpadded, column_of, padded}
use Rattle.column.specs.Texts.{is_word, is_graphic, all, are_chars, is_name, is_field_name, is_graphic_text, ends_in}
use Rattle.row.specs.Rows.{rows, joined, onto, rest_of}
use Rattle.row.specs.Line.{root_line, node_line, parameter_line, field_line, group_line}
use Rattle.row.specs.Line.{type_line, scope_line, unbound_line, value_line, word_line}
use Rattle.row.specs.Line.{most_a, most_b, most_c, most_count, most_bits, reader, line_of, line_at, text_start, text_of, text_at}
use Rattle.row.specs.Print.{columns, row_text}
use Rattle.tree.specs.Reader.{times}
use Rattle.tree.specs.Read.{sheet, admitted}
use Rattle.tree.specs.Read as read
use Rattle.tree.specs.Read.{read_binding, read_scope, type_from, read_type, value_of, read_words_up_to, read_words}
use Rattle.tree.specs.Read.{among, overlap, read_field, fields_up_to, read_fields, group_ids, read_params, read_members}
use Rattle.tree.specs.Read.{read_node}
use Rattle.tree.specs.Read.{read_nodes, read_sheet}
use Rattle.tree.specs.Print.{scope_count, type_rows, word_rows, field_rows, param_rows, node_rows, sheet_rows, printed}
use Rattle.tree.specs.Worked.{slot_with, named_field, lone_slot, worked_node, node, worked_sheet}
use Rattle.codegen_types.specs.TypeString as types
use Rattle.codegen_types.specs.TypeString.{type_string, is_pointer}
use Rattle.calls.specs.Calls.{set_bool_field, set_data_field, clear_pointer, get_bool_field, get_data_field, not_null, tag_test}
use Rattle.codegen.specs.Default.{getter_mask}
use Rattle.codegen.specs.Getter.{getter_text, getter_request}
use Rattle.codegen.specs.Haser.{generate_haser, haser_request}
use Rattle.codegen.specs.Zeroing.{zero_line, contains, zero_fields, zero_fields_of_group, zeroing_request}
use Rattle.nodes.specs.Index.{by_id, nth}
use Rattle.requests.specs.Requests as requests
use Rattle.requests.specs.Requests.{accessor_text, of_field, Outcome, gives, refuses, outcome_of}
use Rattle.requests.specs.declared.Accessor.TheVariants.{Getter, Haser, Zeroing}
use Rattle.agreement.proofs.Examples.{ran_of}
use Rattle.agreement.specs.Slots.{Ran, SlotAt, slot_kind}
use Rattle.record.specs.Record.{Record, found, stored, get_bits, put_bits, null_flag, clear_flag}
use Rattle.record.specs.Types as kinds
use Rattle.record.specs.Types.{kind_of}
use Rattle.meaning.specs.Reading.{type_name, truth, get_mask_of, data_arg, bool_arg}
use Rattle.meaning.specs.Meaning.{writes, gets, gets_in, tests, run_op, run_line, run_lines, run_getter, run_zeroing}
use Rattle.meaning.specs.Meaning.{tests_of, run_tests, run_haser}
use Rattle.agreement_zeroing.specs.Zeroing.{GroupAt, Inside, here, deeper, LongEnough}

-- A ward has a group bed, and that has a group state. The bed's rank (default 7) and the state's status (default 2) and isFree
-- (default true) share bits; note is a pointer in the bed's union, and memo one with a tag that no line touches.
abbrev rank : Field
rank = lone_slot "rank" (plain 7) 2 0 7

abbrev note : Field
note = named_field "note" 0 (slot (slot_with (plain 12) 0 0 0))

abbrev status : Field
status = lone_slot "status" (enum 4 end) 2 0 2

abbrev is_free : Field
is_free = lone_slot "isFree" (plain 1) 35 0 1

abbrev memo : Field
memo = named_field "memo" 0 (slot (slot_with (plain 12) 1 0 0))

abbrev ward_node : Node
ward_node = node 1 "ward" 0 0 (named_field "bed" 65535 (group 2) ∷ [])

abbrev bed_node : Node
bed_node = node 2 "ward::bed" 1 1 (rank ∷ note ∷ named_field "state" 65535 (group 3) ∷ [])

abbrev state_node : Node
state_node = node 3 "ward::bed::state" 0 9 (status ∷ is_free ∷ memo ∷ [])

abbrev ward : Sheet
ward = worked_sheet (ward_node ∷ bed_node ∷ state_node ∷ worked_node 4 0 0 0 0 "ward::Status" [] [] ∷ [])

-- its bytes
ward_bytes : Str
ward_bytes = printed ward

ward-read : admitted ward_bytes ≡ sheet ward
unfolding ward_bytes joined printed sheet_rows node_rows param_rows field_rows word_rows type_rows scope_count row_text columns
    padded decimal admitted read_sheet read_nodes read_node read_members read_params group_ids read_fields fields_up_to
    read_field overlap among read.read_slot read_words read_words_up_to value_of read_type type_from read_scope read_binding
    times rest_of onto rows text_at text_of text_start line_at line_of reader root_line node_line parameter_line field_line
    group_line type_line scope_line unbound_line value_line word_line most_a most_b most_c most_count most_bits column_of
    unpadded digits trimmed is_graphic_text is_name is_field_name are_chars all is_graphic is_word ends_in
ward-read = refl

-- ---- the conditions are met

bed : GroupAt ward_bytes 1 0
unfolding requests.field_at by_id nth
bed = record {
  tree = ward;
  node = ward_node;
  field = named_field "bed" 65535 (group 2);
  group = 2;
  is-admitted = ward-read;
  is_found = refl;
  is-group = refl;
}

state-inside : Inside ward_bytes 2 3
unfolding requests.field_at by_id nth
state-inside = deeper 2 (record {
  tree = ward;
  node = bed_node;
  field = named_field "state" 65535 (group 3);
  group = 3;
  is-admitted = ward-read;
  is_found = refl;
  is-group = refl;
}) here

-- repeats are dropped inside one group only, not across an inner one
abbrev zero_text : Str
zero_text =
    ascii "self.builder.set_data_field::<u16>(1, 0);\n"
    ++ ascii "self.builder.set_data_field::<u16>(2, 0u16);\n"
    ++ ascii "self.builder.reborrow().get_pointer_field(0).clear();\n"
    ++ ascii "self.builder.set_data_field::<u16>(2, 0u16);\n"
    ++ ascii "self.builder.set_bool_field(35, false);\n"
    ++ ascii "self.builder.reborrow().get_pointer_field(1).clear();\n"

zeroing_ran : Ran ward_bytes 1 0 Zeroing zero_text
unfolding requests.field_at by_id nth accessor_text zeroing_request zero_fields_of_group zero_fields zero_line contains
    types.node_of same stringify join to_lines flat_map decimal set_bool_field set_data_field clear_pointer margin
    requests.state_refusal text.answer_of text.buffer_of text.placed
zeroing_ran = ran_of ward_bytes 1 0 Zeroing 0 zero_text (rw ward-read refl) refl

-- six bytes, of which those of the bed's tag are zero, and two pointers that are not null; the state's tag is past the end
abbrev before : Record
before = record { bits = replicate 16 true ++ replicate 16 false ++ replicate 16 true; pointers = true ∷ true ∷ [] }

long-enough : LongEnough zero_text before
unfolding type_name truth data_arg bool_arg writes
long-enough = (omega arith, (omega arith, (omega arith, (omega arith, (omega arith, (omega arith, tt))))))

-- a slot with bits in the group inside, and its getter
status_slot : SlotAt ward_bytes 3 0
unfolding requests.field_at by_id nth
status_slot = record {
  tree = ward;
  node = state_node;
  field = status;
  slot = slot_with (enum 4 end) 2 0 2;
  is-admitted = ward-read;
  is_found = refl;
  is-slot = refl;
}

status-kind : kind_of (slot_kind status_slot) ≡ Some kinds.enum
unfolding status_slot kind_of
status-kind = refl

abbrev status_text : Str
status_text =
    ascii "::core::result::Result<ward::Status,::capnp::NotInSchema>\n"
    ++ ascii "::core::convert::TryFrom::try_from(self.reader.get_data_field_mask::<u16>(2, 2))\n"

status_ran : Ran ward_bytes 3 0 (Getter true false) status_text
unfolding requests.field_at by_id nth accessor_text getter_request getter_text type_string types.node_of getter_mask
    get_data_field decimal stringify join to_lines flat_map margin requests.state_refusal text.answer_of text.buffer_of
    text.placed
status_ran = ran_of ward_bytes 3 0 (Getter true false) 0 status_text (rw ward-read refl) refl

-- the pointer slot, and its haser
note_slot : SlotAt ward_bytes 2 1
unfolding requests.field_at by_id nth
note_slot = record {
  tree = ward;
  node = bed_node;
  field = note;
  slot = slot_with (plain 12) 0 0 0;
  is-admitted = ward-read;
  is_found = refl;
  is-slot = refl;
}

abbrev note_text : Str
note_text =
    ascii "#[inline]\npub fn has_note(&self) -> bool {\n"
    ++ ascii "    if self.reader.get_data_field::<u16>(1) != 0 { return false; }\n"
    ++ ascii "    !self.reader.get_pointer_field(0).is_null()\n}\n"

note_ran : (is_pointer note_slot.slot.ty ≡ true) × Ran ward_bytes 2 1 (Haser true) note_text
unfolding note_slot requests.field_at by_id nth accessor_text haser_request generate_haser camel_to_snake_case taken are_chars
    snake_from not_null tag_test decimal stringify join to_lines flat_map margin requests.state_refusal text.answer_of
    text.buffer_of text.placed
note_ran = (refl, ran_of ward_bytes 2 1 (Haser true) 0 note_text (rw ward-read refl) refl)

-- ---- what is left

abbrev after : Record
after = record { bits = replicate 16 true ++ replicate 32 false; pointers = false ∷ false ∷ [] }

runs : run_zeroing zero_text before ≡ Some after
unfolding found stored put_bits clear_flag type_name truth data_arg bool_arg writes run_op run_line run_lines run_zeroing
runs = refl

-- what a getter's and a haser's text answer on a record
abbrev reads : Record → Outcome → Option ℕ
reads r (gives t) = run_getter t r
reads r (refuses k line column) = None

abbrev says : Record → Outcome → Option Bool
says r (gives t) = run_haser t r
says r (refuses k line column) = None

abbrev get : Record → ℕ → ℕ → Bool → Bool → Option ℕ
get r id place is_reader is_fn = reads r (outcome_of (sheet ward) id (of_field place (Getter is_reader is_fn)) 0)

abbrev has : Record → ℕ → ℕ → Option Bool
has r id place = says r (outcome_of (sheet ward) id (of_field place (Haser true)) 0)

-- rank in two forms, status and isFree: not their defaults before, their defaults after
defaults-read :
    (get before 2 0 true false ≡ Some 65528) × (get before 3 0 true false ≡ Some 65533) × (get before 3 1 false false ≡ Some 0)
    × (get after 2 0 true false ≡ Some 7) × (get after 2 0 false true ≡ Some 7) × (get after 3 0 true false ≡ Some 2)
    × (get after 3 1 false false ≡ Some 1)
unfolding requests.field_at by_id nth accessor_text getter_request getter_text type_string types.node_of getter_mask
    get_bool_field get_data_field decimal margin stringify join to_lines flat_map same found get_bits type_name truth
    get_mask_of gets gets_in run_getter
defaults-read = (refl, refl, refl, refl, refl, refl, refl)

-- note and memo are there before, and absent after
pointers-absent :
    (has before 2 1 ≡ Some true) × (has before 3 2 ≡ Some true) × (has after 2 1 ≡ Some false) × (has after 3 2 ≡ Some false)
unfolding requests.field_at by_id nth accessor_text haser_request generate_haser camel_to_snake_case taken are_chars snake_from
    not_null tag_test decimal stringify join to_lines flat_map found get_bits null_flag type_name tests tests_of run_tests
    run_haser
pointers-absent = (refl, refl, refl, refl)
