-- Document 01's starred cases, computed: one table and one theorem over its rows. A row is a text that a definition gives and the
-- bytes that it must be. Texts of requests are what the entry gives for the bytes of a sheet; a value read is written in decimal.
-- Assumes nothing.
use Rattle.std.specs.Option.{option_and_then}
use Rattle.std.specs.Prelude.{◌≡◌, ℕ, true, false, List, [], ◌∷◌, ◌++◌, map}
use Prim.Native.String.{String}
use Rattle.std.specs.Prelude.{refl}
use Rattle.std.specs.Prelude.{Option, None, Some}
use Rattle.text.specs.Bytes.{Str, ascii, same}
use Rattle.text.specs.Decimal.{decimal, signed}
use Rattle.text.specs.Lines as lines
use Rattle.text.specs.Lines.{Indent, Branch, Line, BlankLine, margin, to_lines, flat_map, join, stringify, ended}
use Rattle.names.specs.Keywords as keywords
use Rattle.names.specs.Keywords.{is_keyword}
use Rattle.names.specs.Names.{taken, snake_from, camel_to_snake_case, default_name, module_name}
use Rattle.column.specs.Number.{trimmed, digits, unpadded, column_of, padded}
use Rattle.column.specs.Texts.{is_word, is_graphic, all, are_chars, is_name, is_field_name, is_graphic_text, ends_in}
use Rattle.row.specs.Rows.{rows, joined, onto, rest_of}
use Rattle.row.specs.Line.{root_line, node_line, parameter_line, field_line, group_line}
use Rattle.row.specs.Line.{type_line, scope_line, unbound_line, value_line, word_line}
use Rattle.row.specs.Line.{most_a, most_b, most_c, most_count, most_bits, reader, line_of, line_at, text_start, text_of, text_at}
use Rattle.row.specs.Print.{columns, row_text}
use Rattle.tree.specs.Tree.{plain, enum, struct, end, group, Field, Sheet}
use Rattle.tree.specs.Reader.{times}
use Rattle.tree.specs.Read as read
use Rattle.tree.specs.Read.{admitted}
use Rattle.tree.specs.Read.{read_binding, read_scope, type_from, read_type, value_of, read_words_up_to, read_words, read_slot}
use Rattle.tree.specs.Read.{among, overlap, fields_up_to, read_fields, group_ids, read_params, read_members, read_nodes}
use Rattle.tree.specs.Read.{read_sheet}
use Rattle.tree.specs.Print.{scope_count, type_rows, word_rows, field_rows, param_rows, node_rows, sheet_rows, printed}
use Rattle.tree.specs.Worked.{named_field, lone_slot, node, worked_sheet}
use Rattle.codegen_types.specs.Leaf.{leaf_of}
use Rattle.codegen_types.specs.TypeString as types
use Rattle.codegen_types.specs.TypeString.{type_string, scopes_of, node_of, arguments_of, accumulate, outermost_first}
use Rattle.codegen_types.specs.TypeString.{angled, do_branding}
use Rattle.calls.specs.Calls.{get_data_field, set_data_field}
use Rattle.codegen.specs.Default.{prim_default, getter_mask}
use Rattle.codegen.specs.Getter.{getter_text, getter_request}
use Rattle.codegen.specs.Haser.{generate_haser, haser_request}
use Rattle.codegen.specs.Profiles.{present_mask}
use Rattle.codegen.specs.Setter.{generate_setter, setter_request}
use Rattle.codegen.specs.Zeroing.{zero_line, contains, zero_fields, zero_fields_of_group, zeroing_request}
use Rattle.nodes.specs.Index.{by_id, nth}
use Rattle.record.specs.Record.{found, stored, get_bits, put_bits}
use Rattle.meaning.specs.Examples.{some16}
use Rattle.meaning.specs.Reading.{type_name, truth, get_mask_of, set_mask_of, data_arg}
use Rattle.meaning.specs.Meaning.{writes, gets, gets_in, run_op, run_line, run_lines, run_setter, run_getter}
use Rattle.requests.specs.Requests.{field_at, type_text, accessor_text, of_field, Outcome, gives, refuses, outcome_of}
use Rattle.requests.specs.declared.Accessor.{Accessor}
use Rattle.requests.specs.declared.Accessor.TheVariants.{TypeText, Getter, Setter, Haser, Zeroing}

-- ---- the sheet

-- the fields of a group: a Uint16 and an Enum at 4
abbrev pair : List Field
pair = lone_slot "count" (plain 7) 4 0 0 ∷ lone_slot "status" (enum 2 end) 4 0 0 ∷ []

-- the bed, the enum status, the struct ward, and the bed's groups: two slots at 4, a tag too, and the two inside another
abbrev tree : Sheet
tree = worked_sheet (
    node 7 "bed" 0 0 (
    lone_slot "isFree" (plain 1) 3 1 1
    ∷ lone_slot "next" (struct 7 end) 0 0 0
    ∷ lone_slot "rank" (plain 2) 2 1 251
    ∷ lone_slot "heat" (plain 10) 0 1 1069547520
    ∷ lone_slot "cold" (plain 10) 1 1 2147483648
    ∷ lone_slot "status" (enum 2 end) 1 0 2
    ∷ lone_slot "planned" (enum 2 end) 1 1 0
    ∷ lone_slot "nothing" (plain 0) 0 0 0
    ∷ lone_slot "ward" (struct 3 end) 2 0 0
    ∷ named_field "plain" 65535 (group 4)
    ∷ named_field "tagged" 65535 (group 5)
    ∷ named_field "outer" 65535 (group 6)
    ∷ [])
    ∷ node 2 "status" 0 0 []
    ∷ node 3 "ward" 0 0 []
    ∷ node 4 "bed::plain" 0 0 pair
    ∷ node 5 "bed::tagged" 2 4 pair
    ∷ node 6 "bed::outer" 0 0 (pair ++ (named_field "inner" 65535 (group 8) ∷ []))
    ∷ node 8 "bed::outer::inner" 0 0 pair
    ∷ [])

-- its bytes
abbrev bytes : Str
bytes = printed tree

-- ---- what is said

-- a text, or which refusal stands in its place
abbrev text : Outcome → Str
text (gives s) = s
text (refuses k line column) = ascii "refused " ++ decimal k

-- the text of an accessor of the bed's field at a place, at a level
abbrev asked_at : ℕ → ℕ → Accessor → Str
asked_at level place accessor = text (outcome_of (admitted bytes) 7 (of_field place accessor) level)

abbrev asked : ℕ → Accessor → Str
asked = asked_at 0

-- a getter of a reader that is no function
abbrev getter : Accessor
getter = Getter true false

-- a value read, in decimal
abbrev number : Option ℕ → Str
number None = ascii "nothing"
number (Some v) = decimal v

-- what is read of a value that was written
abbrev reads : ℕ → ℕ → Str
reads place v = number (option_and_then (run_getter (asked place getter)) (run_setter (asked place Setter) v some16))

-- ---- the table

-- a text and what it must be: as it stands, or as lines
pub record StarredCase : Type 0 where
  pub computed : Str
  pub expected : Str

abbrev row : Str → String → StarredCase
row s e = record { computed = s; expected = ascii e }

abbrev row_of : Str → List String → StarredCase
row_of s ls = record { computed = s; expected = ended (map ascii ls) }

pub table : List StarredCase
table =
    -- `camel_to_snake_case`, the name of wardName's default, `module_name`
    row (camel_to_snake_case (ascii "bedId")) "bed_id"
    ∷ row (camel_to_snake_case (ascii "HTTPCode")) "h_t_t_p_code"
    ∷ row (default_name (ascii "wardName")) "DEFAULT_WARD_NAME"
    ∷ row (module_name (ascii "type")) "type_"
    -- Int8, offset 2, default -5
    ∷ row_of (asked 2 getter) ("i8" ∷ "self.reader.get_data_field_mask::<i8>(2, -5)" ∷ [])
    ∷ row_of (asked 2 Setter)
    ("#[inline]"
    ∷ "pub fn set_rank(&mut self, value: i8)  {"
    ∷ "    self.builder.set_data_field_mask::<i8>(2, value, -5);"
    ∷ "}" ∷ [])
    -- Float32, default 1.5
    ∷ row_of (asked 3 getter) ("f32" ∷ "self.reader.get_data_field_mask::<f32>(0, 1069547520)" ∷ [])
    ∷ row_of (asked 3 Setter)
    ("#[inline]"
    ∷ "pub fn set_heat(&mut self, value: f32)  {"
    ∷ "    self.builder.set_data_field_mask::<f32>(0, value, 1069547520u32);"
    ∷ "}" ∷ [])
    -- Float32, default -0.0: 1065353216 written reads 3212836864
    ∷ row_of (asked 4 getter) ("f32" ∷ "self.reader.get_data_field_mask::<f32>(1, 2147483648)" ∷ [])
    ∷ row_of (asked 4 Setter)
    ("#[inline]"
    ∷ "pub fn set_cold(&mut self, value: f32)  {"
    ∷ "    self.builder.set_data_field::<f32>(1, value);"
    ∷ "}" ∷ [])
    ∷ row (reads 4 1065353216) "3212836864"
    -- Enum default 2, explicit unset: 2 written reads 0
    ∷ row_of (asked 5 getter)
    ("::core::result::Result<status,::capnp::NotInSchema>"
    ∷ "::core::convert::TryFrom::try_from(self.reader.get_data_field_mask::<u16>(1, 2))" ∷ [])
    ∷ row_of (asked 5 Setter)
    ("#[inline]"
    ∷ "pub fn set_status(&mut self, value: status)  {"
    ∷ "    self.builder.set_data_field::<u16>(1, value as u16);"
    ∷ "}" ∷ [])
    ∷ row (reads 5 2) "0"
    -- explicit set, default 0: setter masks with 0, getter is plain, and they agree
    ∷ row_of (asked 6 getter)
    ("::core::result::Result<status,::capnp::NotInSchema>"
    ∷ "::core::convert::TryFrom::try_from(self.reader.get_data_field::<u16>(1))" ∷ [])
    ∷ row_of (asked 6 Setter)
    ("#[inline]"
    ∷ "pub fn set_planned(&mut self, value: status)  {"
    ∷ "    self.builder.set_data_field_mask::<u16>(1, value as u16, 0);"
    ∷ "}" ∷ [])
    ∷ row (reads 6 2) "2"
    -- Void getter as function: empty result type, then one empty line
    ∷ row_of (asked 7 (Getter true true)) ("" ∷ "" ∷ [])
    -- a blank `Line` at indent 1, `BlankLine`, `stringify` of no lines, a haser of Bool
    ∷ row_of (stringify (Indent (Line [])) 0) ("    " ∷ [])
    ∷ row_of (stringify BlankLine 0) ("" ∷ [])
    ∷ row_of (stringify (Branch lines.none) 0) ("" ∷ [])
    ∷ row_of (asked 0 (Haser true)) ("" ∷ [])
    -- a Struct initializer named ward
    ∷ row_of (asked 8 Setter)
    ("#[inline]"
    ∷ "pub fn set_ward(&mut self, value: ward::Reader<'_>) -> ::capnp::Result<()> {"
    ∷ "    ::capnp::traits::SetterInput::set_pointer_builder(self.builder.reborrow().get_pointer_field(2), value, false)"
    ∷ "}"
    ∷ "#[inline]"
    ∷ "pub fn init_ward(self, ) -> ward::Builder<'a> {"
    ∷ "    ::capnp::traits::FromPointerBuilder::init_pointer(self.builder.get_pointer_field(2), 0)"
    ∷ "}" ∷ [])
    -- `zero_fields_of_group`: Uint16 and Enum at 4 give one line; beside a tag at 4 both stay; an inner group repeats it
    ∷ row_of (asked 9 Zeroing) ("self.builder.set_data_field::<u16>(4, 0u16);" ∷ [])
    ∷ row_of (asked 10 Zeroing)
    ("self.builder.set_data_field::<u16>(4, 0);" ∷ "self.builder.set_data_field::<u16>(4, 0u16);" ∷ [])
    ∷ row_of (asked 11 Zeroing)
    ("self.builder.set_data_field::<u16>(4, 0u16);" ∷ "self.builder.set_data_field::<u16>(4, 0u16);" ∷ [])
    -- GetType of a struct with module bed and no parameters
    ∷ row (asked 1 (TypeText (leaf_of 9))) "bed::get_type::"
    -- at a level, which is request N14 of document 02: every line is moved in, an empty one too, and no lines stay one newline
    ∷ row_of (asked_at 1 7 (Getter true true)) ("    " ∷ "    " ∷ [])
    ∷ row_of (asked_at 2 2 Setter)
    ("        #[inline]"
    ∷ "        pub fn set_rank(&mut self, value: i8)  {"
    ∷ "            self.builder.set_data_field_mask::<i8>(2, value, -5);"
    ∷ "        }" ∷ [])
    ∷ row_of (asked_at 1 11 Zeroing)
    ("    self.builder.set_data_field::<u16>(4, 0u16);" ∷ "    self.builder.set_data_field::<u16>(4, 0u16);" ∷ [])
    ∷ row_of (asked_at 8 0 (Haser true)) ("" ∷ [])
    ∷ row (asked_at 2 1 (TypeText (leaf_of 4))) "        bed::Owned"
    ∷ []

-- every row's text is what it must be
pub starred : map (λ (r : StarredCase). r.computed) table ≡ map (λ (r : StarredCase). r.expected) table
unfolding table same keywords.is_one_of is_keyword are_chars taken snake_from camel_to_snake_case default_name module_name
    joined printed sheet_rows node_rows param_rows field_rows word_rows type_rows scope_count row_text columns padded decimal
    admitted read_sheet read_nodes read.read_node read_members read_params group_ids read_fields fields_up_to read.read_field
    overlap among read_slot read_words read_words_up_to value_of read_type type_from read_scope read_binding times rest_of onto
    rows text_at text_of text_start line_at line_of reader root_line node_line parameter_line field_line group_line type_line
    scope_line unbound_line value_line word_line most_a most_b most_c most_count most_bits column_of unpadded digits trimmed
    is_graphic_text is_name is_field_name all is_graphic is_word ends_in leaf_of field_at by_id nth type_text accessor_text
    type_string scopes_of node_of types.scope_of arguments_of accumulate outermost_first angled do_branding to_lines flat_map
    margin join stringify ended signed get_data_field set_data_field present_mask prim_default getter_mask getter_text
    getter_request
    generate_haser haser_request generate_setter setter_request zero_line contains zero_fields zero_fields_of_group
    zeroing_request found stored get_bits put_bits type_name truth get_mask_of set_mask_of data_arg writes gets gets_in run_op
    run_line run_lines run_setter run_getter
starred = refl
