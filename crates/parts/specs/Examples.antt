-- Document 01's example whole, computed from the sheet's bytes; the same sheet torn. Assumes nothing.
use Rattle.std.specs.Prelude.{◌-◌, ◌≡◌, refl, List, [], ◌∷◌, length, take}
use Prim.Native.String.{String}
use Rattle.text.specs.Bytes.{Str, ascii}
use Rattle.text.specs.Decimal.{decimal}
use Rattle.text.specs.Lines.{margin, to_lines, flat_map, join, stringify, ended}
use Rattle.names.specs.Names.{taken, snake_from, camel_to_snake_case}
use Rattle.column.specs.Number.{trimmed, digits, unpadded, column_of, padded}
use Rattle.column.specs.Texts.{is_word, is_graphic, all, are_chars, is_name, is_field_name, is_graphic_text, ends_in}
use Rattle.row.specs.Rows.{rows, onto, rest_of, newlines, size, line_no, joined}
use Rattle.row.specs.Line.{root_line, node_line, field_line, type_line, value_line}
use Rattle.row.specs.Line.{most_a, most_b, most_c, most_bits, reader, line_of, line_at, text_start, text_of, text_at}
use Rattle.row.specs.Print.{columns, row_text}
use Rattle.tree.specs.Read.{admitted, read_sheet, read_nodes, read_node, read_members, read_params, group_ids, read_fields}
use Rattle.tree.specs.Read.{fields_up_to}
use Rattle.tree.specs.Read.{read_field}
use Rattle.tree.specs.Read.{overlap, among, read_slot, read_words, value_of, read_type, type_from}
use Rattle.tree.specs.Worked.{free}
use Rattle.codegen_types.specs.TypeString.{type_string}
use Rattle.calls.specs.Calls.{get_bool_field, set_bool_field}
use Rattle.codegen.specs.Default.{prim_default, getter_mask}
use Rattle.codegen.specs.Getter.{getter_text, getter_request}
use Rattle.codegen.specs.Haser.{generate_haser, haser_request}
use Rattle.codegen.specs.Profiles.{present_mask}
use Rattle.codegen.specs.Setter.{generate_setter, setter_request}
use Rattle.requests.specs.Requests.{accessor_text}
use Rattle.parts.specs.Program.{header_text, refused_text, part_text, printed_part, field_text, each_text, node_text}
use Rattle.parts.specs.Program.{refused_sheet_text, program_text}

abbrev is_free : Str
is_free = joined free

-- lines of a text
abbrev lines_of : List String → List Str
lines_of [] = []
lines_of (l ∷ ls) = ascii l ∷ lines_of ls

pub example : program_text (admitted is_free) ≡ ended (lines_of (
    "# getter reader isFree"
    ∷ "bool"
    ∷ "self.reader.get_bool_field_mask(3, true)"
    ∷ "# getter builder isFree"
    ∷ "bool"
    ∷ "self.builder.get_bool_field_mask(3, true)"
    ∷ "# setter isFree"
    ∷ "#[inline]"
    ∷ "pub fn set_is_free(&mut self, value: bool)  {"
    ∷ "    self.builder.set_bool_field_mask(3, value, true);"
    ∷ "}"
    ∷ "# haser reader isFree"
    ∷ ""
    ∷ "# haser builder isFree"
    ∷ ""
    ∷ []))
unfolding program_text node_text field_text each_text printed_part part_text refused_text header_text accessor_text
    setter_request generate_setter haser_request generate_haser getter_request getter_text getter_mask present_mask prim_default
    set_bool_field get_bool_field type_string type_from read_type value_of read_words read_slot among overlap read_field
    fields_up_to read_fields group_ids read_params read_members read_node read_nodes read_sheet admitted row_text columns
    text_at text_of text_start line_at line_of reader most_bits most_c most_b most_a value_line type_line field_line node_line
    root_line joined rest_of onto rows ends_in is_graphic_text is_name is_field_name are_chars all is_graphic is_word padded
    column_of unpadded digits trimmed camel_to_snake_case snake_from taken ended margin stringify join flat_map to_lines decimal
example = refl

pub torn : program_text (admitted (take (length is_free - 1) is_free)) ≡ ascii "refused 2 line 5 column 1\n"
unfolding program_text refused_sheet_text type_from read_type value_of read_words read_slot read_field fields_up_to read_fields
    read_params read_members read_node read_nodes read_sheet among admitted row_text columns text_at text_of text_start line_at
    line_of reader most_bits most_c most_b most_a value_line type_line field_line node_line root_line joined rest_of onto rows
    line_no size newlines ends_in is_graphic_text is_name is_field_name are_chars all is_graphic is_word padded column_of
    unpadded digits trimmed decimal
torn = refl
