-- Worked rows, by computation: a sheet and its short form, more spaces, and rows that are no line's. Assumes nothing.
use Rattle.std.specs.Prelude.{◌≡◌, refl, List, [], ◌∷◌, ◌++◌, map, replicate}
use Rattle.text.specs.Bytes.{Str, ascii, unit}
use Rattle.text.specs.Decimal.{decimal}
use Rattle.column.specs.Number.{trimmed, digits, unpadded, column_of, padded}
use Rattle.column.specs.Texts.{is_word, is_graphic, all, are_chars, is_name, is_field_name, is_graphic_text, ends_in}
use Rattle.row.specs.Rows.{rows, onto, rest_of}
use Rattle.row.specs.Line.{root_line, node_line, parameter_line, field_line, group_line}
use Rattle.row.specs.Line.{type_line, scope_line, unbound_line, value_line, word_line}
use Rattle.row.specs.Line.{most_a, most_b, most_c, most_count, most_bits, reader, line_of, line_at, text_start, text_of, text_at}
use Rattle.row.specs.Print.{columns, row_text, print_root, print_node, print_field, print_type, print_unbound, print_value}
use Rattle.tree.specs.Tree.{plain}
use Rattle.tree.specs.Reader.{times}
use Rattle.tree.specs.Read.{sheet, admitted}
use Rattle.tree.specs.Read.{read_binding, read_scope, type_from, read_type, value_of, read_words_up_to, read_words, read_slot}
use Rattle.tree.specs.Read.{read_field, among, overlap, fields_up_to, read_fields, group_ids, read_params, read_members}
use Rattle.tree.specs.Read.{read_node}
use Rattle.tree.specs.Read.{read_nodes, read_sheet}
use Rattle.tree.specs.Worked.{lone_slot, node, worked_sheet}
use Rattle.padding.specs.Padded.{number_count, space_len, word_len, right_justified, words_padded}
use Rattle.padding.specs.Padded.{padded_row, padded_rows, padded_text}
use Rattle.padding.specs.Short.{short}

-- document 01's example, without its padding
is_free_short : Str
is_free_short =
    ascii "R ::capnp" ++ unit 10 ++ ascii "N 7 0 0 1 0 0 0 bed" ++ unit 10 ++ ascii "F 3 65535 1 0 isFree" ++ unit 10
    ++ ascii "T 1 0 0 0" ++ unit 10 ++ ascii "V 1 1" ++ unit 10

is_free : Str
is_free =
    print_root (ascii "::capnp") ++ print_node 7 0 0 1 0 0 0 (ascii "bed") ++ print_field 3 65535 1 0 (ascii "isFree")
    ++ print_type 1 0 0 0 ++ print_value 1 1

-- it is a sheet: the bed with one slot
is-free-admitted : admitted is_free ≡ sheet (worked_sheet (node 7 "bed" 0 0 (lone_slot "isFree" (plain 1) 3 1 1 ∷ []) ∷ []))
unfolding is_free row_text columns padded decimal admitted read_sheet read_nodes read_node read_members read_params group_ids
    read_fields fields_up_to read_field overlap among read_slot read_words read_words_up_to value_of read_type type_from
    read_scope read_binding times rest_of onto rows text_at text_of text_start line_at line_of reader root_line node_line
    parameter_line field_line group_line type_line scope_line unbound_line value_line word_line most_a most_b most_c most_count
    most_bits column_of unpadded digits trimmed is_graphic_text is_name is_field_name are_chars all is_graphic is_word ends_in
is-free-admitted = refl

is-free-short : short is_free ≡ is_free_short
unfolding is_free is_free_short short row_text columns padded decimal
is-free-short = refl

is-free-padded : padded_text is_free_short ≡ is_free
unfolding is_free is_free_short padded_text padded_rows padded_row words_padded right_justified word_len space_len number_count
    rows onto row_text columns padded decimal
is-free-padded = refl

-- and it stays as it is
is-free-kept : padded_text is_free ≡ is_free
unfolding is_free padded_text padded_rows padded_row words_padded right_justified word_len space_len number_count rows onto
    row_text columns padded decimal
is-free-kept = refl

-- rows with more spaces, with too few words, with words that are no numbers, and a last row without byte 10
written : List Str
written =
    (ascii "V   1 1" ++ unit 10) ∷ (ascii "U" ++ unit 10) ∷ (ascii "F 3 65535  1 0   isFree" ++ unit 10)
    ∷ (ascii "V 1" ++ unit 10) ∷ (ascii "W x" ++ unit 10) ∷ ascii "W 7" ∷ []

said : List Str
said =
    print_value 1 1 ∷ print_unbound ∷ print_field 3 65535 1 0 (ascii "isFree")
    ∷ (ascii "V" ++ padded 1 ++ replicate 21 32 ++ unit 10) ∷ (ascii "W" ++ replicate 20 32 ++ ascii "x" ++ unit 10)
    ∷ (ascii "W" ++ padded 7) ∷ []

written-said : map padded_row written ≡ said
unfolding written said padded_row words_padded right_justified word_len space_len number_count row_text columns padded decimal
written-said = refl
