-- Worked sheets, computed: document 01's own example, and refusals 1 to 4 at the lines that document 01 names. Assumes nothing.
use Rattle.std.specs.Prelude.{◌≡◌, refl, true, List, [], ◌∷◌, ◌++◌, ℕ, zero, suc, ◌-◌, ◌^◌, length, take, drop, replicate}
use Rattle.text.specs.Bytes.{Str, ascii, unit}
use Rattle.text.specs.Decimal.{decimal}
use Rattle.column.specs.Number.{trimmed, digits, unpadded, column_of, padded}
use Rattle.column.specs.Texts.{is_word, is_graphic, all, are_chars, is_name, is_field_name, is_graphic_text, ends_in}
use Rattle.row.specs.Rows.{rows, joined, onto, rest_of, newlines, size, line_no}
use Rattle.row.specs.Line.{root_line, node_line, parameter_line, field_line, group_line}
use Rattle.row.specs.Line.{type_line, scope_line, unbound_line, value_line, word_line}
use Rattle.row.specs.Line.{most_a, most_b, most_c, most_count, most_bits, reader, line_of, line_at, text_start, text_of, text_at}
use Rattle.row.specs.Print.{columns, row_text, print_parameter, print_type, print_scope, print_unbound, print_word}
use Rattle.tree.specs.Tree.{Ty, plain, list, enum, struct, interface, any_pointer, parameter}
use Rattle.tree.specs.Tree.{end, inherit, bind, Binds, stop, unbound, bound}
use Rattle.tree.specs.Tree.{Slot, slot, group, Field, Node, Sheet}
use Rattle.tree.specs.Reader.{Rows, times}
use Rattle.tree.specs.Read.{Admitted, sheet, refused, admitted}
use Rattle.tree.specs.Read.{read_binding, read_scope, type_from, read_type, value_of, read_words_up_to, read_words, read_slot}
use Rattle.tree.specs.Read.{among, overlap, read_field, fields_up_to, read_fields, group_ids, read_params, read_members}
use Rattle.tree.specs.Read.{read_node}
use Rattle.tree.specs.Read.{read_nodes, read_sheet}
use Rattle.tree.specs.Print.{scope_count, bind_count, type_rows, word_rows, field_rows, param_rows, node_rows, sheet_rows}
use Rattle.tree.specs.Print.{printed}
use Rattle.tree.specs.Worked.{slot_of, named_field, lone_slot, node, worked_sheet, bed, free}
use Rattle.tree.specs.WellFormed.{every, distinct, type_fits, node_ids, all_group_ids, well_formed}

-- the rows of document 01's example, with others for its slot's type
free_as : Rows → Rows
free_as ts = take 3 free ++ ts ++ drop 4 free

-- a struct of module bed, by its id and its fields
bed_with : ℕ → List Field → Node
bed_with i fs = node i "bed" 0 0 fs

-- document 01's example as a tree
free_tree : Sheet
free_tree = worked_sheet (bed_with 7 (lone_slot "isFree" (plain 1) 3 1 1 ∷ []) ∷ [])

-- a sheet of one slot
one_slot : Slot → Sheet
one_slot s = worked_sheet (bed_with 7 (named_field "f" 65535 (slot s) ∷ []) ∷ [])

-- one slot of a type, with a default of kind 0
typed : Ty → Sheet
typed t = one_slot (slot_of t 0 0 0 0 [])

-- lists in lists, so many levels, around a type
lists : ℕ → Ty → Ty
lists zero t = t
lists (suc n) t = list (lists n t)

-- a struct whose scope has bindings
bed7 : Binds → Ty
bed7 bs = struct 7 (bind 7 bs end)

-- one slot of Text with an explicit default of so many words
worded : ℕ → Sheet
worded n = one_slot (slot_of (plain 12) 0 1 12 0 (replicate n 5))

-- groups with these ids
groups : List ℕ → List Field
groups [] = []
groups (i ∷ is) = named_field "g" 0 (group i) ∷ groups is

-- nodes with ids from n down to 1
down : ℕ → List Node
down zero = []
down (suc n) = bed_with (suc n) [] ∷ down n

-- parameters, brands, a parameter's type, words, a group and a second node
rich : Sheet
rich = worked_sheet (record {
  id = 18446744073709551615;
  parent = 7;
  scope = 7;
  is_struct = 1;
  generic = 1;
  tag_count = 65535;
  tag_offset = 4294967295;
  the_mod = ascii "map::entry";
  params = ascii "K" ∷ ascii "V" ∷ [];
  fields =
      named_field "key" 65535 (slot (record {
        offset = 0;
        explicit = 1;
        option = 1;
        ty = parameter 18446744073709551615 65535;
        default = record { kind = 16; bits = 0 };
        words = 1 ∷ 18446744073709551615 ∷ [];
      }))
      ∷ named_field "value" 65535 (slot (slot_of
      (list (interface 1 (inherit 1 (bind 2 (unbound (bound (enum 7 end) (bound any_pointer stop))) (bind 3 stop end)))))
      4294967295 0 15 65535 []))
      ∷ groups (7 ∷ []);
} ∷ bed_with 7 [] ∷ [])

-- a sheet, and what is admitted of it
record Case : Type 0 where
  given : Str
  answer : Admitted

abbrev when : Str → Admitted → Case
when s a = record { given = s; answer = a }

-- a tree that is printed and read again
abbrev whole : Sheet → Case
whole t = when (printed t) (sheet t)

-- a tree that is printed and refused
abbrev not : Sheet → ℕ → ℕ → ℕ → Case
not t k l c = when (printed t) (refused k l c)

table : List Case
table =
    when (joined free) (sheet free_tree)
    ∷ whole rich
    -- a node without fields; no node; empty; a last line without byte 10; no V line
    ∷ when (joined bed) (sheet (worked_sheet (bed_with 7 [] ∷ [])))
    ∷ not (worked_sheet []) 2 2 1
    ∷ when [] (refused 2 1 1)
    ∷ when (take (length (joined free) - 1) (joined free)) (refused 2 5 1)
    ∷ when (joined (take 4 free)) (refused 2 5 1)
    -- a second R; an empty line; P after F
    ∷ when (joined (take 1 bed ++ bed)) (refused 2 2 1)
    ∷ when (joined bed ++ unit 10) (refused 2 3 1)
    ∷ when (joined (free ++ (print_parameter (ascii "T") ∷ []))) (refused 2 6 1)
    -- level 16 and a 17th, of a list's element and of a binding; U at the 17th; a 17th line that is bad in itself
    ∷ whole (typed (lists 15 (plain 12)))
    ∷ not (typed (lists 16 (plain 12))) 4 20 1
    ∷ not (typed (lists 15 (bed7 (bound (plain 12) stop)))) 4 21 1
    ∷ whole (typed (lists 15 (bed7 (unbound stop))))
    ∷ not (typed (lists 16 (plain 19))) 16 20 2
    -- 2 ^ 64 - 1 scopes, or bindings, that do not follow
    ∷ when (joined (free_as (print_type 16 7 18446744073709551615 0 ∷ []))) (refused 2 5 1)
    ∷ when (joined (free_as (print_type 16 7 1 0 ∷ print_scope 7 1 18446744073709551615 ∷ print_unbound ∷ []))) (refused 2 7 1)
    -- 0, 1, 255, 256 words; a word where none belongs
    ∷ not (worded 0) 2 6 1
    ∷ whole (worded 1)
    ∷ whole (worded 255)
    ∷ not (worded 256) 2 261 1
    ∷ when (joined (free ++ (print_word 5 ∷ []))) (refused 2 6 1)
    -- an id on a second N, on a second G of one node, of another node; an N and a G with one id
    ∷ not (worked_sheet (bed_with 7 [] ∷ bed_with 1 [] ∷ bed_with 7 [] ∷ [])) 3 4 2
    ∷ not (worked_sheet (bed_with 7 (groups (1 ∷ 2 ∷ 1 ∷ [])) ∷ [])) 3 5 2
    ∷ not (worked_sheet (bed_with 7 (groups (1 ∷ [])) ∷ bed_with 1 (groups (1 ∷ [])) ∷ [])) 3 5 2
    ∷ whole (worked_sheet (bed_with 7 (groups (7 ∷ [])) ∷ []))
    -- 64 nodes and a 65th, also with an id that stands before
    ∷ whole (worked_sheet (down 64))
    ∷ not (worked_sheet (down 65)) 2 66 1
    ∷ not (worked_sheet (down 64 ++ down 1)) 2 66 1
    -- bad lines where their letter may not stand: a 65th N, a 256th W, a P after an F, a W where none belongs
    ∷ not (worked_sheet (down 64 ++ (bed_with 0 [] ∷ []))) 2 66 1
    ∷ when (printed (worded 255) ++ print_word (2 ^ 64)) (refused 2 261 1)
    ∷ when (joined (free ++ (print_parameter (ascii "9") ∷ []))) (refused 2 6 1)
    ∷ when (joined (free ++ (print_word (2 ^ 64) ∷ []))) (refused 2 6 1)
    -- and where it may: a P after a P, a W after a W, an F and a G after a node, an N after a field
    ∷ when (joined (bed ++ (print_parameter (ascii "T") ∷ print_parameter (ascii "9") ∷ []))) (refused 17 4 3)
    ∷ when (printed (worded 254) ++ print_word (2 ^ 64)) (refused 16 260 2)
    ∷ not (worked_sheet (bed_with 7 (named_field "f" 65536 (slot (slot_of (plain 0) 0 0 0 0 [])) ∷ []) ∷ [])) 16 3 23
    ∷ not (worked_sheet (bed_with 7 (groups (0 ∷ [])) ∷ [])) 16 3 2
    ∷ when (joined free ++ ascii "N" ++ unit 10) (refused 16 6 2)
    -- an id that stands before, on a line that is bad further right
    ∷ not (worked_sheet (bed_with 7 [] ∷ node 7 "" 0 0 [] ∷ [])) 17 3 150
    -- the sheet's length
    ∷ when (replicate 65536 10) (refused 2 1 1)
    ∷ when (replicate 65537 10) (refused 1 0 0)
    ∷ []

answers : List Case → List Admitted
answers [] = []
answers (c ∷ cs) = admitted c.given ∷ answers cs

expected : List Case → List Admitted
expected [] = []
expected (c ∷ cs) = c.answer ∷ expected cs

-- what is admitted of each sheet is what the table says
worked : answers table ≡ expected table
unfolding answers expected table rich down groups worded bed7 lists typed one_slot free_tree bed_with free_as joined printed
    sheet_rows node_rows param_rows field_rows word_rows type_rows bind_count scope_count row_text columns padded decimal
    admitted read_sheet read_nodes read_node read_members read_params group_ids read_fields fields_up_to read_field overlap
    among read_slot read_words read_words_up_to value_of read_type type_from read_scope read_binding times line_no size newlines
    rest_of onto rows text_at text_of text_start line_at line_of reader root_line node_line parameter_line field_line group_line
    type_line scope_line unbound_line value_line word_line most_a most_b most_c most_count most_bits column_of unpadded digits
    trimmed is_graphic_text is_name is_field_name are_chars all is_graphic is_word ends_in
worked = refl

-- the two trees with most in them are well-formed
fit : (well_formed free_tree ≡ true) × (well_formed rich ≡ true)
unfolding well_formed every distinct type_fits node_ids all_group_ids group_ids among most_bits is_graphic_text is_name
    is_field_name are_chars all is_graphic is_word free_tree rich groups bed_with joined printed sheet_rows node_rows param_rows
    field_rows word_rows type_rows bind_count scope_count row_text columns padded decimal
fit = (refl, refl)
