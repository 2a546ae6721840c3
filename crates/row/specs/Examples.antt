-- Worked rows, by computation: what each says, at the bounds of document 01 and one past them. Assumes nothing.
use Rattle.std.specs.Prelude.{◌≡◌, refl, List, [], ◌∷◌, ◌++◌, map, ℕ, ◌-◌, ◌^◌, length, replicate}
use Rattle.std.specs.Prelude.{None, Some}
use Prim.Native.String as S
use Rattle.text.specs.Bytes.{Str, ascii, unit}
use Rattle.text.specs.Decimal.{decimal}
use Rattle.column.specs.Number.{trimmed, digits, unpadded, column_of, padded}
use Rattle.column.specs.Texts.{is_word, is_graphic, all, are_chars, is_name, is_field_name, is_graphic_text, ends_in}
use Rattle.column.specs.Examples.{utf8}
use Rattle.row.specs.Rows.{rows, onto, newlines, size, line_no}
use Rattle.row.specs.Newline.{first_newline, newline_from}
use Rattle.row.specs.Line.{root_line, node_line, parameter_line, field_line, group_line}
use Rattle.row.specs.Line.{type_line, scope_line, unbound_line, value_line, word_line}
use Rattle.row.specs.Line.{most_a, most_b, most_c, most_count, most_bits, reader, line_of, text_start, text_of}
use Rattle.row.specs.Print.{columns, row_text, print_line}
use Rattle.row.specs.Line.{Content, Root, Node, Parameter, Field, Group, Typ, Scope, Unbound, Value, Word, Bad}
use Rattle.row.specs.Line.{fault, byte}

-- texts, each right-justified in 21 columns
justified : List S.String → Str
justified [] = []
justified (w ∷ ws) = replicate (21 - length (ascii w)) 32 ++ ascii w ++ justified ws

-- a row by its letter, its numbers and what stands after them
row : S.String → List S.String → S.String → Str
row letter numbers end = ascii letter ++ justified numbers ++ utf8 end ++ unit 10

-- a row, and what it says
record Case : Type 0 where
  bytes : Str
  says : Content

◌says◌ : Str → Content → Case
r says l = record { bytes = r; says = l }

infix 70 ◌says◌
-- a bad line: its letter, the number of the refusal and the column
bad : S.String → ℕ → ℕ → Content
bad letter number column = Bad (byte letter) (fault number column)

-- no line: no letter, 2 at column 1
nothing : Content
nothing = Bad 0 (fault 2 1)

-- 60 letters
sixty : Str
sixty = ascii "abcdefghijklmnopqrstuvwxyzabcdefghijklmnopqrstuvwxyzabcdefgh"

-- an N line up to its module
node : Str
node = ascii "N" ++ justified ("7" ∷ "0" ∷ "0" ∷ "0" ∷ "1" ∷ "0" ∷ "0" ∷ []) ++ unit 32

numbers : List Case
numbers =
    row "W" ("0" ∷ []) "" says Word 0
    ∷ row "W" ("18446744073709551615" ∷ []) "" says Word (2 ^ 64 - 1)
    ∷ row "W" ("18446744073709551616" ∷ []) "" says bad "W" 16 2
    ∷ row "W" ("118446744073709551615" ∷ []) "" says bad "W" 16 2
    ∷ row "W" ("07" ∷ []) "" says bad "W" 16 2
    ∷ row "W" ("00" ∷ []) "" says bad "W" 16 2
    ∷ row "W" ("+7" ∷ []) "" says bad "W" 16 2
    ∷ row "W" ("7 7" ∷ []) "" says bad "W" 16 2
    ∷ row "W" ("7 " ∷ []) "" says bad "W" 16 2
    ∷ row "W" ("" ∷ []) "" says bad "W" 16 2
    ∷ row "W" ("7" ∷ []) " " says bad "W" 17 23
    ∷ row "W" [] "7" says bad "W" 16 2
    ∷ row "F" ("4294967295" ∷ "65535" ∷ "1" ∷ "1" ∷ []) " a" says Field (2 ^ 32 - 1) 65535 1 1
    ∷ row "F" ("4294967296" ∷ "65535" ∷ "1" ∷ "1" ∷ []) " a" says bad "F" 16 2
    ∷ row "F" ("3" ∷ "65536" ∷ "1" ∷ "0" ∷ []) " a" says bad "F" 16 23
    ∷ row "F" ("3" ∷ "65535" ∷ "2" ∷ "0" ∷ []) " a" says bad "F" 16 44
    ∷ row "N" ("7" ∷ "0" ∷ "0" ∷ "1" ∷ "0" ∷ "2" ∷ "4" ∷ []) " bed" says Node 7 0 0 1 0 2 4
    ∷ row "N" ("0" ∷ "0" ∷ "0" ∷ "1" ∷ "0" ∷ "0" ∷ "0" ∷ []) " bed" says bad "N" 16 2
    ∷ row "N" ("7" ∷ "0" ∷ "0" ∷ "1" ∷ "0" ∷ "65536" ∷ "0" ∷ []) " bed" says bad "N" 16 107
    ∷ row "G" ("1" ∷ "0" ∷ []) " a" says Group 1 0
    ∷ row "G" ("0" ∷ "0" ∷ []) " a" says bad "G" 16 2
    ∷ []

-- bounds that the numbers to the left set: the right one of two that disagree is bad
kinds : List Case
kinds =
    row "T" ("14" ∷ "0" ∷ "0" ∷ "0" ∷ []) "" says Typ 14 0 0 0
    ∷ row "T" ("14" ∷ "1" ∷ "0" ∷ "0" ∷ []) "" says bad "T" 16 23
    ∷ row "T" ("16" ∷ "0" ∷ "2" ∷ "0" ∷ []) "" says Typ 16 0 2 0
    ∷ row "T" ("16" ∷ "9" ∷ "2" ∷ "1" ∷ []) "" says bad "T" 16 65
    ∷ row "T" ("18" ∷ "0" ∷ "0" ∷ "0" ∷ []) "" says Typ 18 0 0 0
    ∷ row "T" ("18" ∷ "0" ∷ "7" ∷ "0" ∷ []) "" says bad "T" 16 44
    ∷ row "T" ("18" ∷ "0" ∷ "0" ∷ "1" ∷ []) "" says bad "T" 16 65
    ∷ row "T" ("18" ∷ "1" ∷ "18446744073709551615" ∷ "65535" ∷ []) "" says Typ 18 1 (2 ^ 64 - 1) 65535
    ∷ row "T" ("18" ∷ "1" ∷ "7" ∷ "65536" ∷ []) "" says bad "T" 16 65
    ∷ row "T" ("18" ∷ "2" ∷ "0" ∷ "0" ∷ []) "" says bad "T" 16 23
    ∷ row "T" ("19" ∷ "0" ∷ "0" ∷ "0" ∷ []) "" says bad "T" 16 2
    ∷ row "S" ("0" ∷ "1" ∷ "18446744073709551615" ∷ []) "" says Scope 0 1 (2 ^ 64 - 1)
    ∷ row "S" ("9" ∷ "0" ∷ "0" ∷ []) "" says Scope 9 0 0
    ∷ row "S" ("9" ∷ "0" ∷ "1" ∷ []) "" says bad "S" 16 44
    ∷ row "U" [] "" says Unbound
    ∷ row "U" [] " " says bad "U" 17 2
    ∷ row "V" ("0" ∷ "0" ∷ []) "" says Value 0 0
    ∷ row "V" ("0" ∷ "1" ∷ []) "" says bad "V" 16 23
    ∷ row "V" ("1" ∷ "1" ∷ []) "" says Value 1 1
    ∷ row "V" ("1" ∷ "2" ∷ []) "" says bad "V" 16 23
    ∷ row "V" ("2" ∷ "251" ∷ []) "" says Value 2 251
    ∷ row "V" ("6" ∷ "256" ∷ []) "" says bad "V" 16 23
    ∷ row "V" ("10" ∷ "4294967295" ∷ []) "" says Value 10 4294967295
    ∷ row "V" ("10" ∷ "4294967296" ∷ []) "" says bad "V" 16 23
    ∷ row "V" ("15" ∷ "65535" ∷ []) "" says Value 15 65535
    ∷ row "V" ("15" ∷ "65536" ∷ []) "" says bad "V" 16 23
    ∷ row "V" ("16" ∷ "1" ∷ []) "" says bad "V" 16 23
    ∷ []

texts : List Case
texts =
    row "P" [] " _T9" says Parameter
    ∷ row "P" [] " 9T" says bad "P" 17 3
    ∷ row "P" [] " " says bad "P" 17 3
    ∷ row "P" [] "  T" says bad "P" 17 3
    ∷ row "P" [] "T" says bad "P" 17 2
    ∷ row "P" [] " T:" says bad "P" 17 3
    ∷ row "R" [] " ::capnp" says Root
    ∷ row "R" [] " a b" says bad "R" 17 3
    -- letters with accents (N2), in F and G lines alone; a torn one
    ∷ row "F" ("0" ∷ "0" ∷ "0" ∷ "0" ∷ []) " étatÄ" says Field 0 0 0 0
    ∷ row "G" ("9" ∷ "0" ∷ []) " Übergabe" says Group 9 0
    ∷ row "F" ("0" ∷ "0" ∷ "0" ∷ "0" ∷ []) " a×" says bad "F" 17 87
    ∷ (ascii "G" ++ justified ("9" ∷ "0" ∷ []) ++ ascii " a" ++ unit 0xC3 ++ unit 10) says bad "G" 17 45
    ∷ row "P" [] " é" says bad "P" 17 3
    ∷ row "R" [] " é" says bad "R" 17 3
    ∷ (node ++ utf8 "é" ++ unit 10) says bad "N" 17 150
    ∷ (ascii "P " ++ sixty ++ ascii "abcd" ++ unit 10) says Parameter
    ∷ (ascii "P " ++ sixty ++ ascii "abcde" ++ unit 10) says bad "P" 17 3
    ∷ (ascii "R " ++ sixty ++ ascii "abcd" ++ unit 10) says Root
    ∷ (ascii "R " ++ sixty ++ ascii "abcde" ++ unit 10) says bad "R" 17 3
    ∷ (node ++ sixty ++ sixty ++ ascii "abcdefgh" ++ unit 10) says Node 7 0 0 0 1 0 0
    ∷ (node ++ sixty ++ sixty ++ ascii "abcdefghi" ++ unit 10) says bad "N" 17 150
    ∷ (ascii "R r" ++ unit 126 ++ unit 10) says Root
    ∷ (ascii "R r" ++ unit 127 ++ unit 10) says bad "R" 17 3
    ∷ []

-- where a line is bad (N5)
faults : List Case
faults =
    -- too short for a number: at that number, which may lie past the line
    row "T" [] "" says bad "T" 16 2
    ∷ row "T" ("18" ∷ "0" ∷ []) "" says bad "T" 16 44
    ∷ row "T" ("18" ∷ "0" ∷ "0" ∷ []) "                   0" says bad "T" 16 65
    ∷ row "N" ("7" ∷ "0" ∷ "0" ∷ "1" ∷ "0" ∷ "2" ∷ []) " bed" says bad "N" 16 128
    -- no space before a text: the line ends there, or another byte stands there
    ∷ row "R" [] "" says bad "R" 17 2
    ∷ row "P" [] "" says bad "P" 17 2
    ∷ row "F" ("3" ∷ "0" ∷ "1" ∷ "0" ∷ []) "" says bad "F" 17 86
    ∷ row "F" ("3" ∷ "0" ∷ "1" ∷ "0" ∷ []) "_a" says bad "F" 17 86
    ∷ row "G" ("1" ∷ "0" ∷ []) "" says bad "G" 17 44
    ∷ row "N" ("7" ∷ "0" ∷ "0" ∷ "1" ∷ "0" ∷ "2" ∷ "4" ∷ []) "_bed" says bad "N" 17 149
    -- an empty text, and a second space: one column further
    ∷ row "R" [] " " says bad "R" 17 3
    ∷ row "F" ("3" ∷ "0" ∷ "1" ∷ "0" ∷ []) " " says bad "F" 17 87
    ∷ row "G" ("1" ∷ "0" ∷ []) "  a" says bad "G" 17 45
    ∷ row "N" ("7" ∷ "0" ∷ "0" ∷ "1" ∷ "0" ∷ "2" ∷ "4" ∷ []) "  bed" says bad "N" 17 150
    -- surplus bytes on a line without a text, byte 13 too
    ∷ row "T" ("1" ∷ "0" ∷ "0" ∷ "0" ∷ []) " a" says bad "T" 17 86
    ∷ row "S" ("9" ∷ "0" ∷ "0" ∷ []) "0" says bad "S" 17 65
    ∷ row "V" ("1" ∷ "1" ∷ "0" ∷ []) "" says bad "V" 17 44
    ∷ (ascii "U" ++ unit 13 ++ unit 10) says bad "U" 17 2
    ∷ (ascii "W" ++ justified ("7" ∷ []) ++ unit 13 ++ unit 10) says bad "W" 17 23
    -- two faults: the leftmost, a number or the text
    ∷ row "G" ("0" ∷ "65536" ∷ []) " a" says bad "G" 16 2
    ∷ row "F" ("3" ∷ "65536" ∷ "1" ∷ "2" ∷ []) " 9" says bad "F" 16 23
    ∷ row "G" ("9" ∷ "65536" ∷ []) "a" says bad "G" 16 23
    ∷ row "G" ("9" ∷ "65535" ∷ []) " 9" says bad "G" 17 45
    ∷ row "W" ("07" ∷ []) " " says bad "W" 16 2
    -- no line: another letter, none, and no byte 10
    ∷ row "K" [] " a" says nothing
    ∷ row "u" [] "" says nothing
    ∷ row "t" ("19" ∷ []) " a" says nothing
    ∷ unit 10 says nothing
    ∷ ascii "U" says nothing
    ∷ ascii "R r" says nothing
    ∷ (ascii "W" ++ justified ("07" ∷ [])) says nothing
    ∷ []

read_all : List Case → List Content
read_all cs = map (λ c. line_of c.bytes) cs

expected : List Case → List Content
expected cs = map (λ c. c.says) cs

all-cases : read_all (numbers ++ kinds ++ texts ++ faults) ≡ expected (numbers ++ kinds ++ texts ++ faults)
unfolding justified row ◌says◌ bad nothing sixty node numbers kinds texts faults read_all expected trimmed digits unpadded
    column_of is_word is_graphic all are_chars is_name is_field_name is_graphic_text ends_in root_line node_line parameter_line
    field_line group_line type_line scope_line unbound_line value_line word_line most_a most_b most_c most_count most_bits
    reader line_of
all-cases = refl

-- document 01's example: the rows of the sheet, what each says, its text; and the same printed
lines : List Content
lines = Root ∷ Node 7 0 0 1 0 0 0 ∷ Field 3 65535 1 0 ∷ Typ 1 0 0 0 ∷ Value 1 1 ∷ []

names : List Str
names = ascii "::capnp" ∷ ascii "bed" ∷ ascii "isFree" ∷ [] ∷ [] ∷ []

sheet : Str
sheet =
    row "R" [] " ::capnp"
    ++ row "N" ("7" ∷ "0" ∷ "0" ∷ "1" ∷ "0" ∷ "0" ∷ "0" ∷ []) " bed"
    ++ row "F" ("3" ∷ "65535" ∷ "1" ∷ "0" ∷ []) " isFree"
    ++ row "T" ("1" ∷ "0" ∷ "0" ∷ "0" ∷ []) ""
    ++ row "V" ("1" ∷ "1" ∷ []) ""

printed_all : List Content → List Str → Str
printed_all [] ts = []
printed_all (l ∷ ls) [] = []
printed_all (l ∷ ls) (t ∷ ts) = print_line l t ++ printed_all ls ts

sheet-lines : map line_of (rows sheet) ≡ lines
unfolding justified row sheet lines rows onto trimmed digits unpadded column_of is_word is_graphic all are_chars is_name
    is_field_name is_graphic_text ends_in root_line node_line field_line type_line value_line most_a most_b most_c most_bits
    reader line_of
sheet-lines = refl

sheet-texts : map text_of (rows sheet) ≡ names
unfolding justified row sheet names rows onto text_start text_of
sheet-texts = refl

sheet-printed : printed_all lines names ≡ sheet
unfolding justified row sheet lines names printed_all decimal padded columns row_text
sheet-printed = refl

-- a last row without byte 10, and the number of each row
torn : map line_of (rows (row "U" [] "" ++ ascii "U")) ≡ Unbound ∷ nothing ∷ []
unfolding justified row nothing rows onto unbound_line reader line_of
torn = refl

second : line_no (row "U" [] "" ++ ascii "U") (rows (ascii "U")) ≡ 2
unfolding justified row rows onto newlines size line_no
second = refl

-- the first byte 10 from each start on, from the end and past it; bytes 11 and 138 are others
newlines-from :
    map (newline_from (11 ∷ 10 ∷ 138 ∷ 10 ∷ 65 ∷ [])) (0 ∷ 1 ∷ 2 ∷ 3 ∷ 4 ∷ 5 ∷ 9 ∷ [])
    ≡ Some 1 ∷ Some 1 ∷ Some 3 ∷ Some 3 ∷ None ∷ None ∷ None ∷ []
unfolding first_newline newline_from
newlines-from = refl
