-- A line printed from its numbers and its text: the row's bytes, with its byte 10. Assumes nothing.
use Rattle.std.specs.Prelude.{◌≡◌, true, List, [], ◌∷◌, ◌++◌, ℕ, ◌≤◌}
use Rattle.text.specs.Bytes.{Str, unit}
use Rattle.column.specs.Number.{most, padded}
use Rattle.column.specs.Texts.{is_name, is_field_name, is_graphic_text}
use Rattle.row.specs.Line.{byte, most_a, most_b, most_c, most_count, most_bits}
use Rattle.row.specs.Line.{Content, Root, Node, Parameter, Field, Group, Typ, Scope, Unbound, Value, Word, Bad}

-- numbers, each in its columns, and what stands after them
unfoldable pub columns : List ℕ → Str → Str
columns [] end = end
columns (n ∷ ns) end = padded n ++ columns ns end

-- a letter, numbers, what stands after them, byte 10
unfoldable pub row_text : ℕ → List ℕ → Str → Str
row_text letter ns end = letter ∷ columns ns (end ++ unit 10)

-- a text after its space
abbrev pub spaced : Str → Str
spaced text = 32 ∷ text

abbrev pub print_root : Str → Str
print_root text = row_text (byte "R") [] (spaced text)

abbrev pub print_node : ℕ → ℕ → ℕ → ℕ → ℕ → ℕ → ℕ → Str → Str
print_node id parent scope is_struct generic tag_count tag_offset text =
    row_text (byte "N") (id ∷ parent ∷ scope ∷ is_struct ∷ generic ∷ tag_count ∷ tag_offset ∷ []) (spaced text)

abbrev pub print_parameter : Str → Str
print_parameter text = row_text (byte "P") [] (spaced text)

abbrev pub print_field : ℕ → ℕ → ℕ → ℕ → Str → Str
print_field offset discriminant explicit option text =
    row_text (byte "F") (offset ∷ discriminant ∷ explicit ∷ option ∷ []) (spaced text)

abbrev pub print_group : ℕ → ℕ → Str → Str
print_group id discriminant text = row_text (byte "G") (id ∷ discriminant ∷ []) (spaced text)

abbrev pub print_type : ℕ → ℕ → ℕ → ℕ → Str
print_type kind a b c = row_text (byte "T") (kind ∷ a ∷ b ∷ c ∷ []) []

abbrev pub print_scope : ℕ → ℕ → ℕ → Str
print_scope id bind count = row_text (byte "S") (id ∷ bind ∷ count ∷ []) []

abbrev pub print_unbound : Str
print_unbound = row_text (byte "U") [] []

abbrev pub print_value : ℕ → ℕ → Str
print_value kind bits = row_text (byte "V") (kind ∷ bits ∷ []) []

abbrev pub print_word : ℕ → Str
print_word value = row_text (byte "W") (value ∷ []) []

-- a line with its text, printed
abbrev pub print_line : Content → Str → Str
print_line Root text = print_root text
print_line (Node i p s x g c o) text = print_node i p s x g c o text
print_line Parameter text = print_parameter text
print_line (Field o d e p) text = print_field o d e p text
print_line (Group i d) text = print_group i d text
print_line (Typ k a b c) text = print_type k a b c
print_line (Scope i b n) text = print_scope i b n
print_line Unbound text = print_unbound
print_line (Value k b) text = print_value k b
print_line (Word v) text = print_word v
print_line (Bad x k) text = []

-- document 01's bounds for a line and its text; a line without a text has an empty one
abbrev pub Fits : Content → Str → Type 0
Fits Root text = is_graphic_text 64 text ≡ true
Fits (Node i p s x g c o) text =
    ((1 ≤ i) × (i ≤ most 64)) × (p ≤ most 64) × (s ≤ most 64) × (x ≤ 1) × (g ≤ 1) × (c ≤ most 16) × (o ≤ most 32)
    × (is_graphic_text 128 text ≡ true)
Fits Parameter text = is_name text ≡ true
Fits (Field o d e p) text = (o ≤ most 32) × (d ≤ most 16) × (e ≤ 1) × (p ≤ 1) × (is_field_name text ≡ true)
Fits (Group i d) text = ((1 ≤ i) × (i ≤ most 64)) × (d ≤ most 16) × (is_field_name text ≡ true)
Fits (Typ k a b c) text = (k ≤ 18) × (a ≤ most_a k) × (b ≤ most_b k a) × (c ≤ most_c k a) × (text ≡ [])
Fits (Scope i b n) text = (i ≤ most 64) × (b ≤ 1) × (n ≤ most_count b) × (text ≡ [])
Fits Unbound text = text ≡ []
Fits (Value k b) text = (k ≤ 18) × (b ≤ most_bits k) × (text ≡ [])
Fits (Word v) text = (v ≤ most 64) × (text ≡ [])
Fits (Bad x k) text = ⊥
