-- What the program `accessors` prints: document 01, 'The program'. Assumes nothing.
use Rattle.std.specs.Prelude.{List, [], ◌∷◌, ◌++◌, true, false, ℕ, ltb, length}
use Rattle.text.specs.Bytes.{Str, ascii, unit, cond}
use Rattle.text.specs.Decimal.{decimal}
use Rattle.tree.specs.Tree.{Arm, slot, group, Field, Node, Sheet}
use Rattle.tree.specs.Read as read
use Rattle.tree.specs.Read.{Admitted}
use Rattle.codegen_types.specs.Out.{Out, ok, refused}
use Rattle.requests.specs.Requests.{accessor_text}
use Rattle.requests.specs.declared.Accessor.{Accessor}
use Rattle.requests.specs.declared.Accessor.TheVariants as accessor
use Rattle.parts.specs.declared.Part.{Part}
use Rattle.parts.specs.declared.Part.TheVariants.{GetterReader, GetterBuilder, Setter, HaserReader, HaserBuilder, Zero}

-- all parts of an F line in their order, and the one part of a G line
abbrev pub slot_parts : List Part
slot_parts = GetterReader ∷ GetterBuilder ∷ Setter ∷ HaserReader ∷ HaserBuilder ∷ []

abbrev pub group_parts : List Part
group_parts = Zero ∷ []

abbrev pub parts_of : Arm → List Part
parts_of (slot s) = slot_parts
parts_of (group id) = group_parts

-- the accessor that is asked for a part: a getter in the form that is not a function
abbrev pub accessor_of : Part → Accessor
accessor_of GetterReader = accessor.Getter true false
accessor_of GetterBuilder = accessor.Getter false false
accessor_of Setter = accessor.Setter
accessor_of HaserReader = accessor.Haser true
accessor_of HaserBuilder = accessor.Haser false
accessor_of Zero = accessor.Zeroing

-- a header up to the name
abbrev pub opening : Part → Str
opening GetterReader = ascii "# getter reader "
opening GetterBuilder = ascii "# getter builder "
opening Setter = ascii "# setter "
opening HaserReader = ascii "# haser reader "
opening HaserBuilder = ascii "# haser builder "
opening Zero = ascii "# zero "

-- the header of a part
unfoldable pub header_text : Part → Str → Str
header_text part name = opening part ++ name ++ unit 10

-- what stands under the header of a refused part
unfoldable pub refused_text : ℕ → Str
refused_text k = ascii "refused " ++ decimal k ++ unit 10

-- what stands under a header: the text, if it has at most 65,536 bytes, else 22; or the refusal's number
unfoldable pub part_text : Out Str → Str
part_text (ok s) = cond (ltb 65536 (length s)) (refused_text 22) s
part_text (refused k) = refused_text k

-- a part of a field of a node: its header, and what stands under it
unfoldable pub printed_part : Sheet → Node × Field → Part → Str
printed_part sheet at part = header_text part at.1.name ++ part_text (accessor_text sheet at (accessor_of part) 0)

-- the text of each, one after the other
unfoldable pub each_text : {A : Type 0} → (A → Str) → List A → Str
each_text text [] = []
each_text text (x ∷ xs) = text x ++ each_text text xs

-- what is printed of a field: its parts
unfoldable pub field_text : Sheet → Node → Field → Str
field_text sheet n f = each_text (printed_part sheet (n, f)) (parts_of f.arm)

-- what is printed of a node: its fields
unfoldable pub node_text : Sheet → Node → Str
node_text sheet n = each_text (field_text sheet n) n.fields

-- a word and a number after it
abbrev pub labelled : Str → ℕ → Str
labelled label n = label ++ decimal n

-- what is printed of a refused sheet: all that is printed
unfoldable pub refused_sheet_text : ℕ → ℕ → ℕ → Str
refused_sheet_text k line column =
    labelled (ascii "refused ") k ++ labelled (ascii " line ") line ++ labelled (ascii " column ") column ++ unit 10

-- the whole output, node by node
unfoldable pub program_text : Admitted → Str
program_text (read.sheet sheet) = each_text (node_text sheet) sheet.nodes
program_text (read.refused k line column) = refused_sheet_text k line column
