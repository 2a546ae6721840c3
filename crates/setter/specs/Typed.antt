-- Texts with a type that is read in the sheet, and the ends of the functions that have one. Those in which lines begin have the
-- level last. Assumes nothing.
use Rattle.std.specs.Prelude.{Bool, true, false, List, ◌++◌, ℕ, ◌+◌, drop, Result}
use Rattle.text.specs.Bytes.{Str, ascii}
use Rattle.text.specs.Lines.{margin, broken, stringify}
use Rattle.text.specs.declared.Text.{Text}
use Rattle.row.specs.Rows.{rows}
use Rattle.tree.specs.Tree as tree
use Rattle.tree.specs.Tree.{Ty, Sheet}
use Rattle.tree.specs.Read.{read_type}
use Rattle.tree.specs.Reader.{On}
use Rattle.codegen_types.specs.Out.{Out, ok, ◌then◌}
use Rattle.codegen_types.specs.TypeString.{type_string}
use Rattle.codegen_types.specs.declared.Leaf.TheVariants.{Owned, Builder}
use Rattle.codegen_types.specs.declared.Lifetime.TheVariants.{A}
use Rattle.codegen_types.specs.Written.{Writes}
use Rattle.terms.specs.declared.refusals.Refusal.{Refusal}
use Rattle.nodes.specs.Index.{InSource}
use Rattle.nodes.specs.declared.Source.{Source}
use Rattle.names.specs.Names.{name_of}
use Rattle.setter_code.specs.declared.Target.{Target}
use Rattle.codegen.specs.Profiles.{MaskRule, rule_of}
use Rattle.codegen.specs.Setter.{set_pointer, init_pointer, setter_input, generate_setter}
use Rattle.setter_code.specs.Parts.{tag_line, start, set_close, init_open}

-- what is made of the type at a position, in every sheet that the index has, is written
abbrev pub Types : Source → ℕ → (Sheet → Ty → Out Str) → List ℕ → Text → List ℕ → Result Text Refusal → Type 0
Types source at made l t l' r =
    InSource source (λ sheet. On (read_type 16 (rows (drop at source.bytes.now))) (λ ty. Writes (made sheet ty) l t l' r))

-- what a setter takes where its type has several SetterInput impls
abbrev pub input_type : Sheet → Ty → Out Str
input_type sheet ty = type_string ty sheet Owned then λ owned. ok (setter_input sheet.root owned)

-- a setter of a pointer, after its value's type
abbrev pub set_end : Str → ℕ → ℕ → ℕ → ℕ → Str
set_end root tag discriminant offset level =
    set_close root true ++ tag_line tag discriminant level ++ margin (level + 1) ++ set_pointer root offset
    ++ broken (ascii "\n}\n") level

-- an initializer from its result's type up to its last line, and up to its end
abbrev pub init_start : ℕ → ℕ → ℕ → Str
init_start tag discriminant = start (ascii " {\n") tag discriminant

abbrev pub init_end : ℕ → ℕ → Str → ℕ → Str
init_end tag discriminant line level = init_start tag discriminant level ++ line ++ broken (ascii "\n}\n") level

-- what an initializer passes as the size: its parameter, where it has one
abbrev pub size_argument : Bool → Str
size_argument true = ascii "size"
size_argument false = ascii "0"

-- a list's or a struct's functions after the type of what is set: the setter's end, and the initializer of an object, with a size
-- or not
abbrev pub object_end : Target → Bool → Sheet → Ty → ℕ → Out Str
object_end target sized sheet ty level =
    type_string ty sheet (Builder A) then λ builder_type.
    ok (set_end sheet.root target.tag target.slot.discriminant target.slot.offset level
    ++ init_open (name_of target.name) sized level
    ++ builder_type
    ++ init_end target.tag target.slot.discriminant (init_pointer sheet.root target.slot.offset (size_argument sized)) level)

-- the text of a setter by its styled name, at a level
abbrev pub setter_text_of : MaskRule → Sheet → ℕ → Str → ℕ → tree.Slot → ℕ → Out Str
setter_text_of rule sheet tag_offset styled_name discriminant s level =
    generate_setter rule sheet tag_offset styled_name discriminant s then λ ft. ok (stringify ft level)

-- the same, for what a setter is written for
abbrev pub setter_for : Sheet → Target → tree.Slot → ℕ → Out Str
setter_for sheet target s =
    setter_text_of (rule_of target.profile) sheet target.tag (name_of target.name) target.slot.discriminant s
