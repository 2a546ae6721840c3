-- Request N14 of document 02: what a level of indentation does to the text of any request. Assumes nothing.
use Rattle.std.specs.Prelude.{◌≡◌, ◌++◌, ℕ, Option, None, Some, List, [], ◌∷◌}
use Rattle.text.specs.Bytes.{Str}
use Rattle.text.specs.Lines.{FormattedText, Branch, margin}
use Rattle.text.specs.Levels.{Laid, line, laid_out, shown}
use Rattle.names.specs.Names.{camel_to_snake_case}
use Rattle.tree.specs.Tree.{kind, Arm, slot, group, Field, Node, Sheet}
use Rattle.codegen_types.specs.Out.{Out, ok, refused, ◌then◌}
use Rattle.codegen_types.specs.TypeString.{type_string}
use Rattle.codegen_types.specs.declared.Leaf.{Leaf}
use Rattle.codegen.specs.Getter.{Getter as Made, getter_text}
use Rattle.codegen.specs.Profiles.{MaskRule, present_mask, paired_mask}
use Rattle.codegen.specs.Setter.{generate_setter}
use Rattle.codegen.specs.Haser.{generate_haser}
use Rattle.codegen.specs.Zeroing.{zero_fields_of_group}
use Rattle.field.specs.Slot.{SlotField}
use Rattle.requests.specs.Requests.{there, slot_field, group_of, accessor_text}
use Rattle.requests.specs.declared.Accessor.{Accessor}
use Rattle.requests.specs.declared.Accessor.TheVariants.{TypeText, Getter, Setter, PairedSetter, Haser, Zeroing}

-- ---- the lines of each text as they stand at level 0, by what the Rust's functions give

-- the result type of a getter is a line; behind it stand the code and the declaration, if there is one
abbrev pub declared_laid : Option FormattedText → List (List Laid)
declared_laid None = []
declared_laid (Some d) = laid_out d 0 ∷ []

abbrev pub getter_laid : Made → List (List Laid)
getter_laid g = (line g.result_type ∷ []) ∷ (laid_out g.code 0 ∷ declared_laid g.declaration)

abbrev pub tree_laid : FormattedText → List (List Laid)
tree_laid ft = laid_out ft 0 ∷ []

-- texts of lines, one behind the other, or a type's text, a line without its newline
pub data Shape : Type 0 where
  lined : List (List Laid) → Shape
  type_line : Str → Shape

abbrev pub type_shape : Sheet → Arm → Option Leaf → Out Shape
type_shape sheet (slot s) leaf = there leaf then type_string s.ty sheet then λ typ. ok (type_line typ)
type_shape sheet (group id) leaf = refused 15

abbrev pub setter_shape : MaskRule → Sheet → ℕ → SlotField → Out Shape
setter_shape rule sheet tag f =
    generate_setter rule sheet tag (camel_to_snake_case f.name) f.discriminant f.slot then λ ft. ok (lined (tree_laid ft))

abbrev pub accessor_shape : Sheet → Node × Field → Accessor → Out Shape
accessor_shape sheet at (TypeText leaf) = type_shape sheet at.1.arm leaf
accessor_shape sheet at (Getter is_reader is_fn) =
    slot_field at.1 then λ f. getter_text sheet f.name f.slot is_reader is_fn then λ g. ok (lined (getter_laid g))
accessor_shape sheet at Setter = slot_field at.1 then setter_shape present_mask sheet at.0.tag_offset
accessor_shape sheet at PairedSetter = slot_field at.1 then setter_shape paired_mask sheet at.0.tag_offset
accessor_shape sheet at (Haser is_reader) =
    slot_field at.1 then λ f.
    ok (lined (tree_laid (generate_haser at.0.tag_offset (camel_to_snake_case f.name) f.discriminant (kind f.slot.ty)
    f.slot.offset is_reader)))
accessor_shape sheet at Zeroing =
    group_of at.1.arm then λ id. zero_fields_of_group sheet 16 id then λ z. ok (lined (tree_laid (Branch z.result)))

-- ---- the law

unfoldable pub shown_all : ℕ → List (List Laid) → Str
shown_all level [] = []
shown_all level (ls ∷ more) = shown level ls ++ shown_all level more

-- at a level: every line but a `BlankLine` has the level's spaces in front, and a text of no lines is one newline
abbrev pub shown_at : ℕ → Shape → Str
shown_at level (lined ts) = shown_all level ts
shown_at level (type_line s) = margin level ++ s

-- for every sheet, every field of a node and whatever is asked of it, at every level, above 8 too
abbrev pub LevelsHold : Type 0
LevelsHold =
    (sheet : Sheet) (at : Node × Field) (accessor : Accessor) (level : ℕ)
    → accessor_text sheet at accessor level ≡ (accessor_shape sheet at accessor then λ x. ok (shown_at level x))
