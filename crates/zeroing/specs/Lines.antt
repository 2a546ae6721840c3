-- The lines of a group's zeroing by type and offset: when a slot's line repeats one before it. Assumes nothing.
use Rattle.std.specs.Prelude.{Bool, false, List, [], ◌∷◌, ◌++◌, map, ℕ, eqb, leb}
use Rattle.text.specs.Bytes.{Str, cond, both, either}
use Rattle.text.specs.Lines.{margin}
use Rattle.tree.specs.Tree.{kind, Arm, slot, group, Field}
use Rattle.calls.specs.Calls.{zero_bool, zero_data, zero_tag, clear_pointer}
use Rattle.codegen_types.specs.Primitive.{primitive_text}

-- the type of a slot's line by its kind: Void 0 has no line, Bool is 1, the numbers are 2 to 11, an enum is Uint16's 7, every
-- pointer is 12
unfoldable pub line_type : ℕ → ℕ
line_type kind = cond (eqb kind 15) 7 (cond (leb kind 11) kind 12)

-- the line of a type at an offset
unfoldable pub zero_text : ℕ → ℕ → Str
zero_text type offset =
    cond (eqb type 1) (zero_bool offset) (cond (leb type 11) (zero_data (primitive_text type) offset) (clear_pointer offset))

-- whether a field of this group has the line of a type at an offset; a group inside it has none of them
unfoldable pub has_line : ℕ → ℕ → Arm → Bool
has_line type offset (slot s) = both (eqb s.offset offset) (eqb (line_type (kind s.ty)) type)
has_line type offset (group id) = false

unfoldable pub repeats : ℕ → ℕ → List Field → Bool
repeats type offset [] = false
repeats type offset (f ∷ fs) = either (has_line type offset f.arm) (repeats type offset fs)

-- the line that a slot adds to its group's: none for Void, none where it is there again
abbrev pub slot_lines : ℕ → ℕ → Bool → List Str
slot_lines type offset again = cond (eqb type 0) [] (cond again [] (zero_text type offset ∷ []))

-- the tag's line, where a node has a tag
abbrev pub tag_lines : ℕ → ℕ → List Str
tag_lines tag_count tag_offset = cond (eqb tag_count 0) [] (zero_tag tag_offset ∷ [])

-- lines, each with the margin of a level
abbrev pub with_margin : List Str → ℕ → List Str
with_margin lines level = map (λ line. margin level ++ line) lines
