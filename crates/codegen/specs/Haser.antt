-- `generate_haser` of codegen.rs for a slot. Assumes nothing.
use Rattle.std.specs.Prelude.{ℕ, Bool, ◌++◌, ◌==◌}
use Rattle.text.specs.Bytes.{Str, ascii, cond}
use Rattle.text.specs.Lines.{FormattedText, FormattedTexts, Branch, Line, none, ◌&◌, stringify}
use Rattle.names.specs.Names.{camel_to_snake_case}
use Rattle.tree.specs.Tree.{Slot, kind}
use Rattle.codegen_types.specs.TypeString.{is_pointer_kind}
use Rattle.calls.specs.Calls.{not_null, tag_test}
use Rattle.codegen.specs.Function.{function}

-- the test of the tag, where the field has a discriminant
abbrev pub tag_tests : Bool → ℕ → ℕ → FormattedTexts → FormattedTexts
tag_tests is_reader tag_offset discriminant more =
    cond (discriminant == 65535) more (Line (tag_test is_reader tag_offset discriminant) & more)

-- by the kind and the offset of the slot, the only numbers of it that are looked at
unfoldable pub generate_haser : ℕ → Str → ℕ → ℕ → ℕ → Bool → FormattedText
generate_haser tag_offset styled_name discriminant k offset is_reader =
    cond (is_pointer_kind k)
    (Branch (
    function (ascii "pub fn has_" ++ styled_name ++ ascii "(&self) -> bool {")
    (tag_tests is_reader tag_offset discriminant (Line (not_null is_reader offset) & none))
    none))
    (Branch none)

-- the text of a haser by its field's name, at a level
abbrev pub haser_of : ℕ → Str → ℕ → ℕ → ℕ → Bool → ℕ → Str
haser_of tag_offset name discriminant k offset is_reader =
    stringify (generate_haser tag_offset (camel_to_snake_case name) discriminant k offset is_reader)

-- the text of a haser's request at a level
unfoldable pub haser_request : ℕ → Str → ℕ → Slot → Bool → ℕ → Str
haser_request tag_offset name discriminant s is_reader = haser_of tag_offset name discriminant (kind s.ty) s.offset is_reader
