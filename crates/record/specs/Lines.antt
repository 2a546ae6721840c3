-- The lines and texts of a slot's accessors, from the calls in them: those of Void, Bool, numeric and enum slots, the hasers of
-- pointer slots, and zeroing lines. What stands in a function's opening line or in a result type is left open. Assumes nothing.
use Rattle.std.specs.Prelude.{Bool, List, [], ◌∷◌, ◌++◌, ℕ}
use Rattle.std.specs.Prelude.{Option, None, Some}
use Rattle.text.specs.Bytes.{Str, ascii, unit}
use Rattle.text.specs.Lines.{FormattedTexts, Indent, Branch, Line, none as no_more, ◌&◌, stringify}
use Rattle.record.specs.Types.{type_name_of, Kind, bool, num, enum}
use Rattle.calls.specs.Calls.{get_bool_field, get_data_field, get_enum_field, set_bool_field, set_data_field, set_tag, zero_bool}
use Rattle.calls.specs.Calls.{zero_data, zero_tag, clear_pointer, not_null, tag_test}

-- ---- lines of a slot, from its kind, its offset and the mask as it is written

abbrev pub get_line : Bool → Kind → ℕ → Option Str → Str
get_line is_reader bool o mask = get_bool_field is_reader o mask
get_line is_reader (num t) o mask = get_data_field is_reader (type_name_of t) o mask
get_line is_reader enum o mask = get_enum_field is_reader o mask

abbrev pub set_line : Kind → ℕ → Option Str → Str
set_line bool o mask = set_bool_field o (ascii "value") mask
set_line (num t) o mask = set_data_field (type_name_of t) o (ascii "value") mask
set_line enum o mask = set_data_field (ascii "u16") o (ascii "value as u16") mask

abbrev pub zero_call : Kind → ℕ → Str
zero_call bool o = zero_bool o
zero_call (num t) o = zero_data (type_name_of t) o
zero_call enum o = zero_data (ascii "u16") o

-- what a zeroing line is of: a slot with bits, a node's tag, a pointer slot
pub data Zero : Type 0 where
  of_slot : Kind → ℕ → Zero
  of_tag : ℕ → Zero
  of_pointer : ℕ → Zero

abbrev pub zeroing_line : Zero → Str
zeroing_line (of_slot k o) = zero_call k o
zeroing_line (of_tag o) = zero_tag o
zeroing_line (of_pointer i) = clear_pointer i

-- ---- texts, as `stringify` makes them, of level 0

-- a union's tag: its offset, and the member's discriminant value
abbrev pub Tag : Type 0
Tag = ℕ × ℕ

-- A function of an accessor: `#[inline]`, the opening line, the body moved in, a brace.
unfoldable pub function_text : Str → FormattedTexts → Str
function_text opening body =
    stringify (Branch (Line (ascii "#[inline]") & Line opening & Indent (Branch body) & Line (ascii "}") & no_more)) 0

-- a setter's body: the tag's line where the slot is a union's member, then the set; a Void slot has no set
abbrev pub tag_then : Option Tag → FormattedTexts → FormattedTexts
tag_then None more = more
tag_then (Some t) more = Line (set_tag t.0 t.1) & more

abbrev pub setter_text : Str → Option Tag → Kind → ℕ → Option Str → Str
setter_text opening tag k o mask = function_text opening (tag_then tag (Line (set_line k o mask) & no_more))

abbrev pub void_setter_text : Str → Option Tag → Str
void_setter_text opening tag = function_text opening (tag_then tag no_more)

-- A getter: the result type, a newline, then `stringify` of the line of its get.
unfoldable pub getter_lines : Str → Str → Str
getter_lines typ line = typ ++ unit 10 ++ stringify (Line line) 0

-- a haser's body: the test of the tag where there is one, then that the pointer is not null
abbrev pub haser_body : Bool → Option Tag → ℕ → FormattedTexts
haser_body is_reader None i = Line (not_null is_reader i) & no_more
haser_body is_reader (Some t) i = Line (tag_test is_reader t.0 t.1) & Line (not_null is_reader i) & no_more

abbrev pub haser_text : Str → Bool → Option Tag → ℕ → Str
haser_text opening is_reader tag i = function_text opening (haser_body is_reader tag i)

-- the lines of a zeroing
abbrev pub zero_texts : List Zero → List Str
zero_texts [] = []
zero_texts (z ∷ zs) = zeroing_line z ∷ zero_texts zs
