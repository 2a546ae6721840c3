-- The calls on a record's sections as codegen.rs writes them, in its names: what the accessors are proved to write, and what the
-- meaning of texts runs on a record. A mask is its text, or none where the call is plain. Assumes nothing.
use Rattle.std.specs.Prelude.{ℕ, Bool, true, false, ◌++◌}
use Rattle.std.specs.Prelude.{Option, None, Some}
use Rattle.text.specs.Bytes.{Str, ascii}
use Rattle.text.specs.Decimal.{decimal}

-- the field of the accessors' struct: getter_text's `member`
abbrev pub member : Bool → Str
member true = ascii "reader"
member false = ascii "builder"

-- ---- gets (getter_text)

unfoldable pub get_bool_field : Bool → ℕ → Option Str → Str
get_bool_field is_reader offset None =
    ascii "self." ++ member is_reader ++ ascii ".get_bool_field(" ++ decimal offset ++ ascii ")"
get_bool_field is_reader offset (Some mask) =
    ascii "self." ++ member is_reader ++ ascii ".get_bool_field_mask(" ++ decimal offset ++ ascii ", " ++ mask ++ ascii ")"

unfoldable pub get_data_field : Bool → Str → ℕ → Option Str → Str
get_data_field is_reader typ offset None =
    ascii "self." ++ member is_reader ++ ascii ".get_data_field::<" ++ typ ++ ascii ">(" ++ decimal offset ++ ascii ")"
get_data_field is_reader typ offset (Some mask) =
    ascii "self." ++ member is_reader ++ ascii ".get_data_field_mask::<" ++ typ ++ ascii ">(" ++ decimal offset
    ++ ascii ", " ++ mask ++ ascii ")"

-- the get of an enum: its number, turned into the enum
abbrev pub get_enum_field : Bool → ℕ → Option Str → Str
get_enum_field is_reader offset mask =
    ascii "::core::convert::TryFrom::try_from(" ++ get_data_field is_reader (ascii "u16") offset mask ++ ascii ")"

-- ---- sets (generate_setter, zero_fields_of_group); the value is written as it stands in the call

unfoldable pub set_bool_field : ℕ → Str → Option Str → Str
set_bool_field offset value None = ascii "self.builder.set_bool_field(" ++ decimal offset ++ ascii ", " ++ value ++ ascii ");"
set_bool_field offset value (Some mask) =
    ascii "self.builder.set_bool_field_mask(" ++ decimal offset ++ ascii ", " ++ value ++ ascii ", " ++ mask ++ ascii ");"

unfoldable pub set_data_field : Str → ℕ → Str → Option Str → Str
set_data_field typ offset value None =
    ascii "self.builder.set_data_field::<" ++ typ ++ ascii ">(" ++ decimal offset ++ ascii ", " ++ value ++ ascii ");"
set_data_field typ offset value (Some mask) =
    ascii "self.builder.set_data_field_mask::<" ++ typ ++ ascii ">(" ++ decimal offset ++ ascii ", " ++ value
    ++ ascii ", " ++ mask ++ ascii ");"

-- a setter's line that writes the union's tag
abbrev pub set_tag : ℕ → ℕ → Str
set_tag offset discriminant = set_data_field (ascii "u16") offset (decimal discriminant) None

-- zeroing: a Bool, a number or enum (the type stands after the 0 too), a node's tag, a pointer
abbrev pub zero_bool : ℕ → Str
zero_bool offset = set_bool_field offset (ascii "false") None

abbrev pub zero_data : Str → ℕ → Str
zero_data typ offset = set_data_field typ offset (ascii "0" ++ typ) None

abbrev pub zero_tag : ℕ → Str
zero_tag offset = set_data_field (ascii "u16") offset (ascii "0") None

unfoldable pub clear_pointer : ℕ → Str
clear_pointer offset = ascii "self.builder.reborrow().get_pointer_field(" ++ decimal offset ++ ascii ").clear();"

-- ---- tests (generate_haser)

unfoldable pub not_null : Bool → ℕ → Str
not_null true offset = ascii "!self.reader.get_pointer_field(" ++ decimal offset ++ ascii ").is_null()"
not_null false offset = ascii "!self.builder.is_pointer_field_null(" ++ decimal offset ++ ascii ")"

unfoldable pub tag_test : Bool → ℕ → ℕ → Str
tag_test is_reader offset discriminant =
    ascii "if self." ++ member is_reader ++ ascii ".get_data_field::<u16>(" ++ decimal offset
    ++ ascii ") != " ++ decimal discriminant ++ ascii " { return false; }"
