-- The parts of a call, one after the other, are the call, plain or masked: by the mask and the side. Assumes nothing.
use Rattle.std.specs.Prelude.{◌≡◌, ℕ, Bool, true, false, ◌++◌}
use mathlib.Core.Path.{refl, sym, ap, ◌∙◌}
use Rattle.std.specs.Prelude.{Option, None, Some}
use mathlib.Core.List.{append_assoc, append-nil}
use Rattle.text.specs.Bytes.{Str, ascii}
use Rattle.text.specs.Decimal.{decimal}
use Rattle.calls.specs.Calls.{get_bool_field, get_data_field, set_bool_field, set_data_field, tag_test}
use Rattle.calls.specs.Calls.{zero_bool, zero_tag, zero_data}
use Rattle.std.specs.Option.{is_some}
use Rattle.calls.specs.Mask.{argument_text, mask_text, last_argument}
use Rattle.calls.specs.declared.Mask.{Mask}

-- what the code writes first: a get up to its offset, or up to its type
abbrev pub get_bool_head : Bool → Bool → Str
get_bool_head true false = ascii "self.reader.get_bool_field("
get_bool_head true true = ascii "self.reader.get_bool_field_mask("
get_bool_head false false = ascii "self.builder.get_bool_field("
get_bool_head false true = ascii "self.builder.get_bool_field_mask("

abbrev pub get_data_head : Bool → Bool → Str
get_data_head true false = ascii "self.reader.get_data_field::<"
get_data_head true true = ascii "self.reader.get_data_field_mask::<"
get_data_head false false = ascii "self.builder.get_data_field::<"
get_data_head false true = ascii "self.builder.get_data_field_mask::<"

-- a set up to its offset, or up to its type
abbrev pub set_bool_head : Bool → Str
set_bool_head false = ascii "self.builder.set_bool_field("
set_bool_head true = ascii "self.builder.set_bool_field_mask("

abbrev pub set_data_head : Bool → Str
set_data_head false = ascii "self.builder.set_data_field::<"
set_data_head true = ascii "self.builder.set_data_field_mask::<"

-- a test of the tag up to its offset
abbrev pub tag_test_head : Bool → Str
tag_test_head true = ascii "if self.reader.get_data_field::<u16>("
tag_test_head false = ascii "if self.builder.get_data_field::<u16>("

-- a call's text x, its last argument, its end
plain : (x end : Str) → x ++ last_argument None ++ end ≡ x ++ end
plain x end = ap (λ (s : Str). s ++ end) (append-nil x)

masked : (x m end : Str) → x ++ last_argument (Some m) ++ end ≡ x ++ ascii ", " ++ m ++ end
masked x m end = ap (λ (s : Str). s ++ end) (sym (append_assoc x (ascii ", ") m))

pub get-bool : (is_reader : Bool) (o : ℕ) (m : Option Mask)
    → get_bool_head is_reader (is_some m) ++ decimal o ++ last_argument (mask_text m) ++ ascii ")"
    ≡ get_bool_field is_reader o (mask_text m)
unfolding get_bool_field
get-bool true o None = plain (get_bool_head true false ++ decimal o) (ascii ")")
get-bool true o (Some m) = masked (get_bool_head true true ++ decimal o) (argument_text m) (ascii ")")
get-bool false o None = plain (get_bool_head false false ++ decimal o) (ascii ")")
get-bool false o (Some m) = masked (get_bool_head false true ++ decimal o) (argument_text m) (ascii ")")

pub get-data : (is_reader : Bool) (typ : Str) (o : ℕ) (m : Option Mask)
    → get_data_head is_reader (is_some m) ++ typ ++ ascii ">(" ++ decimal o ++ last_argument (mask_text m) ++ ascii ")"
    ≡ get_data_field is_reader typ o (mask_text m)
unfolding get_data_field
get-data true typ o None = plain (get_data_head true false ++ typ ++ ascii ">(" ++ decimal o) (ascii ")")
get-data true typ o (Some m) = masked (get_data_head true true ++ typ ++ ascii ">(" ++ decimal o) (argument_text m) (ascii ")")
get-data false typ o None = plain (get_data_head false false ++ typ ++ ascii ">(" ++ decimal o) (ascii ")")
get-data false typ o (Some m) = masked (get_data_head false true ++ typ ++ ascii ">(" ++ decimal o) (argument_text m) (ascii ")")

pub set-bool : (o : ℕ) (value : Str) (m : Option Mask)
    → set_bool_head (is_some m) ++ decimal o ++ ascii ", " ++ value ++ last_argument (mask_text m) ++ ascii ");"
    ≡ set_bool_field o value (mask_text m)
unfolding set_bool_field
set-bool o value None = plain (set_bool_head false ++ decimal o ++ ascii ", " ++ value) (ascii ");")
set-bool o value (Some m) = masked (set_bool_head true ++ decimal o ++ ascii ", " ++ value) (argument_text m) (ascii ");")

pub set-data : (typ : Str) (o : ℕ) (value : Str) (m : Option Mask)
    → set_data_head (is_some m) ++ typ ++ ascii ">(" ++ decimal o ++ ascii ", " ++ value ++ last_argument (mask_text m)
    ++ ascii ");"
    ≡ set_data_field typ o value (mask_text m)
unfolding set_data_field
set-data typ o value None = plain (set_data_head false ++ typ ++ ascii ">(" ++ decimal o ++ ascii ", " ++ value) (ascii ");")
set-data typ o value (Some m) =
    masked (set_data_head true ++ typ ++ ascii ">(" ++ decimal o ++ ascii ", " ++ value) (argument_text m) (ascii ");")

pub tag_test_lem : (is_reader : Bool) (o d : ℕ)
    → tag_test_head is_reader ++ decimal o ++ ascii ") != " ++ decimal d ++ ascii " { return false; }" ≡ tag_test is_reader o d
unfolding tag_test
tag_test_lem true o d = refl
tag_test_lem false o d = refl

-- constants at the end of a zeroing's call, merged
merged : (x a b c : Str) → x ++ a ++ b ++ c ≡ x ++ (a ++ b ++ c)
merged x a b c = append_assoc (x ++ a) b c ∙ append_assoc x a (b ++ c) ∙ ap (λ (s : Str). x ++ s) (sym (append_assoc a b c))

pub zero-bool : (o : ℕ) → ascii "self.builder.set_bool_field(" ++ decimal o ++ ascii ", false);" ≡ zero_bool o
unfolding set_bool_field
zero-bool o = sym (merged (set_bool_head false ++ decimal o) (ascii ", ") (ascii "false") (ascii ");"))

pub zero_tag_lem : (o : ℕ) → ascii "self.builder.set_data_field::<u16>(" ++ decimal o ++ ascii ", 0);" ≡ zero_tag o
unfolding set_data_field
zero_tag_lem o = sym (merged (ascii "self.builder.set_data_field::<u16>(" ++ decimal o) (ascii ", ") (ascii "0") (ascii ");"))

pub zero-data : (typ : Str) (o : ℕ)
    → ascii "self.builder.set_data_field::<" ++ typ ++ ascii ">(" ++ decimal o ++ ascii ", 0" ++ typ ++ ascii ");"
    ≡ zero_data typ o
unfolding set_data_field
zero-data typ o =
    let x = set_data_head false ++ typ ++ ascii ">(" ++ decimal o in
    ap (λ (s : Str). s ++ ascii ");") (append_assoc x (ascii ", 0") typ ∙ sym (append_assoc x (ascii ", ") (ascii "0" ++ typ)))
