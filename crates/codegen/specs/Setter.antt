-- `generate_setter` of codegen.rs for a slot: a setter, an initializer, or both. The rule for its mask is a parameter, so that
-- both profiles are this one text. Assumes nothing.
use Rattle.std.specs.Prelude.{ℕ, Bool, true, false, [], ◌++◌, ◌==◌, nat_le}
use Rattle.std.specs.Prelude.{Option, None, Some}
use Rattle.text.specs.Bytes.{Str, ascii, cond, either}
use Rattle.text.specs.Decimal.{decimal}
use Rattle.text.specs.Lines.{FormattedText, FormattedTexts, Indent, Branch, Line, none, ◌&◌, stringify}
use Rattle.names.specs.Names.{camel_to_snake_case}
use Rattle.tree.specs.Tree.{Ty, plain, list, enum, struct, interface, any_pointer, parameter, kind, Slot, Sheet}
use Rattle.codegen_types.specs.Out.{Out, ok, ◌then◌}
use Rattle.codegen_types.specs.TypeString.{type_string, get_qualified_module}
use Rattle.codegen_types.specs.declared.Leaf.TheVariants.{Reader, Builder, Owned, Client}
use Rattle.codegen_types.specs.declared.Lifetime.TheVariants.{A, Anonymous}
use Rattle.calls.specs.Calls.{set_bool_field, set_data_field, set_tag}
use Rattle.codegen.specs.Profiles.{MaskRule}
use Rattle.codegen.specs.Function.{function}

-- What the match over the slot's type gives: the setter's parameter and its line, the reader type if there is a setter, whether
-- that returns a result; the initializer's parameters and its lines, the builder type if there is one; the result type and the
-- line of `initn_` for a parameter.
pub record Parts : Type 0 where
  pub setter_param : Str
  pub setter_interior : FormattedTexts
  pub reader_type : Option Str
  pub return_result : Bool
  pub initter_params : Str
  pub initter_interior : FormattedTexts
  pub builder_type : Option Str
  pub initn : Option (Str × Str)

-- a setter alone
abbrev pub setter_only : Str → FormattedTexts → Str → Parts
setter_only param interior typ = record {
  setter_param = param;
  setter_interior = interior;
  reader_type = Some typ;
  return_result = false;
  initter_params = [];
  initter_interior = none;
  builder_type = None;
  initn = None;
}

-- a setter and an initializer
abbrev pub setter_and_initter : FormattedTexts → Str → Bool → Str → FormattedTexts → Str → Option (Str × Str) → Parts
setter_and_initter interior reader_type result params initter builder_type initn = record {
  setter_param = ascii "value";
  setter_interior = interior;
  reader_type = Some reader_type;
  return_result = result;
  initter_params = params;
  initter_interior = initter;
  builder_type = Some builder_type;
  initn = initn;
}

abbrev pub line_alone : Str → FormattedTexts
line_alone l = Line l & none

-- the calls on a pointer field
abbrev pub pointer_field : ℕ → Str
pointer_field offset = ascii "self.builder.get_pointer_field(" ++ decimal offset ++ ascii ")"

abbrev pub reborrowed : ℕ → Str
reborrowed offset = ascii "self.builder.reborrow().get_pointer_field(" ++ decimal offset ++ ascii ")"

abbrev pub set_pointer : Str → ℕ → Str
set_pointer root offset =
    root ++ ascii "::traits::SetterInput::set_pointer_builder(" ++ reborrowed offset ++ ascii ", value, false)"

abbrev pub init_pointer : Str → ℕ → Str → Str
init_pointer root offset size =
    root ++ ascii "::traits::FromPointerBuilder::init_pointer(" ++ pointer_field offset ++ ascii ", " ++ size ++ ascii ")"

abbrev pub setter_input : Str → Str → Str
setter_input root t = ascii "impl " ++ root ++ ascii "::traits::SetterInput<" ++ t ++ ascii ">"

-- a slot's mask by a rule
abbrev pub mask_by : MaskRule → Slot → Out (Option Str)
mask_by rule s = rule (kind s.ty) s.explicit s.default

-- a Bool or a number: plain, or masked
abbrev pub prim_parts : MaskRule → Sheet → Slot → Out Parts
prim_parts rule sheet s =
    cond (kind s.ty == 1)
    (mask_by rule s then λ mask.
    ok (setter_only (ascii "value") (line_alone (set_bool_field s.offset (ascii "value") mask)) (ascii "bool")))
    (type_string s.ty sheet (Reader A) then λ typ.
    mask_by rule s then λ mask.
    ok (setter_only (ascii "value") (line_alone (set_data_field typ s.offset (ascii "value") mask)) typ))

abbrev pub text_parts : Str → ℕ → Parts
text_parts root offset =
    setter_and_initter
    (line_alone (set_pointer root offset ++ ascii ".unwrap()")) (setter_input root (root ++ ascii "::text::Owned")) false
    (ascii "size: u32") (line_alone (pointer_field offset ++ ascii ".init_text(size)")) (root ++ ascii "::text::Builder<'a>")
    None

abbrev pub data_parts : Str → ℕ → Parts
data_parts root offset =
    setter_and_initter
    (line_alone (reborrowed offset ++ ascii ".set_data(value);")) (root ++ ascii "::data::Reader<'_>") false
    (ascii "size: u32") (line_alone (pointer_field offset ++ ascii ".init_data(size)")) (root ++ ascii "::data::Builder<'a>")
    None

-- the element has several SetterInput impls: Void to Text, and Enum
abbrev pub several_inputs : Ty → Bool
several_inputs t = either (nat_le (kind t) 12) (kind t == 15)

abbrev pub list_reader_type : Sheet → Ty → Ty → Out Str
list_reader_type sheet element t =
    cond (several_inputs element)
    (type_string t sheet Owned then λ owned. ok (setter_input sheet.root owned))
    (type_string t sheet (Reader Anonymous))

abbrev pub list_parts : Sheet → Ty → Ty → ℕ → Out Parts
list_parts sheet element t offset =
    list_reader_type sheet element t then λ reader_type.
    type_string t sheet (Builder A) then λ builder_type.
    ok (setter_and_initter
    (line_alone (set_pointer sheet.root offset)) reader_type true
    (ascii "size: u32") (line_alone (init_pointer sheet.root offset (ascii "size"))) builder_type
    None)

-- an enum: plain, or masked
abbrev pub enum_setter : ℕ → Option Str → Str → Parts
enum_setter offset mask the_mod =
    setter_only (ascii "value") (line_alone (set_data_field (ascii "u16") offset (ascii "value as u16") mask)) the_mod

abbrev pub enum_parts : MaskRule → Sheet → ℕ → Slot → Out Parts
enum_parts rule sheet id s =
    get_qualified_module sheet id then λ the_mod.
    mask_by rule s then λ mask.
    ok (enum_setter s.offset mask the_mod)

abbrev pub struct_parts : Sheet → Ty → ℕ → Out Parts
struct_parts sheet t offset =
    type_string t sheet (Reader Anonymous) then λ reader_type.
    type_string t sheet (Builder A) then λ builder_type.
    ok (setter_and_initter
    (line_alone (set_pointer sheet.root offset)) reader_type true
    [] (line_alone (init_pointer sheet.root offset (ascii "0"))) builder_type
    None)

abbrev pub interface_parts : Sheet → Ty → ℕ → Out Parts
interface_parts sheet t offset =
    type_string t sheet Client then λ client.
    ok (setter_only (ascii "value") (line_alone (reborrowed offset ++ ascii ".set_capability(value.client.hook);")) client)

abbrev pub new_pointer : Str → ℕ → Str
new_pointer root offset = root ++ ascii "::any_pointer::Builder::new(" ++ pointer_field offset ++ ascii ")"

abbrev pub parameter_parts : Sheet → Ty → ℕ → Out Parts
parameter_parts sheet t offset =
    type_string t sheet (Builder A) then λ builder_type.
    type_string t sheet Owned then λ owned.
    ok (setter_and_initter
    (line_alone (set_pointer sheet.root offset)) (setter_input sheet.root owned) true
    [] (line_alone (new_pointer sheet.root offset ++ ascii ".init_as()")) builder_type
    (Some (builder_type, new_pointer sheet.root offset ++ ascii ".initn_as(length)")))

-- an initializer alone
abbrev pub pointer_parts : Str → ℕ → Parts
pointer_parts root offset = record {
  setter_param = ascii "value";
  setter_interior = none;
  reader_type = None;
  return_result = false;
  initter_params = [];
  initter_interior =
      Line (ascii "let mut result = " ++ new_pointer root offset ++ ascii ";")
      & Line (ascii "result.clear();")
      & Line (ascii "result")
      & none;
  builder_type = Some (root ++ ascii "::any_pointer::Builder<'a>");
  initn = None;
}

abbrev pub setter_parts : MaskRule → Sheet → Slot → Ty → Out Parts
setter_parts rule sheet s (plain k) =
    cond (k == 0) (ok (setter_only (ascii "_value") none (ascii "()")))
    (cond (k == 12) (ok (text_parts sheet.root s.offset))
    (cond (k == 13) (ok (data_parts sheet.root s.offset))
    (prim_parts rule sheet s)))
setter_parts rule sheet s (list t) = list_parts sheet t s.ty s.offset
setter_parts rule sheet s (enum id ss) = enum_parts rule sheet id s
setter_parts rule sheet s (struct id ss) = struct_parts sheet s.ty s.offset
setter_parts rule sheet s (interface id ss) = interface_parts sheet s.ty s.offset
setter_parts rule sheet s any_pointer = ok (pointer_parts sheet.root s.offset)
setter_parts rule sheet s (parameter id k) = parameter_parts sheet s.ty s.offset

-- the tag's line, where the field has a discriminant
abbrev pub tagged : ℕ → ℕ → FormattedTexts → FormattedTexts
tagged tag_offset discriminant more = cond (discriminant == 65535) more (Line (set_tag tag_offset discriminant) & more)

abbrev pub initn_lines : (FormattedTexts → FormattedTexts) → Str → Option (Str × Str) → FormattedTexts → FormattedTexts
initn_lines tag name None more = more
initn_lines tag name (Some p) more =
    Line (ascii "#[inline]")
    & Line (ascii "pub fn initn_" ++ name ++ ascii "(self, length: u32) -> " ++ p.0 ++ ascii " {")
    & Indent (Branch (tag none))
    & Indent (Line p.1)
    & Line (ascii "}")
    & more

abbrev pub return_type : Str → Bool → Str
return_type root true = ascii "-> " ++ root ++ ascii "::Result<()>"
return_type root false = []

abbrev pub setter_lines : Str → (FormattedTexts → FormattedTexts) → Str → Parts → Option Str → FormattedTexts → FormattedTexts
setter_lines root tag name p None more = more
setter_lines root tag name p (Some reader_type) more =
    function
    (ascii "pub fn set_" ++ name ++ ascii "(&mut self, " ++ p.setter_param ++ ascii ": " ++ reader_type ++ ascii ") "
    ++ return_type root p.return_result ++ ascii " {")
    (tag p.setter_interior) more

abbrev pub initter_lines : (FormattedTexts → FormattedTexts) → Str → Parts → Option Str → FormattedTexts
initter_lines tag name p None = none
initter_lines tag name p (Some builder_type) =
    function
    (ascii "pub fn init_" ++ name ++ ascii "(self, " ++ p.initter_params ++ ascii ") -> " ++ builder_type ++ ascii " {")
    (tag p.initter_interior) none

-- the functions, from what the match gave
abbrev pub setter_functions : Str → ℕ → Str → ℕ → Parts → FormattedText
setter_functions root tag_offset styled_name discriminant p =
    Branch (
    initn_lines (tagged tag_offset discriminant) styled_name p.initn
    (setter_lines root (tagged tag_offset discriminant) styled_name p p.reader_type
    (initter_lines (tagged tag_offset discriminant) styled_name p p.builder_type)))

unfoldable pub generate_setter : MaskRule → Sheet → ℕ → Str → ℕ → Slot → Out FormattedText
generate_setter rule sheet tag_offset styled_name discriminant s =
    setter_parts rule sheet s s.ty then λ p. ok (setter_functions sheet.root tag_offset styled_name discriminant p)

-- the text of a setter's request at a level
unfoldable pub setter_request : MaskRule → Sheet → ℕ → Str → ℕ → Slot → ℕ → Out Str
setter_request rule sheet tag_offset name discriminant s level =
    generate_setter rule sheet tag_offset (camel_to_snake_case name) discriminant s then λ ft. ok (stringify ft level)
