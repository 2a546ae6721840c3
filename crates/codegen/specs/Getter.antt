-- `getter_text` of codegen.rs for a slot: the result type, the code, and the declaration of a default if there is one.
-- Assumes nothing.
use Rattle.std.specs.Prelude.{ℕ, Bool, true, false, [], ◌++◌, ◌==◌}
use Rattle.std.specs.Prelude.{Option, None, Some}
use Rattle.text.specs.Bytes.{Str, ascii, unit, cond, both, same}
use Rattle.text.specs.Decimal.{decimal}
use Rattle.text.specs.Lines as lines
use Rattle.text.specs.Lines.{FormattedText, Indent, Branch, Line, ◌&◌, margin, stringify}
use Rattle.names.specs.Names.{default_name}
use Rattle.tree.specs.Tree.{Ty, kind, Slot, Sheet}
use Rattle.tree.specs.Read.{has_words}
use Rattle.codegen_types.specs.Out.{Out, ok, refused, ◌then◌}
use Rattle.codegen_types.specs.TypeString.{type_string, is_prim, is_pointer, is_parameter}
use Rattle.codegen_types.specs.declared.Leaf.{Leaf}
use Rattle.codegen_types.specs.declared.Leaf.TheVariants.{Reader, Builder, Client}
use Rattle.codegen_types.specs.declared.Lifetime.TheVariants.{A}
use Rattle.calls.specs.Calls.{member, get_bool_field, get_data_field, get_enum_field}
use Rattle.codegen.specs.Default.{getter_mask}
use Rattle.codegen.specs.WordArray.{word_array_declaration}

-- is_option_field: 9 for an option on a slot that is no pointer, or an interface
abbrev pub is_option_field : Slot → Out Bool
is_option_field s =
    cond (s.option == 0) (ok false)
    (cond (both (is_pointer s.ty) (cond (kind s.ty == 17) false true)) (ok true) (refused 9))

-- `module`, and `module_string`
abbrev pub module_leaf : Bool → Leaf
module_leaf true = Reader A
module_leaf false = Builder A

abbrev pub module_string : Bool → Str
module_string true = ascii "Reader"
module_string false = ascii "Builder"

-- is_fallible: an enum, an interface, a parameter, and every pointer but AnyPointer
abbrev pub is_fallible : Ty → Bool
is_fallible t = cond (is_parameter t) true (cond (kind t == 18) false (cond (is_prim t) false true))

-- `typ`
abbrev pub optional : Bool → Str → Str
optional true t = ascii "Option<" ++ t ++ ascii ">"
optional false t = t

-- `result_type`, before `is_fn`
abbrev pub result_type : Sheet → Ty → Str → Out Str
result_type sheet t typ =
    cond (kind t == 15) (ok (ascii "::core::result::Result<" ++ typ ++ ascii "," ++ sheet.root ++ ascii "::NotInSchema>"))
    (cond (kind t == 17)
    (type_string t sheet Client then λ client. ok (sheet.root ++ ascii "::Result<" ++ client ++ ascii ">"))
    (cond (is_fallible t) (ok (sheet.root ++ ascii "::Result<" ++ typ ++ ascii ">")) (ok typ)))

-- `result_type` of a function: an arrow, and nothing for ()
abbrev pub as_function : Bool → Str → Str
as_function true t = cond (same t (ascii "()")) [] (ascii "-> " ++ t)
as_function false t = t

-- the default of a pointer: its constant, if it is explicit
abbrev pub pointer_default : ℕ → Str → Str
pointer_default explicit name =
    cond (explicit == 1)
    (ascii "::core::option::Option::Some(&_private::" ++ default_name name ++ ascii "[..])")
    (ascii "::core::option::Option::None")

-- the call that gets a pointer field's value
abbrev pub from_pointer : Str → Bool → ℕ → Str → Str
from_pointer root true offset default =
    root ++ ascii "::traits::FromPointerReader::get_from_pointer(&self.reader.get_pointer_field(" ++ decimal offset
    ++ ascii "), " ++ default ++ ascii ")"
from_pointer root false offset default =
    root ++ ascii "::traits::FromPointerBuilder::get_from_pointer(self.builder.get_pointer_field(" ++ decimal offset
    ++ ascii "), " ++ default ++ ascii ")"

-- getter_fragment of an interface
abbrev pub capability : Str → Bool → ℕ → Str
capability root is_reader offset =
    ascii "match self." ++ member is_reader ++ ascii ".get_pointer_field(" ++ decimal offset
    ++ ascii ").get_capability() { ::core::result::Result::Ok(c) => ::core::result::Result::Ok(" ++ root
    ++ ascii "::capability::FromClientHook::new(c)), ::core::result::Result::Err(e) => ::core::result::Result::Err(e)}"

-- getter_fragment of AnyPointer, parameters included
abbrev pub untyped : Str → Bool → Bool → ℕ → Str
untyped root is_reader true offset = from_pointer root is_reader offset (ascii "::core::option::Option::None")
untyped root is_reader false offset =
    root ++ ascii "::any_pointer::" ++ module_string is_reader ++ ascii "::new(self." ++ member is_reader
    ++ ascii ".get_pointer_field(" ++ decimal offset ++ ascii "))"

-- getter_fragment of the Void slot
abbrev pub void : Bool → Str
void is_fn = cond is_fn [] (ascii "()")

-- getter_fragment, where type and default are of one kind; typ is the type's text
abbrev pub fragment_of : Str → Str → Slot → Bool → Bool → Str → Str
fragment_of root name s is_reader is_fn typ =
    cond (kind s.ty == 0) (void is_fn)
    (cond (kind s.ty == 1) (get_bool_field is_reader s.offset (getter_mask s.default))
    (cond (is_prim s.ty) (get_data_field is_reader typ s.offset (getter_mask s.default))
    (cond (kind s.ty == 15) (get_enum_field is_reader s.offset (getter_mask s.default))
    (cond (kind s.ty == 17) (capability root is_reader s.offset)
    (cond (kind s.ty == 18) (untyped root is_reader (is_parameter s.ty) s.offset)
    (from_pointer root is_reader s.offset (pointer_default s.explicit name)))))))

-- getter_fragment: 10 for a default that is not of the slot's type
abbrev pub getter_fragment : Str → Str → Slot → Bool → Bool → Str → Out Str
getter_fragment root name s is_reader is_fn typ =
    cond (kind s.ty == s.default.kind) (ok (fragment_of root name s is_reader is_fn typ)) (refused 10)

-- default_decl: the words of an explicit Text, Data, List or Struct default
abbrev pub default_declaration : Str → Str → Slot → Option FormattedText
default_declaration root name s =
    cond (has_words s.explicit (kind s.ty))
    (Some (word_array_declaration root (default_name name) s.words true))
    None

-- getter_code with an option: absent where the pointer is null
abbrev pub option_code : Bool → Bool → ℕ → Str → FormattedText
option_code is_reader fallible offset fragment =
    Branch (
    Line (ascii "if self." ++ member is_reader ++ ascii ".is_pointer_field_null(" ++ decimal offset ++ ascii ") {")
    & Indent (Line (cond fallible
    (ascii "core::result::Result::Ok(core::option::Option::None)")
    (ascii "::core::option::Option::None")))
    & Line (ascii "} else {")
    & Indent (Line (cond fallible
    (fragment ++ ascii ".map(::core::option::Option::Some)")
    (ascii "::core::option::Option::Some(" ++ fragment ++ ascii ")")))
    & Line (ascii "}")
    & lines.none)

-- getter_code
abbrev pub getter_code : Slot → Bool → Bool → Str → FormattedText
getter_code s is_reader should_get_option fragment =
    cond should_get_option (option_code is_reader (is_fallible s.ty) s.offset fragment) (Line fragment)

-- what getter_text returns
pub record Getter : Type 0 where
  pub result_type : Str
  pub code : FormattedText
  pub declaration : Option FormattedText

unfoldable pub getter_text : Sheet → Str → Slot → Bool → Bool → Out Getter
getter_text sheet name s is_reader is_fn =
    type_string s.ty sheet (module_leaf is_reader) then λ inner_type.
    is_option_field s then λ should_get_option.
    result_type sheet s.ty (optional should_get_option inner_type) then λ result.
    getter_fragment sheet.root name s is_reader is_fn inner_type then λ fragment.
    ok (record {
      result_type = as_function is_fn result;
      code = getter_code s is_reader should_get_option fragment;
      declaration = default_declaration sheet.root name s;
    })

abbrev pub declared : Option FormattedText → ℕ → Str
declared None level = []
declared (Some d) level = stringify d level

-- the text of a getter's request at a level: the result type, a newline, the code, the declaration if there is one
unfoldable pub getter_request : Sheet → Str → Slot → Bool → Bool → ℕ → Out Str
getter_request sheet name s is_reader is_fn level =
    getter_text sheet name s is_reader is_fn then λ g.
    ok (margin level ++ g.result_type ++ unit 10 ++ stringify g.code level ++ declared g.declaration level)
