-- The texts of the parts from which a getter's code is written, and a slot of the tree by a slot's numbers. Assumes nothing.
use Rattle.std.specs.Prelude.{ℕ, Bool, true, false, [], ◌==◌}
use Rattle.terms.specs.Kinds.{number_of}
use Rattle.text.specs.Bytes.{Str, ascii, cond}
use Rattle.text.specs.Lines.{FormattedText}
use Rattle.tree.specs.Tree as tree
use Rattle.tree.specs.Tree.{Ty, plain, any_pointer, parameter}
use Rattle.codegen_types.specs.Primitive.{primitive_text}
use Rattle.field.specs.declared.Slot.{Slot}
use Rattle.codegen.specs.Default.{value}
use Rattle.codegen.specs.Getter.{fragment_of, getter_code}

-- up to the offset, after the root
abbrev pub from_pointer_head : Bool → Str
from_pointer_head true = ascii "::traits::FromPointerReader::get_from_pointer(&self.reader.get_pointer_field("
from_pointer_head false = ascii "::traits::FromPointerBuilder::get_from_pointer(self.builder.get_pointer_field("

abbrev pub capability_head : Bool → Str
capability_head true = ascii "match self.reader.get_pointer_field("
capability_head false = ascii "match self.builder.get_pointer_field("

abbrev pub any_pointer_head : Bool → Str
any_pointer_head true = ascii "::any_pointer::Reader::new(self.reader.get_pointer_field("
any_pointer_head false = ascii "::any_pointer::Builder::new(self.builder.get_pointer_field("

-- with an option: the test up to the offset, from there up to the fragment, and what follows the fragment
abbrev pub null_head : Bool → Str
null_head true = ascii "if self.reader.is_pointer_field_null("
null_head false = ascii "if self.builder.is_pointer_field_null("

abbrev pub absent : Bool → Str
absent true = ascii ") {\n    core::result::Result::Ok(core::option::Option::None)\n} else {\n    "
absent false = ascii ") {\n    ::core::option::Option::None\n} else {\n    ::core::option::Option::Some("

abbrev pub some_end : Bool → Str
some_end true = ascii ".map(::core::option::Option::Some)\n}\n"
some_end false = ascii ")\n}\n"

-- of a type a getter's code takes the kind, and of AnyPointer whether it is a parameter: T's a is not 0
unfoldable pub type_by : ℕ → ℕ → Ty
type_by k a = cond (k == 18) (cond (a == 0) any_pointer (parameter 0 0)) (plain k)

-- a slot of the tree with these numbers, whose default is of its type
abbrev pub slot_by : Slot → tree.Slot
slot_by r = record {
  offset = r.offset;
  explicit = r.explicit;
  option = r.option;
  ty = type_by (number_of r.kind) r.id;
  default = value (number_of r.kind) r.bits;
  words = [];
}

-- its fragment and its code
abbrev pub fragment_by : Str → Str → Slot → Bool → Bool → Str
fragment_by root name r is_reader is_fn = fragment_of root name (slot_by r) is_reader is_fn (primitive_text (number_of r.kind))

abbrev pub code_by : Str → Str → Slot → Bool → Bool → FormattedText
code_by root name r is_reader is_fn =
    getter_code (slot_by r) is_reader (cond (r.option == 0) false true) (fragment_by root name r is_reader is_fn)
