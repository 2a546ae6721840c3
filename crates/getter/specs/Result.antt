-- The result type of a getter, as its writers write it, and its default's declaration by a slot's numbers and the level.
-- Assumes nothing.
use Rattle.std.specs.Prelude.{ℕ, Bool, true, false, [], ◌++◌, drop}
use Rattle.terms.specs.Kinds.{number_of}
use Rattle.text.specs.Bytes.{Str, ascii, cond}
use Rattle.names.specs.Names.{default_name}
use Rattle.row.specs.Rows.{rows}
use Rattle.tree.specs.Tree as tree
use Rattle.tree.specs.Tree.{Sheet}
use Rattle.tree.specs.Read.{has_words}
use Rattle.field.specs.declared.Slot.{Slot}
use Rattle.codegen_types.specs.Out.{Out, ok, refused, ◌then◌}
use Rattle.codegen_types.specs.TypeString.{type_string}
use Rattle.codegen.specs.Getter.{module_leaf, is_option_field, optional, result_type, as_function}
use Rattle.pointer_constants.specs.Words.{words_at, declaration_text}

-- the arrow of a function
abbrev pub arrow : Bool → Str
arrow true = ascii "-> "
arrow false = []

-- the result types of an enum, and of what else can fail
abbrev pub enum_result : Str → Str → Str
enum_result root typ = ascii "::core::result::Result<" ++ typ ++ ascii "," ++ root ++ ascii "::NotInSchema>"

abbrev pub fallible_result : Str → Str → Str
fallible_result root typ = root ++ ascii "::Result<" ++ typ ++ ascii ">"

-- is_option_field's answer, and no where it refuses
abbrev pub yes : Out Bool → Bool
yes (ok b) = b
yes (refused k) = false

-- getter_text's result_type, whether is_option_field refuses or not
abbrev pub result_out : Sheet → tree.Slot → Bool → Bool → Out Str
result_out sheet s is_reader is_fn =
    type_string s.ty sheet (module_leaf is_reader) then λ inner_type.
    result_type sheet s.ty (optional (yes (is_option_field s)) inner_type) then λ result.
    ok (as_function is_fn result)

-- the declaration of the default of a slot r, its words those that stand in the sheet s, at a level
abbrev pub declared_by : Str → Str → Str → Slot → ℕ → Str
declared_by root name s r level =
    cond (has_words r.explicit (number_of r.kind))
    (declaration_text root (default_name name) r.count (words_at r.count (rows (drop r.words s))) level)
    []
