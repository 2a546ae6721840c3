-- Worked examples of zeroing and what is easy to get wrong, computed: one theorem over the rows of a table.
-- Assumes nothing.
use Rattle.std.specs.Prelude.{◌≡◌, refl, Bool, true, false, List, [], ◌∷◌, map, ℕ, zero, suc, ◌+◌}
use Prim.Native.String.{String}
use Rattle.text.specs.Bytes.{Str, ascii, same}
use Rattle.text.specs.Decimal.{decimal}
use Rattle.text.specs.Lines.{Branch, to_lines, flat_map, join, stringify, ended}
use Rattle.tree.specs.Tree.{Ty, plain, list, enum, struct, end, slot, group, Field, Node, Sheet}
use Rattle.tree.specs.Worked.{slot_of, named_field, worked_node, worked_sheet}
use Rattle.nodes.specs.Index.{by_id}
use Rattle.codegen_types.specs.Out.{Out, ok, refused, ◌then◌}
use Rattle.codegen_types.specs.TypeString.{node_of}
use Rattle.calls.specs.Calls.{set_bool_field, set_data_field, clear_pointer}
use Rattle.codegen.specs.Zeroing.{zero_line, contains, zero_fields, zero_fields_of_group}

-- a field that is a slot of a type at an offset, and one that is a group
abbrev at : Ty → ℕ → Field
at ty o = named_field "f" 65535 (slot (slot_of ty o 0 0 0 []))

abbrev inside : ℕ → Field
inside id = named_field "g" 65535 (group id)

-- a node by its id, whether it is a struct, its count of tags, at offset 4, and its fields
abbrev node : ℕ → ℕ → ℕ → List Field → Node
node id is_struct tags fields = worked_node id 0 is_struct tags 4 "bed" [] fields

-- nodes 100 + n down to 100, each with the next one inside
unfoldable chained : ℕ → List Node
chained zero = node 100 1 0 [] ∷ []
chained (suc n) = node (101 + n) 1 0 (inside (100 + n) ∷ []) ∷ chained n

abbrev sheet : Sheet
sheet = worked_sheet (
    -- a tag, Uint16, an enum and Int16 at one offset, and a Bool twice
    node 1 1 2 (at (plain 7) 4 ∷ at (enum 9 end) 4 ∷ at (plain 3) 4 ∷ at (plain 1) 4 ∷ at (plain 1) 4 ∷ [])
    -- Text and a list at one offset
    ∷ node 2 1 0 (at (plain 12) 1 ∷ at (list (plain 0)) 1 ∷ [])
    -- a group inside that has a line again, and the same line after it
    ∷ node 3 1 0 (at (plain 9) 0 ∷ inside 4 ∷ at (plain 9) 0 ∷ at (struct 2 end) 0 ∷ [])
    ∷ node 4 1 0 (at (plain 0) 0 ∷ at (plain 9) 0 ∷ at (struct 2 end) 0 ∷ [])
    -- Void, and a group with no lines inside
    ∷ node 5 1 0 (at (plain 0) 0 ∷ inside 100 ∷ [])
    -- a node that is no struct, a group that is not there, one inside itself; the first refusal counts
    ∷ node 6 0 0 []
    ∷ node 7 1 0 (inside 6 ∷ inside 99 ∷ [])
    ∷ node 8 1 0 (inside 99 ∷ inside 6 ∷ [])
    ∷ node 9 1 0 (inside 9 ∷ inside 6 ∷ [])
    ∷ chained 16)

-- a zeroing's text at a level of indentation, and its flag
abbrev zeroing : ℕ → ℕ → Out (Str × Bool)
zeroing id level = zero_fields_of_group sheet 16 id then λ z. ok (stringify (Branch z.result) level, z.clear)

record Row : Type 0 where
  group : ℕ
  level : ℕ
  answer : Out (Str × Bool)

-- a group's lines at a level and its flag, or its refusal
abbrev row : ℕ → ℕ → List String → Bool → Row
row id level lines clear = record { group = id; level = level; answer = ok (ended (map ascii lines), clear) }

abbrev no : ℕ → ℕ → Row
no id number = record { group = id; level = 0; answer = refused number }

table : List Row
table =
    row 1 0 (
    "self.builder.set_data_field::<u16>(4, 0);"
    ∷ "self.builder.set_data_field::<u16>(4, 0u16);"
    ∷ "self.builder.set_data_field::<i16>(4, 0i16);"
    ∷ "self.builder.set_bool_field(4, false);" ∷ []
    ) false
    ∷ row 2 0 ("self.builder.reborrow().get_pointer_field(1).clear();" ∷ []) true
    ∷ row 3 0 (
    "self.builder.set_data_field::<u64>(0, 0u64);"
    ∷ "self.builder.set_data_field::<u64>(0, 0u64);"
    ∷ "self.builder.reborrow().get_pointer_field(0).clear();"
    ∷ "self.builder.reborrow().get_pointer_field(0).clear();" ∷ []
    ) true
    -- the lines of a group inside stand at the same level
    ∷ row 3 1 (
    "    self.builder.set_data_field::<u64>(0, 0u64);"
    ∷ "    self.builder.set_data_field::<u64>(0, 0u64);"
    ∷ "    self.builder.reborrow().get_pointer_field(0).clear();"
    ∷ "    self.builder.reborrow().get_pointer_field(0).clear();" ∷ []
    ) true
    -- no lines are one byte 10, at any level
    ∷ row 5 0 ("" ∷ []) false
    ∷ row 5 1 ("" ∷ []) false
    -- 16 levels pass and 17 do not
    ∷ row 115 0 ("" ∷ []) false
    ∷ no 116 4
    ∷ no 6 14
    ∷ no 7 14
    ∷ no 8 5
    ∷ no 9 4
    ∷ no 98 5
    ∷ []

worked : map (λ (r : Row). zeroing r.group r.level) table ≡ map (λ (r : Row). r.answer) table
unfolding table chained decimal same join stringify ended to_lines flat_map node_of by_id set_bool_field set_data_field
    clear_pointer zero_line contains zero_fields zero_fields_of_group
worked = refl
