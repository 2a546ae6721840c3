-- What worked sheets are made of: slots, fields, nodes and sheets by what differs among them, and document 01's example as rows.
-- Assumes nothing.
use Rattle.std.specs.Prelude.{ℕ, List, [], ◌∷◌, ◌++◌}
use Prim.Native.String.{String}
use Rattle.text.specs.Bytes.{Str, ascii}
use Rattle.row.specs.Print.{print_root, print_node, print_field, print_type, print_value}
use Rattle.tree.specs.Tree.{Ty, kind, Slot, Arm, slot, Field, Node, Sheet}
use Rattle.tree.specs.Reader.{Rows}

-- a slot by its type, its offset, its explicit flag, its default's kind and bits, and its words
abbrev pub slot_of : Ty → ℕ → ℕ → ℕ → ℕ → List ℕ → Slot
slot_of t offset explicit k bits words = record {
  offset = offset;
  explicit = explicit;
  option = 0;
  ty = t;
  default = record { kind = k; bits = bits };
  words = words;
}

-- a slot without words, whose default is of its type
abbrev pub slot_with : Ty → ℕ → ℕ → ℕ → Slot
slot_with t offset explicit bits = slot_of t offset explicit (kind t) bits []

-- a field by its name, its discriminant and what it is
abbrev pub named_field : String → ℕ → Arm → Field
named_field name discriminant arm = record { name = ascii name; discriminant = discriminant; arm = arm }

-- a slot that is no member of a union
abbrev pub lone_slot : String → Ty → ℕ → ℕ → ℕ → Field
lone_slot name t offset explicit bits = named_field name 65535 (slot (slot_with t offset explicit bits))

-- a node by its id, its parent, whether it is a struct, its tag's count and offset, its module, its parameters and its fields
abbrev pub worked_node : ℕ → ℕ → ℕ → ℕ → ℕ → String → List Str → List Field → Node
worked_node id parent is_struct tag_count tag_offset the_mod params fields = record {
  id = id;
  parent = parent;
  scope = 0;
  is_struct = is_struct;
  generic = 0;
  tag_count = tag_count;
  tag_offset = tag_offset;
  the_mod = ascii the_mod;
  params = params;
  fields = fields;
}

-- a struct without a parent, by its id, its module, its tag's count and offset, and its fields
abbrev pub node : ℕ → String → ℕ → ℕ → List Field → Node
node id the_mod tag_count tag_offset fields = worked_node id 0 1 tag_count tag_offset the_mod [] fields

-- the sheet of some nodes, with the root ::capnp
abbrev pub worked_sheet : List Node → Sheet
worked_sheet nodes = record { root = ascii "::capnp"; nodes = nodes }

-- R ::capnp, N 7 0 0 1 0 0 0 bed
abbrev pub bed : Rows
bed = print_root (ascii "::capnp") ∷ print_node 7 0 0 1 0 0 0 (ascii "bed") ∷ []

-- document 01's example: the bed with the slot isFree, a Bool at 3 with default true
abbrev pub free : Rows
free = bed ++ (print_field 3 65535 1 0 (ascii "isFree") ∷ print_type 1 0 0 0 ∷ print_value 1 1 ∷ [])
