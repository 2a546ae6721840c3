-- A well-formed tree: document 01's bounds for the numbers, texts, counts, levels and ids of a sheet, said of its tree.
-- Assumes nothing.
use Rattle.std.specs.Prelude.{Bool, true, false, List, [], ◌∷◌, ◌++◌, ℕ, ◌-◌, ◌^◌, eqb, ltb, leb, length}
use Rattle.text.specs.Bytes.{cond, both}
use Rattle.column.specs.Texts.{is_name, is_field_name, is_graphic_text}
use Rattle.row.specs.Line.{most_bits}
use Rattle.tree.specs.Tree.{Ty, plain, list, enum, struct, interface, any_pointer, parameter}
use Rattle.tree.specs.Tree.{Scopes, end, inherit, bind, Binds, stop, unbound, bound}
use Rattle.tree.specs.Tree.{Value, Slot, Arm, slot, group, Field, Node, Sheet}
use Rattle.tree.specs.Read.{has_words, among, group_ids}
use Rattle.tree.specs.Print.{printed}

-- a number of so many bits
abbrev pub fits : ℕ → ℕ → Bool
fits bits n = ltb n (2 ^ bits)

-- an id of a node or a group: 1 or more
abbrev pub is_id : ℕ → Bool
is_id n = both (ltb 0 n) (fits 64 n)

-- a flag: 0 or 1
abbrev pub is_flag : ℕ → Bool
is_flag n = fits 1 n

-- whether all of some tests hold
abbrev pub every_test : List Bool → Bool
every_test [] = true
every_test (t ∷ ts) = both t (every_test ts)

-- whether all of a list pass a test
unfoldable pub every : {A : Type 0} → (A → Bool) → List A → Bool
every ok [] = true
every ok (x ∷ xs) = both (ok x) (every ok xs)

-- whether no number stands twice
unfoldable pub distinct : List ℕ → Bool
distinct [] = true
distinct (x ∷ xs) = both (cond (among x xs) false true) (distinct xs)

unfoldable mutual
  -- a type with so many levels left
  pub type_fits : Ty → ℕ → Bool
  type_fits (plain k) left = both (ltb 0 left) (ltb k 14)
  type_fits (list t) left = both (ltb 0 left) (type_fits t (left - 1))
  type_fits (enum i ss) left = both (ltb 0 left) (both (fits 64 i) (scopes_fit ss (left - 1)))
  type_fits (struct i ss) left = both (ltb 0 left) (both (fits 64 i) (scopes_fit ss (left - 1)))
  type_fits (interface i ss) left = both (ltb 0 left) (both (fits 64 i) (scopes_fit ss (left - 1)))
  type_fits any_pointer left = ltb 0 left
  type_fits (parameter i k) left = both (ltb 0 left) (both (fits 64 i) (fits 16 k))

  -- scopes, and bindings whose types have so many levels left
  pub scopes_fit : Scopes → ℕ → Bool
  scopes_fit end left = true
  scopes_fit (inherit i ss) left = both (fits 64 i) (scopes_fit ss left)
  scopes_fit (bind i bs ss) left = both (fits 64 i) (both (binds_fit bs left) (scopes_fit ss left))

  pub binds_fit : Binds → ℕ → Bool
  binds_fit stop left = true
  binds_fit (unbound bs) left = binds_fit bs left
  binds_fit (bound t bs) left = both (type_fits t left) (binds_fit bs left)

abbrev pub value_fits : Value → Bool
value_fits v = both (ltb v.kind 19) (leb v.bits (most_bits v.kind))

-- 1 to 255 words where they belong, else none
abbrev pub words_fit : Bool → List ℕ → Bool
words_fit true ws = both (both (ltb 0 (length ws)) (ltb (length ws) 256)) (every (fits 64) ws)
words_fit false ws = eqb (length ws) 0

abbrev pub slot_fits : Slot → Bool
slot_fits s = every_test (
    fits 32 s.offset ∷ is_flag s.explicit ∷ is_flag s.option ∷ type_fits s.ty 16 ∷ value_fits s.default
    ∷ words_fit (has_words s.explicit s.default.kind) s.words ∷ [])

abbrev pub arm_fits : Arm → Bool
arm_fits (slot s) = slot_fits s
arm_fits (group i) = is_id i

abbrev pub field_fits : Field → Bool
field_fits f = every_test (is_field_name f.name ∷ fits 16 f.discriminant ∷ arm_fits f.arm ∷ [])

abbrev pub node_fits : Node → Bool
node_fits n = every_test (
    is_id n.id ∷ fits 64 n.parent ∷ fits 64 n.scope ∷ is_flag n.is_struct ∷ is_flag n.generic ∷ fits 16 n.tag_count
    ∷ fits 32 n.tag_offset ∷ is_graphic_text 128 n.the_mod ∷ every is_name n.params ∷ every field_fits n.fields ∷ [])

-- the ids of the nodes, and of all their groups
unfoldable pub node_ids : List Node → List ℕ
node_ids [] = []
node_ids (n ∷ ns) = n.id ∷ node_ids ns

unfoldable pub all_group_ids : List Node → List ℕ
all_group_ids [] = []
all_group_ids (n ∷ ns) = group_ids n.fields ++ all_group_ids ns

unfoldable pub well_formed : Sheet → Bool
well_formed sh = every_test (
    is_graphic_text 64 sh.root ∷ ltb 0 (length sh.nodes) ∷ ltb (length sh.nodes) 65 ∷ every node_fits sh.nodes
    ∷ distinct (node_ids sh.nodes) ∷ distinct (all_group_ids sh.nodes) ∷ leb (length (printed sh)) 65536 ∷ [])
