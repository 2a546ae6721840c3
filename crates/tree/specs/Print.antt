-- A tree printed as a sheet: for each part its rows, in front of the rows that follow. Assumes nothing.
use Rattle.std.specs.Prelude.{List, [], ◌∷◌, ℕ, suc}
use Rattle.text.specs.Bytes.{Str}
use Rattle.row.specs.Rows.{joined}
use Rattle.row.specs.Print.{print_root, print_node, print_parameter, print_field, print_group}
use Rattle.row.specs.Print.{print_type, print_scope, print_unbound, print_value, print_word}
use Rattle.tree.specs.Tree.{Ty, plain, list, enum, struct, interface, any_pointer, parameter}
use Rattle.tree.specs.Tree.{Scopes, end, inherit, bind, Binds, stop, unbound, bound}
use Rattle.tree.specs.Tree.{Arm, slot, group, Field, Node, Sheet}
use Rattle.tree.specs.Reader.{Rows}

-- how many scopes, how many bindings
unfoldable pub scope_count : Scopes → ℕ
scope_count end = 0
scope_count (inherit i ss) = suc (scope_count ss)
scope_count (bind i bs ss) = suc (scope_count ss)

unfoldable pub bind_count : Binds → ℕ
bind_count stop = 0
bind_count (unbound bs) = suc (bind_count bs)
bind_count (bound t bs) = suc (bind_count bs)

unfoldable mutual
  pub type_rows : Ty → Rows → Rows
  type_rows (plain k) rs = print_type k 0 0 0 ∷ rs
  type_rows (list t) rs = print_type 14 0 0 0 ∷ type_rows t rs
  type_rows (enum i ss) rs = print_type 15 i (scope_count ss) 0 ∷ scope_rows ss rs
  type_rows (struct i ss) rs = print_type 16 i (scope_count ss) 0 ∷ scope_rows ss rs
  type_rows (interface i ss) rs = print_type 17 i (scope_count ss) 0 ∷ scope_rows ss rs
  type_rows any_pointer rs = print_type 18 0 0 0 ∷ rs
  type_rows (parameter i k) rs = print_type 18 1 i k ∷ rs

  pub scope_rows : Scopes → Rows → Rows
  scope_rows end rs = rs
  scope_rows (inherit i ss) rs = print_scope i 0 0 ∷ scope_rows ss rs
  scope_rows (bind i bs ss) rs = print_scope i 1 (bind_count bs) ∷ bind_rows bs (scope_rows ss rs)

  pub bind_rows : Binds → Rows → Rows
  bind_rows stop rs = rs
  bind_rows (unbound bs) rs = print_unbound ∷ bind_rows bs rs
  bind_rows (bound t bs) rs = type_rows t (bind_rows bs rs)

unfoldable pub word_rows : List ℕ → Rows → Rows
word_rows [] rs = rs
word_rows (w ∷ ws) rs = print_word w ∷ word_rows ws rs

abbrev pub arm_rows : Str → ℕ → Arm → Rows → Rows
arm_rows name d (slot s) rs =
    print_field s.offset d s.explicit s.option name
    ∷ type_rows s.ty (print_value s.default.kind s.default.bits ∷ word_rows s.words rs)
arm_rows name d (group i) rs = print_group i d name ∷ rs

unfoldable pub field_rows : List Field → Rows → Rows
field_rows [] rs = rs
field_rows (f ∷ fs) rs = arm_rows f.name f.discriminant f.arm (field_rows fs rs)

unfoldable pub param_rows : List Str → Rows → Rows
param_rows [] rs = rs
param_rows (p ∷ ps) rs = print_parameter p ∷ param_rows ps rs

unfoldable pub node_rows : List Node → Rows
node_rows [] = []
node_rows (n ∷ ns) =
    print_node n.id n.parent n.scope n.is_struct n.generic n.tag_count n.tag_offset n.the_mod
    ∷ param_rows n.params (field_rows n.fields (node_rows ns))

unfoldable pub sheet_rows : Sheet → Rows
sheet_rows sh = print_root sh.root ∷ node_rows sh.nodes

unfoldable pub printed : Sheet → Str
printed sh = joined (sheet_rows sh)
