-- A node that is looked up by its id in the index: it is missing, or the entry found is its own. A claim `Q` of what the Rust
-- gives for a node follows from the claim of what the index has. Assumes nothing.
use mathlib.Core.Path.{◌≡◌, refl}
use mathlib.Core.List.{List}
use Rattle.std.specs.Prelude.{Option, None, Some}
use Prim.Native.Nat.{ℕ}
use Rattle.text.specs.Bytes.{Str}
use Rattle.tree.specs.Tree.{Node}
use Rattle.nodes.specs.Index.{Indexed, EntryIs, Finds, lookup, by_id, nth}
use Rattle.nodes.specs.declared.Entry.{Entry}
use Rattle.nodes.proofs.Laws.{found-is}
use Rattle.codegen_types.specs.Out.{Out, ok, refused, or_refused}
use Rattle.codegen_types.specs.TypeString.{node_of, parameter_name}

pub node_by_id : (ns : List Node) (id : ℕ) → node_of ns id ≡ or_refused 5 (by_id id ns)
unfolding node_of
node_by_id ns id = refl

pub parameter-named : (ps : List Str) (k : ℕ) → parameter_name ps k ≡ or_refused 13 (nth k ps)
unfolding parameter_name
parameter-named ps k = refl

module _ (s : Str) (ns : List Node) (index : List ℕ) (id : ℕ) (f : Option Entry) (e : f ≡ lookup index id)
    (x : Indexed s ns index) where
  pub node_missing : f ≡ None → node_of ns id ≡ refused 5
  node_missing h = rw (node_by_id ns id) (go (by_id id ns) (rw (← e, h) at (found-is s ns index id x)))
    where
      go : (o : Option Node) → Finds s index None o → or_refused 5 o ≡ refused 5
      go None w = refl
      go (Some n) w = absurd w

  pub node-there : (n : Entry) → f ≡ Some n → (Q : Out Node → Type 0)
      → ((m : Node) → node_of ns id ≡ ok m → EntryIs s index n m → Q (ok m)) → Q (node_of ns id)
  node-there n h Q law = rw (node_by_id ns id) (go (by_id id ns) refl (rw (← e, h) at (found-is s ns index id x)))
    where
      go : (o : Option Node) → by_id id ns ≡ o → Finds s index (Some n) o → Q (or_refused 5 o)
      go None y w = absurd w
      go (Some m) y w = law m (rw (node_by_id ns id, y) refl) w
