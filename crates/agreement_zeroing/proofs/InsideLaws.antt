-- The line of each slot of a group, and of the groups inside it, is due of the group. By induction on how it stands inside.
-- Assumes nothing.
use Rattle.std.specs.Prelude.{◌≡◌, ℕ, zero, suc, List, [], ◌∷◌}
use mathlib.Core.Path.{refl, ap, ◌∙◌}
use mathlib.Core.Logic.{inl, inr}
use Rattle.std.specs.Prelude.{Option, None, Some}
use Rattle.text.specs.Bytes.{Str}
use Rattle.tree.specs.Tree.{Field, Node, Sheet}
use Rattle.tree.specs.Read.{sheet, admitted}
use Rattle.codegen_types.specs.Out.{ok, ◌then◌}
use Rattle.codegen_types.specs.TypeString.{node_of}
use Rattle.codegen.specs.Zeroing.{zero_line}
use Rattle.nodes.specs.Index.{by_id, nth}
use Rattle.meaning.specs.Claims.{In}
use Rattle.requests.specs.Requests.{there, field_at}
use Rattle.agreement.specs.Slots.{SlotAt}
use Rattle.agreement_zeroing.specs.Zeroing.{Inside, here, deeper}
use Rattle.agreement_zeroing.proofs.GroupLaws.{Due, of_slot, of_group}

-- ---- a field that is found is one of the node's

node-found : (nodes : List Node) (id : ℕ) (n : Node) → by_id id nodes ≡ Some n → node_of nodes id ≡ ok n
unfolding node_of
node-found nodes id n e = rw e

nth_in : (fs : List Field) (place : ℕ) (f : Field) → nth place fs ≡ Some f → In f fs
unfolding nth
nth_in [] place f e = cc
nth_in (g ∷ fs) zero f e = inl cc
nth_in (g ∷ fs) (suc place) f e = inr (nth_in fs place f e)

found_in : (nodes : List Node) (id place : ℕ) (n : Node) (f : Field) → field_at nodes id place ≡ ok (n, f)
    → (node_of nodes id ≡ ok n) × In f n.fields
unfolding field_at
found_in nodes id place n f e = by-node (by_id id nodes) refl e
  where
    by_field : (m : Node) → by_id id nodes ≡ Some m → (o : Option Field) → nth place m.fields ≡ o
        → ◌then◌ {B = Node × Field} (there o) (λ g. ok (m, g)) ≡ ok (n, f) → (node_of nodes id ≡ ok n) × In f n.fields
    by_field m h None k e = cc
    by_field m h (Some g) k e =
        let p : ◌≡◌ {A = Node × Field} (m, g) (n, f) = cc in
        let q : m ≡ n = ap (λ (x : Node × Field). x.0) p in
        let t : g ≡ f = ap (λ (x : Node × Field). x.1) p in
        (node-found nodes id n (rw q at h), rw q at (nth_in m.fields place f (k ∙ ap Some t)))

    by-node : (o : Option Node) → by_id id nodes ≡ o
        → ◌then◌ {B = Node × Field} (there o) (λ m. ◌then◌ {B = Node × Field} (there (nth place m.fields)) (λ g. ok (m, g)))
        ≡ ok (n, f)
        → (node_of nodes id ≡ ok n) × In f n.fields
    by-node None h e = cc
    by-node (Some m) h e = by_field m h (nth place m.fields) refl e

-- ---- what is due of the group

module _ (s : Str) (tree : Sheet) (is : admitted s ≡ sheet tree) where
  found : (t : Sheet) (id place : ℕ) (n : Node) (f : Field) → admitted s ≡ sheet t → field_at t.nodes id place ≡ ok (n, f)
      → (node_of tree.nodes id ≡ ok n) × In f n.fields
  found t id place n f e h = let z : t ≡ tree = cc in found_in tree.nodes id place n f (rw z at h)

  pub due-inside : {g id : ℕ} → Inside s g id → (place : ℕ) (a : SlotAt s id place) (l : Str) → zero_line a.slot ≡ Some l
      → Due tree.nodes g l
  due-inside {g = g} here place a l e =
      let x = found a.tree g place a.node a.field a.is-admitted a.is_found in
      of_slot a.node a.field a.slot x.0 x.1 a.is-slot e
  due-inside {g = g} (deeper p b i) place a l e =
      let x = found b.tree g p b.node b.field b.is-admitted b.is_found in
      of_group b.node b.field x.0 x.1 b.is-group (due-inside i place a l e)
