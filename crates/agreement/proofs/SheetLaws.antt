-- What an admitted sheet holds: every number and text of its tree is within document 01's bounds, since the tree is well
-- formed. Assumes nothing.
use Rattle.std.specs.Prelude.{◌≡◌, ℕ, zero, suc, ◌^◌, ◌<◌, ◌≤◌, Bool, true, false, eqb, ltb, List, [], ◌∷◌}
use mathlib.Core.Path.{ap}
use Rattle.std.specs.Prelude.{Option, None, Some}
use borrow.Author.Tests.{ltb-true, leb-true}
use Rattle.text.specs.Bytes.{Str, cond}
use Rattle.text.proofs.BytesLaws.{both_true}
use Rattle.tree.specs.Tree.{plain, Field, Node, Sheet}
use Rattle.row.specs.Line.{most_bits}
use Rattle.tree.specs.WellFormed.{every, type_fits, field_fits, node_fits, well_formed}
use Rattle.printed.proofs.Fields.{slot_tests, field_tests}
use Rattle.printed.proofs.Nodes.{node_tests}
use Rattle.printed.proofs.Sheets.{sheet_tests, prints_read}
use Rattle.printed.proofs.Tests.{holds}
use Rattle.nodes.specs.Index.{by_id, nth}
use Rattle.codegen_types.specs.Out.{ok, or_refused, ◌then◌}
use Rattle.codegen_types.specs.TypeString.{node_of, get_qualified_module}
use Rattle.agreement.proofs.WholeLaws.{Whole, whole_graphic, whole-name}
use Rattle.requests.specs.Requests.{there, field_at}
use Rattle.agreement.specs.Slots.{SlotAt}
use Rattle.agreement.proofs.OutLaws.{ok-is, then_ok}

-- the root, and the modules that are looked up, have no byte 10
pub record Clean (sheet : Sheet) : Type 0 where
  pub root : Whole sheet.root
  pub modules : (id : ℕ) (the_mod : Str) → get_qualified_module sheet id ≡ ok the_mod → Whole the_mod

-- ---- parts of a list that all pass a test

every-nth : {A : Type 0} (test : A → Bool) (k : ℕ) (l : List A) (x : A) → nth k l ≡ Some x → every test l ≡ true → test x ≡ true
unfolding every nth
every-nth test k [] x e h = cc
every-nth test zero (y ∷ l) x e h =
    let z : y ≡ x = cc in rw (← z) (both_true (test y) (every test l) h).0
every-nth test (suc k) (y ∷ l) x e h = every-nth test k l x e (both_true (test y) (every test l) h).1

every-id : (test : Node → Bool) (id : ℕ) (l : List Node) (n : Node) → by_id id l ≡ Some n → every test l ≡ true → test n ≡ true
unfolding every by_id
every-id test id [] n e h = cc
every-id test id (m ∷ l) n e h =
    let (here, more) = both_true (test m) (every test l) h in
    go (eqb m.id id) here (λ f. every-id test id l n f more) e
  where
    go : (b : Bool) → test m ≡ true → (by_id id l ≡ Some n → test n ≡ true)
        → cond b (Some m) (by_id id l) ≡ Some n → test n ≡ true
    go true here more e = let z : m ≡ n = cc in rw (← z) here
    go false here more e = more e

-- what may be missing is there
or_ok : {A : Type 0} (k : ℕ) (o : Option A) (a : A) → or_refused k o ≡ ok a → o ≡ Some a
or_ok k None a e = cc
or_ok k (Some b) a e = ap Some (ok-is e)

node_by_id : (id : ℕ) (l : List Node) (n : Node) → node_of l id ≡ ok n → by_id id l ≡ Some n
unfolding node_of
node_by_id id l n e = or_ok 5 (by_id id l) n e

-- ---- a slot of an admitted sheet

found-fits : (nodes : List Node) (id place : ℕ) (n : Node) (f : Field) → field_at nodes id place ≡ ok (n, f)
    → every node_fits nodes ≡ true → field_fits f ≡ true
unfolding field_at
found-fits nodes id place n f e h =
    let a = then_ok (there (by_id id nodes)) (λ n. there (nth place n.fields) then λ f. ok (n, f)) (n, f) e in
    let m = a.value in
    let b = then_ok (there (nth place m.fields)) (λ f. ok (m, f)) (n, f) a.rest in
    let fits = every-id node_fits id nodes m (or_ok 15 (by_id id nodes) m a.first) h in
    let is : b.value ≡ f = ap (λ (x : Node × Field). x.1) (ok-is b.rest) in
    rw (← is) (every-nth field_fits place m.fields b.value (or_ok 15 _ b.value b.first) (holds (node_tests m) fits 9))

-- the bounds of a slot
pub record Bounds {s : Str} {id place : ℕ} (a : SlotAt s id place) : Type 0 where
  pub clean : Clean a.tree
  pub named : Whole a.field.name
  pub discriminant : a.field.discriminant < 2 ^ 16
  pub flag : a.slot.explicit < 2
  pub below : (n : ℕ) → a.slot.ty ≡ plain n → n < 14
  pub bits : a.slot.default.bits ≤ most_bits a.slot.default.kind

-- the root and the modules of a sheet whose tree is well formed
clean-sheet : (sh : Sheet) → well_formed sh ≡ true → Clean sh
unfolding well_formed
clean-sheet sh e =
    let tests = holds (sheet_tests sh) e in
    record {
      root = whole_graphic 64 sh.root (tests 0);
      modules = λ id the_mod f.
          let n = then_ok (node_of sh.nodes id) (λ n. ok n.the_mod) the_mod f in
          let fits = every-id node_fits id sh.nodes n.value (node_by_id id sh.nodes n.value n.first) (tests 3) in
          rw (← ok-is n.rest) (whole_graphic 128 n.value.the_mod (holds (node_tests n.value) fits 7));
    }

pub bounds : {s : Str} {id place : ℕ} (a : SlotAt s id place) → Bounds a
unfolding well_formed type_fits
bounds {s} {id} {place} a =
    let sh = a.tree in
    let sl = a.slot in
    let formed : well_formed sh ≡ true = (prints_read s sh a.is-admitted).1 in
    let field = found-fits sh.nodes id place a.node a.field a.is_found (holds (sheet_tests sh) formed 3) in
    let tests = holds (field_tests a.field) field in
    let slot = holds (slot_tests sl) (rw a.is-slot at (tests 2)) in
    record {
      clean = clean-sheet sh formed;
      named = whole-name a.field.name (tests 0);
      discriminant = ltb-true a.field.discriminant (2 ^ 16) (tests 1);
      flag = ltb-true sl.explicit 2 (slot 1);
      below = λ n e. ltb-true n 14 (both_true (ltb 0 16) (ltb n 14) (rw e at (slot 3))).1;
      bits = leb-true sl.default.bits (most_bits sl.default.kind) (both_true (ltb sl.default.kind 19) _ (slot 4)).1;
    }
