-- Laws of what is left to print: where a node's fields begin, one turn at each kind of place, a piece of several turns, and the
-- pieces over a buffer. Assumes nothing.
use mathlib.Core.Path.{◌≡◌, refl, sym, ap, ◌∙◌, subst}
use mathlib.Core.List.{List, [], ◌∷◌, ◌++◌, append_assoc}
use Rattle.std.specs.Prelude.{Option, None, Some}
use Prim.Native.Nat.{ℕ, zero, suc, ◌+◌, ◌-◌, ◌*◌, ◌≤◌, ◌<◌}
use native.Mathlib.Nat.{suc-mul}
use native.Mathlib.Numerals.{add-one}
use native.Mathlib.Omega.{arith}
use mathlib.Core.Bool.{Bool, true, false}
use borrow.Author.Tests.{ltb-true, ltb-false}
use lib.Dec.{ltb}
use lib.ListN.{length, take, drop, length-drop, drop_of_length-le}
use lib.Seq.{drop-nil}
use Rattle.text.specs.Bytes.{Str}
use Rattle.row.specs.Rows.{rows}
use Rattle.row.specs.Line.{text_at}
use Rattle.row.proofs.Laws.{rows-length}
use Rattle.tree.specs.Tree as tree
use Rattle.tree.specs.Tree.{Node}
use Rattle.tree.specs.Fields.{FieldsHere}
use Rattle.nodes.specs.Index.{nth, entry_with, Indexed, Finds, sheet_of}
use Rattle.nodes.specs.declared.Entry.{Entry}
use Rattle.nodes.proofs.Laws.{nth-is, with_none}
use Rattle.field.specs.Field.{FieldIs, ReadsFirst, next_of}
use Rattle.field.specs.declared.Field.{Field}
use Rattle.parts.specs.Program.{each_text, field_text, node_text}
use Rattle.parts.specs.Fit.{unit_most, TakesAtMost, Puts, FieldPut}
use Rattle.parts.specs.Left.{sheet_in, LeftAt, Gives}
use Rattle.nodes.specs.declared.Source.{Source}
use Rattle.parts.specs.Steps.{most_left, Enters, Turns, Filled, Reached}
use Rattle.parts.specs.declared.Place.{Place}
use Rattle.parts.specs.declared.Place.TheVariants.{At, End}
use Rattle.parts.specs.declared.Piece.{Piece}
use Rattle.parts.proofs.FieldLaws.{field-few}
use Rattle.parts.proofs.FitLaws.{lent, back, back-length, on-within, taken-on}

-- ---- the part of a list with a number, and those after it

nth-first : {A : Type 0} (k : ℕ) (xs : List A) (x : A) → nth k xs ≡ Some x → drop k xs ≡ x ∷ drop (suc k) xs
unfolding nth
nth-first k [] x e = cc
nth-first zero (y ∷ xs) x e = let z : y ≡ x = cc in rw z
nth-first (suc k) (y ∷ xs) x e = nth-first k xs x e

nth_past : {A : Type 0} (k : ℕ) (xs : List A) → nth k xs ≡ None → drop k xs ≡ []
unfolding nth
nth_past k [] e = drop-nil k
nth_past zero (y ∷ xs) e = cc
nth_past (suc k) (y ∷ xs) e = nth_past k xs e

-- ---- the first field of the node with a number

pub enter_out : (index : List ℕ) (k : ℕ) → 64 ≤ k → Enters index k End
unfolding each_text
enter_out index k h = record {
  left = λ s nodes x. let z : length nodes ≤ k = omega (arith, x.few) in rw (drop_of_length-le nodes z);
  few = λ s. omega arith;
}

-- what is found for the number
module _ (index : List ℕ) (k : ℕ) (f : Option Entry) (found-is : f ≡ entry_with index k) where
  below : (e : Entry) → f ≡ Some e → k < 64
  below e i = go (ltb k 64) refl
    where
      go : (b : Bool) → ltb k 64 ≡ b → k < 64
      go true j = ltb-true k 64 j
      go false j = let z : None ≡ Some e = with_none index k (omega (arith, ltb-false k 64 j)) ∙ sym found-is ∙ i in cc

  finds : (s : Str) (nodes : List Node) → Indexed s nodes index → Finds s index f (nth k nodes)
  finds s nodes x = rw found-is (nth-is s nodes index k x)

  pub enter-none : f ≡ None → Enters index k End
  unfolding each_text
  enter-none e = record { left = λ s nodes x. go s nodes (nth k nodes) refl (rw e at (finds s nodes x)); few = λ s. omega arith }
    where
      go : (s : Str) (nodes : List Node) (o : Option Node) → nth k nodes ≡ o → Finds s index None o
          → each_text (node_text (sheet_in s nodes)) (drop k nodes) ≡ []
      go s nodes (Some n) i x = absurd x
      go s nodes None i x = rw (nth_past k nodes i)

  pub enter-found : (e : Entry) → f ≡ Some e → Enters index k (At k e.fields)
  unfolding each_text node_text
  enter-found e i = record {
    left = λ s nodes x. go s nodes x (nth k nodes) refl (rw i at (finds s nodes x));
    few = λ s.
        let a = rows-length (drop e.fields s) in
        let b = length-drop e.fields s in
        most (below e i) (length s) _ (omega arith);
  }
    where
      most : k < 64 → (m r : ℕ) → r ≤ m → (64 - k) * (m + 2) + r + 1 ≤ (65 - k) * (m + 2)
      most h m r g = let z : 65 - k ≡ suc (64 - k) = omega arith in rw (z, suc-mul (64 - k) (m + 2)) (omega arith)

      go : (s : Str) (nodes : List Node) → Indexed s nodes index → (o : Option Node) → nth k nodes ≡ o
          → Finds s index (Some e) o
          → LeftAt s index k e.fields (each_text (node_text (sheet_in s nodes)) (drop k nodes))
      go s nodes x (Some n) j y = record {
        nodes = nodes;
        indexed = x;
        node = n;
        numbered = j;
        fields = n.fields;
        here = y.fields;
        is = rw (add-one, nth-first k nodes n j);
      }
      go s nodes x None j y = absurd y

-- what is found for the number of a node is its entry
pub node-found :
    (s : Str) (nodes : List Node) (index : List ℕ) (k : ℕ) (n : Node) (f : Option Entry) → f ≡ entry_with index k
    → Indexed s nodes index → nth k nodes ≡ Some n → Finds s index f (Some n)
node-found s nodes index k n f found-is x i = rw i at (finds index k f found-is s nodes x)

-- ---- one turn

-- the first of the fields that stand at q, as it was read
record Reads (s : Str) (q : ℕ) (r : Field) (fields : List tree.Field) : Type 0 where
  first : tree.Field
  later : List tree.Field
  all : fields ≡ first ∷ later
  is : FieldIs s r first
  next : FieldsHere (rows (drop (next_of r) s)) later
  few : length first.name ≤ 64

reads : (s : Str) (q : ℕ) (r : Field) (fields : List tree.Field) → FieldsHere (rows (drop q s)) fields
    → ReadsFirst s (Some r) fields → Reads s q r fields
reads s q r [] here e = absurd e
reads s q r (f ∷ fs) here e = record {
  first = f;
  later = fs;
  all = refl;
  is = e.0;
  next = e.1;
  few = field-few (rows (drop q s)) f fs here;
}

-- no field stands there: the next node
pub none-turn : (s index : List ℕ) (k q : ℕ) (l l' : Str)
    → ((fs : List tree.Field) → FieldsHere (rows (drop q s)) fs → ReadsFirst s None fs) → (next : Place)
    → Enters index (k + 1) next → Turns s index (At k q) l l' (Some 0) next
unfolding each_text
none-turn s index k q l l' first next enters = record {
  goes = λ text left. record {
    rest = each_text (node_text (sheet_in s left.nodes)) (drop (k + 1) left.nodes);
    left = enters.left s left.nodes left.indexed;
    joined = sym (left.is ∙ rw (go left.fields (first left.fields left.here)));
  };
}
  where
    go : (fs : List tree.Field) → ReadsFirst s None fs → fs ≡ []
    go [] h = refl
    go (f ∷ fs) h = absurd h

-- a field, whose unit was written
module _ (x : Source) (rooted : x.root.now ≡ text_at (rows x.bytes.now)) (k q : ℕ) (l l' : Str) (r : Field)
    (first : (fs : List tree.Field) → FieldsHere (rows (drop q x.bytes.now)) fs → ReadsFirst x.bytes.now (Some r) fs)
    (tag : ℕ)
    (tagged : (s : Str) (ns : List Node) (n : Node) → Indexed s ns x.index.now → nth k ns ≡ Some n → n.tag_offset ≡ tag) where
  field-there : (text : Str) (left : LeftAt x.bytes.now x.index.now k q text) → Reads x.bytes.now q r left.fields
  field-there text left = reads x.bytes.now q r left.fields left.here (first left.fields left.here)

  unit-put : (fit : Option ℕ) → FieldPut x tag r l l' fit → (text : Str) (left : LeftAt x.bytes.now x.index.now k q text)
      → TakesAtMost unit_most l fit
      × Puts (field_text (sheet_in x.bytes.now left.nodes) left.node (field-there text left).first) l' fit
  unit-put fit put text left =
      let f = field-there text left in
      subst
      (λ (w : Str). TakesAtMost unit_most l fit × Puts (field_text (sheet_of w left.nodes) left.node f.first) l' fit)
      rooted
      (put left.nodes left.indexed (left.node, f.first)
      (tagged x.bytes.now left.nodes left.node left.indexed left.numbered) f.is f.few)

  pub field-turn : (fit : Option ℕ) → FieldPut x tag r l l' fit
      → Turns x.bytes.now x.index.now (At k q) l l' fit (At k (next_of r))
  unfolding each_text
  field-turn (Some n) put = record {
    goes = λ text left.
        let f = field-there text left in
        let each = each_text (field_text (sheet_in x.bytes.now left.nodes) left.node) in
        let after = each_text (node_text (sheet_in x.bytes.now left.nodes)) (drop (k + 1) left.nodes) in
        record {
          rest = each f.later ++ after;
          left = record {
            nodes = left.nodes;
            indexed = left.indexed;
            node = left.node;
            numbered = left.numbered;
            fields = f.later;
            here = f.next;
            is = refl;
          };
          joined =
              sym (append_assoc (take n l') (each f.later) after)
              ∙ ap (λ (x : Str). x ++ each f.later ++ after) (unit-put (Some n) put text left).1
              ∙ sym (left.is ∙ ap (λ (fs : List tree.Field). each fs ++ after) f.all);
        };
  }
  field-turn None put = λ text left. (unit-put None put text left).0

-- ---- a piece

-- n bytes of l are what is printed from `place` on up to `next`
pub record Filling (s index : List ℕ) (place : Place) (l₀ l : Str) (n : ℕ) (next : Place) : Type 0 where
  pub size : length l ≡ length l₀
  pub within : n ≤ length l
  pub gives : Gives s index place (take n l) next
  pub falls : most_left s next ≤ most_left s place
  pub fewer : 0 < n → most_left s next < most_left s place

module _ (s index : List ℕ) (place : Place) (l₀ : Str) where
  module _ (l : Str) (n : ℕ) (next : Place) (so_far : Filling s index place l₀ l n next) where
    pub filling-more :
        (l' : Str) (m : ℕ) (after : Place) → length l' ≡ length (lent l n) → m ≤ length l'
        → Gives s index next (take m l') after → most_left s after < most_left s next
        → Filling s index place l₀ (back l n l') (n + m) after
    filling-more l' m after k h gives falls = record {
      size = back-length l l' n so_far.within k ∙ so_far.size;
      within = on-within l l' n so_far.within m h;
      gives = record {
        goes = λ text left.
            let f = so_far.gives.goes text left in
            let g = gives.goes f.rest f.left in
            record {
              rest = g.rest;
              left = g.left;
              joined =
                  ap (λ (x : Str). x ++ g.rest) (taken-on l l' n so_far.within m h)
                  ∙ append_assoc (take n l) (take m l') g.rest
                  ∙ ap (λ (x : Str). take n l ++ x) g.joined
                  ∙ f.joined;
            };
      };
      falls = omega (arith, falls, so_far.falls);
      fewer = λ _. omega (arith, falls, so_far.falls);
    }

-- ---- the pieces over a buffer

module _ (s index : List ℕ) (place : Place) (l l' : Str) (r : Piece) (here : Reached s index place)
    (filled : Filled s index place l l' r) where
  -- a piece comes to a place of the same sheet
  pub reached_next : Reached s index r.next
  reached_next =
      let g = filled.gives.goes here.rest here.left in
      record {
        before = here.before ++ take r.n l';
        rest = g.rest;
        left = g.left;
        whole =
            append_assoc here.before (take r.n l') g.rest
            ∙ ap (λ (x : Str). here.before ++ x) g.joined
            ∙ here.whole;
      }
