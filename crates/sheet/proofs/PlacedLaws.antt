-- Laws of the entries in an index while it is filled: an entry stays what it is as long as its own numbers and its marks stay,
-- and the entries of all nodes make the index. Assumes nothing.
use mathlib.Core.Path.{◌≡◌, sym, ◌∙◌}
use mathlib.Core.List.{List, [], ◌∷◌, ◌++◌}
use Prim.Native.Nat.{ℕ, suc, ◌+◌, ◌-◌, ◌*◌, ◌/◌, ◌≤◌, ◌<◌}
use native.Mathlib.Omega.{arith}
use lib.ListN.{length, get_or, set, length-set}
use lib.Seq.{get_or-set_same, get_or-set_other}
use Rattle.text.specs.Bytes.{Str}
use Rattle.tree.specs.Tree.{Node}
use Rattle.nodes.specs.Index.{entry_at, mark_every, first_mark, Marked, Entries, Indexed}
use Rattle.nodes.specs.declared.Entry.{Entry}
use Rattle.sheet.specs.Steps.{SameBetween, Placed}

-- the entries of nodes, one after the other from a place on, with their marks before another
unfoldable pub Filled : Str → List ℕ → ℕ → ℕ → List Node → Type 0
Filled s x end p [] = Unit {0}
Filled s x end p (n ∷ ns) = Placed s x end (entry_at x p) n × Filled s x end (p + 12) ns

-- the marks of a node stay where the index keeps its numbers there
pub marked-same :
    (s : Str) (x y : List ℕ) (from to marks : ℕ) (names : List Str) → SameBetween x y from to → length y ≡ length x → from ≤ marks
    → marks + (length names - 1) / mark_every ≤ to → Marked s x marks names → Marked s y marks names
marked-same s x y from to marks names e l a b m = record {
  each = λ j h.
      let r = m.each j h in
      (omega (arith, r.0), rw (e.each (marks + j) (omega arith) (omega arith)) r.1);
}

entry-same :
    (x y : List ℕ) (from to p : ℕ) → SameBetween x y from to → from ≤ p → p + 12 ≤ to → entry_at y p ≡ entry_at x p
entry-same x y from to p e a b =
    rw (
      e.each p a (omega arith),
      each 1 (omega arith),
      each 2 (omega arith),
      each 3 (omega arith),
      each 4 (omega arith),
      each 5 (omega arith),
      each 6 (omega arith),
      each 7 (omega arith),
      each 8 (omega arith),
      each 9 (omega arith),
      each 10 (omega arith),
      each 11 (omega arith),
    )
  where
    each : (k : ℕ) → k < 12 → get_or y (p + k) 0 ≡ get_or x (p + k) 0
    each k h = e.each (p + k) (omega arith) (omega arith)

-- one entry stays, with its marks
placed_same :
    (s : Str) (x y : List ℕ) (end end' : ℕ) (e : Entry) (n : Node) → SameBetween x y (first_mark (length s)) end
    → length y ≡ length x → end ≤ end' → Placed s x end e n → Placed s y end' e n
placed_same s x y end end' e n m l h p = record {
  is = record {
    id = p.is.id;
    parent = p.is.parent;
    scope = p.is.scope;
    is-struct = p.is.is-struct;
    generic = p.is.generic;
    tag-count = p.is.tag-count;
    tag-offset = p.is.tag-offset;
    the_mod = p.is.the_mod;
    after = p.is.after;
    params = p.is.params;
    count = p.is.count;
    marks = marked-same s x y (first_mark (length s)) end e.marks n.params m l p.first p.last p.is.marks;
    fields = p.is.fields;
    end = p.is.end;
  };
  first = p.first;
  last = omega (arith, p.last);
}

-- all entries stay
pub filled-same :
    (s : Str) (x y : List ℕ) (from to end end' p : ℕ) (ns : List Node) → SameBetween x y from to → from ≤ p
    → p + 12 * length ns ≤ to
    → SameBetween x y (first_mark (length s)) end → length y ≡ length x → end ≤ end' → Filled s x end p ns → Filled s y end' p ns
unfolding Filled
filled-same s x y from to end end' p [] e a b m l h f = tt
filled-same s x y from to end end' p (n ∷ ns) e a b m l h f = (
  rw (entry-same x y from to p e a (omega arith)) (placed_same s x y end end' (entry_at x p) n m l h f.0),
  filled-same s x y from to end end' (p + 12) ns e (omega arith) (omega arith) m l h f.1,
)

-- one entry more
pub filled_more :
    (s : Str) (x : List ℕ) (end p : ℕ) (ns : List Node) (n : Node) → Filled s x end p ns
    → Placed s x end (entry_at x (p + 12 * length ns)) n → Filled s x end p (ns ++ n ∷ [])
unfolding Filled
filled_more s x end p [] n f h = let z : p + 12 * 0 ≡ p = omega arith in (rw z at h, tt)
filled_more s x end p (m ∷ ns) n f h =
    let z : p + 12 * suc (length ns) ≡ p + 12 + 12 * length ns = omega arith in
    (f.0, filled_more s x end (p + 12) ns n f.1 (rw z at h))

filled-entries :
    (s : Str) (x : List ℕ) (end p : ℕ) (ns : List Node) → p + 12 * length ns ≤ length x → Filled s x end p ns → Entries s x p ns
unfolding Filled Entries
filled-entries s x end p [] h f = tt
filled-entries s x end p (n ∷ ns) h f =
    (omega arith, f.0.is, filled-entries s x end (p + 12) ns (omega arith) f.1)

-- with their count, they are the index
pub filled-all :
    (s : Str) (x : List ℕ) (end count : ℕ) (ns : List Node) → 1 + 12 * count ≤ length x → length ns ≡ count → count ≤ 64
    → Filled s x end 1 ns → Indexed s ns (set x 0 count)
filled-all s x end count ns room l h f =
    let n = length-set x 0 count in
    let other : (from to : ℕ) → 0 < from → SameBetween x (set x 0 count) from to = λ from to a. record {
      each = λ q b c. get_or-set_other x 0 q count 0 (λ z. omega arith);
    } in
    record {
      count = get_or-set_same x 0 count 0 (omega arith) ∙ sym l;
      few = omega arith;
      entries = filled-entries s (set x 0 count) end 1 ns (omega arith)
          (filled-same s x (set x 0 count) 1 (1 + 12 * length ns) end end 1 ns (other 1 (1 + 12 * length ns) (omega arith))
          (omega arith) (omega arith) (other (first_mark (length s)) end (omega arith)) n (omega arith) f);
    }
