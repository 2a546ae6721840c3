-- Laws of `nodes`: what is known at each turn of the loop over the nodes, and what a turn makes of it. The nodes that were read
-- stand first in the reading of all nodes, and their entries in the index. Assumes nothing.
use mathlib.Core.Path.{◌≡◌, refl, sym, ap, ◌∙◌}
use mathlib.Core.List.{List, [], ◌∷◌, ◌++◌, append_assoc}
use Prim.Native.Nat.{ℕ, zero, suc, ◌+◌, ◌-◌, ◌*◌, ◌≤◌, ◌<◌}
use native.Mathlib.Omega.{arith}
use native.Mathlib.Numerals.{sub-one}
use lib.ListN.{length, drop, take, set, length-set, length-append}
use Rattle.std.specs.Prelude.{Ok, Err}
use Rattle.text.specs.Bytes.{Str, unit}
use Rattle.row.specs.Rows.{rows, size}
use Rattle.row.proofs.Laws.{rows_out, rows_shrink}
use Rattle.tree.specs.Tree.{Node}
use Rattle.tree.specs.Reader.{Rows, Reading, got, no, ◌then◌, map_r, at_end}
use Rattle.tree.specs.Read.{group_ids, read_node, read_nodes}
use Rattle.tree.specs.Walked.{passed, refused_row, misplaced_at}
use Rattle.tree.specs.declared.RefusedRow.{RefusedRow}
use Rattle.tree.proofs.OtherLines.{never}
use Rattle.nodes.specs.Index.{first_mark, index_size}
use Rattle.sheet.specs.Steps.{Room, MarkRoom, NodeRoom, refusal_of, RefusedAs, seen_after, NodeRead, NodesRead}
use Rattle.sheet.specs.declared.Held.{Held}
use Rattle.sheet.specs.declared.NodeRun.{NodeRun}
use Rattle.sheet.proofs.FieldsLaws.{pushed}
use Rattle.sheet.proofs.RoomLaws.{rest-fits}
use Rattle.sheet.proofs.PlacedLaws.{Filled, filled-same, filled_more, filled-all}

nodes-more :
    (more : ℕ) (ids seen : List ℕ) (rs : Rows) → 0 < more
    → read_nodes more ids seen rs
    ≡ (read_node ids seen rs then λ n.
    at_end (got (n ∷ [])) (map_r (n ∷◌) (read_nodes (more - 1) (ids ++ unit n.id) (seen ++ group_ids n.fields))))
unfolding read_nodes
nodes-more zero ids seen rs h = let z : ⊥ = omega arith in absurd z
nodes-more (suc m) ids seen rs h = rw (sub-one (suc m))

-- the node that was read, from its id and the group ids seen after it
record Taken (i : ℕ) (seen a : List ℕ) (g : Reading Node) (ts : Rows) : Type 0 where
  node : Node
  read : g ≡ got node ts
  id : node.id ≡ i
  groups : seen ++ group_ids node.fields ≡ a

taken :
    (i : ℕ) (seen a : List ℕ) (g : Reading Node) (ts : Rows) → got (i, a) ts ≡ (g then λ n. got (seen_after seen n))
    → Taken i seen a g ts
taken i seen a (got n us) ts e =
    let p : seen_after seen n ≡ (i, a) = cc in
    let z : us ≡ ts = cc in
    record { node = n; read = rw z; id = ap (λ p. p.0) p; groups = ap (λ p. p.1) p }
taken i seen a (no k us) ts e = never cc

-- the reading of all nodes from a position on
abbrev whole : Str → ℕ → Reading (List Node)
whole s from = read_nodes 64 [] [] (rows (drop from s))

-- some nodes in front of those that are read
abbrev after : List Node → Reading (List Node) → Reading (List Node)
after done g = g then λ ns. got (done ++ ns)

after-nil : (g : Reading (List Node)) → g ≡ after [] g
after-nil (got ns us) = refl
after-nil (no k us) = refl

after_one : (done : List Node) (n : Node) (g : Reading (List Node))
    → after done (g then λ ns. got (n ∷ ns)) ≡ after (done ++ n ∷ []) g
after_one done n (got ns us) = ap (λ (l : List Node). got l us) (sym (append_assoc done (n ∷ []) ns))
after_one done n (no k us) = refl

-- at the head of the loop: `count` nodes are read, with their group ids, and the marks before a place; the next stands at `at`
pub record Standing (s : Str) (from : ℕ) (index ids : List ℕ) (groups : ℕ × List ℕ) (count marks at : ℕ) : Type 0 where
  pub ids_size : length ids ≡ 64
  pub few : count ≤ 64
  pub room : Room groups.0 (rows (drop at s))
  pub first : first_mark (length s) ≤ marks
  pub mark-room : MarkRoom (length s) marks (size (rows (drop at s)))
  pub node-room : NodeRoom (length s) count (size (rows (drop at s)))
  pub done : List Node
  pub done-count : length done ≡ count
  pub same : whole s from ≡ after done (read_nodes (64 - count) (take count ids) groups.1 (rows (drop at s)))
  pub filled : index_size (length s) ≤ length index → Filled s index marks 1 done

pub standing_first :
    (s : Str) (from : ℕ) (index ids : List ℕ) (free : ℕ) → length ids ≡ 64 → Room free (rows (drop from s))
    → size (rows (drop from s)) ≤ 65536 → (marks : ℕ) → marks ≡ first_mark (length s)
    → Standing s from index ids (free, []) 0 marks from
unfolding Filled
standing_first s from index ids free a r m marks e = record {
  ids_size = a;
  few = omega arith;
  room = r;
  first = omega arith;
  mark-room = omega (arith, rest-fits s from (length s) (omega arith));
  node-room = omega (arith, rest-fits s from (length s) (omega arith));
  done = [];
  done-count = refl;
  same = after-nil (whole s from);
  filled = λ big. tt;
}

-- a reading that is refused has no index
nodes-no : (s : Str) (r : RefusedRow) (y : List ℕ) (g : Reading (List Node)) → RefusedAs s g r → NodesRead s (Err r) y g
nodes-no s r y (got ns us) e = never cc
nodes-no s r y (no k us) e = record { refusal = ap (refusal_of s) e; index = λ big. tt }

-- what the next node finds
module _ (s : Str) (from : ℕ) (index ids : List ℕ) (groups : ℕ × List ℕ) (count marks at : ℕ)
    (h : Standing s from index ids groups count marks at) where
  abbrev held : Held
  held = record { nodes = count; marks = marks }

  -- no node more
  pub standing_full : (y : List ℕ) → 64 ≤ count → NodesRead s (Err (misplaced_at at)) y (whole s from)
  unfolding read_nodes
  standing_full y l =
      let z : 64 - count ≡ 0 = omega arith in
      nodes-no s (misplaced_at at) y (whole s from) (sym (ap passed h.same ∙ rw z))

  module _ (l : count < 64) where
    -- a node is refused
    pub standing-no :
        (r : RefusedRow) → RefusedAs s (read_node (take count ids) groups.1 (rows (drop at s))) r → (z : List ℕ)
        → NodesRead s (Err r) z (whole s from)
    standing-no r e z =
        nodes-no s r z (whole s from)
        (go (read_node (take count ids) groups.1 (rows (drop at s))) e
        ∙ sym (ap passed
        (h.same ∙ rw (nodes-more (64 - count) (take count ids) groups.1 (rows (drop at s)) (omega arith)))))
      where
        go : (g : Reading Node) → refused_row s r ≡ passed g
            → refused_row s r ≡ passed (after h.done (g then λ m.
            at_end (got (m ∷ [])) (map_r (m ∷◌)
            (read_nodes (64 - count - 1) (take count ids ++ unit m.id) (groups.1 ++ group_ids m.fields)))))
        go (got m us) e = never cc
        go (no k us) e = e

    -- a node is read
    module _ (y : List ℕ) (groups' : ℕ × List ℕ) (r : NodeRun)
        (read : NodeRead s held groups.1 index (read_node (take count ids) groups.1 (rows (drop at s))) groups' y r)
      where
        -- it is the next node
        module _ (kept : length y ≡ length index) where
          abbrev q : ℕ
          q = r.next

          it : Taken r.id groups.1 groups'.1
              (read_node (take count ids) groups.1 (rows (drop at s))) (rows (drop q s))
          it = taken r.id groups.1 groups'.1
              (read_node (take count ids) groups.1 (rows (drop at s))) (rows (drop q s)) read.read

          abbrev now-done : List Node
          now-done = h.done ++ it.node ∷ []

          now-count : length now-done ≡ count + 1
          now-count = length-append h.done (it.node ∷ []) ∙ rw h.done-count

          turn :
              whole s from ≡ after h.done (at_end (got (it.node ∷ []))
              (map_r (it.node ∷◌) (read_nodes (64 - count - 1) (take count ids ++ unit r.id) groups'.1))
              (rows (drop q s)))
          turn =
              h.same ∙ rw (
                nodes-more (64 - count) (take count ids) groups.1 (rows (drop at s)) (omega arith),
                it.read,
                it.id,
                it.groups,
              )

          now-filled : index_size (length s) ≤ length y → Filled s y r.marks 1 now-done
          now-filled big =
              filled_more s y r.marks 1 h.done it.node
              (filled-same s index y 0 (1 + 12 * count) marks r.marks 1 h.done read.entries (omega arith)
              (omega (arith, h.done-count)) read.before kept read.further (h.filled (omega arith)))
              (rw h.done-count (rw it.read at (read.entry big)))

          -- it is the last
          pub standing-done : length s ≤ q → NodesRead s (Ok tt) (set y 0 (count + 1)) (whole s from)
          standing-done o =
              let end = rows_out s q o in
              let all : whole s from ≡ got now-done (rows (drop q s)) = turn ∙ last (rows (drop q s)) end in
              record {
                refusal = rw all;
                index = λ big. rw all (filled-all s y r.marks (count + 1) now-done
                    (omega (arith, length-set y 0 (count + 1), read.nodes))
                    now-count (omega arith) (now-filled (omega (arith, length-set y 0 (count + 1)))));
              }
            where
              last : (us : Rows) → us ≡ []
                  → after h.done (at_end (got (it.node ∷ []))
                  (map_r (it.node ∷◌) (read_nodes (64 - count - 1) (take count ids ++ unit r.id) groups'.1)) us)
                  ≡ got now-done us
              last [] z = refl
              last (u ∷ us) z = never cc

          -- others follow
          pub standing-next :
              q < length s → Standing s from y (set ids count r.id) groups' (count + 1) r.marks q
          standing-next o = record {
            ids_size = length-set ids count r.id ∙ h.ids_size;
            few = omega arith;
            room = read.room;
            first = omega (arith, h.first, read.further);
            mark-room = read.marks;
            node-room = read.nodes;
            done = now-done;
            done-count = now-count;
            same = turn ∙ on (rows (drop q s)) (omega (arith, rows_shrink s q o));
            filled = now-filled;
          }
            where
              ids-after : take (count + 1) (set ids count r.id) ≡ take count ids ++ unit r.id
              ids-after = pushed ids count r.id (omega (arith, h.ids_size))

              on : (us : Rows) → 0 < length us
                  → after h.done (at_end (got (it.node ∷ []))
                  (map_r (it.node ∷◌) (read_nodes (64 - count - 1) (take count ids ++ unit r.id) groups'.1)) us)
                  ≡ after now-done (read_nodes (64 - (count + 1)) (take (count + 1) (set ids count r.id))
                  groups'.1 us)
              on [] z = let v : ⊥ = omega arith in absurd v
              on (u ∷ us) z =
                  let m : 64 - (count + 1) ≡ 64 - count - 1 = omega arith in
                  rw (m, ids-after) (after_one h.done it.node
                  (read_nodes (64 - count - 1) (take count ids ++ unit r.id) groups'.1 (u ∷ us)))
