-- Laws of `members` and `node`: what is read of one node, and what its reading makes of the index; or what is refused of its N
-- row, its P rows or its fields. Assumes nothing.
use mathlib.Core.Path.{◌≡◌, refl, sym, ap, ◌∙◌}
use mathlib.Core.Bool.{Bool, true, false}
use mathlib.Core.List.{List, ◌++◌}
use Rattle.std.specs.Prelude.{Result, Ok}
use Prim.Native.Nat.{ℕ, ◌+◌, ◌*◌, ◌≤◌, ◌<◌}
use native.Mathlib.Omega.{arith}
use lib.ListN.{length, drop}
use Rattle.text.specs.Bytes.{Str}
use Rattle.row.specs.Rows.{rows, rest_of, size}
use Rattle.row.specs.Line.{fault, line_said, line_at, text_at, fault_of}
use Rattle.row.specs.declared.BadLine.{BadLine}
use Rattle.row.specs.declared.Line.{Line}
use Rattle.tree.specs.Tree.{Field, Node}
use Rattle.tree.specs.Reader.{Rows, Reading, got, no, Reader, ◌then◌, On}
use Rattle.tree.specs.Read.{among, read_fields, group_ids, read_params, read_members, read_node}
use Rattle.tree.specs.Fields.{FieldsHere}
use Rattle.tree.specs.Walked.{passed, refused_row}
use Rattle.tree.specs.declared.RefusedRow.{RefusedRow}
use Rattle.tree.proofs.OtherLines.{never}
use Rattle.tree.proofs.ElseLaws.{OtherThan, else-node}
use Rattle.tree.proofs.WalkLaws.{fault_or, told_wrong}
use Rattle.tree.proofs.TailLaws.{tail_rest, tail_size}
use Rattle.nodes.specs.Index.{entry_at, with_entry, names_of, first_mark, index_size, Marked}
use Rattle.nodes.specs.declared.Entry.{Entry}
use Rattle.nodes.proofs.NameLaws.{params-names, params-rest}
use Rattle.nodes.proofs.PutLaws.{entry-put, length-put, before-put, after-put}
use Rattle.sheet.specs.Steps.{groups_after, FieldsRead, RefusedAs, SameBetween, ParamsRead, Placed}
use Rattle.sheet.specs.Steps.{node_with}
use Rattle.sheet.specs.Steps.{NodeRoom, members_here, Ready, Begun, seen_after, NodeRead}
use Rattle.sheet.specs.declared.ParamsRun.{ParamsRun}
use Rattle.sheet.specs.declared.Held.{Held}
use Rattle.sheet.proofs.FieldsHereLaws as fields
use Rattle.sheet.proofs.FieldsHereLaws.{Stand, fields_stand}
use Rattle.sheet.proofs.PlacedLaws.{marked-same}
use Rattle.sheet.proofs.RoomLaws.{node-room}
use Rattle.row.specs.declared.Line.TheVariants as line

-- what the code says of the first row
module _ (rs : Rows) (l : Result Line BadLine) (here : line_said l ≡ line_at rs) (ids seen : List ℕ) where
  pub node_other : OtherThan 1 l → no (fault_or (fault_of 78 (line_said l))) rs ≡ passed (read_node ids seen rs)
  unfolding read_node
  node_other o =
      rw (← here, else-node {A = Reader _} l _ _ o, ← here) (ap passed (sym (told_wrong (fault_of 78 (line_said l)) rs)))

  pub node-double :
      (i p sc st g tc to : ℕ) → l ≡ Ok (line.Node i p sc st g tc to) → (b : Bool) → b ≡ among i ids → b ≡ true
      → no (fault 3 2) rs ≡ passed (read_node ids seen rs)
  unfolding line_said read_node
  node-double i p sc st g tc to is b e t = rw (← here, is, ← e, t)

-- what is left after a row is less
pub ready_after :
    (s : Str) (at e free : ℕ) (held : Held) → Ready s at free held → rows (drop e s) ≡ rest_of (rows (drop at s))
    → Ready s e free held
ready_after s at e free held r after =
    let less : size (rows (drop e s)) ≤ size (rows (drop at s)) = rw after (tail_size (tail_rest (rows (drop at s)))) in
    record {
      few = r.few;
      room = omega (arith, r.room);
      first = r.first;
      marks = omega (arith, r.marks);
      nodes = omega (arith, r.nodes);
    }

-- a node is its N row, with the rows after it, and what belongs to it
module _ (s : Str) (at e : ℕ) (l : Result Line BadLine) (here : line_said l ≡ line_at (rows (drop at s)))
    (after : rows (drop e s) ≡ rest_of (rows (drop at s)))
    (i p sc st g tc to : ℕ) (is : l ≡ Ok (line.Node i p sc st g tc to)) (held : Held) where
  -- the entry that has the row's numbers
  abbrev entry : Entry
  entry = record {
    id = i;
    parent = p;
    scope = sc;
    is_struct = st;
    generic = g;
    tag_count = tc;
    tag_offset = to;
    at = at;
    params = e;
    count = 0;
    marks = held.marks;
    fields = 0;
  }

  pub node-begun : NodeRoom (length s) held.nodes (size (rows (drop at s))) → Begun s held entry
  unfolding line_said
  node-begun room =
      let less : 151 + size (rows (drop e s)) ≤ size (rows (drop at s)) = rw after
      (node-room (rows (drop at s)) i p sc st g tc to (sym here ∙ ap line_said is)) in
      record { after = after; marks = refl; room = omega arith }

  pub node-same :
      (ids seen : List ℕ) (b : Bool) → b ≡ among i ids → b ≡ false
      → read_node ids seen (rows (drop at s)) ≡ members_here s entry seen
  unfolding line_said read_node
  node-same ids seen b e f = rw (← here, is, ← e, f, after)

-- ---- what belongs to an N row

-- the bytes that are left after the fields
fields-left :
    (s : Str) (seen : List ℕ) (groups : ℕ × List ℕ) (ts : Rows) (next : ℕ) → FieldsRead s ts seen groups next
    → size (rows (drop next s)) ≤ size ts
fields-left s seen groups ts next h = go (read_fields seen ts) (fields_stand seen ts) h.read
  where
    go : (g : Reading (List Field)) → Stand ts g
        → got groups.1 (rows (drop next s)) ≡ (g then λ fs. got (seen ++ group_ids fs)) → size (rows (drop next s)) ≤ size ts
    go (got fs us) (fields.read x t) e = let z : us ≡ rows (drop next s) = cc in rw (← z) (tail_size t)
    go (no k us) fields.not e = never cc

-- a P row is refused
pub params-refused :
    (s : Str) (n : Entry) (seen : List ℕ) (r : RefusedRow) → RefusedAs s (read_params (rows (drop n.params s))) r
    → RefusedAs s (members_here s n seen) r
unfolding read_members
params-refused s n seen r h = go (read_params (rows (drop n.params s))) h
  where
    go : (g : Reading (List Str)) → refused_row s r ≡ passed g
        → refused_row s r
        ≡ passed (g then λ ps us. read_fields seen us then λ fs. got (node_with n (text_at (rows (drop n.at s))) ps fs))
    go (got ps us) h = never cc
    go (no k us) h = h

-- the entry n of which the N row is read, and the P rows p after it
module _ (s : Str) (held : Held) (seen x y : List ℕ) (n : Entry) (p : ParamsRun)
    (begun : Begun s held n) (params : ParamsRead s (rows (drop n.params s)) held.marks x y p) where
  -- it ends before the first mark
  before-marks : held.nodes < 64 → 1 + 12 * held.nodes + 12 ≤ first_mark (length s)
  before-marks few = omega (arith, begun.room)

  -- the entry with the count of its P rows and the position of its fields
  abbrev whole : Entry
  whole = record {
    id = n.id;
    parent = n.parent;
    scope = n.scope;
    is_struct = n.is_struct;
    generic = n.generic;
    tag_count = n.tag_count;
    tag_offset = n.tag_offset;
    at = n.at;
    params = n.params;
    count = p.count;
    marks = n.marks;
    fields = p.next;
  }

  abbrev ts : Rows
  ts = rows (drop p.next s)

  -- whatever is read, its parameters are the names of the P rows, and its fields stand after them
  members-by :
      (P : Reading Node → Type 0)
      → ((ps : List Str) → ps ≡ names_of (rows (drop n.params s)) → (g : Reading (List Field)) → read_fields seen ts ≡ g
      → Stand ts g → P (g then λ fs. got (node_with n (text_at (rows (drop n.at s))) ps fs)))
      → P (members_here s n seen)
  unfolding read_members
  members-by P h =
      go (read_params (rows (drop n.params s))) params.walk (params-names (rows (drop n.params s)))
    where
      go : (g : Reading (List Str)) → got tt ts ≡ passed g
          → On g (λ ps. ps ≡ names_of (rows (drop n.params s)))
          → P (g then λ ps us. read_fields seen us then λ fs. got (node_with n (text_at (rows (drop n.at s))) ps fs))
      go (got ps us) e d =
          let z : us ≡ ts = cc in
          rw z (h ps d (read_fields seen ts) refl (fields_stand seen ts))
      go (no k us) e d = never cc

  -- a field is refused
  pub fields-refused : (r : RefusedRow) → RefusedAs s (groups_after seen ts) r → RefusedAs s (members_here s n seen) r
  fields-refused r h = members-by (λ g. refused_row s r ≡ passed g) (λ ps d g e st. go ps g (rw e at h))
    where
      go : (ps : List Str) (g : Reading (List Field)) → refused_row s r ≡ passed (g then λ fs. got (seen ++ group_ids fs))
          → refused_row s r ≡ passed (g then λ fs. got (node_with n (text_at (rows (drop n.at s))) ps fs))
      go ps (got fs us) h = never cc
      go ps (no k us) h = h

  members-read :
      (a : List ℕ) (us : Rows) → got a us ≡ groups_after seen ts
      → got (n.id, a) us ≡ (members_here s n seen then λ m. got (seen_after seen m))
  members-read a us t =
      members-by (λ g. got (n.id, a) us ≡ (g then λ m. got (seen_after seen m))) (λ ps d g e st. go ps g (rw e at t))
    where
      go : (ps : List Str) (g : Reading (List Field)) → got a us ≡ (g then λ fs. got (seen ++ group_ids fs))
          → got (n.id, a) us
          ≡ ((g then λ fs. got (node_with n (text_at (rows (drop n.at s))) ps fs)) then λ m. got (seen_after seen m))
      go ps (got fs vs) e =
          let z : a ≡ seen ++ group_ids fs = cc in
          let w : us ≡ vs = cc in
          rw (z, w)
      go ps (no k vs) e = never cc

  -- the entry is put into the index after `held.nodes` others
  module _ (few : held.nodes < 64) (first : first_mark (length s) ≤ held.marks) (z : List ℕ)
      (put : z ≡ with_entry y (1 + 12 * held.nodes) whole) where
    put-length : length z ≡ length y
    put-length = rw put (length-put y (1 + 12 * held.nodes) whole)

    after-entry : (to : ℕ) → SameBetween y z (first_mark (length s)) to
    after-entry to = record {
      each = λ q a b. rw put (after-put y (1 + 12 * held.nodes) whole q (omega (arith, before-marks few)));
    }

    members-entry : index_size (length s) ≤ length z
        → On (members_here s n seen) (Placed s z p.marks (entry_at z (1 + 12 * held.nodes)))
    members-entry big =
        members-by (λ g. On g (Placed s z p.marks (entry_at z (1 + 12 * held.nodes)))) (λ ps d g e st. by-fields ps d g st)
      where
        there : entry_at z (1 + 12 * held.nodes) ≡ whole
        there = rw put (entry-put y (1 + 12 * held.nodes) whole (omega (arith, put-length, before-marks few)))

        marked : Marked s z held.marks (names_of (rows (drop n.params s)))
        marked = marked-same s y z (first_mark (length s)) p.marks held.marks (names_of (rows (drop n.params s)))
            (after-entry p.marks) put-length first
            (omega (arith, params.next, params.count)) (params.marked (omega (arith, put-length)))

        placed : (ps : List Str) (fs : List Field) → ps ≡ names_of (rows (drop n.params s)) → FieldsHere ts fs
            → Placed s z p.marks whole (node_with n (text_at (rows (drop n.at s))) ps fs)
        placed ps fs d x = record {
          is = record {
            id = refl;
            parent = refl;
            scope = refl;
            is-struct = refl;
            generic = refl;
            tag-count = refl;
            tag-offset = refl;
            the_mod = refl;
            after = begun.after;
            params = sym d;
            count = params.count ∙ ap length (sym d);
            marks = rw (begun.marks, d) marked;
            fields = x;
            end = rw params.count (params-rest (rows (drop n.params s)) ts params.walk);
          };
          first = omega (arith, begun.marks);
          last = omega (arith, begun.marks, params.next, params.count, ap length d);
        }

        by-fields : (ps : List Str) → ps ≡ names_of (rows (drop n.params s)) → (g : Reading (List Field)) → Stand ts g
            → On (g then λ fs. got (node_with n (text_at (rows (drop n.at s))) ps fs))
            (Placed s z p.marks (entry_at z (1 + 12 * held.nodes)))
        by-fields ps d (got fs us) (fields.read x t) = rw there (placed ps fs d x)
        by-fields ps d (no k us) fields.not = tt

    pub members-whole :
        (groups : ℕ × List ℕ) (next : ℕ) → FieldsRead s ts seen groups next
        → NodeRead s held seen x (members_here s n seen) groups z (record { id = n.id; next = next; marks = p.marks })
    members-whole groups next h =
        let less : size (rows (drop next s)) ≤ size ts = fields-left s seen groups ts next h in
        record {
          read = members-read groups.1 (rows (drop next s)) h.read;
          room = h.room;
          marks = omega (arith, params.room);
          nodes = omega (arith, begun.room, params.left);
          further = omega (arith, params.next);
          entries = record {
            each = λ q a b.
                rw put (before-put y (1 + 12 * held.nodes) whole q b) ∙ params.same.each q a (omega arith);
          };
          before = record { each = λ q a b. (after-entry held.marks).each q a b ∙ params.same.each q (omega arith) b };
          entry = members-entry;
        }
