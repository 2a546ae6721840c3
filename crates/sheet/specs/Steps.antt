-- What the steps of admission promise one another: group ids with their flags and their room, the marks of P rows, a node and its
-- entry. Only the code needs them: what admission promises stands in Admission. Assumes nothing.
use Rattle.std.specs.Prelude.{◌≡◌, Bool, true, List, ◌++◌, ℕ, ◌+◌, ◌-◌, ◌*◌, ◌/◌, ◌%◌, ◌≤◌, ◌<◌, eqb, ltb, length, drop}
use Rattle.std.specs.Prelude.{get_or, set, ⊤, Option, None, Some, Result, Ok, Err}
use Rattle.text.specs.Bytes.{Str, unit, cond, both}
use Rattle.row.specs.Rows.{rows, rest_of, size, line_no}
use Rattle.row.specs.Line.{text_at}
use Rattle.tree.specs.Tree.{Field, Node}
use Rattle.tree.specs.Reader.{Rows, Reading, got, no, Reader, ◌then◌, map_r, On}
use Rattle.tree.specs.Read.{among, read_fields, group_ids, read_params, read_members, admitted}
use Rattle.terms.specs.Refusals.{number}
use Rattle.tree.specs.Walked.{passed, refused_row}
use Rattle.tree.specs.declared.RefusedRow.{RefusedRow}
use Rattle.nodes.specs.Index.{entry_at, names_of, mark_every, mark_bytes, first_mark, index_size, Marked, EntryIs, Indexed}
use Rattle.nodes.specs.declared.Entry.{Entry}
use Rattle.sheet.specs.Admission.{refusal_in, IndexOf}
use Rattle.sheet.specs.declared.ParamsRun.{ParamsRun}
use Rattle.sheet.specs.declared.Held.{Held}
use Rattle.sheet.specs.declared.NodeRun.{NodeRun}

-- the number, the line and the column of the refusal of a reading of s, if it is refused
abbrev pub refusal_of : {A : Type 0} → Str → Reading A → Option (ℕ × ℕ × ℕ)
refusal_of s (got a rs) = None
refusal_of s (no k rs) = Some (k.number, line_no s rs, k.column)

-- those of the row that the code refuses, if it refuses one
abbrev pub row_refusal : Str → Result ⊤ RefusedRow → Option (ℕ × ℕ × ℕ)
row_refusal s (Ok u) = None
row_refusal s (Err r) = Some (number r.refusal, line_no s (rows (drop r.at s)), r.column)

-- a reading is refused at the row that the code refuses
abbrev pub RefusedAs : {A : Type 0} → Str → Reading A → RefusedRow → Type 0
RefusedAs s g r = refused_row s r ≡ passed g

-- ---- group ids

-- the group ids seen after a node's fields
abbrev pub groups_after : List ℕ → Reader (List ℕ)
groups_after seen = map_r (λ fs. seen ++ group_ids fs) (read_fields seen)

-- every id that stands among some has its flag set, at the remainder by 2048: an id whose flag is not set is none of them
pub record Flagged (flags ids : List ℕ) : Type 0 where
  pub set : (id : ℕ) → among id ids ≡ true → get_or flags (id % 2048) 0 ≡ 1

-- Group ids stand in a pair: how many more there is room for, and those that are held.

-- room for so many more is room for the groups of rows rs: one in each 44 bytes
abbrev pub Room : ℕ → Rows → Type 0
Room free rs = size rs ≤ 44 * free + 43

-- one more is put after those that are held
abbrev pub with_id : ℕ × List ℕ → ℕ → ℕ × List ℕ
with_id groups id = (groups.0 - 1, groups.1 ++ unit id)

-- what a field at rows rs makes of the reading of fields, with these group ids seen: it goes on with the ids held then, over
-- fewer rows; where there is none, no more is read
abbrev pub Turned : Str → Rows → List ℕ → ℕ × List ℕ → Option ℕ → Type 0
Turned s rs seen groups (Some next) =
    (groups_after seen rs ≡ groups_after groups.1 (rows (drop next s)))
    × Room groups.0 (rows (drop next s))
    × (length (rows (drop next s)) < length rs)
Turned s rs seen groups None = (groups_after seen rs ≡ got groups.1 rs) × Room groups.0 rs

-- what is said of the fields at rows rs, with these group ids seen: the ids held then, and the position after the fields
pub record FieldsRead (s : Str) (rs : Rows) (seen : List ℕ) (groups : ℕ × List ℕ) (next : ℕ) : Type 0 where
  pub read : got groups.1 (rows (drop next s)) ≡ groups_after seen rs
  pub room : Room groups.0 (rows (drop next s))

-- ---- the index

-- in the index of a sheet of n bytes the next mark has this place, and there is room for one more in each 64 of the bytes that
-- are left
abbrev pub MarkRoom : ℕ → ℕ → ℕ → Type 0
MarkRoom n place left = mark_bytes * place + left ≤ mark_bytes * index_size n + (mark_bytes - 1)

-- so many N rows, of 151 bytes or more each, and what is left are no more than the n bytes of a sheet
abbrev pub NodeRoom : ℕ → ℕ → ℕ → Type 0
NodeRoom n count left = 151 * count + left ≤ n

-- whether the P row with a number, from 0, has a mark: each 16th of a node but the first
abbrev pub has_mark : ℕ → Bool
has_mark k = both (ltb 0 k) (eqb (k % mark_every) 0)

-- the index after the P row with a number k at a position: a row that has a mark has its position put at a place
unfoldable pub with_mark : List ℕ → ℕ → ℕ → ℕ → List ℕ
with_mark index place k at = cond (has_mark k) (set index place at) index

-- the place of the next mark then
unfoldable pub next_mark : ℕ → ℕ → ℕ
next_mark place k = cond (has_mark k) (place + 1) place

-- the second list has the first's numbers from a place on, up to another
pub record SameBetween (x y : List ℕ) (from to : ℕ) : Type 0 where
  pub each : (q : ℕ) → from ≤ q → q < to → get_or y q 0 ≡ get_or x q 0

-- what is said of the P rows that stand first, with their marks from a place of the index on
pub record ParamsRead (s : Str) (rs : Rows) (marks : ℕ) (x y : List ℕ) (p : ParamsRun) : Type 0 where
  pub walk : got tt (rows (drop p.next s)) ≡ passed (read_params rs)
  pub count : p.count ≡ length (names_of rs)
  pub next : p.marks ≡ marks + (p.count - 1) / mark_every
  pub left : size (rows (drop p.next s)) ≤ size rs
  pub room : MarkRoom (length s) p.marks (size (rows (drop p.next s)))
  pub same : SameBetween x y 0 marks
  pub marked : index_size (length s) ≤ length y → Marked s y marks (names_of rs)

-- an entry is that of a node, with its marks among those before a place
pub record Placed (s : Str) (index : List ℕ) (end : ℕ) (e : Entry) (n : Node) : Type 0 where
  pub is : EntryIs s index e n
  pub first : first_mark (length s) ≤ e.marks
  pub last : e.marks + (length n.params - 1) / mark_every ≤ end

-- ---- nodes

-- the node with an entry's numbers, its module, its parameters and its fields
abbrev pub node_with : Entry → Str → List Str → List Field → Node
node_with e the_mod ps fs = record {
  id = e.id;
  parent = e.parent;
  scope = e.scope;
  is_struct = e.is_struct;
  generic = e.generic;
  tag_count = e.tag_count;
  tag_offset = e.tag_offset;
  the_mod = the_mod;
  params = ps;
  fields = fs;
}

-- the node whose N row has an entry's numbers, from what stands after that row
abbrev pub members_here : Str → Entry → List ℕ → Reading Node
members_here s e seen = read_members seen (node_with e (text_at (rows (drop e.at s)))) (rows (drop e.params s))

-- where a node is read, with the sheet from a position on left: not the 65th, with room for its ids, its marks and its entry
pub record Ready (s : Str) (at free : ℕ) (held : Held) : Type 0 where
  pub few : held.nodes < 64
  pub room : Room free (rows (drop at s))
  pub first : first_mark (length s) ≤ held.marks
  pub marks : MarkRoom (length s) held.marks (size (rows (drop at s)))
  pub nodes : NodeRoom (length s) held.nodes (size (rows (drop at s)))

-- an entry of which an N row is read: its P rows begin after that row, and its marks at the next place; there is room for it
pub record Begun (s : Str) (held : Held) (e : Entry) : Type 0 where
  pub after : rows (drop e.params s) ≡ rest_of (rows (drop e.at s))
  pub marks : e.marks ≡ held.marks
  pub room : NodeRoom (length s) (held.nodes + 1) (size (rows (drop e.params s)))

-- a node's id, and the group ids seen after it
abbrev pub seen_after : List ℕ → Node → ℕ × List ℕ
seen_after seen n = (n.id, seen ++ group_ids n.fields)

-- what is said of the reading g of a node, where some are held, with these group ids seen and the index x: its id and the ids
-- held after it; and of the index y after it, in which its entry stands after the others, its marks after the others
pub record NodeRead
    (s : Str) (held : Held) (seen x : List ℕ) (g : Reading Node) (groups : ℕ × List ℕ) (y : List ℕ) (r : NodeRun) : Type 0 where
  pub read : got (r.id, groups.1) (rows (drop r.next s)) ≡ (g then λ n. got (seen_after seen n))
  pub room : Room groups.0 (rows (drop r.next s))
  pub marks : MarkRoom (length s) r.marks (size (rows (drop r.next s)))
  pub nodes : NodeRoom (length s) (held.nodes + 1) (size (rows (drop r.next s)))
  pub further : held.marks ≤ r.marks
  pub entries : SameBetween x y 0 (1 + 12 * held.nodes)
  pub before : SameBetween x y (first_mark (length s)) held.marks
  pub entry : index_size (length s) ≤ length y → On g (Placed s y r.marks (entry_at y (1 + 12 * held.nodes)))

-- what the code says of the reading of nodes: the row that is refused, and the index that it leaves
pub record NodesRead (s : Str) (r : Result ⊤ RefusedRow) (y : List ℕ) (g : Reading (List Node)) : Type 0 where
  pub refusal : row_refusal s r ≡ refusal_of s g
  pub index : index_size (length s) ≤ length y → On g (λ ns. Indexed s ns y)

-- the same of a whole sheet
pub record SheetRead (s : Str) (r : Result ⊤ RefusedRow) (y : List ℕ) : Type 0 where
  pub refusal : row_refusal s r ≡ refusal_in (admitted s)
  pub index : index_size (length s) ≤ length y → IndexOf s (admitted s) y
