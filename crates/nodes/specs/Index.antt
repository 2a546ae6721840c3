-- The index of a sheet's nodes, as one flat list of numbers that a caller lends: how many nodes there are, twelve numbers for
-- each of them, and the positions of every 16th parameter. Assumes nothing.
use Rattle.std.specs.Prelude.{◌≡◌, List, [], ◌∷◌, ◌++◌, ℕ, zero, suc, ◌+◌, ◌-◌, ◌*◌, ◌/◌, ◌%◌, ◌<◌, ◌≤◌, min, eqb, ltb, length}
use Rattle.std.specs.Prelude.{take, drop, get_or}
use Rattle.std.specs.Prelude.{Option, None, Some}
use Rattle.text.specs.Bytes.{Str, cond}
use Rattle.row.specs.Rows.{rows, rest_of}
use Rattle.row.specs.Line.{line_of, text_of, text_at, as_parameter}
use Rattle.tree.specs.Tree.{Node, Sheet}
use Rattle.tree.specs.Reader.{Rows}
use Rattle.tree.specs.Fields.{FieldsHere}
use Rattle.nodes.specs.declared.Entry.{Entry}
use Rattle.nodes.specs.declared.Source.{Source}

-- how many numbers an entry has
abbrev pub entry_size : ℕ
entry_size = 12

-- every 16th P row of a node but the first has a mark in the index, its position
abbrev pub mark_every : ℕ
mark_every = 16

-- the fewest bytes of so many P rows, each of which has 4 or more
abbrev pub mark_bytes : ℕ
mark_bytes = 4 * mark_every

-- where the marks begin in the index of a sheet of n bytes: after the count and the entries of its nodes, of which there are at
-- most 64, each with an N row of 151 bytes or more
abbrev pub first_mark : ℕ → ℕ
first_mark n = 1 + entry_size * min 64 (n / 151)

-- the numbers of the index of a sheet of n bytes, of which at most 65,536 are read: a mark stands for so many P rows
abbrev pub index_size : ℕ → ℕ
index_size n = first_mark n + min 65536 n / mark_bytes

-- the entry whose numbers stand from a place of the index on
abbrev pub entry_at : List ℕ → ℕ → Entry
entry_at index p = record {
  id = get_or index p 0;
  parent = get_or index (p + 1) 0;
  scope = get_or index (p + 2) 0;
  is_struct = get_or index (p + 3) 0;
  generic = get_or index (p + 4) 0;
  tag_count = get_or index (p + 5) 0;
  tag_offset = get_or index (p + 6) 0;
  at = get_or index (p + 7) 0;
  params = get_or index (p + 8) 0;
  count = get_or index (p + 9) 0;
  marks = get_or index (p + 10) 0;
  fields = get_or index (p + 11) 0;
}

-- the numbers of an entry
abbrev pub numbers_of : Entry → List ℕ
numbers_of e =
    e.id ∷ e.parent ∷ e.scope ∷ e.is_struct ∷ e.generic ∷ e.tag_count ∷ e.tag_offset ∷ e.at ∷ e.params ∷ e.count
    ∷ e.marks ∷ e.fields ∷ []

-- the index with an entry's numbers from a place on, if they fit there
unfoldable pub with_entry : List ℕ → ℕ → Entry → List ℕ
with_entry index p e =
    cond (ltb (length index) (p + entry_size)) index (take p index ++ numbers_of e ++ drop (p + entry_size) index)

-- the node with an id
unfoldable pub by_id : ℕ → List Node → Option Node
by_id id [] = None
by_id id (n ∷ ns) = cond (eqb n.id id) (Some n) (by_id id ns)

-- the part with a number, from 0
unfoldable pub nth : {A : Type 0} → ℕ → List A → Option A
nth k [] = None
nth zero (x ∷ xs) = Some x
nth (suc k) (x ∷ xs) = nth k xs

-- the names of the P rows that stand first
unfoldable pub names_of : Rows → List Str
names_of [] = []
names_of (r ∷ rs) = as_parameter (line_of r) (text_of r ∷ names_of rs) []

-- the rows after so many of the first
unfoldable pub rows_after : ℕ → Rows → Rows
rows_after zero rs = rs
rows_after (suc n) rs = rows_after n (rest_of rs)

-- the first of so many entries from a place on that has an id, as far as the index reaches
unfoldable pub lookup_from : List ℕ → ℕ → ℕ → ℕ → Option Entry
lookup_from index id zero p = None
lookup_from index id (suc left) p =
    cond (ltb (length index) (p + entry_size)) None
    (cond (eqb (get_or index p 0) id) (Some (entry_at index p)) (lookup_from index id left (p + entry_size)))

abbrev pub lookup : List ℕ → ℕ → Option Entry
lookup index id = lookup_from index id (get_or index 0 0) 1

-- the entry with a number, from 0, as far as the index reaches; there are at most 64
unfoldable pub entry_with : List ℕ → ℕ → Option Entry
entry_with index k =
    cond (ltb k (min 64 (get_or index 0 0)))
    (cond (ltb (length index) (1 + entry_size * k + entry_size)) None (Some (entry_at index (1 + entry_size * k))))
    None

-- where each parameter stands that has a mark: the marks from a place of the index on
pub record Marked (s : Str) (index : List ℕ) (marks : ℕ) (names : List Str) : Type 0 where
  pub each : (j : ℕ) → mark_every * suc j < length names
      → (marks + j < length index) × (names_of (rows (drop (get_or index (marks + j) 0) s)) ≡ drop (mark_every * suc j) names)

-- an entry says of a node what its N line says, where that line stands, where its P lines begin and how many they are, and
-- where its fields begin, which is where its P lines end
pub record EntryIs (s : Str) (index : List ℕ) (e : Entry) (n : Node) : Type 0 where
  pub id : e.id ≡ n.id
  pub parent : e.parent ≡ n.parent
  pub scope : e.scope ≡ n.scope
  pub is-struct : e.is_struct ≡ n.is_struct
  pub generic : e.generic ≡ n.generic
  pub tag-count : e.tag_count ≡ n.tag_count
  pub tag-offset : e.tag_offset ≡ n.tag_offset
  pub the_mod : text_at (rows (drop e.at s)) ≡ n.the_mod
  pub after : rows (drop e.params s) ≡ rest_of (rows (drop e.at s))
  pub params : names_of (rows (drop e.params s)) ≡ n.params
  pub count : e.count ≡ length n.params
  pub marks : Marked s index e.marks n.params
  pub fields : FieldsHere (rows (drop e.fields s)) n.fields
  pub end : rows (drop e.fields s) ≡ rows_after e.count (rows (drop e.params s))

-- the entries of nodes, one after the other from a place of the index on
unfoldable pub Entries : Str → List ℕ → ℕ → List Node → Type 0
Entries s index p [] = Unit {0}
Entries s index p (n ∷ ns) =
    (p + entry_size ≤ length index) × EntryIs s index (entry_at index p) n × Entries s index (p + entry_size) ns

-- the index of the nodes of a sheet s
pub record Indexed (s : Str) (ns : List Node) (index : List ℕ) : Type 0 where
  pub count : get_or index 0 0 ≡ length ns
  pub few : length ns ≤ 64
  pub entries : Entries s index 1 ns

-- an entry that was looked for is that of the node, and there is none where there is no node
abbrev pub Finds : Str → List ℕ → Option Entry → Option Node → Type 0
Finds s index (Some e) (Some n) = EntryIs s index e n
Finds s index (Some e) None = ⊥
Finds s index None (Some n) = ⊥
Finds s index None None = Unit {0}

-- the text at a position that was found is the name with a number, from 0; no position stands for none
abbrev pub NameAt : Str → Option ℕ → ℕ → List Str → Type 0
NameAt s (Some q) k names = nth k names ≡ Some (text_at (rows (drop q s)))
NameAt s None k names = nth k names ≡ None

-- the rows that a position stands for, if there is one
abbrev pub rows_there : Str → Option ℕ → Option Rows
rows_there s (Some q) = Some (rows (drop q s))
rows_there s None = None

-- the rows from the P row of an entry's parameter with a number, from 0, on: one before the first mark is counted from the
-- first P row, any other from the last mark before it, if the index has that mark
unfoldable pub parameter_rows : Str → List ℕ → Entry → ℕ → Option Rows
parameter_rows s index e k =
    cond (ltb k e.count)
    (cond (ltb k mark_every) (Some (rows_after k (rows (drop e.params s))))
    (cond (ltb (e.marks + (k / mark_every - 1)) (length index))
    (Some (rows_after (k % mark_every) (rows (drop (get_or index (e.marks + (k / mark_every - 1)) 0) s)))) None))
    None

-- a sheet by its root and its nodes
abbrev pub sheet_of : Str → List Node → Sheet
sheet_of root ns = record { root = root; nodes = ns }

-- in every sheet with this root whose nodes the index has
abbrev pub ForAll : Str → Str → List ℕ → (Sheet → Type 0) → Type 0
ForAll root s index P = (ns : List Node) → Indexed s ns index → P (sheet_of root ns)

-- the same, of a sheet with its index
abbrev pub InSource : Source → (Sheet → Type 0) → Type 0
InSource x P = ForAll x.root.now x.bytes.now x.index.now P

-- a source of these bytes and this index: its root is the text of the first row
pub record IsSource (s index : List ℕ) (x : Source) : Type 0 where
  pub root-is : x.root.now ≡ text_at (rows s)
  pub bytes-are : x.bytes.now ≡ s
  pub index-is : x.index.now ≡ index
