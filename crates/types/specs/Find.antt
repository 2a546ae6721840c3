-- Where things stand in a sheet, told by rows: what follows a type or a scope, the scope of a brand that counts, and the chain of
-- a node's parents. Assumes nothing.
use Rattle.std.specs.Prelude.{◌≡◌, true, List, [], ◌∷◌, ℕ, zero, suc, ◌+◌, ◌<◌, ◌≤◌, eqb, ltb, drop, take, length, get_or}
use Rattle.std.specs.Prelude.{Option, None, Some, Result, Ok, Err}
use Rattle.text.specs.Bytes.{Str, cond}
use Rattle.row.specs.Rows.{rows, rest_of}
use Rattle.row.specs.Line.{Content, line_of, line_at, as_type, as_scope}
use Rattle.row.specs.Part.{owed, is_part}
use Rattle.tree.specs.Tree.{Node, Sheet, end}
use Rattle.tree.specs.Reader.{Rows, Reading, got, no, Has}
use Rattle.tree.specs.Read as read
pub use Rattle.nodes.specs.Index.{Indexed, lookup}
pub use Rattle.nodes.specs.Index.{sheet_of}
unfoldable pub use Rattle.nodes.specs.Index.{names_of}
use Rattle.nodes.specs.Index.{rows_after}
use Rattle.terms.specs.Kinds.{kind_numbered}
use Rattle.terms.specs.Refusals.{number}
use Rattle.terms.specs.declared.refusals.Refusal.{Refusal}
use Rattle.terms.specs.declared.refusals.Refusal.TheVariants.{TooDeep, NoNode}
use Rattle.nodes.specs.declared.Entry.{Entry}
use Rattle.codegen_types.specs.Out.{Out, ok, refused, ◌then◌}
use Rattle.codegen_types.specs.TypeString.{Scope, scopes_of, scope_of, arguments_of, accumulate}
use Rattle.types.specs.declared.TypeRow.{TypeRow}
use Rattle.types.specs.declared.Links.{Links}

-- ---- what is read at a position

-- of the rows after what is read
abbrev pub After : {A : Type 0} → Reading A → (Rows → Type 0) → Type 0
After (got a rs) P = P rs
After (no k rs) P = Unit {0}

-- ---- types and scopes

-- the kind of the type that comes first; no T row has a kind above 18
abbrev pub kind_at : Rows → ℕ
kind_at rs = as_type (line_at rs) (λ k a b c. cond (ltb k 18) k 18) 0

-- the kind and the numbers of a T line, a Void's and 0 for another line, and the position of the row after it
abbrev pub type_row : Content → ℕ → TypeRow
type_row l next = record {
  kind = kind_numbered (as_type l (λ k a b c. k) 0);
  a = as_type l (λ k a b c. a) 0;
  b = as_type l (λ k a b c. b) 0;
  c = as_type l (λ k a b c. c) 0;
  next = next;
}

-- the T row at a position
pub record TypeRowAt (s : Str) (at : ℕ) (r : TypeRow) : Type 0 where
  pub row : r ≡ type_row (line_at (rows (drop at s))) r.next
  pub next : rows (drop r.next s) ≡ rest_of (rows (drop at s))

-- the rows after n types, scopes or bindings
unfoldable pub past_rows : Rows → ℕ → Rows
past_rows [] n = []
past_rows (r ∷ rs) zero = r ∷ rs
past_rows (r ∷ rs) (suc n) = past_rows rs (owed (line_of r) + n)

-- the rows of n types, scopes or bindings are all there, each of them part of a type
unfoldable pub AllParts : Rows → ℕ → Type 0
AllParts [] zero = Unit {0}
AllParts [] (suc n) = ⊥
AllParts (r ∷ rs) zero = Unit {0}
AllParts (r ∷ rs) (suc n) = (is_part (line_of r) ≡ true) × AllParts rs (owed (line_of r) + n)

-- if they are, these are the rows after them
abbrev pub Past : Rows → ℕ → Rows → Type 0
Past rs n rest = AllParts rs n → rest ≡ past_rows rs n

-- the rows from the last of n scopes with an id on; where there is none, those found before
unfoldable pub last_scope : ℕ → ℕ → Rows → Option Rows → Option Rows
last_scope id zero rs found = found
last_scope id (suc n) rs found =
    as_scope (line_at rs)
    (λ i b m. last_scope id n (past_rows (rest_of rs) (owed (line_at rs))) (cond (eqb i id) (Some rs) found))
    found

-- the scope whose rows come first, with the texts of its bindings in a sheet
abbrev pub first_scope : List (ℕ × Scope) → Option Scope
first_scope [] = None
first_scope (s ∷ ss) = Some s.1

unfoldable pub ScopeHere : ℕ → Sheet → Rows → Option Scope → Type 0
ScopeHere left sheet rs o = Has (read.read_scope (read.read_type left) rs) (λ f. o ≡ first_scope (scopes_of (f end) sheet))

-- rows that may have been found have the scope o
abbrev pub ScopeIs : ℕ → Sheet → Option Rows → Option Scope → Type 0
ScopeIs left sheet (Some rs) o = ScopeHere left sheet rs o
ScopeIs left sheet None o = o ≡ None

-- rows from a scope's row on have the scope o, and no rows have none
abbrev pub ScopeAt : ℕ → Sheet → Rows → Option Scope → Type 0
ScopeAt left sheet [] o = o ≡ None
ScopeAt left sheet (r ∷ rs) o = ScopeHere left sheet (r ∷ rs) o

-- ---- the chain of a node's parents

-- how a chain ends: after a node without a parent, or with a refusal
abbrev pub end_of : Option Refusal → Out (List (List Str))
end_of None = ok []
end_of (Some e) = refused (number e)

-- the arguments of nodes with these ids, whose P rows begin at these positions, innermost first, before what is further out
unfoldable pub before : Str → Str → List (ℕ × Scope) → List ℕ → List ℕ → Out (List (List Str)) → Out (List (List Str))
before root s scopes [] ps o = o
before root s scopes (i ∷ is) [] o = o
before root s scopes (i ∷ is) (p ∷ ps) o =
    arguments_of root (names_of (rows (drop p s))) (scope_of i scopes) then λ arguments.
    before root s scopes is ps o then λ outer. ok (arguments ∷ outer)

-- the next node of a chain that has these ids, or its refusal; 4 after 16 nodes
abbrev pub or_five : Option Entry → Result Entry Refusal
or_five (Some n) = Ok n
or_five None = Err NoNode

abbrev pub step_of : List ℕ → List ℕ → ℕ → Result Entry Refusal
step_of index ids id =
    cond (ltb (length ids) 16) (cond (read.among id ids) (Err TooDeep) (or_five (lookup index id))) (Err TooDeep)

-- so many P rows, and no more, stand from a position on, and the rows after them from another
pub record ParamsAt (s : Str) (from count end : ℕ) : Type 0 where
  pub names : count ≡ length (names_of (rows (drop from s)))
  pub after : rows (drop end s) ≡ rows_after count (rows (drop from s))

-- a chain of at most 16 nodes, none of them twice, has the nodes that `accumulate` visits, and its refusal, whatever the scopes
-- of the brand are; and how many parameters each node has, and where their P rows begin and end
pub record ChainOf (s index : List ℕ) (id : ℕ) (c : Links) : Type 0 where
  pub few : c.count ≤ 16
  pub ids_size : length c.ids ≡ 16
  pub params-size : length c.params ≡ 16
  pub counts_size : length c.counts ≡ 16
  pub ends_size : length c.ends ≡ 16
  pub once : (j k : ℕ) → j < k → k < c.count → get_or c.ids j 0 ≡ get_or c.ids k 0 → ⊥
  pub each : (ns : List Node) → Indexed s ns index → (k : ℕ) → k < c.count
      → ParamsAt s (get_or c.params k 0) (get_or c.counts k 0) (get_or c.ends k 0)
  pub all : (root : Str) (ns : List Node) → Indexed s ns index → (scopes : List (ℕ × Scope))
      → accumulate (sheet_of root ns) scopes 16 id
      ≡ before root s scopes (take c.count c.ids) (take c.count c.params) (end_of c.refusal)

-- the rows that were found, or none
abbrev pub or_none : Option Rows → Rows
or_none None = []
or_none (Some rs) = rs

-- if the rows of so many scopes are there, the position of the last with each of these ids, of at most 16, and the sheet's end
-- where there is none
pub record LastScopes (s : Str) (from count : ℕ) (ids places : List ℕ) : Type 0 where
  pub each : AllParts (rows (drop from s)) count → (k : ℕ) → k < length ids → k < 16
      → rows (drop (get_or places k 0) s) ≡ or_none (last_scope (get_or ids k 0) count (rows (drop from s)) None)

-- a position is noted for each of these ids that is i
pub record Noted (ids : List ℕ) (i at : ℕ) (places after : List ℕ) : Type 0 where
  pub size : length after ≡ 16
  pub each : (k : ℕ) → k < length ids → k < 16 → get_or after k 0 ≡ cond (eqb i (get_or ids k 0)) at (get_or places k 0)
