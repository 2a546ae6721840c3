-- What the writers of types and brands tell: the text or the refusal that `type_string` gives for whatever type is read at a
-- position, in every sheet whose nodes the index has. Assumes nothing.
use Rattle.std.specs.Prelude.{List, [], ◌∷◌, ℕ, drop}
use Rattle.std.specs.Prelude.{Option, Result}
use Rattle.text.specs.Bytes.{Str}
use Rattle.text.specs.declared.Text.{Text}
use Rattle.row.specs.Rows.{rows}
use Rattle.tree.specs.Tree.{list, struct, Scopes, end, stop}
use Rattle.tree.specs.Reader.{Reading, times, On}
use Rattle.tree.specs.Read as read
use Rattle.tree.specs.Read.{read_type, type_from, read_binding}
use Rattle.nodes.specs.Index.{names_of, InSource}
use Rattle.nodes.specs.declared.Source.{Source}
use Rattle.terms.specs.Kinds.{number_of}
use Rattle.terms.specs.declared.refusals.Refusal.{Refusal}
use Rattle.codegen_types.specs.Out.{Out, ok, refused, ◌then◌}
use Rattle.codegen_types.specs.TypeString.{type_string, Scope, scopes_of, bindings_of, all_of, arguments_of, accumulate}
use Rattle.codegen_types.specs.TypeString.{outermost_first}
use Rattle.codegen_types.specs.Written.{Writes}
use Rattle.codegen_types.specs.declared.Leaf.{Leaf}
use Rattle.types.specs.Find.{ScopeAt, ParamsAt}
use Rattle.types.specs.declared.TypeRow.{TypeRow}
use Rattle.type_parts.specs.Parts.{Lists}
use Rattle.type_parts.specs.declared.Arguments.{Arguments}
use Rattle.type_string.specs.declared.Brand.{Brand}
use Rattle.type_string.specs.declared.Own.{Own}

-- the arguments of a chain of nodes, outermost first
abbrev pub outward : Out (List (List Str)) → Out (List Str)
outward o = o then λ accumulator. ok (outermost_first accumulator)

-- the text of a single binding
abbrev pub only_of : List (Out Str) → Out Str
only_of [] = refused 0
only_of (o ∷ os) = o

-- the contracts, over the sheet with its root and its index
module _ (x : Source) where
  -- of a type whose row was read
  abbrev pub TypeTold : TypeRow → ℕ → Leaf → List ℕ → Text → List ℕ → Result Text Refusal → Type 0
  TypeTold row left leaf l t l' r =
      InSource x (λ sheet.
      On (type_from (read_type left) (number_of row.kind) row.a row.b row.c (rows (drop row.next x.bytes.now)))
      (λ ty. Writes (type_string ty sheet leaf) l t l' r))

  abbrev pub ListTold : ℕ → ℕ → Leaf → List ℕ → Text → List ℕ → Result Text Refusal → Type 0
  ListTold at left leaf l t l' r =
      InSource x (λ sheet. On (read_type left (rows (drop at x.bytes.now)))
      (λ ty. Writes (type_string (list ty) sheet leaf) l t l' r))

  -- the scopes of a brand
  abbrev pub scopes_at : ℕ → Brand → Reading Scopes
  scopes_at left b = times (read.read_scope (read_type left)) end b.count (rows (drop b.scopes x.bytes.now))

  abbrev pub BrandTold : Brand → ℕ → Leaf → List ℕ → Text → List ℕ → Result Text Refusal → Type 0
  BrandTold b left leaf l t l' r =
      InSource x (λ sheet. On (scopes_at left b) (λ ss. Writes (type_string (struct b.id ss) sheet leaf) l t l' r))

  abbrev pub ChainTold : Brand → ℕ → List ℕ → Arguments → List ℕ → Result Arguments Refusal → Type 0
  ChainTold b left l p l' r =
      InSource x (λ sheet. On (scopes_at left b)
      (λ ss. Lists (outward (accumulate sheet (scopes_of ss sheet) 16 b.id)) l p l' r))

  -- of a node whose P rows are known, how many they are and where they begin and end, with the scope that stands at its place, or
  -- none
  abbrev pub OwnTold : Own → ℕ → List ℕ → Arguments → List ℕ → Result Arguments Refusal → Type 0
  OwnTold w left l p l' r =
      InSource x (λ sheet. (o : Option Scope) → ScopeAt left sheet (rows (drop w.scope x.bytes.now)) o
      → ParamsAt x.bytes.now w.params w.count w.end
      → Lists (arguments_of x.root.now (names_of (rows (drop w.params x.bytes.now))) o) l p l' r)

  abbrev pub BindsTold : ℕ → ℕ → ℕ → List ℕ → Arguments → List ℕ → Result Arguments Refusal → Type 0
  BindsTold at n left l p l' r =
      InSource x (λ sheet. On (times (read_binding (read_type left)) stop n (rows (drop at x.bytes.now)))
      (λ bs. Lists (all_of (bindings_of bs sheet)) l p l' r))

  abbrev pub BindTold : ℕ → ℕ → List ℕ → Text → List ℕ → Result Text Refusal → Type 0
  BindTold at left l t l' r =
      InSource x (λ sheet. On (read_binding (read_type left) (rows (drop at x.bytes.now)))
      (λ f. Writes (only_of (bindings_of (f stop) sheet)) l t l' r))
