-- Laws of a slot's type: what its row says of the type that is read there, and where the rows after it begin. By cases on what
-- is read. Assumes nothing.
use mathlib.Core.Path.{◌≡◌, refl, sym, ap, ◌∙◌}
use mathlib.Core.Bool.{Bool, true, false}
use mathlib.Core.Logic.{◌⊎◌}
use Prim.Native.Nat.{ℕ, zero, suc, ◌≤◌}
use Rattle.std.specs.Prelude.{[], ◌∷◌, Ok, Err}
use native.Mathlib.Nat.{add-zero}
use native.Mathlib.Omega.{arith}
use borrow.Author.Tests.{eqb-true, eqb-false, ltb-true}
use denote.Enum.Declared.{tag_of}
use lib.Dec.{eqb, ltb}
use lib.ListN.{drop, length}
use Rattle.terms.specs.Kinds.{number_of}
use Rattle.terms.specs.declared.kinds.Kind.{Kind}
use Rattle.terms.specs.declared.kinds.Kind.TheVariants as kinds
use Rattle.text.specs.Bytes.{Str, cond}
use Rattle.row.specs.Rows.{rows, rest_of}
use Rattle.row.specs.Line as content
use Rattle.row.specs.Line.{fault, misplaced, line_said, line_at, as_type, fault_of}
use Rattle.row.specs.declared.BadLine.{BadLine}
use Rattle.row.specs.declared.Line.{Line}
use Rattle.row.specs.declared.Line.TheVariants as line
use Rattle.row.specs.contracts.Line.{the_type}
use Rattle.tree.specs.Tree as tree
use Rattle.tree.specs.Tree.{Ty, plain, list, enum, struct, interface, any_pointer, parameter, Scopes, end}
use Rattle.tree.specs.Reader.{Rows, Reading, Reader, got, no, map_r, times, On}
use Rattle.tree.specs.Read as read
use Rattle.tree.specs.Read.{read_type, type_from, branded}
use Rattle.tree.proofs.OtherLines.{not-type, not_type-tag}
use Rattle.tree.proofs.WalkLaws.{by_told}
use Rattle.row.specs.Part.{owed}
use Rattle.row.proofs.PartLaws.{owed-none, owed-branded}
use Rattle.row.proofs.Laws.{rows-fewer}
use Rattle.types.specs.Find.{After, kind_at, past_rows, AllParts, Past}
use Rattle.types.proofs.Laws.{on-type, on-map, on-all, past-type, past_next, past-none, parts_next, type-parts}
use Rattle.types.proofs.TypeLaws.{type-kind, kind-here}
use Rattle.field.specs.Slot.{HasId}
use Rattle.field.specs.Parts.{Gets, TypeIs}
use Rattle.field.specs.declared.TypeSpan.{TypeSpan}

-- T's a
abbrev id_at : Rows → ℕ
id_at rs = as_type (line_at rs) (λ k a b c. a) 0

-- a type has the id of its row
branded-id : (k a : ℕ) (ss : Scopes) → HasId (branded k a ss) a
branded-id k a ss = go (eqb k 15) (eqb k 16)
  where
    go : (x y : Bool) → HasId (cond x (enum a ss) (cond y (struct a ss) (interface a ss))) a
    go true y = refl
    go false true = tt
    go false false = tt

type-id : (left : ℕ) (rs : Rows) → On (read_type left rs) (λ ty. HasId ty (id_at rs))
unfolding read_type type_from
type-id zero rs = on-type (λ ty. HasId ty (id_at rs)) rs (λ k a b c rest. no (fault 4 1) rs) (λ k a b c e. tt)
type-id (suc n) rs =
    on-type (λ ty. HasId ty (id_at rs)) rs (type_from (read_type n))
    (λ k a b c e. rw e (go k a b c (ltb k 14) (eqb k 14) (ltb k 18) (eqb a 0) refl refl (rest_of rs)))
  where
    go : (k a b c : ℕ) (x y z w : Bool) → ltb k 14 ≡ x → eqb a 0 ≡ w → (q : Rows)
        → On (cond x (got (plain k)) (cond y (map_r (λ t. list t) (read_type n)) (cond z
        (map_r (branded k a) (times (read.read_scope (read_type n)) end b)) (got (cond w any_pointer (parameter b c))))) q)
        (λ ty. HasId ty a)
    go k a b c true y z w f e q = ltb-true k 14 f
    go k a b c false true z w f e q =
        on-map (λ t. list t) (λ ty. HasId ty a) (read_type n q) (on-all {P = λ t. HasId (list t) a} (λ t. tt) (read_type n q))
    go k a b c false false true w f e q =
        on-map (branded k a) (λ ty. HasId ty a) (times (read.read_scope (read_type n)) end b q)
        (on-all {P = λ ss. HasId (branded k a ss) a} (branded-id k a) (times (read.read_scope (read_type n)) end b q))
    go k a b c false false false true f e q = eqb-true a 0 e
    go k a b c false false false false f e q = eqb-false a 0 e

-- the type that is read, by its row
type-gets : (s : Str) (r : TypeSpan) (rs : Rows) → number_of r.kind ≡ kind_at rs → r.id ≡ id_at rs
    → Past rs 1 (rows (drop r.past s))
    → Gets (read_type 16 rs) (TypeIs s r)
type-gets s r rs k i p = go (read_type 16 rs) (type-kind 16 rs) (type-id 16 rs) (past-type 16 rs) (type-parts 16 rs)
  where
    go : (g : Reading Ty) → On g (λ ty. tree.kind ty ≡ kind_at rs) → On g (λ ty. HasId ty (id_at rs))
        → After g (λ rest. past_rows rs 1 ≡ rest) → On g (λ ty. AllParts rs 1) → Gets g (TypeIs s r)
    go (got ty rest) x y z all = record { kind = x ∙ sym k; id = rw i y; past = p all ∙ z }
    go (no j rest) x y z all = tt

-- rows are passed over, none are added
pub rest-fewer : (rs rest : Rows) → rest ≡ rest_of rs → length rest ≤ length rs
unfolding rest_of
rest-fewer [] rest e = rw e (omega arith)
rest-fewer (r ∷ rs) rest e = rw e (omega arith)

pub nested_fewer : (s : Str) (rs : Rows) (next past : ℕ) → rows (drop next s) ≡ rest_of rs → next ≤ past
    → length (rows (drop past s)) ≤ length rs
nested_fewer s rs next past e l = omega (arith, rest-fewer rs (rows (drop next s)) e, rows-fewer s next past l)

-- what the code says of the row that stands first, where it is no T row
module _ (rs : Rows) (P : Ty → Rows → Type 0) where
  pub type_other : (l : Line) → line_said (Ok l) ≡ line_at rs → (tag_of the_type l ≡ 5 → ⊥) → Gets (read_type 16 rs) P
  unfolding read_type line_said
  type_other l here other =
      rw (← here, not-type {A = Reader _} l _ _ (not_type-tag l (λ k a b c z. other (ap (tag_of the_type) z))))
      (by_told (λ g. Gets g P) (fault_of 84 (line_at rs)) (no misplaced) rs (λ k. tt) tt)

  pub type-bad : (b : BadLine) → line_said (Err b) ≡ line_at rs → Gets (read_type 16 rs) P
  unfolding read_type line_said
  type-bad b here =
      rw (← here) (by_told (λ g. Gets g P) (fault_of 84 (line_at rs)) (no misplaced) rs (λ k. tt) tt)

-- where it is one, and the rows after it
module _ (s : Str) (r : TypeSpan) (rs rest : Rows) (k : Kind) (a b c : ℕ)
    (here : line_said (Ok (line.Typ k a b c)) ≡ line_at rs) (after : rest ≡ rest_of rs) (kind : r.kind ≡ k) (id : r.id ≡ a) where
  past_is : Past rest (owed (content.Typ (number_of k) a b c)) (rows (drop r.past s)) → Past rs 1 (rows (drop r.past s))
  unfolding line_said
  past_is h = λ p.
      h (rw (add-zero, ← here, ← after) at (parts_next rs 0 p).1) ∙ sym (rw (add-zero, ← here, ← after) at (past_next rs 0))

  id-is : r.id ≡ id_at rs
  unfolding line_said
  id-is = id ∙ rw (← here) refl

  kind-is : number_of r.kind ≡ kind_at rs
  kind-is = ap number_of kind ∙ kind-here rs k a b c here

  pub type-alone :
      (k ≡ kinds.List → ⊥) → (k ≡ kinds.Enum → ⊥) → (k ≡ kinds.Struct → ⊥) → (k ≡ kinds.Interface → ⊥)
      → rows (drop r.past s) ≡ rest → Gets (read_type 16 rs) (TypeIs s r)
  type-alone l e t i p =
      type-gets s r rs kind-is id-is (past_is (rw (← owed-none a b c k l e t i) (λ _. p ∙ sym (past-none rest))))

  pub type-list : k ≡ kinds.List → Past rest 1 (rows (drop r.past s)) → Gets (read_type 16 rs) (TypeIs s r)
  unfolding owed
  type-list h p = type-gets s r rs kind-is id-is (past_is (rw h p))

  pub type_brand :
      (k ≡ kinds.Enum) ⊎ ((k ≡ kinds.Struct) ⊎ (k ≡ kinds.Interface)) → Past rest b (rows (drop r.past s))
      → Gets (read_type 16 rs) (TypeIs s r)
  type_brand e p = type-gets s r rs kind-is id-is (past_is (rw (← owed-branded a b c k e) p))
