-- What is read of a type by its row, of scopes and of bindings: one law for each way that a walk over types can go. A claim `P`
-- of the type that is read follows from a claim of its parts. Assumes nothing.
use mathlib.Core.Path.{◌≡◌, refl, sym, ap, ◌∙◌, subst}
use mathlib.Core.Bool.{Bool, true, false}
use mathlib.Core.List.{[], ◌∷◌}
use Rattle.std.specs.Prelude.{Option, None, Some, Ok, Err}
use Prim.Native.Nat.{ℕ, zero, suc, ◌-◌, ◌<◌, ◌≤◌}
use native.Mathlib.Decide.{dec_lt}
use native.Mathlib.Omega.{arith}
use native.Mathlib.Numerals.{sub-one}
use borrow.Author.Tests.{eq-eqb, ne_eqb, lt-ltb, le-ltb, eqb-true, eqb-false, ltb-true, ltb-false}
use lib.Dec.{eqb, ltb}
use lib.ListN.{length, drop}
use package.types.Run.{OneOf}
use denote.Enum.Declared.{tag_of}
use Rattle.row.specs.contracts.Line.{the_type}
use Rattle.text.specs.Bytes.{Str, cond}
use Rattle.row.specs.Rows.{rows, rest_of}
use Rattle.row.specs.Line.{fault, misplaced, Content, Typ, Scope, good_said, line_said, line_at, fault_of}
use Rattle.row.specs.declared.BadLine.{BadLine}
use Rattle.row.specs.declared.Line.{Line}
use Rattle.row.specs.declared.Line.TheVariants as line
use Rattle.tree.specs.Tree.{Ty, plain, list, enum, struct, interface, parameter, any_pointer, Scopes, end, inherit, bind, Binds}
use Rattle.tree.specs.Tree.{stop, unbound, bound, kind, Sheet}
use Rattle.tree.specs.Reader.{Rows, Reading, got, no, Reader, ◌then◌, map_r, times, On, Has}
use Rattle.tree.specs.Read as read
use Rattle.tree.specs.Read.{read_type, type_from, read_binding, pointer, branded}
use Rattle.tree.proofs.OtherLines.{not-type, not_type-tag, not-scope, not-unbound}
use Rattle.tree.proofs.WalkLaws.{by_told}
use Rattle.terms.specs.Kinds.{number_of, kind_numbered}
use Rattle.terms.specs.declared.kinds.Kind.{Kind}
use Rattle.terms.specs.declared.kinds.Kind.TheVariants as kinds
use Rattle.terms.proofs.KindLaws.{number-back}
use Rattle.row.proofs.PartLaws.{named-kind}
use Rattle.codegen_types.specs.Out.{Out, ok, refused}
use Rattle.codegen_types.specs.TypeString as type_string
use Rattle.codegen_types.specs.TypeString.{type_string, scopes_of, bindings_of, any_owned, get_qualified_module, list_string}
use Rattle.codegen_types.specs.TypeString.{element_leaf}
use Rattle.codegen_types.specs.declared.Leaf.{Leaf}
use Rattle.codegen_types.specs.declared.Leaf.TheVariants.{Owned}
use Rattle.types.specs.Find.{After, kind_at, type_row, TypeRowAt, past_rows, AllParts, Past, first_scope, ScopeHere}
use Rattle.types.specs.declared.TypeRow.{TypeRow}
use Rattle.types.proofs.Laws.{on-map, on-type, on_one, on-two, on-all, as_unbound_lem, past-binding, binding-parts}

-- ---- a type by its row

pub type-zero : (left : ℕ) (rs : Rows) (P : Ty → Type 0) → left ≡ 0 → On (read_type left rs) P
unfolding read_type
type-zero left rs P z = rw z (on-type P rs (λ k a b c rest. no (fault 4 1) rs) (λ k a b c e. tt))

-- a type whose row was read, with what belongs to it
pub type_row_lem : (s : Str) (at : ℕ) (r : TypeRow) (left : ℕ) (P : Ty → Type 0) → TypeRowAt s at r → (left ≡ 0 → ⊥)
    → On (type_from (read_type (left - 1)) (number_of r.kind) r.a r.b r.c (rows (drop r.next s))) P
    → On (read_type left (rows (drop at s))) P
unfolding read_type
type_row_lem s at r zero P w z h = absurd (z refl)
type_row_lem s at r (suc l) P w z h =
    on-type P (rows (drop at s)) (type_from (read_type l)) (λ k a b c e. this k a b c (w.row ∙ rw e refl))
  where
    this : (k a b c : ℕ) → r ≡ type_row (Typ k a b c) r.next
        → On (type_from (read_type l) k a b c (rest_of (rows (drop at s)))) P
    this k a b c e =
        rw (
          sub-one (suc l),
          ap (λ (q : TypeRow). q.kind) e,
          ap (λ (q : TypeRow). q.a) e,
          ap (λ (q : TypeRow). q.b) e,
          ap (λ (q : TypeRow). q.c) e,
          w.next,
          number-back k,
        ) at h

-- another line as a T row, or a bad one
pub row_other : (l : Line) (next : ℕ) → (tag_of the_type l ≡ 5 → ⊥)
    → type_row (line_said (Ok l)) next ≡ record { kind = kinds.Void; a = 0; b = 0; c = 0; next = next }
unfolding line_said kind_numbered
row_other l next h =
    let t = not_type-tag l (λ k a b c z. h (ap (tag_of the_type) z)) in
    rw (
      not-type l (λ k a b c. k) 0 t,
      not-type l (λ k a b c. a) 0 t,
      not-type l (λ k a b c. b) 0 t,
      not-type l (λ k a b c. c) 0 t,
    )

pub row-bad : (b : BadLine) (next : ℕ)
    → type_row (line_said (Err b)) next ≡ record { kind = kinds.Void; a = 0; b = 0; c = 0; next = next }
unfolding line_said kind_numbered
row-bad b next = refl

-- the kind that a row gives
module _ (rs : Rows) where
  pub kind_other : (l : Line) → line_said (Ok l) ≡ line_at rs → (tag_of the_type l ≡ 5 → ⊥) → 0 ≡ kind_at rs
  unfolding line_said
  kind_other l e h = rw (← e, not-type l _ _ (not_type-tag l (λ k a b c z. h (ap (tag_of the_type) z)))) refl

  pub kind-bad : (b : BadLine) → line_said (Err b) ≡ line_at rs → 0 ≡ kind_at rs
  unfolding line_said
  kind-bad b e = rw (← e) refl

  pub kind-here : (k : Kind) (a b c : ℕ) → line_said (Ok (line.Typ k a b c)) ≡ line_at rs → number_of k ≡ kind_at rs
  unfolding line_said
  kind-here k a b c e = rw (← e) (go (number_of k) (named-kind rs _ a b c (sym e)))
    where
      go : (n : ℕ) → n ≤ 18 → n ≡ cond (ltb n 18) n 18
      go n m = by-order (dec_lt n 18)
        where
          by-order : Dec (n < 18) → n ≡ cond (ltb n 18) n 18
          by-order (Prim.yes h) = rw (lt-ltb n 18 h) refl
          by-order (Prim.no h) = let z : n ≡ 18 = omega arith in rw z refl

-- a line that was read at a position, as a T row
pub row_at : (s : Str) (at next : ℕ) (l : Content) (r : TypeRow) → l ≡ line_at (rows (drop at s))
    → rows (drop next s) ≡ rest_of (rows (drop at s)) → r ≡ type_row l next → TypeRowAt s at r
row_at s at next l r e f g = record { row = rw (← e, g) refl; next = rw g f }

module _ (left : ℕ) (rest : Rows) (k a b c : ℕ) (P : Ty → Type 0) where
  pub type-plain : k < 14 → P (plain k) → On (type_from (read_type left) k a b c rest) P
  unfolding type_from
  type-plain u h = rw (lt-ltb k 14 u) h

  pub type-list : k ≡ 14 → On (read_type left rest) (λ ty. P (list ty)) → On (type_from (read_type left) k a b c rest) P
  unfolding type_from
  type-list u h = rw (le-ltb k 14 (omega arith), eq-eqb k 14 u) (on-map (λ t. list t) P (read_type left rest) h)

  pub type_brand : 14 ≤ k → (k ≡ 14 → ⊥) → k < 18
      → On (times (read.read_scope (read_type left)) end b rest) (λ ss. P (branded k a ss))
      → On (type_from (read_type left) k a b c rest) P
  unfolding type_from
  type_brand u v w h = rw (le-ltb k 14 u, ne_eqb k 14 v, lt-ltb k 18 w)
      (on-map (branded k a) P (times (read.read_scope (read_type left)) end b rest) h)

  pub type-pointer : 18 ≤ k → P (pointer a b c) → On (type_from (read_type left) k a b c rest) P
  unfolding type_from
  type-pointer u h = rw (le-ltb k 14 (omega arith), ne_eqb k 14 (λ e. omega arith), le-ltb k 18 u) h

-- the kind of a type is that of its row; no row has a kind above 18
branded-kind : (k a : ℕ) (ss : Scopes) → 14 < k → k < 18 → kind (branded k a ss) ≡ k
branded-kind k a ss u v = go (eqb k 15) (eqb k 16) refl refl
  where
    go : (x y : Bool) → eqb k 15 ≡ x → eqb k 16 ≡ y → kind (cond x (enum a ss) (cond y (struct a ss) (interface a ss))) ≡ k
    go true y e f = sym (eqb-true k 15 e)
    go false true e f = sym (eqb-true k 16 f)
    go false false e f = let g = eqb-false k 15 e in let h = eqb-false k 16 f in omega arith

below : (k : ℕ) (z : Bool) → ltb k 18 ≡ z → k < 18 → cond z k 18 ≡ k
below k true e h = refl
below k false e h = let u = ltb-false k 18 e in let v : ⊥ = omega arith in absurd v

from-kind : (left k a b c : ℕ) (q : Rows) → On (type_from (read_type left) k a b c q) (λ ty. kind ty ≡ cond (ltb k 18) k 18)
unfolding type_from
from-kind left k a b c q = go (ltb k 14) (eqb k 14) (ltb k 18) (eqb a 0) refl refl refl
  where
    go : (x y z w : Bool) → ltb k 14 ≡ x → eqb k 14 ≡ y → ltb k 18 ≡ z
        → On (cond x (got (plain k)) (cond y (map_r (λ t. list t) (read_type left))
        (cond z (map_r (branded k a) (times (read.read_scope (read_type left)) end b))
        (got (cond w any_pointer (parameter b c))))) q) (λ ty. kind ty ≡ cond z k 18)
    go true y z w e f g = let u = ltb-true k 14 e in sym (below k z g (omega arith))
    go false true z w e f g =
        let u = eqb-true k 14 f in
        on-map (λ t. list t) (λ ty. kind ty ≡ cond z k 18) (read_type left q)
        (on-all {P = λ ty. kind (list ty) ≡ cond z k 18} (λ t. sym (below k z g (omega arith) ∙ u)) (read_type left q))
    go false false true w e f g =
        let u = ltb-false k 14 e in let v = eqb-false k 14 f in
        on-map (branded k a) (λ ty. kind ty ≡ k) (times (read.read_scope (read_type left)) end b q)
        (on-all {P = λ ss. kind (branded k a ss) ≡ k} (λ ss. branded-kind k a ss (omega arith) (ltb-true k 18 g))
        (times (read.read_scope (read_type left)) end b q))
    go false false false true e f g = refl
    go false false false false e f g = refl

pub type-kind : (left : ℕ) (rs : Rows) → On (read_type left rs) (λ ty. kind ty ≡ kind_at rs)
unfolding read_type
type-kind zero rs = on-type (λ ty. kind ty ≡ kind_at rs) rs (λ k a b c rest. no (fault 4 1) rs) (λ k a b c e. tt)
type-kind (suc n) rs =
    on-type (λ ty. kind ty ≡ kind_at rs) rs (type_from (read_type n)) (λ k a b c e. rw e (from-kind n k a b c (rest_of rs)))

-- ---- what `type_string` gives for lists, enums and brands: a claim `Q` of it

-- a list, by its element's row: an element of a kind above 17 is an AnyPointer
module _ (sheet : Sheet) (leaf : Leaf) (left k a b c : ℕ) (rest : Rows) (Q : Out Str → Type 0) where
  by_kind : (j : ℕ) → j ≡ cond (ltb k 18) k 18
      → On (type_from (read_type left) k a b c rest) (λ ty. Q (list_string sheet.root leaf j (type_string ty sheet
      (element_leaf j))))
      → On (type_from (read_type left) k a b c rest) (λ ty. Q (type_string (list ty) sheet leaf))
  unfolding type_string
  by_kind j at h =
      on-two (λ ty. kind ty ≡ cond (ltb k 18) k 18)
      (λ ty. Q (list_string sheet.root leaf j (type_string ty sheet (element_leaf j))))
      (λ ty. Q (type_string (list ty) sheet leaf)) (type_from (read_type left) k a b c rest)
      (λ ty e g. subst (λ (j : ℕ). Q (list_string sheet.root leaf j (type_string ty sheet (element_leaf j)))) (at ∙ sym e) g)
      (from-kind left k a b c rest) h

  pub list_of : k < 18
      → On (type_from (read_type left) k a b c rest) (λ ty. Q (list_string sheet.root leaf k (type_string ty sheet
      (element_leaf k))))
      → On (type_from (read_type left) k a b c rest) (λ ty. Q (type_string (list ty) sheet leaf))
  list_of u h = by_kind k (sym (below k (ltb k 18) refl u)) h

  pub list_of_any : 18 ≤ k → Q (refused 6)
      → On (type_from (read_type left) k a b c rest) (λ ty. Q (type_string (list ty) sheet leaf))
  unfolding list_string
  list_of_any u q = by_kind 18 (rw (le-ltb k 18 u) refl)
      (on-all {P = λ ty. Q (list_string sheet.root leaf 18 (type_string ty sheet (element_leaf 18)))} (λ ty. q)
      (type_from (read_type left) k a b c rest))

-- structs and interfaces have the same text
brand_type : (sheet : Sheet) (leaf : Leaf) (k id : ℕ) (ss : Scopes) → (k ≡ 15 → ⊥)
    → type_string (struct id ss) sheet leaf ≡ type_string (branded k id ss) sheet leaf
unfolding type_string
brand_type sheet leaf k id ss z = rw (ne_eqb k 15 z) (go (eqb k 16))
  where
    go : (t : Bool) → type_string (struct id ss) sheet leaf ≡ type_string (cond t (struct id ss) (interface id ss)) sheet leaf
    go true = refl
    go false = refl

module _ (sheet : Sheet) (leaf : Leaf) (left : ℕ) (rest : Rows) (k a b c : ℕ) (Q : Out Str → Type 0) where
  pub type-enum : k ≡ 15 → Q (get_qualified_module sheet a)
      → On (type_from (read_type left) k a b c rest) (λ ty. Q (type_string ty sheet leaf))
  unfolding type_string
  type-enum e h =
      type_brand left rest k a b c (λ ty. Q (type_string ty sheet leaf)) (omega arith) (λ y. omega arith) (omega arith)
      (on-all {P = λ ss. Q (type_string (branded k a ss) sheet leaf)} (λ ss. rw (eq-eqb k 15 e) h)
      (times (read.read_scope (read_type left)) end b rest))

  pub type-branded : 14 ≤ k → (k ≡ 14 → ⊥) → (k ≡ 15 → ⊥) → k < 18
      → On (times (read.read_scope (read_type left)) end b rest) (λ ss. Q (type_string (struct a ss) sheet leaf))
      → On (type_from (read_type left) k a b c rest) (λ ty. Q (type_string ty sheet leaf))
  type-branded u v w x h =
      type_brand left rest k a b c (λ ty. Q (type_string ty sheet leaf)) u v x
      (on_one (λ ss. Q (type_string (struct a ss) sheet leaf)) (λ ss. Q (type_string (branded k a ss) sheet leaf))
      (times (read.read_scope (read_type left)) end b rest)
      (λ ss g. subst Q (brand_type sheet leaf k a ss w) g) h)

  pub type-any : 18 ≤ k → a ≡ 0 → Q (type_string any_pointer sheet leaf)
      → On (type_from (read_type left) k a b c rest) (λ ty. Q (type_string ty sheet leaf))
  type-any u z h = type-pointer left rest k a b c (λ ty. Q (type_string ty sheet leaf)) u (rw (eq-eqb a 0 z) h)

  pub type-parameter : 18 ≤ k → (a ≡ 0 → ⊥) → Q (type_string (parameter b c) sheet leaf)
      → On (type_from (read_type left) k a b c rest) (λ ty. Q (type_string ty sheet leaf))
  type-parameter u z h = type-pointer left rest k a b c (λ ty. Q (type_string ty sheet leaf)) u (rw (ne_eqb a 0 z) h)

-- ---- so many of something

pub times_none : {A : Type 0} (one : Reader (A → A)) (base : A) (n : ℕ) (rs : Rows) → n ≤ 0 → times one base n rs ≡ got base rs
unfolding times
times_none one base zero rs h = refl
times_none one base (suc n) rs h = let z : ⊥ = omega arith in absurd z

times_more : {A : Type 0} (one : Reader (A → A)) (base : A) (n : ℕ) (rs : Rows) → 0 < n
    → times one base n rs ≡ (one rs then λ f. map_r f (times one base (n - 1)))
unfolding times
times_more one base zero rs h = let z : ⊥ = omega arith in absurd z
times_more one base (suc n) rs h = rw (sub-one (suc n))

-- one binding read: its text or refusal is put in front of those of the others
pub record OneBind (f : Binds → Binds) : Type 0 where
  pub text : Sheet → Out Str
  pub first : (sheet : Sheet) (bs : Binds) → bindings_of (f bs) sheet ≡ text sheet ∷ bindings_of bs sheet

one-bind : (left : ℕ) (rs : Rows) → On (read_binding (read_type left) rs) OneBind
unfolding read_binding bindings_of
one-bind left rs =
    as_unbound_lem (λ (f : Reader (Binds → Binds)). On (f rs) OneBind) (line_at rs) _ _
    (λ e. record { text = λ sheet. ok (any_owned sheet.root); first = λ sheet bs. refl })
    (by_told (λ g. On g OneBind) (fault_of 85 (line_at rs)) (map_r (λ t bs. bound t bs) (read_type left)) rs (λ k. tt)
    (on-map (λ t bs. bound t bs) OneBind (read_type left rs)
    (on-all {P = λ t. OneBind (λ bs. bound t bs)} (λ t. record
    { text = λ sheet. type_string t sheet Owned; first = λ sheet bs. refl }) (read_type left rs))))

pub bind-unbound : (left : ℕ) (rs : Rows) (P : (Binds → Binds) → Type 0) (l : Line) → good_said l ≡ line_at rs → l ≡ line.Unbound
    → P (λ bs. unbound bs) → On (read_binding (read_type left) rs) P
unfolding read_binding
bind-unbound left rs P l at is h = rw (← at, is) h

pub bind-typed : (left : ℕ) (rs : Rows) (P : (Binds → Binds) → Type 0) (l : Line) → good_said l ≡ line_at rs
    → OneOf (0 ∷ 1 ∷ 2 ∷ 3 ∷ 4 ∷ 5 ∷ 6 ∷ 8 ∷ 9 ∷ []) (tag_of the_type l)
    → On (read_type left rs) (λ t. P (λ bs. bound t bs)) → On (read_binding (read_type left) rs) P
unfolding read_binding
bind-typed left rs P l at other h =
    rw (← at, not-unbound l _ _ other)
    (by_told (λ g. On g P) (fault_of 85 (line_at rs)) (map_r (λ t bs. bound t bs) (read_type left)) rs (λ k. tt)
    (on-map (λ t bs. bound t bs) P (read_type left rs) h))

-- one binding, and the others after it
pub binds-more : (left n : ℕ) (rs rest : Rows) → 0 < n → Past rs 1 rest
    → (P : (Binds → Binds) → Type 0) (Q R : Binds → Type 0)
    → On (read_binding (read_type left) rs) P → On (times (read_binding (read_type left)) stop (n - 1) rest) Q
    → ((f : Binds → Binds) → OneBind f → P f → (bs : Binds) → Q bs → R (f bs))
    → On (times (read_binding (read_type left)) stop n rs) R
binds-more left n rs rest more past P Q R first others law =
    rw (times_more (read_binding (read_type left)) stop n rs more)
    (go (read_binding (read_type left) rs) first (one-bind left rs) (past-binding left rs) (binding-parts left rs))
  where
    go : (g : Reading (Binds → Binds)) → On g P → On g OneBind → After g (λ q. past_rows rs 1 ≡ q) → On g (λ f. AllParts rs 1)
        → On (g then λ f. map_r f (times (read_binding (read_type left)) stop (n - 1))) R
    go (no k q) h o e all = tt
    go (got f q) h o e all =
        on-map f R (times (read_binding (read_type left)) stop (n - 1) q)
        (on_one Q (λ bs. R (f bs)) (times (read_binding (read_type left)) stop (n - 1) q) (λ bs w. law f o h bs w)
        (rw (past all ∙ e) at others))

-- ---- a scope by its row

scope_of-more : (ty : Reader Ty) (rs : Rows) (i b m : ℕ) → line_at rs ≡ Scope i b m
    → read.read_scope ty rs ≡ cond (eqb b 0) (got (λ ss. inherit i ss))
    (map_r (λ bs ss. bind i bs ss) (times (read_binding ty) stop m)) (rest_of rs)
unfolding read.read_scope
scope_of-more ty rs i b m e = rw e

pub scope-inherit : (left : ℕ) (sheet : Sheet) (rs : Rows) (o : Option type_string.Scope) (l : Line) (i : ℕ)
    → good_said l ≡ line_at rs → l ≡ line.Scope i None
    → ScopeHere left sheet rs o → o ≡ Some type_string.inherited
unfolding ScopeHere scopes_of
scope-inherit left sheet rs o l i at is h =
    rw (scope_of-more (read_type left) rs i 0 0 (sym at ∙ ap good_said is)) at h

pub scope-binds : (left : ℕ) (sheet : Sheet) (rs rest : Rows) (o : Option type_string.Scope) (l : Line) (i m : ℕ)
    → good_said l ≡ line_at rs → l ≡ line.Scope i (Some m) → rest ≡ rest_of rs
    → ScopeHere left sheet rs o → Has (times (read_binding (read_type left)) stop m rest)
    (λ bs. o ≡ Some (type_string.binds (bindings_of bs sheet)))
unfolding ScopeHere scopes_of
scope-binds left sheet rs rest o l i m at is next h =
    go (times (read_binding (read_type left)) stop m rest) (rw (
      scope_of-more (read_type left) rs i 1 m (sym at ∙ ap good_said is),
      ← next,
    ) at h)
  where
    go : (g : Reading Binds) → Has {A = Scopes → Scopes} (g then λ bs. got (λ ss. bind i bs ss))
        (λ f. o ≡ first_scope (scopes_of (f end) sheet)) → Has g (λ bs. o ≡ Some (type_string.binds (bindings_of bs sheet)))
    go (got bs q) w = w
    go (no k q) w = w

pub scope-not : (left : ℕ) (sheet : Sheet) (rs : Rows) (o : Option type_string.Scope) (l : Line) → good_said l ≡ line_at rs
    → OneOf (0 ∷ 1 ∷ 2 ∷ 3 ∷ 4 ∷ 5 ∷ 7 ∷ 8 ∷ 9 ∷ []) (tag_of the_type l) → ScopeHere left sheet rs o → ⊥
unfolding ScopeHere read.read_scope
scope-not left sheet rs o l at other h =
    by_told {A = Scopes → Scopes} (λ g. Has g (λ f. o ≡ first_scope (scopes_of (f end) sheet)) → ⊥) (fault_of 83 (line_at rs))
    (no misplaced) rs (λ k z. z) (λ z. z) (rw (← at, not-scope l _ _ other) at h)

-- as many bindings are read as were announced
pub binds-length : (left : ℕ) (sheet : Sheet) (n : ℕ) (rs : Rows)
    → On (times (read_binding (read_type left)) stop n rs) (λ bs. length (bindings_of bs sheet) ≡ n)
unfolding times bindings_of
binds-length left sheet zero rs = refl
binds-length left sheet (suc n) rs = go (read_binding (read_type left) rs) (one-bind left rs) (binds-length left sheet n)
  where
    go : (g : Reading (Binds → Binds)) → On g OneBind → ((rs : Rows)
        → On (times (read_binding (read_type left)) stop n rs) (λ bs. length (bindings_of bs sheet) ≡ n))
        → On (g then λ f. map_r f (times (read_binding (read_type left)) stop n)) (λ bs. length (bindings_of bs sheet) ≡ suc n)
    go (no k q) o ih = tt
    go (got f q) o ih =
        on-map f (λ bs. length (bindings_of bs sheet) ≡ suc n) (times (read_binding (read_type left)) stop n q)
        (on_one (λ bs. length (bindings_of bs sheet) ≡ n) (λ bs. length (bindings_of (f bs) sheet) ≡ suc n)
        (times (read_binding (read_type left)) stop n q)
        (λ bs e. rw (o.first sheet bs) (ap suc e)) (ih q))
