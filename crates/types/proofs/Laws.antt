-- Laws of what stands where in a sheet: what a reader reads is passed over by counting what is owed, and of a brand's scopes the
-- last with an id counts. By induction on levels, counts and rows. Assumes nothing.
use mathlib.Core.Path.{◌≡◌, refl, sym, ap, ◌∙◌}
use mathlib.Core.Bool.{Bool, true, false}
use mathlib.Core.List.{[], ◌∷◌, ◌++◌}
use Rattle.std.specs.Prelude.{Option, None, Some, Ok, Err}
use Prim.Native.Nat.{ℕ, zero, suc, ◌+◌, ◌-◌, ◌<◌, ◌≤◌}
use native.Mathlib.Nat.{add-zero, zero-add, suc-add}
use native.Mathlib.Numerals.{sub-one, one-add}
use native.Mathlib.Omega.{arith}
use borrow.Author.Tests.{eq-eqb, ne_eqb}
use lib.Dec.{eqb, ltb}
use lib.ListN.{length, drop, length-drop}
use denote.Enum.Declared.{tag_of}
use Rattle.row.specs.contracts.Line.{the_type}
use Rattle.row.proofs.Laws.{rows_out, rows-length}
use Rattle.tree.proofs.OtherLines.{not-scope, not_scope-tag}
use Rattle.tree.proofs.WalkLaws.{by_told}
use Rattle.text.specs.Bytes.{Str, cond}
use Rattle.row.specs.Rows.{rows, rest_of, unbound_rows}
use Rattle.row.specs.Line.{misplaced, line_said, line_of, line_at, reader, unbound_line, as_type, as_scope, as_unbound, fault_of}
use Rattle.row.specs.Line.{Content, Root, Node, Parameter, Field, Group, Typ, Scope, Unbound, Value, Word, Bad}
use Rattle.row.specs.declared.BadLine.{BadLine}
use Rattle.row.specs.declared.Line.{Line}
use Rattle.row.specs.declared.Owing.{Owing}
use Rattle.row.specs.Part.{owed, is_part, PartAt}
use Rattle.tree.specs.Tree as tree
use Rattle.tree.specs.Tree.{Ty, Scopes, Binds, Sheet, end, stop, bound, inherit, bind}
use Rattle.tree.specs.Reader.{Rows, Reading, got, no, Reader, ◌then◌, map_r, times, on_type, On, Has}
use Rattle.tree.specs.Read as read
use Rattle.tree.specs.Read.{read_type, type_from, read_binding}
use Rattle.codegen_types.specs.TypeString as type_string
use Rattle.codegen_types.specs.TypeString.{or_else, scope_of, scopes_of, bindings_of}
use Rattle.types.specs.Find.{After, past_rows, AllParts, Past, last_scope, ScopeHere, ScopeIs}

-- what holds for a letter's lines and for all others
pub as_type_lem : {A : Type 0} (P : A → Type 0) (l : Content) (y : (ℕ → ℕ → ℕ → ℕ → A)) (z : A)
    → ((k a b c : ℕ) → l ≡ Typ k a b c → P (y k a b c)) → P z → P (as_type l y z)
as_type_lem P Root this other f g = g
as_type_lem P (Node i q k x y c o) this other f g = g
as_type_lem P Parameter this other f g = g
as_type_lem P (Field o d e q) this other f g = g
as_type_lem P (Group i d) this other f g = g
as_type_lem P (Typ k a b c) this other f g = f k a b c refl
as_type_lem P (Scope i b c) this other f g = g
as_type_lem P Unbound this other f g = g
as_type_lem P (Value k b) this other f g = g
as_type_lem P (Word x) this other f g = g
as_type_lem P (Bad x k) this other f g = g

pub as_scope_lem : {A : Type 0} (P : A → Type 0) (l : Content) (y : (ℕ → ℕ → ℕ → A)) (z : A)
    → ((i b c : ℕ) → l ≡ Scope i b c → P (y i b c)) → P z → P (as_scope l y z)
as_scope_lem P Root this other f g = g
as_scope_lem P (Node i q k x y c o) this other f g = g
as_scope_lem P Parameter this other f g = g
as_scope_lem P (Field o d e q) this other f g = g
as_scope_lem P (Group i d) this other f g = g
as_scope_lem P (Typ k a b c) this other f g = g
as_scope_lem P (Scope i b c) this other f g = f i b c refl
as_scope_lem P Unbound this other f g = g
as_scope_lem P (Value k b) this other f g = g
as_scope_lem P (Word x) this other f g = g
as_scope_lem P (Bad x k) this other f g = g

pub as_unbound_lem : {A : Type 0} (P : A → Type 0) (l : Content) (y : A) (z : A)
    → (l ≡ Unbound → P y) → P z → P (as_unbound l y z)
as_unbound_lem P Root this other f g = g
as_unbound_lem P (Node i q k x y c o) this other f g = g
as_unbound_lem P Parameter this other f g = g
as_unbound_lem P (Field o d e q) this other f g = g
as_unbound_lem P (Group i d) this other f g = g
as_unbound_lem P (Typ k a b c) this other f g = g
as_unbound_lem P (Scope i b c) this other f g = g
as_unbound_lem P Unbound this other f g = f refl
as_unbound_lem P (Value k b) this other f g = g
as_unbound_lem P (Word x) this other f g = g
as_unbound_lem P (Bad x k) this other f g = g

-- ---- what is read

pub on-map : {A B : Type 0} (f : A → B) (P : B → Type 0) (g : Reading A) → On g (λ a. P (f a)) → On (g then λ a. got (f a)) P
on-map f P (got a rs) h = h
on-map f P (no k rs) h = h

-- what is read at a T row
pub on-type :
    {A : Type 0} (P : A → Type 0) (rs : Rows) (f : ℕ → ℕ → ℕ → ℕ → Reader A)
    → ((k a b c : ℕ) → line_at rs ≡ Typ k a b c → On (f k a b c (rest_of rs)) P) → On (on_type f (no misplaced) rs) P
on-type {A} P rs f h =
    as_type_lem (λ (g : Reader A). On (g rs) P) (line_at rs) _ _ h
    (by_told (λ g. On g P) (fault_of 84 (line_at rs)) (no misplaced) rs (λ k. tt) tt)

pub on_one : {A : Type 0} (P Q : A → Type 0) (g : Reading A) → ((a : A) → P a → Q a) → On g P → On g Q
on_one P Q (got a rs) f h = f a h
on_one P Q (no k rs) f h = tt

pub on-two : {A : Type 0} (P Q R : A → Type 0) (g : Reading A) → ((a : A) → P a → Q a → R a) → On g P → On g Q → On g R
on-two P Q R (got a rs) f h k = f a h k
on-two P Q R (no n rs) f h k = tt

-- what holds of a reading holds of what is known to be read
pub on-has : {A : Type 0} (P : A → Type 0) (g : Reading A) (a : A) → On g P → Has g (λ b. b ≡ a) → P a
on-has P (got b q) a h e = rw (← e) h
on-has P (no k q) a h e = absurd e

pub on-all : {A : Type 0} {P : A → Type 0} → ((a : A) → P a) → (g : Reading A) → On g P
on-all f (got a rs) = f a
on-all f (no k rs) = tt

after_map : {A B : Type 0} (f : A → B) (P : Rows → Type 0) (g : Reading A) → After g P → After (g then λ a. got (f a)) P
after_map f P (got a rs) h = h
after_map f P (no k rs) h = h

after_one : {A : Type 0} (P Q : Rows → Type 0) (g : Reading A) → ((rs : Rows) → P rs → Q rs) → After g P → After g Q
after_one P Q (got a rs) f h = f rs h
after_one P Q (no k rs) f h = tt

-- ---- rows that are passed over

pub past-none : (rs : Rows) → past_rows rs 0 ≡ rs
unfolding past_rows
past-none [] = refl
past-none (r ∷ rs) = refl

pub past_next : (rs : Rows) (n : ℕ) → past_rows rs (suc n) ≡ past_rows (rest_of rs) (owed (line_at rs) + n)
unfolding past_rows rest_of line_at
past_next [] n = refl
past_next (r ∷ rs) n = refl

-- no more rows than are owed
pub past_out : (rs : Rows) (n : ℕ) → length rs ≤ n → past_rows rs n ≡ []
unfolding past_rows
past_out [] n h = refl
past_out (r ∷ rs) zero h = let z : ⊥ = omega arith in absurd z
past_out (r ∷ rs) (suc n) h = past_out rs (owed (line_of r) + n) (omega arith)

parts_none : (rs : Rows) → AllParts rs 0
unfolding AllParts
parts_none [] = tt
parts_none (r ∷ rs) = tt

pub parts_next : (rs : Rows) (n : ℕ) → AllParts rs (suc n)
    → (is_part (line_at rs) ≡ true) × AllParts (rest_of rs) (owed (line_at rs) + n)
unfolding AllParts rest_of line_at
parts_next [] n h = absurd h
parts_next (r ∷ rs) n h = h

parts-row : (rs : Rows) (n : ℕ) → is_part (line_at rs) ≡ true → AllParts (rest_of rs) (owed (line_at rs) + n)
    → AllParts rs (suc n)
unfolding AllParts rest_of line_at
parts-row [] n p h = let z : ◌≡◌ {A = ℕ} 0 1 = cc in let y : ⊥ = omega arith in absurd y
parts-row (r ∷ rs) n p h = (p, h)

-- the first of some rows that are all there, and those after them
pub parts-split : (rs : Rows) (m n : ℕ) → AllParts rs (m + n) → AllParts rs m × AllParts (past_rows rs m) n
unfolding AllParts past_rows
parts-split [] zero n h = (tt, rw zero-add at h)
parts-split [] (suc m) n h = absurd (rw (suc-add m n, AllParts) at h)
parts-split (r ∷ rs) zero n h = (tt, rw zero-add at h)
parts-split (r ∷ rs) (suc m) n h =
    let g = rw (suc-add m n, AllParts) at h in
    let e : owed (line_of r) + (m + n) ≡ owed (line_of r) + m + n = omega arith in
    let w = parts-split rs (owed (line_of r) + m) n (rw e at g.1) in
    ((g.0, w.0), w.1)

-- what stands after m types, scopes or bindings stands after n of the rows `rest`, and if those are there so are these
record Leads (rs : Rows) (m : ℕ) (rest : Rows) (n : ℕ) : Type 0 where
  past : past_rows rs m ≡ past_rows rest n
  parts : AllParts rest n → AllParts rs m

same : (rs : Rows) (n : ℕ) → Leads rs n rs n
same rs n = record { past = refl; parts = λ h. h }

infixr 40 ◌to◌
◌to◌ : {rs q rest : Rows} {m j n : ℕ} → Leads rs m q j → Leads q j rest n → Leads rs m rest n
v to w = record { past = v.past ∙ w.past; parts = λ h. v.parts (w.parts h) }

-- one row
leads_row : (rs : Rows) (n m : ℕ) → is_part (line_at rs) ≡ true → owed (line_at rs) + n ≡ m → Leads rs (suc n) (rest_of rs) m
leads_row rs n m p e = record { past = past_next rs n ∙ rw e refl; parts = λ h. parts-row rs n p (rw e h) }

-- a reader reads what counts as one
abbrev Passes : {A : Type 0} → Reader A → Type 0
Passes one = (n : ℕ) (rs : Rows) → After (one rs) (λ rest. Leads rs (suc n) rest n)

passes-times : {A : Type 0} (one : Reader (A → A)) (base : A) → Passes one → (k n : ℕ) (rs : Rows)
    → After (times one base k rs) (λ rest. Leads rs (k + n) rest n)
unfolding times
passes-times one base h zero n rs = rw zero-add (same rs n)
passes-times {A} one base h (suc k) n rs = rw suc-add (go (passes-times one base h k n) (one rs) (h (k + n) rs))
  where
    go : ((rs : Rows) → After (times one base k rs) (λ rest. Leads rs (k + n) rest n)) → (g : Reading (A → A))
        → After g (λ rest. Leads rs (suc (k + n)) rest (k + n))
        → After (g then λ f. map_r f (times one base k)) (λ rest. Leads rs (suc (k + n)) rest n)
    go ih (got f q) e =
        after_map f (λ rest. Leads rs (suc (k + n)) rest n) (times one base k q)
        (after_one (λ rest. Leads q (k + n) rest n) (λ rest. Leads rs (suc (k + n)) rest n)
        (times one base k q) (λ rest i. e to i) (ih q))
    go ih (no j q) e = tt

passes-binding : (ty : Reader Ty) → Passes ty → Passes (read_binding ty)
unfolding read_binding owed
passes-binding ty h n rs =
    as_unbound_lem (λ (f : Reader (Binds → Binds)). After (f rs) (λ rest. Leads rs (suc n) rest n)) (line_at rs) _ _
    (λ e. leads_row rs n n (rw e) (rw (e, zero-add)))
    (by_told (λ g. After g (λ rest. Leads rs (suc n) rest n)) (fault_of 85 (line_at rs)) (map_r (λ t bs. bound t bs) ty) rs
    (λ k. tt)
    (after_map (λ t bs. bound t bs) (λ rest. Leads rs (suc n) rest n) (ty rs) (h n rs)))

passes-scope : (ty : Reader Ty) → Passes ty → Passes (read.read_scope ty)
unfolding read.read_scope owed
passes-scope ty h n rs =
    as_scope_lem (λ (f : Reader (Scopes → Scopes)). After (f rs) (λ rest. Leads rs (suc n) rest n)) (line_at rs) _ _
    (λ i b c e. go i b c e (eqb b 0) refl)
    (by_told (λ g. After g (λ rest. Leads rs (suc n) rest n)) (fault_of 83 (line_at rs)) (no misplaced) rs (λ k. tt) tt)
  where
    go : (i b c : ℕ) → line_at rs ≡ Scope i b c → (t : Bool) → eqb b 0 ≡ t
        → After {A = Scopes → Scopes} (cond t (got (λ ss. inherit i ss))
        (map_r (λ bs ss. bind i bs ss) (times (read_binding ty) stop c)) (rest_of rs))
        (λ rest. Leads rs (suc n) rest n)
    go i b c e true z = leads_row rs n n (rw e) (rw (e, z, zero-add))
    go i b c e false z =
        after_map (λ bs ss. bind i bs ss) (λ rest. Leads rs (suc n) rest n)
        (times (read_binding ty) stop c (rest_of rs))
        (after_one (λ rest. Leads (rest_of rs) (c + n) rest n) (λ rest. Leads rs (suc n) rest n)
        (times (read_binding ty) stop c (rest_of rs))
        (λ rest j. leads_row rs n (c + n) (rw e) (rw (e, z)) to j)
        (passes-times (read_binding ty) stop (passes-binding ty h) c n (rest_of rs)))

passes-type : (left : ℕ) → Passes (read_type left)
unfolding read_type type_from owed
passes-type zero n rs =
    as_type_lem (λ (f : Reader Ty). After (f rs) (λ rest. Leads rs (suc n) rest n)) (line_at rs) _ _ (λ k a b c e. tt)
    (by_told (λ g. After g (λ rest. Leads rs (suc n) rest n)) (fault_of 84 (line_at rs)) (no misplaced) rs (λ k. tt) tt)
passes-type (suc l) n rs = made (passes-type l)
  where
    go : Passes (read_type l) → (k a b c : ℕ) → line_at rs ≡ Typ k a b c → (x y z : Bool) → ltb k 14 ≡ x → eqb k 14 ≡ y
        → ltb k 18 ≡ z
        → After (cond x (got (tree.plain k)) (cond y (map_r (λ t. tree.list t) (read_type l))
        (cond z (map_r (read.branded k a) (times (read.read_scope (read_type l)) end b)) (got (read.pointer a b c))))
        (rest_of rs)) (λ rest. Leads rs (suc n) rest n)
    go ih k a b c e true y z p q r = leads_row rs n n (rw e) (rw (e, p, zero-add))
    go ih k a b c e false true z p q r =
        after_map (λ t. tree.list t) (λ rest. Leads rs (suc n) rest n) (read_type l (rest_of rs))
        (after_one (λ rest. Leads (rest_of rs) (suc n) rest n) (λ rest. Leads rs (suc n) rest n) (read_type l (rest_of rs))
        (λ rest j. leads_row rs n (suc n) (rw e) (rw (e, p, q, one-add)) to j) (ih n (rest_of rs)))
    go ih k a b c e false false true p q r =
        after_map (read.branded k a) (λ rest. Leads rs (suc n) rest n)
        (times (read.read_scope (read_type l)) end b (rest_of rs))
        (after_one (λ rest. Leads (rest_of rs) (b + n) rest n) (λ rest. Leads rs (suc n) rest n)
        (times (read.read_scope (read_type l)) end b (rest_of rs))
        (λ rest j. leads_row rs n (b + n) (rw e) (rw (e, p, q, r)) to j)
        (passes-times (read.read_scope (read_type l)) end (passes-scope (read_type l) ih) b n (rest_of rs)))
    go ih k a b c e false false false p q r = leads_row rs n n (rw e) (rw (e, p, q, r, zero-add))

    made : Passes (read_type l) → After (on_type (type_from (read_type l)) (no misplaced) rs) (λ rest. Leads rs (suc n) rest n)
    made ih =
        as_type_lem (λ (f : Reader Ty). After (f rs) (λ rest. Leads rs (suc n) rest n)) (line_at rs) _ _
        (λ k a b c e. go ih k a b c e (ltb k 14) (eqb k 14) (ltb k 18) refl refl refl)
        (by_told (λ g. After g (λ rest. Leads rs (suc n) rest n)) (fault_of 84 (line_at rs)) (no misplaced) rs (λ k. tt) tt)

-- the rows after what counts as one, and its own rows
past_one : {A : Type 0} (one : Reader A) → Passes one → (rs : Rows) → After (one rs) (λ rest. past_rows rs 1 ≡ rest)
past_one one h rs =
    after_one (λ rest. Leads rs 1 rest 0) (λ rest. past_rows rs 1 ≡ rest) (one rs) (λ rest w. w.past ∙ past-none rest) (h 0 rs)

parts-read : {A : Type 0} (rs : Rows) (m : ℕ) (g : Reading A) → After g (λ rest. Leads rs m rest 0) → On g (λ a. AllParts rs m)
parts-read rs m (got a rest) w = w.parts (parts_none rest)
parts-read rs m (no k rest) w = tt

-- of a type
pub past-type : (left : ℕ) (rs : Rows) → After (read_type left rs) (λ rest. past_rows rs 1 ≡ rest)
past-type left rs = past_one (read_type left) (passes-type left) rs

pub type-parts : (left : ℕ) (rs : Rows) → On (read_type left rs) (λ t. AllParts rs 1)
type-parts left rs = parts-read rs 1 (read_type left rs) (passes-type left 0 rs)

-- of a binding
pub past-binding : (left : ℕ) (rs : Rows) → After (read_binding (read_type left) rs) (λ rest. past_rows rs 1 ≡ rest)
past-binding left rs = past_one (read_binding (read_type left)) (passes-binding (read_type left) (passes-type left)) rs

pub binding-parts : (left : ℕ) (rs : Rows) → On (read_binding (read_type left) rs) (λ f. AllParts rs 1)
binding-parts left rs =
    parts-read rs 1 (read_binding (read_type left) rs) (passes-binding (read_type left) (passes-type left) 0 rs)

-- of scopes
past-scope : (left : ℕ) (rs : Rows) → After (read.read_scope (read_type left) rs)
    (λ rest. past_rows (rest_of rs) (owed (line_at rs)) ≡ rest)
past-scope left rs =
    after_one (λ rest. past_rows rs 1 ≡ rest) (λ rest. past_rows (rest_of rs) (owed (line_at rs)) ≡ rest)
    (read.read_scope (read_type left) rs)
    (λ rest e. rw add-zero at (sym (past_next rs 0)) ∙ e)
    (past_one (read.read_scope (read_type left)) (passes-scope (read_type left) (passes-type left)) rs)

pub scopes-parts : (left n : ℕ) (rs : Rows) → On (times (read.read_scope (read_type left)) end n rs) (λ ss. AllParts rs n)
scopes-parts left n rs =
    parts-read rs n (times (read.read_scope (read_type left)) end n rs)
    (rw add-zero at (passes-times (read.read_scope (read_type left)) end (passes-scope (read_type left) (passes-type left)) n 0
    rs))

-- ---- the walk that passes over rows

-- m types, scopes or bindings from the rows rs on are n from the rows `rest` on, if they are there
pub record Onward (rs : Rows) (m : ℕ) (rest : Rows) (n : ℕ) : Type 0 where
  pub past : AllParts rs m → past_rows rs m ≡ past_rows rest n
  pub parts : AllParts rs m → AllParts rest n

onward_start : (rs : Rows) (n : ℕ) → Onward rs n rs n
onward_start rs n = record { past = λ h. refl; parts = λ h. h }

infixl 40 ◌on◌
pub ◌on◌ : {rs q rest : Rows} {m j n : ℕ} → Onward rs m q j → Onward q j rest n → Onward rs m rest n
v on w = record { past = λ h. v.past h ∙ w.past (v.parts h); parts = λ h. w.parts (v.parts h) }

-- one row
onward_one : (rs : Rows) (n : ℕ) → Onward rs (suc n) (rest_of rs) (owed (line_at rs) + n)
onward_one rs n = record { past = λ h. past_next rs n; parts = λ h. (parts_next rs n h).1 }

-- a row that is not read
pub onward_row : (s : Str) (at : ℕ) (o : Owing) (n : ℕ) → PartAt s at o → 0 < n
    → Onward (rows (drop at s)) n (rows (drop o.next s)) (o.owed + (n - 1))
onward_row s at o zero w h = let z : ⊥ = omega arith in absurd z
onward_row s at o (suc n) w h = record {
  past = λ p. let e = (parts_next (rows (drop at s)) n p).0 in
      past_next (rows (drop at s)) n ∙ rw (sub-one (suc n), w.rest e, w.owes e) refl;
  parts = λ p. let e = parts_next (rows (drop at s)) n p in rw (sub-one (suc n), w.rest e.0, w.owes e.0) e.1;
}

-- a run of U rows: each counts as one, and owes nothing
run_on : (r : ℕ) (rs : Rows) (n : ℕ) → r ≤ n → Onward (unbound_rows r ++ rs) n rs (n - r)
unfolding unbound_rows rest_of line_at owed line_of reader unbound_line
run_on zero rs n h = let e : n - 0 ≡ n = omega arith in rw e (onward_start rs n)
run_on (suc r) rs zero h = let z : ⊥ = omega arith in absurd z
run_on (suc r) rs (suc n) h =
    let e : suc n - suc r ≡ n - r = omega arith in
    let first : Onward (unbound_rows (suc r) ++ rs) (suc n) (unbound_rows r ++ rs) n =
    rw zero-add at (onward_one (unbound_rows (suc r) ++ rs) n) in
    rw e (first on run_on r rs n (omega arith))

pub onward_run : (rs rest : Rows) (r n : ℕ) → r ≤ n → rs ≡ unbound_rows r ++ rest → Onward rs n rest (n - r)
onward_run rs rest r n h e = rw e (run_on r rest n h)

-- where the walk comes to: nothing is owed, the sheet is at its end, or more is owed than it can have rows
module _ {rs : Rows} {m : ℕ} where
  pub past-done : {rest : Rows} {n : ℕ} → Onward rs m rest n → n ≤ 0 → Past rs m rest
  past-done {rest} {n} w h = let z : n ≡ 0 = omega arith in λ p. sym (w.past p ∙ rw z (past-none rest))

  pub past_end : (s : Str) (at n : ℕ) → Onward rs m (rows (drop at s)) n → length s ≤ at → Past rs m (rows (drop at s))
  unfolding past_rows
  past_end s at n w h = λ p. sym (w.past p ∙ rw (rows_out s at h))

  pub past_far : (s : Str) (at n : ℕ) → Onward rs m (rows (drop at s)) n → length s ≤ n → Past rs m (rows (drop (length s) s))
  past_far s at n w h = λ p.
      rows_out s (length s) (omega arith) ∙ sym (w.past p ∙ past_out (rows (drop at s)) n
      (omega (arith, rows-length (drop at s), length-drop at s)))

-- ---- the scope that counts

-- one scope read: its row, and what it puts in front of the others
record OneScope (sheet : Sheet) (rs : Rows) (f : Scopes → Scopes) : Type 0 where
  id : ℕ
  kind : ℕ
  count : ℕ
  scope : type_string.Scope
  line : line_at rs ≡ Scope id kind count
  first : (ss : Scopes) → scopes_of (f ss) sheet ≡ (id, scope) ∷ scopes_of ss sheet

one-scope : (left : ℕ) (sheet : Sheet) (rs : Rows) → On (read.read_scope (read_type left) rs) (OneScope sheet rs)
unfolding read.read_scope scopes_of
one-scope left sheet rs =
    as_scope_lem (λ (f : Reader (Scopes → Scopes)). On (f rs) (OneScope sheet rs)) (line_at rs) _ _
    (λ i b c e. go i b c e (eqb b 0))
    (by_told (λ g. On g (OneScope sheet rs)) (fault_of 83 (line_at rs)) (no misplaced) rs (λ k. tt) tt)
  where
    go : (i b c : ℕ) → line_at rs ≡ Scope i b c → (t : Bool)
        → On {A = Scopes → Scopes} (cond t (got (λ ss. inherit i ss))
        (map_r (λ bs ss. bind i bs ss) (times (read_binding (read_type left)) stop c)) (rest_of rs)) (OneScope sheet rs)
    go i b c e true = record { id = i; kind = b; count = c; scope = type_string.inherited; line = e; first = λ ss. refl }
    go i b c e false =
        on-map (λ bs ss. bind i bs ss) (OneScope sheet rs) (times (read_binding (read_type left)) stop c (rest_of rs))
        (on-all {P = λ bs. OneScope sheet rs (λ ss. bind i bs ss)}
        (λ bs. record {
          id = i;
          kind = b;
          count = c;
          scope = type_string.binds (bindings_of bs sheet);
          line = e;
          first = λ ss.
              refl;
        })
        (times (read_binding (read_type left)) stop c (rest_of rs)))

-- the last of n scopes with an id is the one that scope_of finds
scope-found : (left id : ℕ) (sheet : Sheet) (n : ℕ) (rs : Rows) (found : Option Rows) (o : Option type_string.Scope)
    → ScopeIs left sheet found o
    → On (times (read.read_scope (read_type left)) end n rs) (λ ss. ScopeIs left sheet (last_scope id n rs found)
    (or_else (scope_of id (scopes_of ss sheet)) o))
unfolding times last_scope scope_of scopes_of ScopeHere
scope-found left id sheet zero rs found o h = h
scope-found left id sheet (suc n) rs found o h =
    go (read.read_scope (read_type left) rs) refl (one-scope left sheet rs) (past-scope left rs) (scope-found left id sheet n)
  where
    rest : Rows
    rest = past_rows (rest_of rs) (owed (line_at rs))

    more : (i : ℕ) (x : type_string.Scope) (t : Bool) (y : Option type_string.Scope)
        → or_else y (cond t (Some x) o) ≡ or_else (or_else y (cond t (Some x) None)) o
    more i x true None = refl
    more i x true (Some y) = refl
    more i x false None = refl
    more i x false (Some y) = refl

    here : (f : Scopes → Scopes) (q : Rows) → read.read_scope (read_type left) rs ≡ got f q → (x : OneScope sheet rs f) (t : Bool)
        → ScopeIs left sheet (cond t (Some rs) found) (cond t (Some x.scope) o)
    here f q e x true = rw (e, x.first end) refl
    here f q e x false = h

    go : (g : Reading (Scopes → Scopes)) → read.read_scope (read_type left) rs ≡ g → On g (OneScope sheet rs)
        → After g (λ q. rest ≡ q)
        → ((rs : Rows) (found : Option Rows) (o : Option type_string.Scope) → ScopeIs left sheet found o
        → On (times (read.read_scope (read_type left)) end n rs) (λ ss. ScopeIs left sheet (last_scope id n rs found)
        (or_else (scope_of id (scopes_of ss sheet)) o)))
        → On (g then λ f. map_r f (times (read.read_scope (read_type left)) end n))
        (λ ss. ScopeIs left sheet (as_scope (line_at rs) (λ i b m. last_scope id n rest (cond (eqb i id) (Some rs) found)) found)
        (or_else (scope_of id (scopes_of ss sheet)) o))
    go (no k q) e x p ih = tt
    go (got f q) e x p ih =
        on-map f (λ ss. ScopeIs left sheet (as_scope (line_at rs)
        (λ i b m. last_scope id n rest (cond (eqb i id) (Some rs) found)) found) (or_else (scope_of id (scopes_of ss sheet)) o))
        (times (read.read_scope (read_type left)) end n q)
        (on_one (λ ss. ScopeIs left sheet (last_scope id n q (cond (eqb x.id id) (Some rs) found))
        (or_else (scope_of id (scopes_of ss sheet)) (cond (eqb x.id id) (Some x.scope) o)))
        (λ ss. ScopeIs left sheet (as_scope (line_at rs) (λ i b m. last_scope id n rest (cond (eqb i id) (Some rs) found)) found)
        (or_else (scope_of id (scopes_of (f ss) sheet)) o))
        (times (read.read_scope (read_type left)) end n q)
        (λ ss w. rw (p, x.line, x.first ss, ← more x.id x.scope (eqb x.id id) (scope_of id (scopes_of ss sheet))) w)
        (ih q (cond (eqb x.id id) (Some rs) found) (cond (eqb x.id id) (Some x.scope) o)
        (here f q e x (eqb x.id id))))

pub scope_counts : (left id : ℕ) (sheet : Sheet) (n : ℕ) (rs : Rows)
    → On (times (read.read_scope (read_type left)) end n rs) (λ ss. ScopeIs left sheet (last_scope id n rs None)
    (scope_of id (scopes_of ss sheet)))
scope_counts left id sheet n rs =
    on_one (λ ss. ScopeIs left sheet (last_scope id n rs None) (or_else (scope_of id (scopes_of ss sheet)) None))
    (λ ss. ScopeIs left sheet (last_scope id n rs None) (scope_of id (scopes_of ss sheet)))
    (times (read.read_scope (read_type left)) end n rs) (λ ss h. rw or-none at h) (scope-found left id sheet n rs None None refl)
  where
    or-none : (y : Option type_string.Scope) → or_else y None ≡ y
    or-none None = refl
    or-none (Some y) = refl

-- ---- searching

-- one turn of the search for a scope
pub scope-none : (id n : ℕ) (rs : Rows) (found : Option Rows) → n ≤ 0 → last_scope id n rs found ≡ found
unfolding last_scope
scope-none id zero rs found h = refl
scope-none id (suc n) rs found h = let z : ⊥ = omega arith in absurd z

pub scope_other : (id n : ℕ) (rs : Rows) (found : Option Rows) (l : Line) → line_said (Ok l) ≡ line_at rs
    → (tag_of the_type l ≡ 6 → ⊥) → last_scope id n rs found ≡ found
unfolding last_scope line_said
scope_other id zero rs found l e h = refl
scope_other id (suc n) rs found l e h =
    rw (← e, not-scope l _ _ (not_scope-tag l (λ i n z. h (ap (tag_of the_type) z))))

pub scope-bad : (id n : ℕ) (rs : Rows) (found : Option Rows) (b : BadLine) → line_said (Err b) ≡ line_at rs
    → last_scope id n rs found ≡ found
unfolding last_scope line_said
scope-bad id zero rs found b e = refl
scope-bad id (suc n) rs found b e = rw (← e)

module _ (id n : ℕ) (rs next rest : Rows) (found : Option Rows) (l : Content) (m i b c : ℕ) (more : 0 < n)
    (line : l ≡ line_at rs) (is : l ≡ Scope i b c)
    (after : next ≡ rest_of rs) (owes : m ≡ owed (Scope i b c)) (past : rest ≡ past_rows next m) where
  turn : last_scope id n rs found ≡ last_scope id (n - 1) rest (cond (eqb i id) (Some rs) found)
  unfolding last_scope
  turn = go n more
    where
      go : (n : ℕ) → 0 < n → last_scope id n rs found ≡ last_scope id (n - 1) rest (cond (eqb i id) (Some rs) found)
      go zero h = let z : ⊥ = omega arith in absurd z
      go (suc n) h = rw (past, after, owes, sym line ∙ is, sub-one (suc n))

  pub scope_this : i ≡ id → last_scope id n rs found ≡ last_scope id (n - 1) rest (Some rs)
  scope_this e = turn ∙ rw (eq-eqb i id e) refl

  pub scope-next : (i ≡ id → ⊥) → last_scope id n rs found ≡ last_scope id (n - 1) rest found
  scope-next e = turn ∙ rw (ne_eqb i id e) refl
