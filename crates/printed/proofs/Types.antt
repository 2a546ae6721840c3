-- A type printed is read as that type, and a type that is read is that type printed. The first goes by the parts of a type, the
-- second by the levels left and the counts of scopes and bindings. A count fits its columns because each scope and each binding
-- has a row, and the rows are few. Assumes nothing.
use mathlib.Core.Path.{◌≡◌, refl, sym, ap, ◌∙◌}
use mathlib.Core.Bool.{Bool, true, false}
use mathlib.Core.List.{[], ◌∷◌}
use Prim.Native.Nat.{ℕ, zero, suc, ◌+◌, ◌-◌, ◌≤◌, ◌<◌}
use native.Mathlib.Omega.{arith}
use native.Mathlib.Numerals.{sub-one}
use borrow.Author.Tests.{ltb-true, ltb-false, lt-ltb, le-ltb, eqb-true, eqb-false, ne_eqb}
use lib.Dec.{eqb, ltb}
use Rattle.text.specs.Bytes.{Str, cond, both}
use Rattle.column.specs.Number.{most}
use Rattle.row.specs.Rows.{rest_of, size}
use Rattle.row.specs.Line.{Fault, fault, misplaced, Content, line_at, as_unbound, most_a, most_b, most_c, most_count}
use Rattle.row.specs.Print.{row_text, print_type, print_scope, print_unbound, Fits}
use Rattle.row.specs.Line.{Typ, Scope, Unbound, Bad}
use Rattle.tree.specs.Tree.{Ty, plain, list, enum, struct, interface, any_pointer, parameter}
use Rattle.tree.specs.Tree.{Scopes, end, inherit, bind, Binds, stop, unbound, bound}
use Rattle.tree.specs.Reader.{Rows, got, no, Reader, ◌then◌, map_r, or_fault, times, on_type}
use Rattle.tree.specs.Read.{read_binding, read_scope, branded, pointer, type_from, read_type}
use Rattle.tree.specs.Print.{scope_count, bind_count, type_rows, scope_rows, bind_rows}
use Rattle.tree.specs.WellFormed.{fits, type_fits, scopes_fit, binds_fit}
use Rattle.printed.proofs.Reading.{line-here, Reads, reads_none, reads-line, reads-map, reads_times}
use Rattle.printed.proofs.Reading.{Tells, told, nothing, tells_map, tells_cond, tells_times}
use Rattle.printed.proofs.Lines.{Says, tells-type, tells-scope, tells-unbound}
use Rattle.text.proofs.BytesLaws.{both_true}
use Rattle.printed.proofs.Tests.{◌and◌, fits-most, most-fits}

-- ---- how many bytes: each part has a row of its own

mutual
  unfolding size row_text type_rows scope_count bind_count

  size_type : (t : Ty) (rs : Rows) → size rs < size (type_rows t rs)
  size_type (plain k) rs = omega arith
  size_type (list t) rs = omega (arith, size_type t rs)
  size_type (enum i ss) rs = omega (arith, size-scopes ss rs)
  size_type (struct i ss) rs = omega (arith, size-scopes ss rs)
  size_type (interface i ss) rs = omega (arith, size-scopes ss rs)
  size_type any_pointer rs = omega arith
  size_type (parameter i k) rs = omega arith

  size-scopes : (ss : Scopes) (rs : Rows) → size rs + scope_count ss ≤ size (scope_rows ss rs)
  size-scopes end rs = omega arith
  size-scopes (inherit i ss) rs = omega (arith, size-scopes ss rs)
  size-scopes (bind i bs ss) rs = omega (arith, size-binds bs (scope_rows ss rs), size-scopes ss rs)

  size-binds : (bs : Binds) (rs : Rows) → size rs + bind_count bs ≤ size (bind_rows bs rs)
  size-binds stop rs = omega arith
  size-binds (unbound bs) rs = omega (arith, size-binds bs rs)
  size-binds (bound t bs) rs = omega (arith, size_type t (bind_rows bs rs), size-binds bs rs)

-- rows so few that a column can count them
pub record Room (rs : Rows) : Type 0 where
  pub few : size rs ≤ most 64

-- the rows that follow a row, and those that follow a type
pub room-rest : {r : Str} {rs : Rows} → Room (r ∷ rs) → Room rs
unfolding size
room-rest room = record { few = omega (arith, room.few) }

pub room-type : (t : Ty) (rs : Rows) → Room (type_rows t rs) → Room rs
room-type t rs room = record { few = omega (arith, size_type t rs, room.few) }

-- the count of bindings, and the rows that follow them
room-count : (bs : Binds) (rs : Rows) → Room (bind_rows bs rs) → bind_count bs ≤ most 64
room-count bs rs room = omega (arith, size-binds bs rs, room.few)

room-binds : (bs : Binds) (rs : Rows) → Room (bind_rows bs rs) → Room rs
room-binds bs rs room = record { few = omega (arith, size-binds bs rs, room.few) }

-- ---- what is printed is read

-- a type is read where a level is left
type-turn : (left : ℕ) (rs : Rows) → 0 < left → read_type left rs ≡ on_type (type_from (read_type (left - 1))) (no misplaced) rs
unfolding read_type
type-turn zero rs h = absurd (omega arith)
type-turn (suc l) rs h = rw (sub-one (suc l))

-- a T line, and what belongs to it
module _ (left : ℕ) (some : ltb 0 left ≡ true) where
  on-type :
      (k a b c : ℕ) {t : Ty} {rs rest : Rows} → Fits (Typ k a b c) []
      → Reads rs (type_from (read_type (left - 1)) k a b c rs) t rest
      → Reads (print_type k a b c ∷ rs) (read_type left (print_type k a b c ∷ rs)) t rest
  unfolding rest_of
  on-type k a b c {rs = rs} f r =
      reads-line (Typ k a b c) [] f
      (type-turn left (print_type k a b c ∷ rs) (ltb-true 0 left some) ∙ rw (line-here (Typ k a b c) [] rs f)) r

  -- kinds 0 to 13
  read_plain :
      (k : ℕ) (rs : Rows) → ltb k 14 ≡ true
      → Reads (print_type k 0 0 0 ∷ rs) (read_type left (print_type k 0 0 0 ∷ rs)) (plain k) rs
  unfolding type_from
  read_plain k rs h =
      on-type k 0 0 0 (omega (arith, ltb-true k 14 h), omega arith, omega arith, omega arith, refl)
      (rw (type_from, h) reads_none)

-- kinds 15 to 17
module _ (left k i : ℕ) (lo : 14 < k) (hi : k < 18) (ss : Scopes) (fit : Bool) (rs : Rows) (room : Room (scope_rows ss rs)) where
  brand-fits : fits 64 i ≡ true → Fits (Typ k i (scope_count ss) 0) []
  unfolding most_a most_b
  brand-fits e =
      let p = le-ltb k 15 lo in
      let q = lt-ltb k 18 hi in
      let m : scope_count ss ≤ most 64 = omega (arith, size-scopes ss rs, room.few) in
      (omega arith, rw (most_a, p, q) (fits-most 64 i e), rw (most_b, p, q) m, omega arith, refl)

  read-brand :
      both (ltb 0 left) (both (fits 64 i) fit) ≡ true
      → (fit ≡ true
      → Reads (scope_rows ss rs) (times (read_scope (read_type (left - 1))) end (scope_count ss) (scope_rows ss rs)) ss rs)
      → Reads (print_type k i (scope_count ss) 0 ∷ scope_rows ss rs)
      (read_type left (print_type k i (scope_count ss) 0 ∷ scope_rows ss rs)) (branded k i ss) rs
  unfolding type_from
  read-brand e scopes =
      let other : k ≡ 14 → ⊥ = omega arith in
      let (some, more) = both_true _ _ e in
      let (id, fit) = both_true _ _ more in
      on-type left some k i (scope_count ss) 0 (brand-fits id)
      (rw (type_from, le-ltb k 14 (omega arith), ne_eqb k 14 other, lt-ltb k 18 hi) (reads-map (branded k i) (scopes fit)))

-- a binding that is a type is no U line
type-binding :
    (left : ℕ) (rs rest : Rows) (t : Ty) → read_type left rs ≡ got t rest
    → read_binding (read_type left) rs ≡ (read_type left rs then λ t. got (λ bs. bound t bs))
unfolding read_binding read_type
type-binding left rs rest t e = by-line (line_at rs) refl
  where
    refused : (left : ℕ) → line_at rs ≡ Unbound → read_type left rs ≡ no misplaced rs
    refused zero h = rw (h, h)
    refused (suc l) h = rw (h, h)

    faulty : (left x : ℕ) (k : Fault) → line_at rs ≡ Bad x k → x ≡ 85 → read_type left rs ≡ no misplaced rs
    faulty zero x k h i = rw (h, h, i)
    faulty (suc l) x k h i = rw (h, h, i)

    by_letter :
        (x : ℕ) (k : Fault) → line_at rs ≡ Bad x k → (b : Bool) → eqb x 85 ≡ b
        → or_fault {A = Binds → Binds} 85 (map_r (λ t bs. bound t bs) (read_type left)) rs
        ≡ (read_type left rs then λ t. got (λ bs. bound t bs))
    by_letter x k h true i = let r = faulty left x k h (eqb-true x 85 i) in cc
    by_letter x k h false i = rw (h, i)

    by-line :
        (l : Content) → line_at rs ≡ l
        → as_unbound {A = Reader (Binds → Binds)} l (λ rs. got (λ bs. unbound bs) (rest_of rs))
        (or_fault 85 (map_r (λ t bs. bound t bs) (read_type left))) rs
        ≡ (read_type left rs then λ t. got (λ bs. bound t bs))
    by-line Unbound h = let r = refused left h in cc
    by-line (Bad x k) h = by_letter x k h (eqb x 85) refl
    by-line _ h = rw h

-- one scope, one binding
module _ (left : ℕ) where
  read-inherit :
      (i : ℕ) (rs : Rows) → fits 64 i ≡ true
      → Reads (print_scope i 0 0 ∷ rs) (read_scope (read_type left) (print_scope i 0 0 ∷ rs)) (λ ss. inherit i ss) rs
  unfolding read_scope rest_of
  read-inherit i rs e =
      let f : Fits (Scope i 0 0) [] = (fits-most 64 i e, omega arith, omega arith, refl) in
      reads-line (Scope i 0 0) [] f (rw (line-here (Scope i 0 0) [] rs f)) reads_none

  read-bind :
      (i n : ℕ) {bs : Binds} {rs rest : Rows} → fits 64 i ≡ true → n ≤ most 64
      → Reads rs (times (read_binding (read_type left)) stop n rs) bs rest
      → Reads (print_scope i 1 n ∷ rs) (read_scope (read_type left) (print_scope i 1 n ∷ rs)) (λ ss. bind i bs ss) rest
  unfolding read_scope rest_of most_count
  read-bind i n {rs = rs} e h r =
      let f : Fits (Scope i 1 n) [] = (fits-most 64 i e, omega arith, h, refl) in
      reads-line (Scope i 1 n) [] f (rw (line-here (Scope i 1 n) [] rs f)) (reads-map (λ bs ss. bind i bs ss) r)

  read-unbound :
      (rs : Rows) → Reads (print_unbound ∷ rs) (read_binding (read_type left) (print_unbound ∷ rs)) (λ bs. unbound bs) rs
  unfolding read_binding rest_of
  read-unbound rs = reads-line Unbound [] refl (rw (line-here Unbound [] rs refl)) reads_none

  read-bound :
      {t : Ty} {rs rest : Rows} → Reads rs (read_type left rs) t rest
      → Reads rs (read_binding (read_type left) rs) (λ bs. bound t bs) rest
  read-bound {t} {rs} {rest} r =
      rw (type-binding left rs rest t r.gives) (reads-map (λ t bs. bound t bs) r)

mutual
  unfolding type_rows type_fits scope_count bind_count type_from times most_a most_b most_c

  -- a type printed is read
  pub read-type :
      (t : Ty) (left : ℕ) (rs : Rows) → Room (type_rows t rs) → type_fits t left ≡ true
      → Reads (type_rows t rs) (read_type left (type_rows t rs)) t rs
  read-type (plain k) left rs room e = let (some, low) = both_true _ _ e in read_plain left some k rs low
  read-type (list t) left rs room e =
      let (some, more) = both_true _ _ e in
      on-type left some 14 0 0 0 (omega arith, omega arith, omega arith, omega arith, refl)
      (reads-map (λ t. list t) (read-type t (left - 1) rs (room-rest room) more))
  read-type (enum i ss) left rs room e =
      let less = room-rest room in
      read-brand left 15 i (omega arith) (omega arith) ss _ rs less e (λ f. read-scopes ss (left - 1) rs less f)
  read-type (struct i ss) left rs room e =
      let less = room-rest room in
      read-brand left 16 i (omega arith) (omega arith) ss _ rs less e (λ f. read-scopes ss (left - 1) rs less f)
  read-type (interface i ss) left rs room e =
      let less = room-rest room in
      read-brand left 17 i (omega arith) (omega arith) ss _ rs less e (λ f. read-scopes ss (left - 1) rs less f)
  read-type any_pointer left rs room e =
      on-type left e 18 0 0 0 (omega arith, omega arith, omega arith, omega arith, refl) reads_none
  read-type (parameter i k) left rs room e =
      let (some, more) = both_true _ _ e in
      let (id, index) = both_true _ _ more in
      on-type left some 18 1 i k (omega arith, omega arith, fits-most 64 i id, fits-most 16 k index, refl) reads_none

  -- so are the scopes of a brand
  read-scopes :
      (ss : Scopes) (left : ℕ) (rs : Rows) → Room (scope_rows ss rs) → scopes_fit ss left ≡ true
      → Reads (scope_rows ss rs) (times (read_scope (read_type left)) end (scope_count ss) (scope_rows ss rs)) ss rs
  read-scopes end left rs room e = reads_none
  read-scopes (inherit i ss) left rs room e =
      let (id, more) = both_true _ _ e in
      reads_times (read_scope (read_type left)) end (scope_count ss) (read-inherit left i (scope_rows ss rs) id)
      (read-scopes ss left rs (room-rest room) more)
  read-scopes (bind i bs ss) left rs room e =
      let (id, more) = both_true _ _ e in
      let (here, next) = both_true _ _ more in
      let us = scope_rows ss rs in
      let less = room-rest room in
      reads_times (read_scope (read_type left)) end (scope_count ss)
      (read-bind left i (bind_count bs) id (room-count bs us less) (read-binds bs left us less here))
      (read-scopes ss left rs (room-binds bs us less) next)

  -- and the bindings under a scope
  read-binds :
      (bs : Binds) (left : ℕ) (rs : Rows) → Room (bind_rows bs rs) → binds_fit bs left ≡ true
      → Reads (bind_rows bs rs) (times (read_binding (read_type left)) stop (bind_count bs) (bind_rows bs rs)) bs rs
  read-binds stop left rs room e = reads_none
  read-binds (unbound bs) left rs room e =
      reads_times (read_binding (read_type left)) stop (bind_count bs) (read-unbound left (bind_rows bs rs))
      (read-binds bs left rs (room-rest room) e)
  read-binds (bound t bs) left rs room e =
      let (here, next) = both_true _ _ e in
      let us = bind_rows bs rs in
      reads_times (read_binding (read_type left)) stop (bind_count bs) (read-bound left (read-type t left us room here))
      (read-binds bs left rs (room-type t us room) next)

-- ---- what is read is printed

-- the rows rs are a type and the rows after it, with so many levels left; scopes and bindings, so many
abbrev pub TypeAt : ℕ → Rows → Ty → Rows → Type 0
TypeAt left rs t rest = (rs ≡ type_rows t rest) × (type_fits t left ≡ true)

abbrev ScopesAt : ℕ → ℕ → Rows → Scopes → Rows → Type 0
ScopesAt left n rs ss rest = (rs ≡ scope_rows ss rest) × (scopes_fit ss left ≡ true) × (scope_count ss ≡ n)

abbrev BindsAt : ℕ → ℕ → Rows → Binds → Rows → Type 0
BindsAt left n rs bs rest = (rs ≡ bind_rows bs rest) × (binds_fit bs left ≡ true) × (bind_count bs ≡ n)

-- a T line with numbers that are the same
type_row_lem :
    (k a b c k' a' b' c' : ℕ) (rs rest : Rows) → k ≡ k' → a ≡ a' → b ≡ b' → c ≡ c' → rs ≡ print_type k a b c ∷ rest
    → rs ≡ print_type k' a' b' c' ∷ rest
type_row_lem k a b c k' a' b' c' rs rest p q r s e = rw (← p, ← q, ← r, ← s) e

-- an S line: inherit has no bindings, bind so many
inherit-row :
    (rs : Rows) (i b n : ℕ) → Says rs (Scope i b n) → eqb b 0 ≡ true → rs ≡ print_scope i 0 0 ∷ rest_of rs
unfolding most_count
inherit-row rs i b n w z =
    let p = eqb-true b 0 z in
    let m : n ≤ 0 = rw p at w.fits.2 in
    let q : n ≡ 0 = omega arith in
    let row = w.row in
    cc

bind-row :
    (rs : Rows) (i b n m : ℕ) → Says rs (Scope i b n) → eqb b 0 ≡ false → m ≡ n → rs ≡ print_scope i 1 m ∷ rest_of rs
bind-row rs i b n m w z q =
    let other = eqb-false b 0 z in
    let p : b ≡ 1 = omega (arith, w.fits.1) in
    let row = w.row in
    cc

-- scopes and bindings, where types are read with so many levels left
module _ (left : ℕ) (tell : (rs : Rows) → Tells (TypeAt left rs) (read_type left rs)) where
  -- a binding in front of others
  tell-binding :
      (rs : Rows)
      → Tells (λ f mid. (n : ℕ) (bs : Binds) (rest : Rows) → BindsAt left n mid bs rest → BindsAt left (suc n) rs (f bs) rest)
      (read_binding (read_type left) rs)
  unfolding read_binding type_rows type_fits bind_count
  tell-binding rs =
      tells-unbound rs (map_r (λ t bs. bound t bs) (read_type left))
      (tells_map (λ t bs. bound t bs) (tell rs) (λ t mid p n bs rest q.
      (p.0 ∙ ap (type_rows t) q.0, p.1 and q.1, ap suc q.2)))
      (got (λ bs. unbound bs))
      (λ w. told (λ n bs rest q. (w.row ∙ ap (λ (rs : Rows). print_unbound ∷ rs) q.0, q.1, ap suc q.2)))

  tell-binds : (n : ℕ) (rs : Rows) → Tells (BindsAt left n rs) (times (read_binding (read_type left)) stop n rs)
  unfolding type_rows type_fits bind_count
  tell-binds = tells_times (BindsAt left) (λ rs. (refl, refl, refl)) tell-binding

  -- a scope in front of others
  tell-scope :
      (rs : Rows)
      → Tells (λ f mid. (n : ℕ) (ss : Scopes) (rest : Rows) → ScopesAt left n mid ss rest → ScopesAt left (suc n) rs (f ss) rest)
      (read_scope (read_type left) rs)
  unfolding read_scope type_rows type_fits scope_count
  tell-scope rs =
      tells-scope rs (no misplaced) nothing
      (λ i b n. cond (eqb b 0) (got (λ ss. inherit i ss)) (map_r (λ bs ss. bind i bs ss) (times (read_binding
      (read_type left)) stop n)))
      (λ i b n w.
      let id = most-fits 64 i w.fits.0 in
      tells_cond (eqb b 0) _ _ _
      (λ z. told (λ m ss rest q. (
        inherit-row rs i b n w z ∙ ap (λ (rs : Rows). print_scope i 0 0 ∷ rs) q.0,
        id and q.1,
        ap suc q.2,
      )))
      (λ z. tells_map (λ bs ss. bind i bs ss) (tell-binds n _) (λ bs mid p m ss rest q. (
        bind-row rs i b n (bind_count bs) w z p.2
            ∙ ap (λ (rs : Rows). print_scope i 1 (bind_count bs) ∷ rs) (p.0 ∙ ap (bind_rows bs) q.0),
        id and p.1 and q.1,
        ap suc q.2,
      ))))

  tell-scopes : (n : ℕ) (rs : Rows) → Tells (ScopesAt left n rs) (times (read_scope (read_type left)) end n rs)
  unfolding type_rows type_fits scope_count
  tell-scopes = tells_times (ScopesAt left) (λ rs. (refl, refl, refl)) tell-scope

  -- one level more
  deeper : ltb 0 (suc left) ≡ true
  deeper = lt-ltb 0 (suc left) (omega arith)

  -- a T line of a kind below 15 has no other numbers
  low-row :
      (rs : Rows) (k a b c : ℕ) → k < 15 → Says rs (Typ k a b c) → rs ≡ print_type k 0 0 0 ∷ rest_of rs
  unfolding most_a most_b most_c
  low-row rs k a b c h w =
      let p = lt-ltb k 15 h in
      let q = lt-ltb k 18 (omega arith) in
      let x : a ≤ 0 = rw (most_a, p) at w.fits.1 in
      let y : b ≤ 0 = rw (most_b, p) at w.fits.2 in
      let z : c ≤ 0 = rw (most_c, q) at w.fits.3 in
      type_row_lem k a b c k 0 0 0 rs _ refl (omega arith) (omega arith) (omega arith) w.row

  -- kinds 0 to 13, and kind 14
  tell-plain : (rs : Rows) (k a b c : ℕ) → Says rs (Typ k a b c) → ltb k 14 ≡ true → TypeAt (suc left) rs (plain k) (rest_of rs)
  unfolding type_rows type_fits
  tell-plain rs k a b c w h = (low-row rs k a b c (omega (arith, ltb-true k 14 h)) w, deeper and h)

  tell-list :
      (rs : Rows) (k a b c : ℕ) (t : Ty) (rest : Rows) → Says rs (Typ k a b c) → k ≡ 14 → TypeAt left (rest_of rs) t rest
      → TypeAt (suc left) rs (list t) rest
  unfolding type_rows type_fits
  tell-list rs k a b c t rest w h p =
      let e : rs ≡ print_type 14 0 0 0 ∷ rest_of rs = rw h at (low-row rs k a b c (omega arith) w) in
      (e ∙ ap (λ (rs : Rows). print_type 14 0 0 0 ∷ rs) p.0, deeper and rw (sub-one (suc left)) p.1)

  -- kinds 15 to 17
  brand-at :
      (rs : Rows) (k i : ℕ) (ss : Scopes) (rest : Rows) → 14 < k → k < 18
      → rs ≡ print_type k i (scope_count ss) 0 ∷ scope_rows ss rest → both (fits 64 i) (scopes_fit ss left) ≡ true
      → TypeAt (suc left) rs (branded k i ss) rest
  unfolding type_rows type_fits
  brand-at rs k i ss rest lo hi e f = go (eqb k 15) (eqb k 16) refl refl
    where
      fit : both (ltb 0 (suc left)) (both (fits 64 i) (scopes_fit ss (suc left - 1))) ≡ true
      fit = deeper and rw (sub-one (suc left)) f

      row : (m : ℕ) → k ≡ m → rs ≡ print_type m i (scope_count ss) 0 ∷ scope_rows ss rest
      row m h = rw h at e

      go : (p q : Bool) → eqb k 15 ≡ p → eqb k 16 ≡ q
          → TypeAt (suc left) rs (cond p (enum i ss) (cond q (struct i ss) (interface i ss))) rest
      go true q a b = (row 15 (eqb-true k 15 a), fit)
      go false true a b = (row 16 (eqb-true k 16 b), fit)
      go false false a b = let x = eqb-false k 15 a in let y = eqb-false k 16 b in (row 17 (omega arith), fit)

  tell-brand :
      (rs : Rows) (k a b c : ℕ) (ss : Scopes) (rest : Rows) → Says rs (Typ k a b c) → 14 < k → k < 18
      → ScopesAt left b (rest_of rs) ss rest → TypeAt (suc left) rs (branded k a ss) rest
  unfolding most_a most_c
  tell-brand rs k a b c ss rest w lo hi p =
      let q = lt-ltb k 18 hi in
      let x : a ≤ most 64 = rw (most_a, le-ltb k 15 lo, q) at w.fits.1 in
      let z : c ≤ 0 = rw (most_c, q) at w.fits.3 in
      brand-at rs k a ss rest lo hi
      (type_row_lem k a b c k a (scope_count ss) 0 rs _ refl refl (sym p.2) (omega arith) w.row
      ∙ ap (λ (rs : Rows). print_type k a (scope_count ss) 0 ∷ rs) p.0)
      (most-fits 64 a x and p.1)

  -- kind 18
  tell-pointer :
      (rs : Rows) (a b c : ℕ) → Says rs (Typ 18 a b c) → TypeAt (suc left) rs (pointer a b c) (rest_of rs)
  unfolding type_rows type_fits most_a most_b most_c
  tell-pointer rs a b c w = go (eqb a 0) refl
    where
      go : (p : Bool) → eqb a 0 ≡ p → TypeAt (suc left) rs (cond p any_pointer (parameter b c)) (rest_of rs)
      go true e =
          let h = eqb-true a 0 e in
          let y : b ≤ 0 = rw h at w.fits.2 in
          let z : c ≤ 0 = rw h at w.fits.3 in
          (type_row_lem 18 a b c 18 0 0 0 rs _ refl h (omega arith) (omega arith) w.row, deeper)
      go false e =
          let x = eqb-false a 0 e in
          let h : a ≡ 1 = omega (arith, w.fits.1) in
          let y : b ≤ most 64 = rw h at w.fits.2 in
          let z : c ≤ most 16 = rw h at w.fits.3 in
          (type_row_lem 18 a b c 18 1 b c rs _ refl h refl refl w.row, deeper and most-fits 64 b y and most-fits 16 c z)

  -- what belongs to a T line
  tell-from :
      (rs : Rows) (k a b c : ℕ) → Says rs (Typ k a b c)
      → Tells (TypeAt (suc left) rs) (type_from (read_type left) k a b c (rest_of rs))
  unfolding type_from
  tell-from rs k a b c w =
      tells_cond (ltb k 14) _ _ _ (λ x. told (tell-plain rs k a b c w x)) (λ x.
      let lo = ltb-false k 14 x in
      tells_cond (eqb k 14) _ _ _
      (λ y. tells_map (λ t. list t) (tell (rest_of rs)) (λ t rest p. tell-list rs k a b c t rest w (eqb-true k 14 y) p))
      (λ y.
      let no14 = eqb-false k 14 y in
      tells_cond (ltb k 18) _ _ _
      (λ z. tells_map (branded k a) (tell-scopes b (rest_of rs)) (λ ss rest p.
      tell-brand rs k a b c ss rest w (omega arith) (ltb-true k 18 z) p))
      (λ z.
      let k18 : k ≡ 18 = omega (arith, ltb-false k 18 z, w.fits.0) in
      told (tell-pointer rs a b c (rw k18 at w)))))

-- a type that is read is printed
pub tell_type : (left : ℕ) (rs : Rows) → Tells (TypeAt left rs) (read_type left rs)
unfolding read_type
tell_type zero rs = tells-type rs (no misplaced) nothing (λ k a b c rest. no (fault 4 1) rs) (λ k a b c w. nothing)
tell_type (suc l) rs =
    let less = tell_type l in
    tells-type rs (no misplaced) nothing (type_from (read_type l)) (λ k a b c w. tell-from l less rs k a b c w)
