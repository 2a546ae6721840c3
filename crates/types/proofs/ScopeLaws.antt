-- Laws of the scopes of a chain's nodes: what a turn of each loop makes of what was known. Assumes nothing.
use mathlib.Core.Path.{◌≡◌, refl, sym, ap, ◌∙◌}
use mathlib.Core.Bool.{Bool, true, false}
use mathlib.Core.List.{List, [], ◌∷◌}
use Rattle.std.specs.Prelude.{Option, None, Some}
use Prim.Native.Nat.{ℕ, zero, suc, ◌-◌, ◌<◌, ◌≤◌}
use native.Mathlib.Omega.{arith}
use native.Mathlib.Numerals.{sub-one}
use borrow.Author.Tests.{eqb-true, eqb-false}
use lib.Dec.{eqb}
use lib.ListN.{length, drop, take, get_or, replicate, length-replicate, get_or-replicate}
use lib.Seq.{get_or-take, length-take-le}
use Rattle.row.proofs.Laws.{rows_out}
use Rattle.row.proofs.PartLaws.{scope-owed}
use Rattle.text.specs.Bytes.{Str, cond}
use Rattle.row.specs.Rows.{rows, rest_of}
use Rattle.row.specs.Line as content
use Rattle.row.specs.Line.{Content, good_said, line_at, as_scope}
use Rattle.row.specs.declared.Line.{Line}
use Rattle.row.specs.declared.Line.TheVariants as line
use Rattle.tree.specs.Tree.{Sheet, end}
use Rattle.tree.specs.Reader.{Rows, times, On}
use Rattle.tree.specs.Read as read
use Rattle.tree.specs.Read.{read_type}
use Rattle.codegen_types.specs.TypeString.{Scope, scope_of, scopes_of}
use Rattle.tree.proofs.OtherLines.{never}
use Rattle.row.specs.Part.{owed}
use Rattle.types.specs.Find.{last_scope, past_rows, AllParts, Past}
use Rattle.types.specs.Find.{or_none, LastScopes, Noted, ScopeIs, ScopeAt, ScopeHere}
use Rattle.types.proofs.Laws.{on-two, parts_next, parts-split, scopes-parts}
use Rattle.types.proofs.Laws.{scope_counts, scope-none, scope_this, scope-next}

-- ---- noting a position

-- the first k ids are seen to
pub record Noting (ids : List ℕ) (i at : ℕ) (places : List ℕ) (k : ℕ) (after : List ℕ) : Type 0 where
  pub size : length after ≡ 16
  pub each : (j : ℕ) → j < length ids → j < k → get_or after j 0 ≡ cond (eqb i (get_or ids j 0)) at (get_or places j 0)
  pub rest : (j : ℕ) → k ≤ j → get_or after j 0 ≡ get_or places j 0

-- ---- the scopes of a chain's nodes, in one pass

-- what was found before counts only by its rows
last_or : (id n : ℕ) (rs : Rows) (f g : Option Rows) → or_none f ≡ or_none g
    → or_none (last_scope id n rs f) ≡ or_none (last_scope id n rs g)
unfolding last_scope
last_or id zero rs f g h = h
last_or id (suc n) rs f g h = go (line_at rs) (λ rest x y. last_or id n rest x y)
  where
    found : (t : Bool) → or_none (cond t (Some rs) f) ≡ or_none (cond t (Some rs) g)
    found true = refl
    found false = h

    go : (l : Content) → ((rest : Rows) (x y : Option Rows) → or_none x ≡ or_none y
        → or_none (last_scope id n rest x) ≡ or_none (last_scope id n rest y))
        → or_none (as_scope l (λ i b m. last_scope id n (past_rows (rest_of rs) (owed l)) (cond (eqb i id) (Some rs) f)) f)
        ≡ or_none (as_scope l (λ i b m. last_scope id n (past_rows (rest_of rs) (owed l)) (cond (eqb i id) (Some rs) g)) g)
    go (content.Scope i b m) ih = ih _ _ _ (found (eqb i id))
    go content.Root ih = h
    go (content.Node i q k x y c o) ih = h
    go content.Parameter ih = h
    go (content.Field o d e q) ih = h
    go (content.Group i d) ih = h
    go (content.Typ k a b c) ih = h
    go content.Unbound ih = h
    go (content.Value k b) ih = h
    go (content.Word x) ih = h
    go (content.Bad x k) ih = h

-- n scopes are left from a position on, and these places are noted, if the rows of all scopes are there
pub record Passing (s : Str) (from count : ℕ) (ids : List ℕ) (at n : ℕ) (places : List ℕ) : Type 0 where
  pub size : length places ≡ 16
  pub parts : AllParts (rows (drop from s)) count → AllParts (rows (drop at s)) n
  pub each : AllParts (rows (drop from s)) count → (k : ℕ) → k < length ids → k < 16
      → or_none (last_scope (get_or ids k 0) count (rows (drop from s)) None)
      ≡ or_none (last_scope (get_or ids k 0) n (rows (drop at s)) (Some (rows (drop (get_or places k 0) s))))

module _ (s : Str) (from count : ℕ) (ids : List ℕ) where
  pub pass_start : Passing s from count ids from count (replicate 16 (length s))
  pass_start = record {
    size = length-replicate 16 (length s);
    parts = λ p. p;
    each = λ p k x y. last_or (get_or ids k 0) count (rows (drop from s)) None
        (Some (rows (drop (get_or (replicate 16 (length s)) k 0) s)))
        (rw (get_or-replicate 16 k (length s) 0 y) (sym (rows_out s (length s) (omega arith))));
  }

  module _ (at n : ℕ) (places : List ℕ) (w : Passing s from count ids at n places) where
    pub pass-none : n ≤ 0 → LastScopes s from count ids places
    pass-none h = record {
      each = λ p k x y. sym (w.each p k x y ∙ ap or_none (scope-none (get_or ids k 0) n (rows (drop at s)) _ h));
    }

    pub pass-other : ((id : ℕ) (f : Option Rows) → last_scope id n (rows (drop at s)) f ≡ f) → LastScopes s from count ids places
    pass-other stop = record {
      each = λ p k x y. sym (w.each p k x y ∙ ap or_none (stop (get_or ids k 0) _));
    }

    module _ (more : 0 < n) (i b c : ℕ) (here : line_at (rows (drop at s)) ≡ content.Scope i b c) (after : List ℕ)
        (noted : Noted ids i at places after) where
      -- after this scope
      turn_on : AllParts (rows (drop from s)) count → (rest : Rows)
          → rest ≡ past_rows (rest_of (rows (drop at s))) (owed (content.Scope i b c)) → (k : ℕ)
          → k < length ids → k < 16 → or_none (last_scope (get_or ids k 0) count (rows (drop from s)) None)
          ≡ or_none (last_scope (get_or ids k 0) (n - 1) rest (Some (rows (drop (get_or after k 0) s))))
      turn_on p rest past k x y = w.each p k x y ∙ go (eqb i (get_or ids k 0)) refl
        where
          id : ℕ
          id = get_or ids k 0

          old : Option Rows
          old = Some (rows (drop (get_or places k 0) s))

          go : (t : Bool) → eqb i id ≡ t → or_none (last_scope id n (rows (drop at s)) old)
              ≡ or_none (last_scope id (n - 1) rest (Some (rows (drop (get_or after k 0) s))))
          go true z =
              rw (noted.each k x y, z) (ap or_none (scope_this id n (rows (drop at s)) (rest_of (rows (drop at s))) rest old _
              (owed (content.Scope i b c)) i b c more (sym here) refl refl refl past (eqb-true i id z)))
          go false z =
              rw (noted.each k x y, z) (ap or_none (scope-next id n (rows (drop at s)) (rest_of (rows (drop at s))) rest old _
              (owed (content.Scope i b c)) i b c more (sym here) refl refl refl past (eqb-false i id z)))

      pub pass-last : n ≡ 1 → LastScopes s from count ids after
      pass-last z = record {
        each = λ p k x y. sym (turn_on p (past_rows (rest_of (rows (drop at s))) (owed (content.Scope i b c))) refl k x y
            ∙ ap or_none (scope-none (get_or ids k 0) (n - 1) _ _ (omega arith)));
      }

      -- it owes its count; its bindings are there, and the scopes after them
      owes : owed (content.Scope i b c) ≡ c
      owes = scope-owed (rows (drop at s)) i b c here

      own-parts : AllParts (rows (drop from s)) count → AllParts (rest_of (rows (drop at s))) c
          × AllParts (past_rows (rest_of (rows (drop at s))) c) (n - 1)
      own-parts p = go n more (w.parts p)
        where
          go : (n : ℕ) → 0 < n → AllParts (rows (drop at s)) n → AllParts (rest_of (rows (drop at s))) c
              × AllParts (past_rows (rest_of (rows (drop at s))) c) (n - 1)
          go zero h q = let z : ⊥ = omega arith in absurd z
          go (suc n) h q =
              rw (sub-one (suc n)) (parts-split (rest_of (rows (drop at s))) c n
              (rw (here, owes) at (parts_next (rows (drop at s)) n q).1))

      pub pass-next : (next to : ℕ) → rows (drop next s) ≡ rest_of (rows (drop at s))
          → Past (rows (drop next s)) c (rows (drop to s)) → Passing s from count ids to (n - 1) after
      pass-next next to f h = record {
        size = noted.size;
        parts = λ p. rw (to_is p) (own-parts p).1;
        each = λ p k x y. turn_on p (rows (drop to s)) (to_is p ∙ rw owes refl) k x y;
      }
        where
          to_is : AllParts (rows (drop from s)) count → rows (drop to s) ≡ past_rows (rest_of (rows (drop at s))) c
          to_is p = rw f at h (own-parts p).0

-- ---- the scopes, for those who walk along the chain

-- the rows of a scope that was looked for
scope-at : (left : ℕ) (sheet : Sheet) (f : Option Rows) (o : Option Scope) → ScopeIs left sheet f o
    → ScopeAt left sheet (or_none f) o
unfolding ScopeHere read.read_scope line_at
scope-at left sheet None o h = h
scope-at left sheet (Some []) o h = absurd h
scope-at left sheet (Some (r ∷ rs)) o h = h

-- the scope of a node of the chain stands at its place
pub placed : (left : ℕ) (sheet : Sheet) (s : Str) (from n : ℕ) (nodes places : List ℕ) (count k : ℕ)
    → LastScopes s from n (take count nodes) places → k < count → count ≤ 16 → count ≤ length nodes
    → On (times (read.read_scope (read_type left)) end n (rows (drop from s)))
    (λ ss. ScopeAt left sheet (rows (drop (get_or places k 0) s)) (scope_of (get_or nodes k 0) (scopes_of ss sheet)))
placed left sheet s from n nodes places count k w h f g =
    on-two (λ ss. AllParts (rows (drop from s)) n)
    (λ ss. ScopeIs left sheet (last_scope (get_or nodes k 0) n (rows (drop from s)) None)
    (scope_of (get_or nodes k 0) (scopes_of ss sheet)))
    (λ ss. ScopeAt left sheet (rows (drop (get_or places k 0) s)) (scope_of (get_or nodes k 0) (scopes_of ss sheet)))
    (times (read.read_scope (read_type left)) end n (rows (drop from s)))
    (λ ss p v. rw (w.each p k (rw (length-take-le count nodes g) h) (omega arith), get_or-take count nodes k 0 h)
    (scope-at left sheet (last_scope (get_or nodes k 0) n (rows (drop from s)) None)
    (scope_of (get_or nodes k 0) (scopes_of ss sheet)) v))
    (scopes-parts left n (rows (drop from s))) (scope_counts left (get_or nodes k 0) sheet n (rows (drop from s)))

-- a scope's row stands at a place only where there is a scope
pub scope-there : (left : ℕ) (sheet : Sheet) (q : Rows) (o : Option Scope) (l : Line) (i : ℕ) (n : Option ℕ)
    → good_said l ≡ line_at q → l ≡ line.Scope i n → ScopeAt left sheet q o → ScopeHere left sheet q o
unfolding line_at
scope-there left sheet [] o l i n e is h =
    let y : ◌≡◌ {A = ℕ} 0 1 = ap (λ (l : Content). as_scope l (λ i b m. 1) 0) (sym e ∙ ap good_said is) in never y
scope-there left sheet (r ∷ rs) o l i n e is h = h
