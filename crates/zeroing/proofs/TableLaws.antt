-- Laws of the table of a group's lines. A place that is found has the line or is free; one more line at its free place leaves
-- every other line where it was, so that a place which is free now was free before. By induction on the places below. Assumes
-- nothing.
use mathlib.Core.Path.{◌≡◌, refl, sym, ap, ◌∙◌}
use mathlib.Core.Bool.{Bool, true, false}
use mathlib.Core.List.{List, []}
use Prim.Native.Nat.{ℕ, zero, suc, ◌+◌, ◌-◌, ◌^◌, ◌≤◌, ◌<◌}
use native.Mathlib.Numerals.{add-one}
use native.Mathlib.Omega.{arith}
use native.Mathlib.Decide.{ℕ_discrete}
use borrow.Author.Tests.{lt-ltb}
use lib.Dec.{eqb, ltb}
use lib.ListN.{length, get_or, set, replicate}
use lib.Seq.{get_or-set_same, get_or-set_other}
use Rattle.text.specs.Bytes.{cond, both}
use Rattle.std.proofs.lemmas.Bool.Decides.{nat_tests}
use Rattle.tree.specs.Tree.{Field}
use Rattle.zeroing.specs.Lines.{repeats}
use Rattle.zeroing.specs.Table.{table_size, stops, place_below, own_place, table_place, KeptLines, with_line, Knows}
use Rattle.zeroing.proofs.SlotLaws.{either_true}

-- ---- a place

module _ (xs ys : List ℕ) (c o : ℕ) where
  -- a search that comes to a place
  place_at : (r i : ℕ) → place_below xs ys c o r (i + 1) ≡ cond (stops xs ys c o i) i (place_below xs ys c o r i)
  unfolding place_below
  place_at r i = rw add-one refl

  -- one turn of the search: q is the place that is found
  module _ (i q : ℕ) (found : place_below xs ys c o table_size i ≡ q) where
    pub place_none : i ≤ 0 → table_size ≡ q
    unfolding place_below
    place_none h = let e : i ≡ 0 = omega arith in rw e at found

    module _ (more : 0 < i) (b : Bool) (is : b ≡ stops xs ys c o (i - 1)) where
      turn : place_below xs ys c o table_size i ≡ cond b (i - 1) (place_below xs ys c o table_size (i - 1))
      turn =
          let e : i ≡ i - 1 + 1 = omega arith in
          rw is (ap (place_below xs ys c o table_size) e ∙ place_at table_size (i - 1))

      pub place_here : b ≡ true → i - 1 ≡ q
      place_here e = rw (turn, e) at found

      pub place-next : b ≡ false → place_below xs ys c o table_size (i - 1) ≡ q
      place-next e = rw (turn, e) at found

  -- a search that goes on where there is none
  place-or : (r i : ℕ) → i ≤ table_size
      → place_below xs ys c o r i
      ≡ cond (ltb (place_below xs ys c o table_size i) table_size) (place_below xs ys c o table_size i) r
  unfolding place_below
  place-or r zero h = refl
  place-or r (suc i) h = grind (arith, nat_tests, place-or r i)

  abbrev from_last : ℕ
  from_last = place_below xs ys c o table_size table_size

  -- the own place p and what its test says
  module _ (p : ℕ) (own : p ≡ own_place c o) (b : Bool) (is : b ≡ stops xs ys c o p) where
    pub own-here : b ≡ true → p ≡ table_place xs ys c o
    own-here e = rw (← own, place_at from_last p, ← is, e) refl

    own-passed : b ≡ false → place_below xs ys c o from_last p ≡ table_place xs ys c o
    own-passed e = rw (← own, place_at from_last p, ← is, e) refl

    -- a place is found below the own one, or none is
    module _ (passed : b ≡ false) (most : p ≤ table_size) where
      pub own-below : (i : ℕ) → i ≡ place_below xs ys c o table_size p → i < table_size → i ≡ table_place xs ys c o
      own-below i below h = rw (place-or from_last p most, ← below, lt-ltb i table_size h) at (own-passed passed)

      pub own-none : table_size ≡ place_below xs ys c o table_size p → from_last ≡ table_place xs ys c o
      own-none none = rw (place-or from_last p most, ← none) at (own-passed passed)

  -- a place that is found has the line or is free
  place-stops : (r i : ℕ) → (r < table_size → stops xs ys c o r ≡ true) → place_below xs ys c o r i < table_size
      → stops xs ys c o (place_below xs ys c o r i) ≡ true
  unfolding place_below
  place-stops r zero g h = g h
  place-stops r (suc i) g h = let below = place-stops r i g in grind (arith, nat_tests)

  table-stops : table_place xs ys c o < table_size → stops xs ys c o (table_place xs ys c o) ≡ true
  table-stops =
      place-stops from_last (own_place c o + 1)
      (place-stops table_size table_size (λ h. let z : ⊥ = omega arith in absurd z))

  -- what a place that is found has: the line where it is not free, and offset 0 where it is
  stops-held : (i : ℕ) → stops xs ys c o i ≡ true → (get_or ys i 0 ≡ 0 → ⊥) → (get_or ys i 0 ≡ c) × (get_or xs i 0 ≡ o)
  stops-held i e n = grind (arith, nat_tests)

  stops-free : (i : ℕ) → stops xs ys c o i ≡ true → (c ≡ 0 → ⊥) → get_or ys i 0 ≡ 0 → get_or xs i 0 ≡ 0
  stops-free i e n z = grind (arith, nat_tests)

-- the steps of the search for a place, and of the search for a line's place, for their tactics
pub ruleset place_steps = (place_none, place_here, place-next)

pub ruleset own_steps = (own-here, own-below, own-none)

-- ---- one more line at a free place

-- a place that is free
abbrev Free : List ℕ → ℕ → Type 0
Free ys i = (i < table_size) × (get_or ys i 0 ≡ 0)

module _ (xs ys : List ℕ) (c o p : ℕ) (more : p < table_size) (px : p < length xs) (py : p < length ys) (line : c ≡ 0 → ⊥)
    (free : get_or ys p 0 ≡ 0) (bare : get_or xs p 0 ≡ 0) where
  -- the other places stay
  stops-other : (d q i : ℕ) → (i ≡ p → ⊥) → stops (set xs p o) (set ys p c) d q i ≡ stops xs ys d q i
  stops-other d q i n = rw (get_or-set_other xs p i o 0 n, get_or-set_other ys p i c 0 n) refl

  -- the place of a line that is free now was free before
  free-below : (d q s' s i : ℕ) → (Free (set ys p c) s' → Free ys s)
      → Free (set ys p c) (place_below (set xs p o) (set ys p c) d q s' i) → Free ys (place_below xs ys d q s i)
  unfolding place_below
  free-below d q s' s zero g h = g h
  free-below d q s' s (suc i) g h =
      go (ℕ_discrete i p) (place_below (set xs p o) (set ys p c) d q s' i) (place_below xs ys d q s i)
      (free-below d q s' s i g) h
    where
      by-stop : (i ≡ p → ⊥) → (r' r : ℕ) → (Free (set ys p c) r' → Free ys r) → (t : Bool)
          → Free (set ys p c) (cond t i r') → Free ys (cond t i r)
      by-stop n r' r ih true h = (h.0, sym (get_or-set_other ys p i c 0 n) ∙ h.1)
      by-stop n r' r ih false h = ih h

      go : Dec (i ≡ p) → (r' r : ℕ) → (Free (set ys p c) r' → Free ys r)
          → Free (set ys p c) (cond (stops (set xs p o) (set ys p c) d q i) i r') → Free ys (cond (stops xs ys d q i) i r)
      go (yes e) r' r ih h = rw (e, free, bare, either_true (both (eqb 0 q) (eqb 0 d))) (more, free)
      go (no n) r' r ih h = by-stop n r' r ih (stops xs ys d q i) (rw (stops-other d q i n) at h)

  free-before : (d q : ℕ) → Free (set ys p c) (table_place (set xs p o) (set ys p c) d q) → Free ys (table_place xs ys d q)
  free-before d q =
      free-below d q (from_last (set xs p o) (set ys p c) d q) (from_last xs ys d q) (own_place d q + 1)
      (free-below d q table_size table_size table_size (λ h. let z = h.0 in let y : ⊥ = omega arith in absurd y))

  -- and the line has its place
  kept-below : (s' s i : ℕ) → (s ≡ p → s' ≡ p) → place_below xs ys c o s i ≡ p
      → place_below (set xs p o) (set ys p c) c o s' i ≡ p
  unfolding place_below
  kept-below s' s zero g e = g e
  kept-below s' s (suc i) g e =
      go (ℕ_discrete i p) (place_below (set xs p o) (set ys p c) c o s' i) (place_below xs ys c o s i) (kept-below s' s i g) e
    where
      go : Dec (i ≡ p) → (r' r : ℕ) → (r ≡ p → r' ≡ p) → cond (stops xs ys c o i) i r ≡ p
          → cond (stops (set xs p o) (set ys p c) c o i) i r' ≡ p
      go (yes x) r' r ih e =
          rw (x, get_or-set_same xs p o 0 px, get_or-set_same ys p c 0 py) (grind (arith, nat_tests))
      go (no n) r' r ih e = rw (stops-other c o i n) (grind (arith, nat_tests))

  place_kept : table_place xs ys c o ≡ p → table_place (set xs p o) (set ys p c) c o ≡ p
  place_kept =
      kept-below (from_last (set xs p o) (set ys p c) c o) (from_last xs ys c o) (own_place c o + 1)
      (kept-below table_size table_size table_size (λ e. e))

-- ---- the lines that are kept

-- two lines that are not the same
apart : (a b x y : ℕ) → (a ≡ b → x ≡ y → ⊥) → both (eqb a b) (eqb x y) ≡ false
apart a b x y h = grind (arith, nat_tests)

-- no line needs no place
pub kept-first : (n : ℕ) → KeptLines (replicate n 0) (replicate n 0) (λ c o. repeats c o [])
unfolding repeats
kept-first n = record { held = λ i h. absurd (h (none n i)); free = λ c o x y z w. refl }
  where
    none : (n i : ℕ) → get_or {A = ℕ} (replicate n 0) i 0 ≡ 0
    none zero i = refl
    none (suc n) zero = refl
    none (suc n) (suc i) = none n i

module _ {xs ys : List ℕ} (fs : List Field) (k : KeptLines xs ys (λ c o. repeats c o fs)) where
  module _ (c o : ℕ) where
    -- one more line, and the table stays
    kept_on : ((d q : ℕ) → (d ≡ 0 → ⊥) → q < 2 ^ 32 → Free ys (table_place xs ys d q) → o ≡ q → c ≡ d → ⊥)
        → KeptLines xs ys (with_line c o fs)
    kept_on h = record {
      held = λ i n. rw (k.held i n) refl;
      free = λ d q z w p e. rw (k.free d q z w p e) (apart o q c d (h d q z w (p, e)));
    }

    -- Void has no line
    pub kept-void : c ≡ 0 → KeptLines xs ys (with_line c o fs)
    kept-void z = kept_on (λ d q n w p x y. n (sym y ∙ z))

    module _ {p : ℕ} (at : p ≡ table_place xs ys c o) (more : p < table_size) where
      stopped : stops xs ys c o p ≡ true
      stopped = rw (← at) at (table-stops xs ys c o (rw at at more))

      pub knows_again : (get_or ys p 0 ≡ 0 → ⊥) → Knows c o fs true xs ys
      knows_again n =
          let h = stops-held xs ys c o p stopped n in
          record {
            again = sym (rw (h.0, h.1) at (k.held p n));
            kept = kept_on (λ d q z w f x y. n (rw (at, x, y) f.1));
          }

      pub knows-new : (c ≡ 0 → ⊥) → o < 2 ^ 32 → p < length xs → p < length ys → get_or ys p 0 ≡ 0
          → Knows c o fs false (set xs p o) (set ys p c)
      knows-new line w px py e = record {
        again = sym (k.free c o line w (rw at at more) (rw at at e));
        kept = record {
          held = λ i n. held i n (ℕ_discrete i p);
          free = λ d q z y r f. other d q z y (r, f);
        };
      }
        where
          bare : get_or xs p 0 ≡ 0
          bare = stops-free xs ys c o p stopped line e

          held : (i : ℕ) → (get_or (set ys p c) i 0 ≡ 0 → ⊥) → Dec (i ≡ p)
              → with_line c o fs (get_or (set ys p c) i 0) (get_or (set xs p o) i 0) ≡ true
          held i n (yes x) =
              rw (x, get_or-set_same xs p o 0 px, get_or-set_same ys p c 0 py) (grind (arith, nat_tests))
          held i n (no m) =
              let g = get_or-set_other ys p i c 0 m in
              rw (get_or-set_other xs p i o 0 m, g, k.held i (λ z. n (g ∙ z))) refl

          own : (d q : ℕ) → Free (set ys p c) (table_place (set xs p o) (set ys p c) d q) → o ≡ q → c ≡ d → ⊥
          own d q f x y =
              let b = place_kept xs ys c o p more px py line e bare (sym at) in
              let g : get_or (set ys p c) p 0 ≡ 0 = rw (← x, ← y, b) at f.1 in
              line (sym (get_or-set_same ys p c 0 py) ∙ g)

          other : (d q : ℕ) → (d ≡ 0 → ⊥) → q < 2 ^ 32
              → Free (set ys p c) (table_place (set xs p o) (set ys p c) d q) → with_line c o fs d q ≡ false
          other d q z y f =
              let b = free-before xs ys c o p more px py line e bare d q f in
              rw (k.free d q z y b.0 b.1) (apart o q c d (own d q f))
