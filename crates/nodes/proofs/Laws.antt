-- Laws of what is found in an index: one turn of a search for an id, and that what is found for the id or the number of a node
-- is that node's entry. By induction on the nodes. Assumes nothing.
use mathlib.Core.Path.{◌≡◌, refl, sym, ap, subst, ◌∙◌}
use mathlib.Core.Bool.{Bool, true, false, ◌||◌}
use mathlib.Core.List.{List, [], ◌∷◌}
use Prim.Native.Nat.{ℕ, zero, suc, ◌+◌, ◌-◌, ◌*◌, ◌/◌, ◌%◌, ◌<◌, ◌≤◌, min}
use native.Mathlib.Decide.{dec_lt}
use native.Mathlib.Omega.{arith}
use borrow.Author.Tests.{eq-eqb, ne_eqb, lt-ltb, le-ltb}
use lib.Dec.{eqb, ltb, lit<}
use lib.ListN.{length, take, drop, get_or, length-drop}
use lib.Seq.{drop-drop, get_or-drop, get_or-take}
use native.Mathlib.Nat.{add-zero}
use Rattle.std.specs.List.{list_any, between}
use Rattle.std.proofs.lemmas.Slice.{between_to_end}
use Rattle.text.specs.Bytes.{Str, cond, either}
use Rattle.row.specs.Rows.{rows}
use Rattle.tree.specs.Read.{among}
use Rattle.tree.specs.Tree.{Node}
use Rattle.tree.proofs.OtherLines.{never}
use Rattle.nodes.specs.Index.{entry_at, by_id, nth, lookup_from, lookup, entry_with, EntryIs, Entries, Indexed, Finds}
use Rattle.nodes.specs.Index.{mark_every, names_of, rows_after, NameAt, parameter_rows}
use Rattle.nodes.specs.declared.Entry.{Entry}
use Rattle.std.specs.Prelude.{Option, Some, None}
use Rattle.nodes.proofs.NameLaws.{names_out, name-after, name-past}

-- ---- the search for an id

-- among ids, as the slice's own test and `nodes::among` say it
pub among-any : (id : ℕ) (ids : List ℕ) → list_any (λ (y : ℕ). eqb y id) ids ≡ among id ids
unfolding among
among-any id [] = refl
among-any id (x ∷ ids) = rw (among-any id ids) (go (eqb x id))
  where
    go : (t : Bool) → (t || among id ids) ≡ either t (among id ids)
    go true = refl
    go false = refl

-- the numbers of an entry are the first twelve of those from its place on
pub entry-taken : (index : List ℕ) (p : ℕ) → entry_at (take 12 (drop p index)) 0 ≡ entry_at index p
entry-taken index p =
    let at : (k : ℕ) → k < 12 → get_or (take 12 (drop p index)) k 0 ≡ get_or index (p + k) 0 =
    λ k h. get_or-take 12 (drop p index) k 0 h ∙ get_or-drop p index k 0 in
    rw (
      at 0 (lit< tt),
      at 1 (lit< tt),
      at 2 (lit< tt),
      at 3 (lit< tt),
      at 4 (lit< tt),
      at 5 (lit< tt),
      at 6 (lit< tt),
      at 7 (lit< tt),
      at 8 (lit< tt),
      at 9 (lit< tt),
      at 10 (lit< tt),
      at 11 (lit< tt),
      add-zero p,
    ) refl

pub lookup-empty : (index : List ℕ) (id : ℕ) → length index ≡ 0 → None ≡ lookup index id
unfolding lookup_from
lookup-empty [] id h = refl
lookup-empty (x ∷ index) id h = let z : ⊥ = omega arith in absurd z

-- one turn of the search, at the entry with the number i of n
module _ (index : List ℕ) (id n i : ℕ) where
  pub lookup-none : n ≤ i → lookup_from index id (n - i) (1 + 12 * i) ≡ None
  unfolding lookup_from
  lookup-none h = let z : n - i ≡ 0 = omega arith in rw z

  module _ (h : i < n) where
    lookup-turn :
        lookup_from index id (n - i) (1 + 12 * i)
        ≡ cond (ltb (length index) (1 + 12 * i + 12)) None
        (cond (eqb (get_or index (1 + 12 * i) 0) id) (Some (entry_at index (1 + 12 * i)))
        (lookup_from index id (n - (i + 1)) (1 + 12 * (i + 1))))
    unfolding lookup_from
    lookup-turn =
        let z : n - i ≡ suc (n - (i + 1)) = omega arith in
        let p : 1 + 12 * (i + 1) ≡ 1 + 12 * i + 12 = omega arith in
        rw (z, p)

    pub lookup_out : length (drop (1 + 12 * i) index) < 12 → lookup_from index id (n - i) (1 + 12 * i) ≡ None
    lookup_out o =
        lookup-turn ∙ rw (lt-ltb (length index) (1 + 12 * i + 12) (omega (arith, length-drop (1 + 12 * i) index)))

    module _ (fits : 12 ≤ length (drop (1 + 12 * i) index)) where
      fits-index : 1 + 12 * i + 12 ≤ length index
      fits-index = omega (arith, length-drop (1 + 12 * i) index)

      pub lookup-hit :
          get_or (take 12 (drop (1 + 12 * i) index)) 0 0 ≡ id
          → lookup_from index id (n - i) (1 + 12 * i) ≡ Some (entry_at (take 12 (drop (1 + 12 * i) index)) 0)
      lookup-hit e =
          lookup-turn
          ∙ rw (
            le-ltb (length index) (1 + 12 * i + 12) fits-index,
            eq-eqb (get_or index (1 + 12 * i) 0) id (ap (λ (x : Entry). x.id) (sym (entry-taken index (1 + 12 * i))) ∙ e),
            entry-taken index (1 + 12 * i),
          )

      pub lookup-miss :
          (get_or (take 12 (drop (1 + 12 * i) index)) 0 0 ≡ id → ⊥)
          → lookup_from index id (n - i) (1 + 12 * i) ≡ lookup_from index id (n - (i + 1)) (1 + 12 * (i + 1))
      lookup-miss e =
          lookup-turn
          ∙ rw (
            le-ltb (length index) (1 + 12 * i + 12) fits-index,
            ne_eqb (get_or index (1 + 12 * i) 0) id (λ x. e (ap (λ (x : Entry). x.id) (entry-taken index (1 + 12 * i)) ∙ x)),
          )

-- ---- what is found

found_from :
    (s : Str) (index : List ℕ) (id p : ℕ) (ns : List Node) → Entries s index p ns
    → Finds s index (lookup_from index id (length ns) p) (by_id id ns)
unfolding lookup_from by_id Entries
found_from s index id p [] x = tt
found_from s index id p (n ∷ ns) x =
    rw (le-ltb (length index) (p + 12) x.0)
    (go (found_from s index id (p + 12) ns x.2) (eqb (get_or index p 0) id) (eqb n.id id)
    (ap (λ (i : ℕ). eqb i id) x.1.id))
  where
    go : Finds s index (lookup_from index id (length ns) (p + 12)) (by_id id ns) → (t u : Bool) → t ≡ u
        → Finds s index (cond t (Some (entry_at index p)) (lookup_from index id (length ns) (p + 12)))
        (cond u (Some n) (by_id id ns))
    go h true true e = x.1
    go h true false e = never cc
    go h false true e = never cc
    go h false false e = h

-- what is found for an id is the entry of the node with that id
pub found-is :
    (s : Str) (ns : List Node) (index : List ℕ) (id : ℕ) → Indexed s ns index → Finds s index (lookup index id) (by_id id ns)
found-is s ns index id x = rw x.count (found_from s index id 1 ns x.entries)

-- the entry of the node with a number, and the node
record Nth (s : Str) (index : List ℕ) (k p : ℕ) (ns : List Node) : Type 0 where
  node : Node
  is : nth k ns ≡ Some node
  fits : p + 12 * k + 12 ≤ length index
  entry : EntryIs s index (entry_at index (p + 12 * k)) node

nth-entry :
    (s : Str) (index : List ℕ) (k p : ℕ) (ns : List Node) → Entries s index p ns → k < length ns → Nth s index k p ns
unfolding nth Entries
nth-entry s index k p [] x h = let z : ⊥ = omega arith in absurd z
nth-entry s index zero p (n ∷ ns) x h =
    let z : p + 12 * 0 ≡ p = omega arith in
    record { node = n; is = refl; fits = omega (arith, x.0); entry = rw z x.1 }
nth-entry s index (suc k) p (n ∷ ns) x h =
    let r = nth-entry s index k (p + 12) ns x.2 (omega arith) in
    let z : p + 12 + 12 * k ≡ p + 12 * suc k = omega arith in
    record { node = r.node; is = r.is; fits = omega (arith, r.fits); entry = rw (← z) r.entry }

-- what is found for a number is the entry of the node with that number
pub nth-is :
    (s : Str) (ns : List Node) (index : List ℕ) (k : ℕ) → Indexed s ns index → Finds s index (entry_with index k) (nth k ns)
unfolding entry_with
nth-is s ns index k x = go (dec_lt k (length ns))
  where
    go : Dec (k < length ns) → Finds s index (entry_with index k) (nth k ns)
    go (yes h) =
        let r = nth-entry s index k 1 ns x.entries h in
        let l : k < min 64 (length ns) = omega (arith, x.few) in
        rw (entry_with, x.count, lt-ltb k (min 64 (length ns)) l, le-ltb (length index) (1 + 12 * k + 12) r.fits, r.is)
        r.entry
    go (no h) =
        let o : length ns ≤ k = omega arith in
        let l : min 64 (length ns) ≤ k = omega arith in
        rw (entry_with, x.count, le-ltb k (min 64 (length ns)) l, names_out k ns o) tt

-- ---- the entry with a number, as the code finds it: in an index of a count and more

pub with_none : (index : List ℕ) (k : ℕ) → min 64 (get_or index 0 0) ≤ k → None ≡ entry_with index k
unfolding entry_with
with_none index k h = rw (le-ltb k (min 64 (get_or index 0 0)) h)

pub with-empty : (index : List ℕ) (k : ℕ) → length index ≡ 0 → None ≡ entry_with index k
with-empty [] k h = with_none [] k (omega arith)
with-empty (x ∷ index) k h = let z : ⊥ = omega arith in absurd z

module _ (index : List ℕ) (k n : ℕ) (rest : List ℕ) (is : index ≡ n ∷ rest) where
  pub with-past : min 64 n ≤ k → None ≡ entry_with index k
  with-past h = with_none index k (rw is h)

  module _ (h : k < min 64 n) where
    with-there : entry_with index k ≡ cond (ltb (length index) (1 + 12 * k + 12)) None (Some (entry_at index (1 + 12 * k)))
    unfolding entry_with
    with-there =
        let z : get_or index 0 0 ≡ n = rw is in
        rw (z, lt-ltb k (min 64 n) h)

    pub with_out : length rest < 12 * k + 12 → None ≡ entry_with index k
    with_out o = rw (with-there, lt-ltb (length index) (1 + 12 * k + 12) (omega (arith, ap length is)))

    pub with-entry :
        12 * k + 12 ≤ length rest → Some (entry_at (take 12 (between (12 * k) (length rest) rest)) 0) ≡ entry_with index k
    with-entry f =
        let d : between (12 * k) (length rest) rest ≡ drop (1 + 12 * k) index =
        between_to_end rest (12 * k) (length rest) (omega arith)
        ∙ subst (λ (l : List ℕ). drop (12 * k) rest ≡ drop (1 + 12 * k) l) (sym is) (drop-drop (12 * k) 1 (n ∷ rest)) in
        rw (with-there, le-ltb (length index) (1 + 12 * k + 12) (omega (arith, ap length is)), d, entry-taken index (1 + 12 * k))

-- ---- a parameter

-- the mark with a number, as it is read
pub mark-read :
    (index marks : List ℕ) (m j q : ℕ) → m ≤ length index → marks ≡ between m (length index) index → q ≡ get_or marks j 0
    → q ≡ get_or index (m + j) 0
mark-read index marks m j q h is e =
    e ∙ ap (λ (l : List ℕ). get_or l j 0) (is ∙ between_to_end index m (length index) (omega arith)) ∙ get_or-drop m index j 0

module _ (s : Str) (index : List ℕ) (e : Entry) (k : ℕ) (n : Node) (x : EntryIs s index e n) where
  pub parameter-none : e.count ≤ k → NameAt s None k n.params
  parameter-none h = names_out k n.params (omega (arith, x.count))

  module _ (h : k < e.count) where
    -- one before the first mark is sought from the P rows' beginning
    pub parameter-first :
        (q : ℕ) → rows (drop q s) ≡ rows_after k (rows (drop e.params s)) → NameAt s (Some q) k n.params
    parameter-first q f =
        rw (f, ← x.params) (name-after k (rows (drop e.params s)) (omega (arith, x.count, ap length x.params)))

    -- any other from its mark
    module _ (l : mark_every ≤ k) where
      marked :
          (e.marks + (k / mark_every - 1) < length index)
          × (names_of (rows (drop (get_or index (e.marks + (k / mark_every - 1)) 0) s))
          ≡ drop (mark_every * suc (k / mark_every - 1)) n.params)
      marked = x.marks.each (k / mark_every - 1) (omega (arith, x.count))

      pub parameter-out : (r : Option ℕ) → length index ≤ e.marks + (k / mark_every - 1) → NameAt s r k n.params
      parameter-out r o = let z : ⊥ = omega (arith, marked.0) in absurd z

      pub parameter-marked :
          (q : ℕ)
          → rows (drop q s) ≡ rows_after (k % mark_every) (rows (drop (get_or index (e.marks + (k / mark_every - 1)) 0) s))
          → NameAt s (Some q) k n.params
      parameter-marked q f =
          let z : mark_every * suc (k / mark_every - 1) + k % mark_every ≡ k = omega arith in
          let p = name-past (mark_every * suc (k / mark_every - 1)) (k % mark_every) n.params
          (rows (drop (get_or index (e.marks + (k / mark_every - 1)) 0) s)) marked.1 (omega (arith, x.count)) in
          rw f (rw z at p)

-- the rows of a parameter, as the code finds them
module _ (s : Str) (index : List ℕ) (e : Entry) (k : ℕ) where
  pub rows_none : e.count ≤ k → None ≡ parameter_rows s index e k
  unfolding parameter_rows
  rows_none h = rw (le-ltb k e.count h)

  module _ (h : k < e.count) where
    pub rows-first :
        k < mark_every → (q : ℕ) → rows (drop q s) ≡ rows_after k (rows (drop e.params s))
        → Some (rows (drop q s)) ≡ parameter_rows s index e k
    unfolding parameter_rows
    rows-first l q f = rw (lt-ltb k e.count h, lt-ltb k mark_every l, f)

    module _ (l : mark_every ≤ k) where
      pub rows-unmarked : length index ≤ e.marks + (k / mark_every - 1) → None ≡ parameter_rows s index e k
      unfolding parameter_rows
      rows-unmarked o =
          rw (lt-ltb k e.count h, le-ltb k mark_every l, le-ltb (e.marks + (k / mark_every - 1)) (length index) o)

      pub rows-marked :
          e.marks + (k / mark_every - 1) < length index → (q : ℕ)
          → rows (drop q s) ≡ rows_after (k % mark_every) (rows (drop (get_or index (e.marks + (k / mark_every - 1)) 0) s))
          → Some (rows (drop q s)) ≡ parameter_rows s index e k
      unfolding parameter_rows
      rows-marked i q f =
          rw (lt-ltb k e.count h, le-ltb k mark_every l, lt-ltb (e.marks + (k / mark_every - 1)) (length index) i, f)
