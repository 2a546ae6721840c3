-- Laws of the search by blocks of places. A place whose offset is neither the line's nor 0 is no stop, so that a search from the
-- end of a block without such an offset goes on from the block's start; one that finds nothing in a block goes on from there too.
-- By induction on the places of the block, from the last down. Assumes nothing.
use mathlib.Core.Path.{◌≡◌, refl, sym, ap, ◌∙◌}
use mathlib.Core.Bool.{Bool, true, false}
use mathlib.Core.List.{List, [], ◌∷◌}
use Prim.Native.Nat.{ℕ, zero, suc, ◌+◌, ◌*◌, ◌-◌, ◌≤◌, ◌<◌}
use native.Mathlib.Nat.{add-zero, add-suc}
use native.Mathlib.Omega.{arith}
use lib.Dec.{eqb}
use lib.ListN.{length, get_or, take, drop, length-drop}
use lib.Seq.{take-suc, get_or-drop}
use Rattle.std.proofs.lemmas.Bool.Decides.{nat_tests}
use Rattle.text.specs.Bytes.{either}
use Rattle.tree.specs.Read.{among}
use Rattle.tree.proofs.AmongLaws.{among_append}
use Rattle.std.specs.Prelude.{None, Some}
use Rattle.zeroing.specs.Table.{table_size, block_size, stops, may_stop, place_below, FoundIn, IsPlace}
use Rattle.zeroing.proofs.TableLaws.{place_here}
use Rattle.zeroing.proofs.SlotLaws.{either-false}

-- ---- a search down the places

neither : (a b : Bool) → either a b ≡ false → (a ≡ false) × (b ≡ false)
neither a b e = grind (arith, nat_tests)

-- a number that is none of k + 1 places: none of the first k, and not the last
none_of : (x : ℕ) (xs : List ℕ) (from k : ℕ) → from + suc k ≤ length xs → among x (take (suc k) (drop from xs)) ≡ false
    → (among x (take k (drop from xs)) ≡ false) × (eqb (get_or xs (from + k) 0) x ≡ false)
unfolding among
none_of x xs from k h e =
    let less : k < length (drop from xs) = rw (length-drop from xs) (omega arith) in
    let parts = among_append x (take k (drop from xs)) (get_or (drop from xs) k 0 ∷ []) in
    let n = neither _ _ (sym parts ∙ rw (take-suc (drop from xs) k 0 less) at e) in
    (n.0, rw (← get_or-drop from xs k 0) (sym (either-false _) ∙ n.1))

module _ (xs ys : List ℕ) (c o none : ℕ) where
  -- k places from one on that cannot stop it
  places-passed : (from k : ℕ) → from + k ≤ length xs → may_stop (take k (drop from xs)) o ≡ false
      → place_below xs ys c o none (from + k) ≡ place_below xs ys c o none from
  unfolding place_below
  places-passed from zero h e = rw (add-zero from) refl
  places-passed from (suc k) h e =
      let n = neither _ _ e in
      let own = none_of o xs from k h n.0 in
      let free = none_of 0 xs from k h n.1 in
      rw (add-suc from k, own.1, free.1) (places-passed from k (omega arith) (rw (own.0, free.0) refl))

-- ---- a search among the places from one on and below another

module _ (xs ys : List ℕ) (c o from to i : ℕ)
    (passed : place_below xs ys c o table_size i ≡ place_below xs ys c o table_size to) where
  -- none of them, or the one below i
  pub in-none : from ≤ i → i ≤ from → FoundIn xs ys c o from to None
  in-none f g = let e : i ≡ from = omega arith in
      record { found = sym passed ∙ ap (place_below xs ys c o table_size) e; inside = λ j n. cc }

  pub in-here : 0 < i → i ≤ table_size → (b : Bool) → b ≡ stops xs ys c o (i - 1) → b ≡ true
      → FoundIn xs ys c o from to (Some (i - 1))
  in-here more most b is e = record {
    found = sym (place_here xs ys c o i _ passed more b is e);
    inside = λ j n. let m : i - 1 ≡ j = cc in omega arith;
  }

pub ruleset in_steps = (in-none, in-here)

-- q is the last place below the end: it is found among these, or it lies below them
module _ {xs ys : List ℕ} {c o from to : ℕ} {q : ℕ} (end : place_below xs ys c o table_size to ≡ q) where
  pub found-in : {i : ℕ} → FoundIn xs ys c o from to (Some i) → IsPlace (Some i) q
  found-in f = (sym f.found ∙ end, f.inside _ refl)

  pub none-in : FoundIn xs ys c o from to None → place_below xs ys c o table_size from ≡ q
  none-in f = sym f.found ∙ end

-- or below the last of n blocks, which cannot stop it
pub block-passed :
    (xs ys : List ℕ) (c o n q : ℕ) → place_below xs ys c o table_size (n * block_size) ≡ q → 0 < n
    → n * block_size ≤ length xs
    → may_stop (take ((n - 1) * block_size + block_size - (n - 1) * block_size) (drop ((n - 1) * block_size) xs)) o ≡ false
    → place_below xs ys c o table_size ((n - 1) * block_size) ≡ q
block-passed xs ys c o n q end more h stop =
    let from : (n - 1) * block_size + block_size ≡ n * block_size = omega arith in
    let size : (n - 1) * block_size + block_size - (n - 1) * block_size ≡ block_size = omega arith in
    let passed = places-passed xs ys c o table_size ((n - 1) * block_size) block_size (omega arith) (rw size at stop) in
    sym passed ∙ rw (← from) at end

pub ruleset below_steps = (found-in, none-in, block-passed)
