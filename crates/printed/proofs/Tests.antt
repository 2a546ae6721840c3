-- Tests that hold together, and a number's width as a test and as a bound. Assumes nothing.
use mathlib.Core.Path.{◌≡◌, refl, sym}
use mathlib.Core.Bool.{Bool, true, false}
use mathlib.Core.List.{List, [], ◌∷◌}
use Prim.Native.Nat.{ℕ, zero, suc, ◌^◌, ◌≤◌}
use native.Mathlib.Omega.{arith}
use borrow.Author.Tests.{ltb-true, lt-ltb}
use lib.ListN.{get_or}
use lib.Pow.{pow_pos}
use Rattle.text.specs.Bytes.{cond, both}
use Rattle.text.proofs.BytesLaws.{both_true}
use Rattle.column.specs.Number.{most}
use Rattle.tree.specs.WellFormed.{fits, is_id, every_test}

-- each of some tests that all hold
pub holds : (ts : List Bool) → every_test ts ≡ true → (k : ℕ) → get_or ts k true ≡ true
holds [] e k = refl
holds (t ∷ ts) e zero = (both_true t (every_test ts) e).0
holds (t ∷ ts) e (suc k) = holds ts (both_true t (every_test ts) e).1 k

infixr 50 ◌and◌
-- and the other way
pub ◌and◌ : {a b : Bool} → a ≡ true → b ≡ true → both a b ≡ true
◌and◌ e f = rw e f

-- a number of so many bits is at most the greatest, and the other way
pub fits-most : (bits n : ℕ) → fits bits n ≡ true → n ≤ most bits
fits-most bits n e = omega (arith, ltb-true n (2 ^ bits) e)

pub most-fits : (bits n : ℕ) → n ≤ most bits → fits bits n ≡ true
most-fits bits n h = lt-ltb n (2 ^ bits) (omega (arith, pow_pos bits))

-- a negated test
pub not-true : (b : Bool) → cond b false true ≡ true → b ≡ false
not-true true e = sym e
not-true false e = refl

pub true-not : (b : Bool) → b ≡ false → cond b false true ≡ true
true-not b e = rw e

-- an id as a test and as bounds
pub id-most : (n : ℕ) → is_id n ≡ true → (1 ≤ n) × (n ≤ most 64)
id-most n e = let (some, low) = both_true _ _ e in (ltb-true 0 n some, fits-most 64 n low)

pub most-id : (n : ℕ) → 1 ≤ n → n ≤ most 64 → is_id n ≡ true
most-id n some low = lt-ltb 0 n some and most-fits 64 n low
