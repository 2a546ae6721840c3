-- What the kinds of slots with bits have in common, by document 01's numbers: their width, that they are no pointers and have
-- no words, and that the masks of codegen.rs are those of the record's rules. Each is computed kind by kind. Assumes nothing.
use Rattle.std.specs.Option.{option_map}
use Rattle.std.specs.Prelude.{◌≡◌, ℕ, zero, suc, ◌+◌, ◌^◌, ◌<◌, Bool, true, false, eqb, leb, List, [], ◌∷◌, ◌++◌, length, get_or}
use mathlib.Core.Path.{refl, ap}
use Rattle.std.specs.Prelude.{Option, None, Some}
use mathlib.Core.List.{append-nil}
use native.Mathlib.Omega.{arith}
use Rattle.text.specs.Bytes.{Str, ascii, cond, both, either}
use Rattle.text.specs.Decimal.{decimal}
use Rattle.text.proofs.BytesLaws.{both_false}
use Rattle.row.specs.Line.{most_bits}
use Rattle.tree.specs.Read.{has_words}
use Rattle.codegen_types.specs.Out.{ok}
use Rattle.codegen.specs.Default.{value, unless, float_zero, prim_default, getter_mask}
use Rattle.codegen.specs.Profiles.{present_mask, paired_mask}
use Rattle.record.specs.Masks.{get_mask, set_mask, get_mask_text, set_mask_text}
use Rattle.record.specs.Types.{int, uint, float32, float64, Kind, bool, num, enum, slot_bits, kinds, kind_of}
use Rattle.record.specs.declared.Width.TheVariants.{One, Two, Four, Eight}

-- P holds of each kind of a table and its number in it
abbrev Each : (ℕ → Kind → Type 0) → List (Option Kind) → Type 0
Each P [] = Unit {0}
Each P (None ∷ ks) = Each (λ n. P (suc n)) ks
Each P (Some k ∷ ks) = P 0 k × Each (λ n. P (suc n)) ks

each_at : (P : ℕ → Kind → Type 0) (ks : List (Option Kind)) → Each P ks → (n : ℕ) (k : Kind) → get_or ks n None ≡ Some k → P n k
each_at P [] c n k e = cc
each_at P (None ∷ ks) c zero k e = cc
each_at P (None ∷ ks) c (suc n) k e = each_at (λ n. P (suc n)) ks c n k e
each_at P (Some a ∷ ks) c zero k e = let z : a ≡ k = cc in rw (← z) c.0
each_at P (Some a ∷ ks) c (suc n) k e = each_at (λ n. P (suc n)) ks c.1 n k e

-- what holds of each number with its kind holds of every kind with bits
pub by_kind : (P : ℕ → Kind → Type 0)
    → P 1 bool → P 2 (num (int One)) → P 3 (num (int Two)) → P 4 (num (int Four)) → P 5 (num (int Eight))
    → P 6 (num (uint One)) → P 7 (num (uint Two)) → P 8 (num (uint Four)) → P 9 (num (uint Eight))
    → P 10 (num float32) → P 11 (num float64) → P 15 enum → (n : ℕ) (k : Kind) → kind_of n ≡ Some k → P n k
unfolding kind_of
by_kind P a b c d e f g h i j l m =
    each_at P kinds (a, (b, (c, (d, (e, (f, (g, (h, (i, (j, (l, (m, tt))))))))))))

-- P holds of each number that has no kind in a table
abbrev EachNone : (ℕ → Type 0) → List (Option Kind) → Type 0
EachNone P [] = Unit {0}
EachNone P (None ∷ ks) = P 0 × EachNone (λ n. P (suc n)) ks
EachNone P (Some k ∷ ks) = EachNone (λ n. P (suc n)) ks

none_at : (P : ℕ → Type 0) (ks : List (Option Kind)) → EachNone P ks → (n : ℕ) → n < length ks → get_or ks n None ≡ None → P n
none_at P [] c n l e = absurd (omega arith)
none_at P (None ∷ ks) c zero l e = c.0
none_at P (None ∷ ks) c (suc n) l e = none_at (λ n. P (suc n)) ks c.1 n (omega arith) e
none_at P (Some a ∷ ks) c zero l e = cc
none_at P (Some a ∷ ks) c (suc n) l e = none_at (λ n. P (suc n)) ks c n (omega arith) e

-- what holds of Void, Text and Data holds of every kind below 14 without bits
pub by_no_kind : (P : ℕ → Type 0) → P 0 → P 12 → P 13 → (n : ℕ) → n < 14 → kind_of n ≡ None → P n
unfolding kind_of
by_no_kind P a b c n l e =
    none_at (λ n. n < 14 → P n) kinds ((λ h. a), ((λ h. b), ((λ h. c), ((λ h. absurd (omega arith)), tt)))) n (omega arith) e l

-- a kind with bits is no pointer's
pub no_pointer : (n : ℕ) (k : Kind) → kind_of n ≡ Some k → both (leb 12 n) (cond (eqb n 15) false true) ≡ false
no_pointer =
    by_kind (λ n k. both (leb 12 n) (cond (eqb n 15) false true) ≡ false)
    refl refl refl refl refl refl refl refl refl refl refl refl

-- it has no words
pub no_words : (explicit n : ℕ) (k : Kind) → kind_of n ≡ Some k → has_words explicit n ≡ false
no_words explicit =
    let z = both_false (eqb explicit 1) in by_kind (λ n k. has_words explicit n ≡ false) z z z z z z z z z z z z

-- its values have so many bits
pub most-bits : (n : ℕ) (k : Kind) → kind_of n ≡ Some k → most_bits n + 1 ≡ 2 ^ slot_bits k
unfolding most_bits
most-bits =
    by_kind (λ n k. most_bits n + 1 ≡ 2 ^ slot_bits k) refl refl refl refl refl refl refl refl refl refl refl refl

-- ---- masks

-- a mask that is left out where the test holds, written
masked : (f : ℕ → Str) (d : ℕ) (text : Str) (t : Bool) → (t ≡ false → text ≡ f d)
    → unless t text ≡ option_map f (cond t None (Some d))
masked f d text true e = refl
masked f d text false e = ap Some (e refl)

-- a Bool's mask is true
true_text : (d : ℕ) → eqb d 0 ≡ false → ascii "true" ≡ cond (eqb d 0) (ascii "false") (ascii "true")
true_text d e = rw e

-- the mask of a getter, for a default of the slot's kind
pub getter_mask_lem : (d : ℕ) (explicit : Bool) (n : ℕ) (k : Kind) → kind_of n ≡ Some k
    → getter_mask (value n d) ≡ option_map (get_mask_text k) (get_mask k d explicit)
unfolding getter_mask get_mask_text
getter_mask_lem d explicit =
    let same : (k : Kind) → unless (eqb d 0) (get_mask_text k d) ≡ option_map (get_mask_text k) (get_mask k d explicit) =
    λ k. masked (get_mask_text k) d (get_mask_text k d) (eqb d 0) (λ e. refl) in
    by_kind (λ n k. getter_mask (value n d) ≡ option_map (get_mask_text k) (get_mask k d explicit))
    (masked (get_mask_text bool) d (ascii "true") (eqb d 0) (true_text d))
    (same (num (int One))) (same (num (int Two))) (same (num (int Four))) (same (num (int Eight)))
    (same (num (uint One))) (same (num (uint Two))) (same (num (uint Four))) (same (num (uint Eight)))
    (same (num float32)) (same (num float64)) (same enum)

-- the mask of a present setter, likewise
pub present_mask_lem : (d e : ℕ) → e < 2 → (n : ℕ) (k : Kind) → kind_of n ≡ Some k
    → present_mask n e (value n d) ≡ ok (option_map (set_mask_text k) (set_mask k d (eqb e 1)))
unfolding present_mask prim_default set_mask_text
present_mask_lem d e flag =
    let number : (k : Kind) → ok (unless (eqb d 0) (set_mask_text k d))
    ≡ ok (option_map (set_mask_text k) (cond (eqb d 0) None (Some d))) =
    λ k. ap ok (masked (set_mask_text k) d (set_mask_text k d) (eqb d 0) (λ z. refl)) in
    let float : (k : Kind) (sign : ℕ) → ok (unless (float_zero sign d) (set_mask_text k d))
    ≡ ok (option_map (set_mask_text k) (cond (either (eqb d 0) (eqb d sign)) None (Some d))) =
    λ k sign. ap ok (masked (set_mask_text k) d (set_mask_text k d) (float_zero sign d) (λ z. refl)) in
    by_kind (λ n k. present_mask n e (value n d) ≡ ok (option_map (set_mask_text k) (set_mask k d (eqb e 1))))
    (ap ok (masked (set_mask_text bool) d (ascii "true") (eqb d 0) (true_text d)))
    (number (num (int One))) (number (num (int Two))) (number (num (int Four))) (number (num (int Eight)))
    (number (num (uint One))) (number (num (uint Two))) (number (num (uint Four))) (number (num (uint Eight)))
    (float (num float32) (2 ^ 31)) (float (num float64) (2 ^ 63)) (by_flag e flag)
  where
    by_flag : (e : ℕ) → e < 2
        → cond (eqb e 0) (ok None) (ok (Some (decimal d)))
        ≡ ok (option_map (set_mask_text enum) (cond (eqb e 1) (Some d) None))
    by_flag zero h = refl
    by_flag (suc zero) h = refl
    by_flag (suc (suc e)) h = absurd (omega arith)

-- the mask of a paired setter is that of a getter, whatever the flag
ended : (f : ℕ → Str) (d : ℕ) (text end : Str) (t : Bool) → (t ≡ false → text ++ end ≡ f d)
    → option_map (λ (m : Str). m ++ end) (unless t text) ≡ option_map f (cond t None (Some d))
ended f d text end true e = refl
ended f d text end false e = ap Some (e refl)

pub paired_mask_lem : (d e : ℕ) (explicit : Bool) (n : ℕ) (k : Kind) → kind_of n ≡ Some k
    → paired_mask n e (value n d) ≡ ok (option_map (set_mask_text k) (get_mask k d explicit))
unfolding paired_mask getter_mask set_mask_text
paired_mask_lem d e explicit =
    let same : (k : Kind) → ok (option_map (λ (m : Str). m ++ []) (unless (eqb d 0) (set_mask_text k d)))
    ≡ ok (option_map (set_mask_text k) (get_mask k d explicit)) =
    λ k. ap ok (ended (set_mask_text k) d (set_mask_text k d) [] (eqb d 0) (λ z. append-nil (set_mask_text k d))) in
    let float : (k : Kind) (end : Str) → decimal d ++ end ≡ set_mask_text k d
    → ok (option_map (λ (m : Str). m ++ end) (unless (eqb d 0) (decimal d)))
    ≡ ok (option_map (set_mask_text k) (get_mask k d explicit)) =
    λ k end z. ap ok (ended (set_mask_text k) d (decimal d) end (eqb d 0) (λ w. z)) in
    by_kind (λ n k. paired_mask n e (value n d) ≡ ok (option_map (set_mask_text k) (get_mask k d explicit)))
    (ap ok (ended (set_mask_text bool) d (ascii "true") [] (eqb d 0) (true_text d)))
    (same (num (int One))) (same (num (int Two))) (same (num (int Four))) (same (num (int Eight)))
    (same (num (uint One))) (same (num (uint Two))) (same (num (uint Four))) (same (num (uint Eight)))
    (float (num float32) (ascii "u32") refl) (float (num float64) (ascii "u64") refl) (same enum)
