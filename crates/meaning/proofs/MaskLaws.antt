-- The two masks of a slot: the same, or the setter has none; so what a value reads as is what document 01 says. By cases on the
-- rules. Assumes nothing.
use Rattle.std.specs.Prelude.{◌≡◌, ℕ, ◌^◌, ◌<◌, Bool, true, false, eqb}
use mathlib.Core.Path.{refl, sym, ap, ◌∙◌}
use Rattle.std.specs.Prelude.{Option, None, Some}
use lib.Bits.{bit_xor, xor_assoc, xor_self, xor_zero_r}
use lib.Pow.{pow_pos}
use borrow.Author.Tests.{eqb-true}
use Rattle.text.specs.Bytes.{cond, either}
use Rattle.record.specs.Masks.{get_mask, set_mask, mask_bits}
use Rattle.record.specs.Offsets.{bit_count}
use Rattle.record.specs.Types.{int, uint, float32, float64, Kind, bool, num, enum, slot_bits, place_of}
use Rattle.meaning.specs.Claims.{MaskFits, expected, ExpectedHolds}

-- a slot's place has the slot's bits
pub slot-size : (k : Kind) (o : ℕ) → bit_count (place_of k o) ≡ slot_bits k
slot-size bool o = refl
slot-size _ o = refl

-- no mask, or one whose bits fit
pub mask_below : (k : Kind) (m : Option ℕ) → MaskFits k m → mask_bits m < 2 ^ slot_bits k
mask_below k None h = pow_pos (slot_bits k)
mask_below k (Some m) h = h

-- the same mask twice is no mask
pub xor_twice : (v m : ℕ) → bit_xor (bit_xor v m) m ≡ v
xor_twice v m = xor_assoc v m m ∙ ap (bit_xor v) (xor_self m) ∙ xor_zero_r v

-- the getter's mask is the default
pub get_mask_bits : (k : Kind) (d : ℕ) (explicit : Bool) → mask_bits (get_mask k d explicit) ≡ d
get_mask_bits k d explicit = go (eqb d 0) refl
  where
    go : (b : Bool) → eqb d 0 ≡ b → mask_bits (cond b None (Some d)) ≡ d
    go true e = sym (eqb-true d 0 e)
    go false e = refl

-- a default under both masks
agree : (d v m : ℕ) → m ≡ d → bit_xor (bit_xor v m) d ≡ v
agree d v m e = rw e (xor_twice v d)

-- only the getter's mask
alone : (d v : ℕ) → bit_xor (bit_xor v 0) d ≡ bit_xor v d
alone d v = ap (λ (x : ℕ). bit_xor x d) (xor_zero_r v)

-- a float, whose sign is its top bit
float : (top d v : ℕ)
    → bit_xor (bit_xor v (mask_bits (cond (either (eqb d 0) (eqb d top)) None (Some d)))) d ≡ cond (eqb d top) (bit_xor v top) v
float top d v = go (eqb d 0) refl (eqb d top) refl
  where
    go : (a : Bool) → eqb d 0 ≡ a → (b : Bool) → eqb d top ≡ b
        → bit_xor (bit_xor v (mask_bits (cond (either a b) None (Some d)))) d ≡ cond b (bit_xor v top) v
    go true e true f = alone d v ∙ ap (bit_xor v) (eqb-true d top f)
    go true e false f = agree d v 0 (sym (eqb-true d 0 e))
    go false e true f = alone d v ∙ ap (bit_xor v) (eqb-true d top f)
    go false e false f = agree d v d refl

pub expected-holds : ExpectedHolds
expected-holds k d explicit v = rw (get_mask_bits k d explicit) (go k explicit)
  where
    go : (k : Kind) (explicit : Bool) → bit_xor (bit_xor v (mask_bits (set_mask k d explicit))) d ≡ expected k d explicit v
    go bool x = agree d v _ (get_mask_bits bool d x)
    go (num (int w)) x = agree d v _ (get_mask_bits bool d x)
    go (num (uint w)) x = agree d v _ (get_mask_bits bool d x)
    go (num float32) x = float (2 ^ 31) d v
    go (num float64) x = float (2 ^ 63) d v
    go enum true = agree d v d refl
    go enum false = alone d v
