-- What is written in a call, read again, is what was meant: one law for each part of a line, whatever stands behind it. A decimal
-- number goes by its last digit; closed text computes. Assumes nothing.
use Rattle.std.specs.Prelude.{◌≡◌, ℕ, zero, suc, ◌+◌, ◌-◌, ◌*◌, ◌/◌, ◌%◌, ◌^◌, ◌<◌, Bool, true, false, ltb, ◌∷◌, ◌++◌}
use mathlib.Core.Path.{refl, ap, ◌∙◌}
use Rattle.std.specs.Prelude.{Some}
use mathlib.Core.List.{append_assoc}
use native.Mathlib.Nat.{mod-lt, zero-lt-suc, div-add-mod'}
use native.Mathlib.Omega.{arith}
use borrow.Author.Tests.{le-leb, lt-ltb, ltb-true, ltb-false}
use Rattle.text.specs.Bytes.{Str, ascii}
use Rattle.text.specs.Decimal.{decimal, signed}
use Rattle.text.proofs.DecimalLaws.{by_last_digit, signed_low, signed_high}
use Rattle.record.specs.Masks.{half_of, get_mask_text, set_mask_text}
use Rattle.record.specs.Offsets.{bytes_of}
use Rattle.record.specs.Types.{Num, int, uint, float32, float64, bits_of, type_name_of, bool, num, enum}
use Rattle.record.specs.declared.Width.{Width}
use Rattle.record.specs.declared.Width.TheVariants.{One, Two}
use Rattle.meaning.specs.Reading.{digit_byte, digits_from, numeral, below, signed_number, type_name, truth, get_mask_of}
use Rattle.meaning.specs.Reading.{set_mask_of, value, constant, data_arg, bool_arg}

-- ---- numbers

pub is_digit_lem : (x : ℕ) → x < 10 → digit_byte (48 + x) ≡ true
is_digit_lem x h = rw (le-leb 48 (48 + x) (omega arith), le-leb (48 + x) 57 (omega arith))

digits-one : (k x : ℕ) (s : Str) → x < 10 → digits_from k ((48 + x) ∷ s) ≡ digits_from (k * 10 + x) s
digits-one k x s h =
    let e : 48 + x - 48 ≡ x = omega arith in
    rw (is_digit_lem x h, e)

number-one : (x : ℕ) (s : Str) → x < 10 → numeral ((48 + x) ∷ s) ≡ Some (digits_from x s)
number-one x s h =
    let e : 0 * 10 + (48 + x - 48) ≡ x = omega arith in
    rw (is_digit_lem x h, e)

-- a number that is written is read again, and what follows goes on
pub number-decimal : (n : ℕ) (s : Str) → numeral (decimal n ++ s) ≡ Some (digits_from n s)
number-decimal =
    by_last_digit (λ n t. (s : Str) → numeral (t ++ s) ≡ Some (digits_from n s)) (λ n l s. number-one n s l)
    (λ n l f s.
    rw append_assoc
    (f ((48 + n % 10) ∷ s)
    ∙ ap Some
    (digits-one (n / 10) (n % 10) s (mod-lt n (zero-lt-suc 9)) ∙ ap (λ (y : ℕ). digits_from y s) (div-add-mod' n 10))))

-- ---- types

pub type-name : (t : Num) (s : Str) → type_name (type_name_of t ++ s) ≡ Some (t, s)
unfolding type_name
type-name (int One) s = refl
type-name (uint One) s = refl
type-name _ s = refl

pub type_u16 : (s : Str) → type_name (ascii "u16" ++ s) ≡ Some (uint Two, s)
type_u16 s = type-name (uint Two) s

-- ---- masks; each is followed by a closing parenthesis

pub truth_mask : (m : ℕ) → m < 2 → (s : Str) → truth (set_mask_text bool m ++ s) ≡ Some (m, s)
unfolding truth set_mask_text
truth_mask zero h s = refl
truth_mask (suc zero) h s = refl
truth_mask (suc (suc m)) h s = absurd (omega arith)

pub get-truth : (m : ℕ) → m < 2 → (s : Str) → truth (get_mask_text bool m ++ s) ≡ Some (m, s)
unfolding set_mask_text get_mask_text
get-truth m h s = truth_mask m h s

below-decimal : (n k : ℕ) → k < n → (s : Str) → below n (decimal k ++ 41 ∷ s) ≡ Some (k, 41 ∷ s)
below-decimal n k h s = rw (number-decimal, lt-ltb k n h)

below-ended : (n k c : ℕ) → k < n → (s : Str) → digit_byte c ≡ false → below n (decimal k ++ c ∷ s) ≡ Some (k, c ∷ s)
below-ended n k c h s e = rw (number-decimal, e, lt-ltb k n h)

signed-read : (half m : ℕ) → m < half + half → (s : Str) → signed_number half (signed half m ++ 41 ∷ s) ≡ Some (m, 41 ∷ s)
signed-read half m h s = go (ltb m half) refl
  where
    go : (b : Bool) → ltb m half ≡ b → signed_number half (signed half m ++ 41 ∷ s) ≡ Some (m, 41 ∷ s)
    go true e = rw (signed_low half m (ltb-true m half e), below-decimal half m (ltb-true m half e) s)
    go false e =
        let l = ltb-false m half e in
        let k : ℕ = half + half - m in
        let back : half + half - k ≡ m = omega arith in
        rw (signed_high half m l, number-decimal, lt-ltb 0 k (omega arith), le-leb k half (omega arith), back)

-- a number of so many bytes has its sign's bit at half of its range
double : (w : Width) → 2 ^ (bytes_of w * 8) ≡ half_of w + half_of w
double One = refl
double _ = refl

pub get_mask : (t : Num) (m : ℕ) → m < 2 ^ bits_of t → (s : Str)
    → get_mask_of t (get_mask_text (num t) m ++ 41 ∷ s) ≡ Some (m, 41 ∷ s)
unfolding get_mask_of get_mask_text
get_mask (int w) m h s = signed-read (half_of w) m (rw (← double w) h) s
get_mask t m h s = below-decimal (2 ^ bits_of t) m h s

pub set_mask : (t : Num) (m : ℕ) → m < 2 ^ bits_of t → (s : Str)
    → set_mask_of t (set_mask_text (num t) m ++ 41 ∷ s) ≡ Some (m, 41 ∷ s)
unfolding set_mask_of set_mask_text
set_mask (int w) m h s = signed-read (half_of w) m (rw (← double w) h) s
set_mask (uint w) m h s = below-decimal (2 ^ bits_of (uint w)) m h s
set_mask float32 m h s = rw (append_assoc, below-ended (2 ^ 32) m 117 h _ refl)
set_mask float64 m h s = rw (append_assoc, below-ended (2 ^ 64) m 117 h _ refl)

-- an enum's masks are those of its number
pub get_mask_enum : (m : ℕ) → m < 2 ^ 16 → (s : Str) → get_mask_of (uint Two) (get_mask_text enum m ++ 41 ∷ s) ≡ Some (m, 41 ∷ s)
unfolding get_mask_text
get_mask_enum m h s = get_mask (uint Two) m h s

pub set_mask_enum : (m : ℕ) → m < 2 ^ 16 → (s : Str) → set_mask_of (uint Two) (set_mask_text enum m ++ 41 ∷ s) ≡ Some (m, 41 ∷ s)
unfolding set_mask_text
set_mask_enum m h s = set_mask (uint Two) m h s

-- ---- what is set

pub arg_value : (t : Num) (s : Str) → data_arg t (ascii "value" ++ 41 ∷ s) ≡ Some (value, 41 ∷ s)
unfolding data_arg
arg_value (int One) s = refl
arg_value (uint One) s = refl
arg_value _ s = refl

pub arg_value_mask : (t : Num) (s : Str) → data_arg t (ascii "value" ++ 44 ∷ s) ≡ Some (value, 44 ∷ s)
unfolding data_arg
arg_value_mask (int One) s = refl
arg_value_mask (uint One) s = refl
arg_value_mask _ s = refl

pub arg_enum : (s : Str) → data_arg (uint Two) (ascii "value as u16" ++ s) ≡ Some (value, s)
unfolding data_arg
arg_enum s = refl

-- a tag's number
pub arg_tag : (n : ℕ) → n < 2 ^ 16 → (s : Str) → data_arg (uint Two) (decimal n ++ 41 ∷ s) ≡ Some (constant n, 41 ∷ s)
unfolding data_arg
arg_tag n h s = rw (below-decimal (2 ^ 16) n h s)

-- zero, with the type's name behind it
pub arg_zero : (t : Num) (s : Str) → data_arg t (48 ∷ (type_name_of t ++ s)) ≡ Some (constant 0, s)
unfolding data_arg
arg_zero (int One) s = refl
arg_zero (uint One) s = refl
arg_zero _ s = refl

pub arg_zero_u16 : (s : Str) → data_arg (uint Two) (ascii "0u16" ++ s) ≡ Some (constant 0, s)
arg_zero_u16 s = arg_zero (uint Two) s

pub arg_zero_tag : (s : Str) → data_arg (uint Two) (48 ∷ 41 ∷ s) ≡ Some (constant 0, 41 ∷ s)
unfolding data_arg
arg_zero_tag s = refl

pub bool-value : (s : Str) → bool_arg (ascii "value" ++ s) ≡ Some (value, s)
unfolding bool_arg truth
bool-value s = refl

pub bool_false : (s : Str) → bool_arg (ascii "false" ++ s) ≡ Some (constant 0, s)
unfolding bool_arg truth
bool_false s = refl
