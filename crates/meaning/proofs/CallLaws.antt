-- A rendered line, read again, is its operation: for every offset, type, mask and value form. The parts of a line go by their own
-- laws, and closed text computes. Assumes nothing.
use Rattle.std.specs.Option.{option_map}
use Rattle.std.specs.Prelude.{◌≡◌, ℕ, ◌+◌, ◌-◌, ◌%◌, ◌^◌, ◌<◌}
use Rattle.std.specs.Prelude.{Bool, true, false, eqb, ltb, List, [], ◌∷◌, ◌++◌}
use mathlib.Core.Path.{refl, ap, ◌∙◌}
use Rattle.std.specs.Prelude.{Option, None, Some}
use mathlib.Core.List.{append_assoc}
use native.Mathlib.Nat.{mod-lt, zero-lt-suc}
use native.Mathlib.Omega.{arith}
use borrow.Author.Tests.{ne_eqb, ltb-true, ltb-false}
use Rattle.text.specs.Bytes.{Str, ascii, unit, cond}
use Rattle.text.specs.Decimal.{decimal, signed}
use Rattle.text.proofs.DecimalLaws.{by_last_digit, signed_low, signed_high}
use Rattle.calls.specs.Calls.{member, get_bool_field, get_data_field, set_bool_field, set_data_field, set_tag}
use Rattle.calls.specs.Calls.{zero_tag, clear_pointer, not_null, tag_test}
use Rattle.record.specs.Lines.{set_line, get_line, zero_call}
use Rattle.record.specs.Masks.{half_of, get_mask_text, set_mask_text, mask_bits}
use Rattle.record.specs.Types.{Num, int, uint, type_name_of, Kind, bool, num, enum, place_of, tag_place}
use Rattle.meaning.specs.Reading.{◌or◌, lit, word_byte, value, constant}
use Rattle.meaning.specs.Claims.{MaskFits}
use Rattle.meaning.specs.Meaning as meaning
use Rattle.meaning.specs.Meaning.{Get, get_bool_call, get_bool_mask, get_data, get_data_mask, set_op, clear_op, writes, gets}
use Rattle.meaning.specs.Meaning.{opens_get, adds, gets_in, null_test, tests}
use Rattle.record.specs.declared.Width.TheVariants.{One}
use Rattle.meaning.proofs.ReadingLaws.{is_digit_lem, number-decimal, type-name, type_u16, truth_mask, get-truth}
use Rattle.meaning.proofs.ReadingLaws.{get_mask, get_mask_enum}
use Rattle.meaning.proofs.ReadingLaws.{set_mask, set_mask_enum, arg_value, arg_value_mask, arg_enum, arg_tag, arg_zero}
use Rattle.meaning.proofs.ReadingLaws.{arg_zero_u16, arg_zero_tag, bool-value, bool_false}

-- one law for each part of a line
pub ruleset parts = (
  number-decimal,
  type-name,
  type_u16,
  arg_value,
  arg_value_mask,
  arg_enum,
  arg_zero,
  arg_zero_u16,
  arg_zero_tag,
  bool-value,
  bool_false,
)

-- ---- lines that write: calls grouped to the right, as they are read

infixr 64 ◌⧺◌
abbrev pub ◌⧺◌ : Str → Str → Str
a ⧺ b = a ++ b

pub writes-set : (k : Kind) (o : ℕ) (m : Option ℕ) → MaskFits k m
    → writes (set_line k o (option_map (set_mask_text k) m)) ≡ Some (set_op (place_of k o) value (mask_bits m), [])
unfolding set_bool_field set_data_field
writes-set bool o None h = simp append_assoc (unfold writes in simp parts)
writes-set bool o (Some m) h = simp append_assoc (unfold writes in simp (parts, truth_mask m h))
writes-set (num t) o None h = simp append_assoc (unfold writes in simp parts)
writes-set (num t) o (Some m) h = simp append_assoc (unfold writes in simp (parts, set_mask t m h))
writes-set enum o None h = simp append_assoc (unfold writes in simp parts)
writes-set enum o (Some m) h = simp append_assoc (unfold writes in simp (parts, set_mask_enum m h))

pub writes_tag : (o n : ℕ) → n < 2 ^ 16 → writes (set_tag o n) ≡ Some (set_op (tag_place o) (constant n) 0, [])
unfolding set_bool_field set_data_field
writes_tag o n h = simp append_assoc (unfold writes in simp (parts, arg_tag n h))

-- a set of a value that has parts of its own, grouped as it is read
set-data : (t : Str) (o : ℕ) (v : Str)
    → set_data_field t o v None
    ≡ ascii "self.builder.set_data_field::<" ⧺ t ⧺ ascii ">(" ⧺ decimal o ⧺ ascii ", " ⧺ v ⧺ ascii ");"
unfolding set_data_field
set-data t o v = simp append_assoc

pub writes-zero : (k : Kind) (o : ℕ) → writes (zero_call k o) ≡ Some (set_op (place_of k o) (constant 0) 0, [])
unfolding set_bool_field
writes-zero bool o = simp append_assoc (unfold writes in simp parts)
writes-zero (num t) o = rw set-data (unfold writes in simp parts)
writes-zero enum o = rw set-data (unfold writes in simp parts)

pub writes-zero_tag : (o : ℕ) → writes (zero_tag o) ≡ Some (set_op (tag_place o) (constant 0) 0, [])
unfolding set_bool_field set_data_field
writes-zero_tag o = simp append_assoc (unfold writes in simp parts)

pub writes-clear : (i : ℕ) → writes (clear_pointer i) ≡ Some (clear_op (record { 0 = i }), [])
unfolding clear_pointer writes
writes-clear i = simp parts

-- ---- the tests of a haser

pub tests_null : (is_reader : Bool) (i : ℕ) → tests (not_null is_reader i) ≡ Some (null_test (record { 0 = i }), [])
unfolding not_null tests
tests_null true i = simp parts
tests_null false i = simp parts

pub tests_tag : (is_reader : Bool) (o n : ℕ) → tests (tag_test is_reader o n) ≡ Some (meaning.tag_test o n, [])
unfolding tag_test
tests_tag true o n = simp append_assoc (unfold tests in simp parts)
tests_tag false o n = simp append_assoc (unfold tests in simp parts)

-- ---- gets: the call is one get, and nothing else in its line is

-- whether no word of a text begins as a call does, and whether a word's byte is its last
abbrev calm : (in_word : Bool) → Str → Bool
calm in_word [] = true
calm true (c ∷ t) = calm (word_byte c) t
calm false (c ∷ t) = cond (eqb 115 c) false (calm (word_byte c) t)

abbrev ends : (in_word : Bool) → Str → Bool
ends in_word [] = in_word
ends in_word (c ∷ t) = ends (word_byte c) t

-- no call begins in such a text
in_fixed : (in_word : Bool) (t s : Str) → calm in_word t ≡ true → gets_in in_word (t ++ s) ≡ gets_in (ends in_word t) s
unfolding gets_in
in_fixed in_word [] s h = refl
in_fixed true (c ∷ t) s h = in_fixed (word_byte c) t s h
in_fixed false (c ∷ t) s h = go (eqb 115 c) refl h (in_fixed (word_byte c) t s)
  where
    go : (b : Bool) → eqb 115 c ≡ b → cond b false (calm (word_byte c) t) ≡ true
        → (calm (word_byte c) t ≡ true → gets_in (word_byte c) (t ++ s) ≡ gets_in (ends (word_byte c) t) s)
        → gets_in false (c ∷ (t ++ s)) ≡ gets_in (ends (word_byte c) t) s
    go true e h more = cc
    go false e h more = rw e (more h)

-- a digit belongs to a word, and no call begins with it
in_digit : (in_word : Bool) (x : ℕ) (s : Str) → x < 10 → gets_in in_word ((48 + x) ∷ s) ≡ gets_in true s
unfolding gets_in
in_digit true x s h = rw (is_digit_lem x h)
in_digit false x s h = rw (ne_eqb 115 (48 + x) (λ e. omega arith), is_digit_lem x h)

in_decimal : (in_word : Bool) (n : ℕ) (s : Str) → gets_in in_word (decimal n ++ s) ≡ gets_in true s
in_decimal in_word =
    by_last_digit (λ n t. (s : Str) → gets_in in_word (t ++ s) ≡ gets_in true s) (λ n l s. in_digit in_word n s l)
    (λ n l f s. rw append_assoc (f ((48 + n % 10) ∷ s) ∙ in_digit true (n % 10) s (mod-lt n (zero-lt-suc 9))))

in_name : (t : Num) (s : Str) → gets_in false (type_name_of t ++ s) ≡ gets_in true s
unfolding gets_in gets
in_name (int One) s = refl
in_name (uint One) s = refl
in_name _ s = refl

in_truth : (b : Bool) (s : Str) → gets_in false (cond b (ascii "false") (ascii "true") ++ s) ≡ gets_in true s
unfolding gets_in gets
in_truth true s = refl
in_truth false s = refl

in_signed : (half m : ℕ) (s : Str) → gets_in false (signed half m ++ s) ≡ gets_in true s
in_signed half m s = go (ltb m half) refl
  where
    go : (b : Bool) → ltb m half ≡ b → gets_in false (signed half m ++ s) ≡ gets_in true s
    go true e = rw (signed_low half m (ltb-true m half e)) (in_decimal false m s)
    go false e =
        rw (signed_high half m (ltb-false m half e))
        (in_fixed false (unit 45) (decimal (half + half - m) ++ s) refl ∙ in_decimal false (half + half - m) s)

in_mask : (k : Kind) (m : ℕ) (s : Str) → gets_in false (get_mask_text k m ++ s) ≡ gets_in true s
unfolding get_mask_text
in_mask bool m s = in_truth (eqb m 0) s
in_mask (num (int w)) m s = in_signed (half_of w) m s
in_mask _ m s = in_decimal false m s

-- behind the struct's member a call opens a get, and nothing before it does
at_member : (is_reader : Bool) (t : Str)
    → (opens_get (ascii "self." ⧺ member is_reader ⧺ ascii "." ⧺ t) ≡ (lit "get_bool_field" or lit "get_data_field") t)
    × (gets (ascii "self." ⧺ member is_reader ⧺ ascii "." ⧺ t) ≡ (get_bool_call or get_bool_mask or get_data or get_data_mask) t)
    × (gets_in true (ascii "elf." ⧺ member is_reader ⧺ ascii "." ⧺ t) ≡ gets_in false t)
unfolding gets gets_in
at_member true t = (refl, refl, refl)
at_member false t = (refl, refl, refl)

-- a line that begins with its one get
one-get : (t : Str) {o : Unit {0} × Str} {g : Get} (s : Str) → opens_get (115 ∷ t) ≡ Some o → gets (115 ∷ t) ≡ Some (g, s)
    → gets_in true t ≡ Some [] → gets_in false (115 ∷ t) ≡ Some (g ∷ [])
unfolding gets_in
one-get t {o} {g} s opened got rest =
    ap (λ (x : Option (Unit {0} × Str)). adds x (gets (115 ∷ t)) (gets_in true t)) opened
    ∙ ap (λ (x : Option (Get × Str)). adds (Some o) x (gets_in true t)) got
    ∙ ap (λ (x : Option (List Get)). adds (Some o) (Some (g, s)) x) rest

-- the same, where it is a call of the struct's member
member-get : (is_reader : Bool) (t : Str) {o : Unit {0} × Str} {g : Get} (s : Str)
    → (lit "get_bool_field" or lit "get_data_field") t ≡ Some o
    → (get_bool_call or get_bool_mask or get_data or get_data_mask) t ≡ Some (g, s) → gets_in false t ≡ Some []
    → gets_in false (ascii "self." ⧺ member is_reader ⧺ ascii "." ⧺ t) ≡ Some (g ∷ [])
member-get is_reader t s opened got none =
    let e = at_member is_reader t in
    one-get (ascii "elf." ⧺ member is_reader ⧺ ascii "." ⧺ t) s (e.0 ∙ opened) (e.1 ∙ got) (e.2 ∙ none)

-- the end of a line
in_close : (gets_in true (ascii ")") ≡ Some []) × (gets_in true (ascii "))") ≡ Some [])
unfolding gets_in
in_close = (refl, refl)

pub gets-line : (is_reader : Bool) (k : Kind) (o : ℕ) (m : Option ℕ) → MaskFits k m
    → gets_in false (get_line is_reader k o (option_map (get_mask_text k) m)) ≡ Some ((place_of k o, mask_bits m) ∷ [])
unfolding get_bool_field get_data_field
gets-line r bool o None h =
    simp append_assoc
    (member-get r _ [] refl (simp parts) (in_fixed false (ascii "get_bool_field(") _ refl ∙ in_decimal false o _ ∙ in_close.0))
gets-line r bool o (Some m) h =
    simp append_assoc
    (member-get r _ [] refl (simp (parts, get-truth m h))
    (in_fixed false (ascii "get_bool_field_mask(") _ refl ∙ in_decimal false o _ ∙ in_fixed true (ascii ", ") _ refl
    ∙ in_mask bool m _ ∙ in_close.0))
gets-line r (num t) o None h =
    simp append_assoc
    (member-get r _ [] refl (simp parts)
    (in_fixed false (ascii "get_data_field::<") _ refl ∙ in_name t _ ∙ in_fixed true (ascii ">(") _ refl
    ∙ in_decimal false o _ ∙ in_close.0))
gets-line r (num t) o (Some m) h =
    simp append_assoc
    (member-get r _ [] refl (simp (parts, get_mask t m h))
    (in_fixed false (ascii "get_data_field_mask::<") _ refl ∙ in_name t _ ∙ in_fixed true (ascii ">(") _ refl
    ∙ in_decimal false o _ ∙ in_fixed true (ascii ", ") _ refl ∙ in_mask (num t) m _ ∙ in_close.0))
gets-line r enum o None h =
    simp append_assoc
    (in_fixed false (ascii "::core::convert::TryFrom::try_from(") _ refl
    ∙ member-get r (ascii "get_data_field::<u16>(" ⧺ decimal o ⧺ ascii "))") (ascii ")") refl (simp parts)
    (in_fixed false (ascii "get_data_field::<u16>(") _ refl ∙ in_decimal false o _ ∙ in_close.1))
gets-line r enum o (Some m) h =
    simp append_assoc
    (in_fixed false (ascii "::core::convert::TryFrom::try_from(") _ refl
    ∙ member-get r (ascii "get_data_field_mask::<u16>(" ⧺ decimal o ⧺ ascii ", " ⧺ get_mask_text enum m ⧺ ascii "))") (ascii ")")
    refl (simp (parts, get_mask_enum m h))
    (in_fixed false (ascii "get_data_field_mask::<u16>(") _ refl ∙ in_decimal false o _ ∙ in_fixed true (ascii ", ") _ refl
    ∙ in_mask enum m _ ∙ in_close.1))
