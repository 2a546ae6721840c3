-- Lines: which bytes they don't hold, where they end, the spaces in front, and what a list of them does. Assumes nothing.
use Rattle.std.specs.Option.{option_map, option_and_then}
use Rattle.std.specs.Prelude.{◌≡◌, ℕ, zero, suc, ◌+◌, ◌-◌, ◌%◌, ◌^◌, ◌<◌}
use Rattle.std.specs.Prelude.{Bool, true, false, eqb, ltb, List, [], ◌∷◌, ◌++◌}
use mathlib.Core.Path.{refl, ap, ap₂, ◌∙◌, fun_ext}
use Rattle.std.specs.Prelude.{Option, None, Some}
use mathlib.Core.List.{append_assoc}
use native.Mathlib.Omega.{arith}
use borrow.Author.Tests.{ne_eqb, ltb-true, ltb-false}
use Rattle.text.specs.Bytes.{Str, ascii, unit, cond, both}
use Rattle.text.specs.Decimal.{decimal, signed}
use Rattle.text.specs.Lines.{FormattedText, to_lines, stringify, spaces, ended}
use Rattle.text.proofs.LinesLaws.{stringify-lines}
use Rattle.text.proofs.DecimalLaws.{by_last_digit, signed_low, signed_high}
use Rattle.calls.specs.Calls.{member, get_bool_field, get_data_field, set_bool_field, set_data_field, set_tag, clear_pointer}
use Rattle.calls.specs.Calls.{not_null, tag_test}
use Rattle.record.specs.Lines.{Zero, of_slot, of_tag, of_pointer, get_line, set_line, zeroing_line}
use Rattle.record.specs.Masks.{half_of, get_mask_text, set_mask_text, mask_bits}
use Rattle.record.specs.Record.{Record}
use Rattle.record.specs.Types.{Num, int, uint, type_name_of, Kind, bool, num, enum, place_of, tag_place}
use Rattle.record.specs.declared.Width.TheVariants.{One}
use Rattle.meaning.specs.Reading.{value, constant}
use Rattle.meaning.specs.Claims.{MaskFits}
use Rattle.meaning.specs.Meaning.{Op, set_op, clear_op, writes, whole, lines, push_byte, trim, inner, prepend, run_op, run_line}
use Rattle.meaning.specs.Meaning.{run_lines}
use Rattle.meaning.proofs.CallLaws.{writes-set, writes_tag, writes-zero, writes-zero_tag, writes-clear}

-- ---- no byte 10

pub whole_append : (a b : Str) → whole (a ++ b) ≡ both (whole a) (whole b)
whole_append [] b = refl
whole_append (c ∷ a) b = go (eqb c 10) (whole_append a b)
  where
    go : (t : Bool) → whole (a ++ b) ≡ both (whole a) (whole b)
        → cond t false (whole (a ++ b)) ≡ both (cond t false (whole a)) (whole b)
    go true e = refl
    go false e = e

whole-digit : (x : ℕ) → whole ((48 + x) ∷ []) ≡ true
whole-digit x = rw (ne_eqb (48 + x) 10 (λ e. omega arith))

pub whole-decimal : (n : ℕ) → whole (decimal n) ≡ true
whole-decimal =
    by_last_digit (λ n s. whole s ≡ true) (λ n l. whole-digit n) (λ n l f. rw (whole_append, f) (whole-digit (n % 10)))

whole-signed : (half m : ℕ) → whole (signed half m) ≡ true
whole-signed half m = go (ltb m half) refl
  where
    go : (b : Bool) → ltb m half ≡ b → whole (signed half m) ≡ true
    go true e = rw (signed_low half m (ltb-true m half e)) (whole-decimal m)
    go false e = rw (signed_high half m (ltb-false m half e)) (whole-decimal (half + half - m))

pub whole-name : (t : Num) → whole (type_name_of t) ≡ true
whole-name (int One) = refl
whole-name (uint One) = refl
whole-name _ = refl

whole-truth : (b : Bool) → whole (cond b (ascii "false") (ascii "true")) ≡ true
whole-truth true = refl
whole-truth false = refl

pub whole-get_mask : (k : Kind) (m : ℕ) → whole (get_mask_text k m) ≡ true
unfolding get_mask_text
whole-get_mask bool m = whole-truth (eqb m 0)
whole-get_mask (num (int w)) m = whole-signed (half_of w) m
whole-get_mask _ m = whole-decimal m

pub whole-set_mask : (k : Kind) (m : ℕ) → whole (set_mask_text k m) ≡ true
unfolding set_mask_text
whole-set_mask bool m = whole-truth (eqb m 0)
whole-set_mask (num (int w)) m = whole-signed (half_of w) m
whole-set_mask _ m = simp (whole_append, whole-decimal)

pub whole-member : (is_reader : Bool) → whole (member is_reader) ≡ true
whole-member true = refl
whole-member false = refl

pub ruleset wholes = (whole_append, whole-decimal, whole-name, whole-get_mask, whole-set_mask, whole-member)

-- ---- a line says an operation: its text is the operation's, has no space in front and is one line

pub record Says (l : Str) (o : Op) : Type 0 where
  pub reads : writes l ≡ Some (o, [])
  pub tight : trim l ≡ l
  pub one : whole l ≡ true

pub says-set : (k : Kind) (o : ℕ) (m : Option ℕ) → MaskFits k m
    → Says (set_line k o (option_map (set_mask_text k) m)) (set_op (place_of k o) value (mask_bits m))
unfolding set_bool_field set_data_field
says-set k o m h = record { reads = writes-set k o m h; tight = tight k m; one = one k m }
  where
    tight : (k : Kind) (m : Option ℕ) → trim (set_line k o (option_map (set_mask_text k) m))
        ≡ set_line k o (option_map (set_mask_text k) m)
    tight bool None = refl
    tight (num t) None = refl
    tight enum None = refl
    tight _ _ = refl

    one : (k : Kind) (m : Option ℕ) → whole (set_line k o (option_map (set_mask_text k) m)) ≡ true
    one bool None = simp wholes
    one (num t) None = simp wholes
    one enum None = simp wholes
    one _ _ = simp wholes

pub says_tag : (o n : ℕ) → n < 2 ^ 16 → Says (set_tag o n) (set_op (tag_place o) (constant n) 0)
unfolding set_data_field
says_tag o n h = record { reads = writes_tag o n h; tight = refl; one = simp wholes }

-- ---- zeroing lines

abbrev pub zero_op : Zero → Op
zero_op (of_slot k o) = set_op (place_of k o) (constant 0) 0
zero_op (of_tag o) = set_op (tag_place o) (constant 0) 0
zero_op (of_pointer i) = clear_op (record { 0 = i })

pub says-zero : (z : Zero) → Says (zeroing_line z) (zero_op z)
unfolding set_bool_field set_data_field clear_pointer
says-zero (of_slot bool o) = record { reads = writes-zero bool o; tight = refl; one = simp wholes }
says-zero (of_slot (num t) o) = record { reads = writes-zero (num t) o; tight = refl; one = simp wholes }
says-zero (of_slot enum o) = record { reads = writes-zero enum o; tight = refl; one = simp wholes }
says-zero (of_tag o) = record { reads = writes-zero_tag o; tight = refl; one = simp wholes }
says-zero (of_pointer i) = record { reads = writes-clear i; tight = refl; one = simp wholes }

-- ---- lines that are no writes

pub whole-get : (is_reader : Bool) (k : Kind) (o : ℕ) (m : Option ℕ)
    → whole (get_line is_reader k o (option_map (get_mask_text k) m)) ≡ true
unfolding get_bool_field get_data_field
whole-get r bool o None = simp wholes
whole-get r (num t) o None = simp wholes
whole-get r enum o None = simp wholes
whole-get r _ o _ = simp wholes

pub whole-null : (is_reader : Bool) (i : ℕ) → whole (not_null is_reader i) ≡ true
unfolding not_null
whole-null true i = simp wholes
whole-null false i = simp wholes

pub whole_tag : (is_reader : Bool) (o n : ℕ) → whole (tag_test is_reader o n) ≡ true
unfolding tag_test
whole_tag r o n = simp wholes

-- ---- lines of a text

line-end : (l s : Str) → whole l ≡ true → lines (l ++ 10 ∷ s) ≡ l ∷ lines s
line-end [] s h = refl
line-end (c ∷ l) s h = go (eqb c 10) h (line-end l s)
  where
    go : (b : Bool) → cond b false (whole l) ≡ true → (whole l ≡ true → lines (l ++ 10 ∷ s) ≡ l ∷ lines s)
        → cond b ([] ∷ lines (l ++ 10 ∷ s)) (push_byte c (lines (l ++ 10 ∷ s))) ≡ (c ∷ l) ∷ lines s
    go true e ih = cc
    go false e ih = rw (ih e)

pub data Wholes : List Str → Type 0 where
  nil : Wholes []
  add : (l : Str) {ls : List Str} → whole l ≡ true → Wholes ls → Wholes (l ∷ ls)

-- the lines of a text are those that it was made of
pub lines-ended : {ls : List Str} → Wholes ls → lines (ended ls) ≡ ls
unfolding ended
lines-ended nil = refl
lines-ended (add l {ls = ls} h w) = line-end l (ended ls) h ∙ ap (λ (x : List Str). l ∷ x) (lines-ended w)

pub lines-stringify : (ft : FormattedText) (l : Str) (ls : List Str) → to_lines ft 0 ≡ l ∷ ls → Wholes (l ∷ ls)
    → lines (stringify ft 0) ≡ l ∷ ls
lines-stringify ft l ls e w =
    ap (λ (s : Str). lines s) (stringify-lines ft 0 (λ n. cc) ∙ ap ended e) ∙ lines-ended w

-- a first line, then a text
pub lines-first : (l s : Str) → whole l ≡ true → lines (l ++ unit 10 ++ s) ≡ l ∷ lines s
lines-first l s h = ap (λ (t : Str). lines t) (append_assoc l (unit 10) s) ∙ line-end l s h

-- lines moved in
abbrev pub indented : ℕ → List Str → List Str
indented n [] = []
indented n (l ∷ ls) = (spaces n ++ l) ∷ indented n ls

pub trim-spaces : (n : ℕ) (l : Str) → trim (spaces n ++ l) ≡ trim l
trim-spaces zero l = refl
trim-spaces (suc n) l = trim-spaces n l

pub trim-indented : (n : ℕ) (l : Str) → trim l ≡ l → trim (spaces n ++ l) ≡ l
trim-indented n l e = trim-spaces n l ∙ e

pub whole-indented : (n : ℕ) (l : Str) → whole (spaces n ++ l) ≡ whole l
whole-indented zero l = refl
whole-indented (suc n) l = whole-indented n l

pub wholes_indented : (n : ℕ) {ls more : List Str} → Wholes ls → Wholes more → Wholes (indented n ls ++ more)
wholes_indented n nil w = w
wholes_indented n (add l h t) w = add (spaces n ++ l) (whole-indented n l ∙ h) (wholes_indented n t w)

-- ---- what lines do

-- operations one after another
unfoldable pub run_ops : Option ℕ → List Op → Record → Option Record
run_ops v [] r = Some r
run_ops v (o ∷ os) r = option_and_then (run_ops v os) (run_op v o r)

pub data Saying : List Str → List Op → Type 0 where
  nil : Saying [] []
  add : {l : Str} {o : Op} {ls : List Str} {os : List Op} → Says l o → Saying ls os → Saying (l ∷ ls) (o ∷ os)

pub wholes_saying : {ls : List Str} {os : List Op} → Saying ls os → Wholes ls
wholes_saying nil = Wholes.nil
wholes_saying (add {l = l} s t) = Wholes.add l s.one (wholes_saying t)

pub run_says : (v : Option ℕ) (l : Str) (o : Op) (r : Record) → writes l ≡ Some (o, []) → run_line v l r ≡ run_op v o r
unfolding run_line writes
run_says v [] o r e = cc
run_says v (c ∷ l) o r e = rw e

pub run_lines_lem : (v : Option ℕ) (n : ℕ) {ls : List Str} {os : List Op} → Saying ls os → (r : Record)
    → run_lines v (indented n ls) r ≡ run_ops v os r
unfolding run_lines run_ops
run_lines_lem v n nil r = refl
run_lines_lem v n (add {l = l} {o = o} s w) r =
    ap₂ option_and_then (fun_ext (λ x. run_lines_lem v n w x))
    (ap (λ (x : Str). run_line v x r) (trim-indented n l s.tight) ∙ run_says v l o r s.reads)

-- a function's text: without its first two lines and its last
front-last : (a : Str) (l : List Str) (x : Str) → prepend a (l ++ (x ∷ [])) ≡ a ∷ l
front-last a [] x = refl
front-last a (b ∷ l) x = ap (λ (y : List Str). a ∷ y) (front-last b l x)

pub inner-body : (a b z : Str) (ls : List Str) → inner (a ∷ b ∷ (ls ++ (z ∷ []))) ≡ Some ls
inner-body a b z [] = refl
inner-body a b z (l ∷ ls) = ap Some (front-last l ls z)
