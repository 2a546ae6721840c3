-- What a text does to a record, from its bytes alone (document 01, "What a line does to a record"): a text that is none of these
-- has no meaning. Assumes nothing.
use Rattle.std.specs.Option.{option_map, option_and_then}
use Rattle.std.specs.Prelude.{ℕ, Bool, true, false, not, List, [], ◌∷◌, ◌++◌, ◌==◌}
use Rattle.std.specs.Prelude.{Option, None, Some}
use Rattle.text.specs.Bytes.{Str, cond, both}
use Rattle.record.specs.Offsets.{Place, bool_at, data_at}
use Rattle.record.specs.Record.{Record, get, put_value, null, clear}
use Rattle.record.specs.Types.{Num, width_of, tag_place}
use Rattle.record.specs.declared.PointerOffset.{PointerOffset}
use Rattle.meaning.specs.Reading.{Reads, ◌>>=◌, ◌>>◌, pure, ◌or◌, lit, end, word_byte, numeral, type_name, truth}
use Rattle.meaning.specs.Reading.{get_mask_of, set_mask_of, Arg, value, constant, data_arg, bool_arg}

-- ---- a line that writes

-- a set of an argument at a place under a mask's bits, or a clear of a pointer
pub data Op : Type 0 where
  set_op : Place → Arg → ℕ → Op
  clear_op : PointerOffset → Op

abbrev pub bool_place : ℕ → Place
bool_place o = bool_at (record { 0 = o })

abbrev pub data_place : Num → ℕ → Place
data_place t o = data_at (width_of t) (record { 0 = o })

abbrev pub set_bool : Reads Op
set_bool = do lit "set_bool_field("; o ← numeral; lit ", "; a ← bool_arg; lit ");"; end; pure (set_op (bool_place o) a 0)

abbrev pub set_bool_mask : Reads Op
set_bool_mask = do
  lit "set_bool_field_mask("
  o ← numeral
  lit ", "
  a ← bool_arg
  lit ", "
  m ← truth
  lit ");"
  end
  pure (set_op (bool_place o) a m)

abbrev pub set_data : Reads Op
set_data = do
  lit "set_data_field::<"
  t ← type_name
  lit ">("
  o ← numeral
  lit ", "
  a ← data_arg t
  lit ");"
  end
  pure (set_op (data_place t o) a 0)

abbrev pub set_data_mask : Reads Op
set_data_mask = do
  lit "set_data_field_mask::<"
  t ← type_name
  lit ">("
  o ← numeral
  lit ", "
  a ← data_arg t
  lit ", "
  m ← set_mask_of t
  lit ");"
  end
  pure (set_op (data_place t o) a m)

abbrev pub clear_call : Reads Op
clear_call = do lit "reborrow().get_pointer_field("; i ← numeral; lit ").clear();"; end; pure (clear_op (record { 0 = i }))

unfoldable pub writes : Reads Op
writes = lit "self.builder." >> (set_bool or set_bool_mask or set_data or set_data_mask or clear_call)

-- ---- a get, at the front of a text

-- a place, and the mask's bits
abbrev pub Get : Type 0
Get = Place × ℕ

abbrev pub get_bool_call : Reads Get
get_bool_call = do lit "get_bool_field("; o ← numeral; lit ")"; pure (bool_place o, 0)

abbrev pub get_bool_mask : Reads Get
get_bool_mask = do lit "get_bool_field_mask("; o ← numeral; lit ", "; m ← truth; lit ")"; pure (bool_place o, m)

abbrev pub get_data : Reads Get
get_data = do lit "get_data_field::<"; t ← type_name; lit ">("; o ← numeral; lit ")"; pure (data_place t o, 0)

abbrev pub get_data_mask : Reads Get
get_data_mask = do
  lit "get_data_field_mask::<"
  t ← type_name
  lit ">("
  o ← numeral
  lit ", "
  m ← get_mask_of t
  lit ")"
  pure (data_place t o, m)

abbrev pub member_dot : Reads (Unit {0})
member_dot = lit "reader." or lit "builder."

unfoldable pub gets : Reads Get
gets = lit "self." >> member_dot >> (get_bool_call or get_bool_mask or get_data or get_data_mask)

-- where the call of a get begins, whatever follows
abbrev pub opens_get : Reads (Unit {0})
opens_get = lit "self." >> member_dot >> (lit "get_bool_field" or lit "get_data_field")

-- one get more where its call begins; a call that is none of the four gets, with a mask of its own type, has no meaning
abbrev pub adds : Option (Unit {0} × Str) → Option (Get × Str) → Option (List Get) → Option (List Get)
adds None g more = more
adds (Some opened) None more = None
adds (Some opened) (Some g) more = option_map (λ gs. g.0 ∷ gs) more

-- All gets of a line; the Bool says whether a word's byte stands in front of it, since no call begins inside a word.
unfoldable pub gets_in : Bool → Str → Option (List Get)
gets_in in_word [] = Some []
gets_in true (c ∷ s) = gets_in (word_byte c) s
gets_in false (c ∷ s) = adds (opens_get (c ∷ s)) (gets (c ∷ s)) (gets_in (word_byte c) s)

-- ---- the tests of a haser

pub data Test : Type 0 where
  tag_test : ℕ → ℕ → Test
  null_test : PointerOffset → Test

abbrev pub read_tag : Reads Test
read_tag = do
  lit "if self."
  member_dot
  lit "get_data_field::<u16>("
  o ← numeral
  lit ") != "
  n ← numeral
  lit " { return false; }"
  end
  pure (tag_test o n)

abbrev pub read_null : Reads Test
read_null = do lit "!self.reader.get_pointer_field("; i ← numeral; lit ").is_null()"; end; pure (null_test (record { 0 = i }))

abbrev pub read_null_field : Reads Test
read_null_field = do lit "!self.builder.is_pointer_field_null("; i ← numeral; lit ")"; end; pure (null_test (record { 0 = i }))

unfoldable pub tests : Reads Test
tests = read_tag or read_null or read_null_field

-- ---- lines

abbrev pub push_byte : ℕ → List Str → List Str
push_byte c [] = (c ∷ []) ∷ []
push_byte c (l ∷ ls) = (c ∷ l) ∷ ls

-- the lines of a text, each ended by byte 10
abbrev pub lines : Str → List Str
lines [] = []
lines (c ∷ s) = cond (c == 10) ([] ∷ lines s) (push_byte c (lines s))

-- no byte 10 in it
abbrev pub whole : Str → Bool
whole [] = true
whole (c ∷ s) = cond (c == 10) false (whole s)

-- spaces in front don't count
abbrev pub trim : Str → Str
trim [] = []
trim (c ∷ s) = cond (c == 32) (trim s) (c ∷ s)

abbrev pub prepend : Str → List Str → List Str
prepend a [] = []
prepend a (b ∷ l) = a ∷ prepend b l

-- the lines without the first two and the last, of three at least
abbrev pub inner : List Str → Option (List Str)
inner [] = None
inner (a ∷ []) = None
inner (a ∷ (b ∷ [])) = None
inner (a ∷ (b ∷ (c ∷ l))) = Some (prepend c l)

-- ---- running; v is the accessor's `value`, where there is one

abbrev pub arg_bits : Option ℕ → Arg → Option ℕ
arg_bits v value = v
arg_bits v (constant k) = Some k

unfoldable pub run_op : Option ℕ → Op → Record → Option Record
run_op v (set_op p a m) r = option_and_then (λ x. put_value p x m r) (arg_bits v a)
run_op v (clear_op i) r = clear i r

-- an empty line does nothing
unfoldable pub run_line : Option ℕ → Str → Record → Option Record
run_line v [] r = Some r
run_line v (c ∷ s) r = option_and_then (λ x. run_op v x.0 r) (writes (c ∷ s))

-- lines run from the top, each on the record that the line before left
unfoldable pub run_lines : Option ℕ → List Str → Record → Option Record
run_lines v [] r = Some r
run_lines v (l ∷ ls) r = option_and_then (run_lines v ls) (run_line v (trim l) r)

-- a setter: the first two lines and the last do nothing
unfoldable pub run_setter : Str → ℕ → Record → Option Record
run_setter t v r = option_and_then (λ ls. run_lines (Some v) ls r) (inner (lines t))

-- a zeroing
unfoldable pub run_zeroing : Str → Record → Option Record
run_zeroing t r = run_lines None (lines t) r

-- a getter: line 1 does nothing; the single get below it, whatever stands around it, is the answer
abbrev pub all_gets : List Str → Option (List Get)
all_gets [] = Some []
all_gets (l ∷ ls) = option_and_then (λ gs. option_map (λ more. gs ++ more) (all_gets ls)) (gets_in false l)

abbrev pub after_first : List Str → List Str
after_first [] = []
after_first (l ∷ ls) = ls

abbrev pub single : List Get → Option Get
single [] = None
single (g ∷ []) = Some g
single (g ∷ (h ∷ l)) = None

unfoldable pub run_getter : Str → Record → Option ℕ
run_getter t r = option_map (λ g. get g.0 g.1 r) (option_and_then single (all_gets (after_first (lines t))))

-- a haser: the first two lines and the last do nothing; each line between them that is not empty is a test
unfoldable pub tests_of : List Str → Option (List Test)
tests_of [] = Some []
tests_of (l ∷ ls) = one (trim l) (tests_of ls)
  where
    one : Str → Option (List Test) → Option (List Test)
    one [] more = more
    one (c ∷ s) more = option_and_then (λ t. option_map (λ ts. t.0 ∷ ts) more) (tests (c ∷ s))

-- one null test, or a tag test before it: false where that finds another number, else whether the pointer is not null
unfoldable pub run_tests : List Test → Record → Option Bool
run_tests [] r = None
run_tests (null_test i ∷ []) r = Some (not (null i r))
run_tests (null_test i ∷ (t ∷ ts)) r = None
run_tests (tag_test o n ∷ []) r = None
run_tests (tag_test o n ∷ (null_test i ∷ [])) r = Some (both (get (tag_place o) 0 r == n) (not (null i r)))
run_tests (tag_test o n ∷ (null_test i ∷ (t ∷ ts))) r = None
run_tests (tag_test o n ∷ (tag_test p m ∷ ts)) r = None

unfoldable pub run_haser : Str → Record → Option Bool
run_haser t r = option_and_then (λ ls. option_and_then (λ ts. run_tests ts r) (tests_of ls)) (inner (lines t))
