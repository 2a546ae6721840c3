-- What a row says: a letter, its numbers in 21 columns each, one space and a text where one belongs, then byte 10. Each letter's
-- line is read from left to right, and the first that is not as document 01 has it gives the fault: 16 for a number, 17 for a
-- text or surplus bytes, with its column (N5). Assumes nothing.
use Rattle.std.specs.Prelude.{Bool, List, [], ◌∷◌, ℕ, ◌+◌, ◌-◌, eqb, ltb, length, get_or, take, drop}
use Rattle.std.specs.Prelude.{Option, None, Some, Result, Ok, Err}
use Rattle.std.specs.Option.{unwrap_or}
use Prim.Native.Char.{code}
use Prim.Native.String as S
use Rattle.text.specs.Bytes.{Str, cond}
use Rattle.column.specs.Number.{column_of, most}
use Rattle.column.specs.Texts.{ends_in, is_name, is_field_name, is_graphic_text}
use Rattle.row.specs.declared.BadLine.{BadLine}
use Rattle.row.specs.declared.Line.{Line}
use Rattle.row.specs.declared.Line.TheVariants as line
use Rattle.terms.specs.Kinds.{number_of}
use Rattle.terms.specs.Refusals as refusal

-- what is wrong with a line: document 01's number of the refusal, and the column, in bytes from 1
pub record Fault : Type 0 where
  pub number : ℕ
  pub column : ℕ

abbrev pub fault : ℕ → ℕ → Fault
fault k c = record { number = k; column = c }

-- 2, a line that may not stand where it stands, or no line
abbrev pub misplaced : Fault
misplaced = fault 2 1

-- what a row says: the numbers of each letter's line; or the letter of a bad line and its fault, with 0 for the letter where no
-- such line stands, or nothing
pub data Content : Type 0 where
  Root : Content
  Node : ℕ → ℕ → ℕ → ℕ → ℕ → ℕ → ℕ → Content
  Parameter : Content
  Field : ℕ → ℕ → ℕ → ℕ → Content
  Group : ℕ → ℕ → Content
  Typ : ℕ → ℕ → ℕ → ℕ → Content
  Scope : ℕ → ℕ → ℕ → Content
  Unbound : Content
  Value : ℕ → ℕ → Content
  Word : ℕ → Content
  Bad : ℕ → Fault → Content

-- the first of the two numbers of an S row's bindings, of which the second is how many they are: 0 inherit or 1 bind
abbrev pub bind_of : Option ℕ → ℕ
bind_of None = 0
bind_of (Some n) = 1

-- what a good line of the code says
abbrev pub good_said : Line → Content
good_said line.Root = Root
good_said (line.Node id parent scope is_struct generic tag_count tag_offset) =
    Node id parent scope is_struct generic tag_count tag_offset
good_said line.Parameter = Parameter
good_said (line.Field offset discriminant explicit option) = Field offset discriminant explicit option
good_said (line.Group id discriminant) = Group id discriminant
good_said (line.Typ kind a b c) = Typ (number_of kind) a b c
good_said (line.Scope id bindings) = Scope id (bind_of bindings) (unwrap_or bindings 0)
good_said line.Unbound = Unbound
good_said (line.Value kind bits) = Value (number_of kind) bits
good_said (line.Word value) = Word value

-- what an answer of the code gives
unfoldable pub line_said : Result Line BadLine → Content
line_said (Ok l) = good_said l
line_said (Err b) = Bad b.letter (fault (refusal.number b.refusal) b.column)

-- what a line says that goes on with what was read of it, or is bad there
abbrev pub said_with : {A : Type 0} → Result A BadLine → (A → Content) → Content
said_with (Ok x) f = f x
said_with (Err b) f = Bad b.letter (fault (refusal.number b.refusal) b.column)

-- the byte of a letter
abbrev pub byte : S.String → ℕ
byte S.[] = 0
byte (S.◌∷◌ c s) = code c

-- the letter of a line
abbrev pub letter_of : Str → ℕ
letter_of t = get_or t 0 0

-- the line t goes on with the number, or has a bad one in the columns from place a on, which are counted from 1: 16
abbrev pub given : Str → ℕ → Option ℕ → (ℕ → Content) → Content
given t a (Some v) f = f v
given t a None f = Bad (letter_of t) (fault 16 (a + 1))

-- the line t has a number from least to most in the 21 columns from place a on, and goes on with it
abbrev pub with_number : Str → ℕ → ℕ → ℕ → (ℕ → Content) → Content
with_number t a least most f = given t a (column_of t a least most) f

-- 17: a space that is missing at place a, or a bad text after it
abbrev pub bad_text : Str → ℕ → Fault
bad_text t a = fault 17 (cond (eqb (get_or t a 0) 32) (a + 2) (a + 1))

-- the line t ends in one space at place a and a text that passes a test
abbrev pub with_text : (Str → Bool) → Str → ℕ → Content → Content
with_text ok t a line = cond (ends_in ok t a) line (Bad (letter_of t) (bad_text t a))

-- the line t ends before place a; what stands there is surplus: 17
abbrev pub with_nothing : Str → ℕ → Content → Content
with_nothing t a line = cond (eqb (length t) a) line (Bad (letter_of t) (fault 17 (a + 1)))

-- R: the root, 1 to 64 bytes 33 to 126
unfoldable pub root_line : Str → Content
root_line t = with_text (is_graphic_text 64) t 1 Root

-- N: id (1 or more), parent, scope id, struct, generic, tag count, tag offset; the module, 1 to 128 bytes 33 to 126
unfoldable pub node_line : Str → Content
node_line t =
    with_number t 1 1 (most 64) λ id.
    with_number t 22 0 (most 64) λ parent.
    with_number t 43 0 (most 64) λ scope.
    with_number t 64 0 1 λ is_struct.
    with_number t 85 0 1 λ generic.
    with_number t 106 0 (most 16) λ tag_count.
    with_number t 127 0 (most 32) λ tag_offset.
    with_text (is_graphic_text 128) t 148 (Node id parent scope is_struct generic tag_count tag_offset)

-- P: the parameter's name
unfoldable pub parameter_line : Str → Content
parameter_line t = with_text is_name t 1 Parameter

-- F: offset, discriminant value, explicit, option; the field's name
unfoldable pub field_line : Str → Content
field_line t =
    with_number t 1 0 (most 32) λ offset.
    with_number t 22 0 (most 16) λ discriminant.
    with_number t 43 0 1 λ explicit.
    with_number t 64 0 1 λ option.
    with_text is_field_name t 85 (Field offset discriminant explicit option)

-- G: group id (1 or more), discriminant value; the field's name
unfoldable pub group_line : Str → Content
group_line t =
    with_number t 1 1 (most 64) λ id.
    with_number t 22 0 (most 16) λ discriminant.
    with_text is_field_name t 43 (Group id discriminant)

-- T's a by the kind: an id for kinds 15 to 17, 0 or 1 for kind 18, otherwise 0
unfoldable pub most_a : ℕ → ℕ
most_a kind = cond (ltb kind 15) 0 (cond (ltb kind 18) (most 64) 1)

-- T's b: a number of scopes for kinds 15 to 17, a scope id for a parameter (kind 18 with a 1), otherwise 0
unfoldable pub most_b : ℕ → ℕ → ℕ
most_b kind a = cond (ltb kind 15) 0 (cond (ltb kind 18) (most 64) (cond (eqb a 0) 0 (most 64)))

-- T's c: a parameter's index, otherwise 0
unfoldable pub most_c : ℕ → ℕ → ℕ
most_c kind a = cond (ltb kind 18) 0 (cond (eqb a 0) 0 (most 16))

-- T: kind, a, b, c
unfoldable pub type_line : Str → Content
type_line t =
    with_number t 1 0 18 λ kind.
    with_number t 22 0 (most_a kind) λ a.
    with_number t 43 0 (most_b kind a) λ b.
    with_number t 64 0 (most_c kind a) λ c.
    with_nothing t 85 (Typ kind a b c)

-- S's bindings: none under inherit (0), any number under bind (1)
unfoldable pub most_count : ℕ → ℕ
most_count bind = cond (eqb bind 0) 0 (most 64)

-- S: scope id, 0 inherit or 1 bind, bindings
unfoldable pub scope_line : Str → Content
scope_line t =
    with_number t 1 0 (most 64) λ id.
    with_number t 22 0 1 λ bind.
    with_number t 43 0 (most_count bind) λ count.
    with_nothing t 64 (Scope id bind count)

-- U
unfoldable pub unbound_line : Str → Content
unbound_line t = with_nothing t 1 Unbound

-- the widths, in bits, of the values of kinds 0 to 18: Void, Bool, Int8 to Int64, Uint8 to Uint64, Float32, Float64,
-- Text, Data, List, Enum, Struct, Interface, AnyPointer
abbrev pub widths : List ℕ
widths = 0 ∷ 1 ∷ 8 ∷ 16 ∷ 32 ∷ 64 ∷ 8 ∷ 16 ∷ 32 ∷ 64 ∷ 32 ∷ 64 ∷ 0 ∷ 0 ∷ 0 ∷ 16 ∷ 0 ∷ 0 ∷ 0 ∷ []

-- V's bits by the kind: as many as its values have
unfoldable pub most_bits : ℕ → ℕ
most_bits kind = most (get_or widths kind 0)

-- V: kind, bits
unfoldable pub value_line : Str → Content
value_line t =
    with_number t 1 0 18 λ kind.
    with_number t 22 0 (most_bits kind) λ bits.
    with_nothing t 43 (Value kind bits)

-- W: eight bytes as a little-endian value
unfoldable pub word_line : Str → Content
word_line t = with_number t 1 0 (most 64) λ value. with_nothing t 22 (Word value)

-- no line: another letter, none, or no byte 10
abbrev pub empty_row : Content
empty_row = Bad 0 misplaced

abbrev pub bad_line : Str → Content
bad_line t = empty_row

-- the reader of the lines with a letter
unfoldable pub reader : ℕ → Str → Content
reader letter =
    cond (eqb letter (byte "R")) root_line
    (cond (eqb letter (byte "N")) node_line
    (cond (eqb letter (byte "P")) parameter_line
    (cond (eqb letter (byte "F")) field_line
    (cond (eqb letter (byte "G")) group_line
    (cond (eqb letter (byte "T")) type_line
    (cond (eqb letter (byte "S")) scope_line
    (cond (eqb letter (byte "U")) unbound_line
    (cond (eqb letter (byte "V")) value_line
    (cond (eqb letter (byte "W")) word_line bad_line)))))))))

-- a row without its last byte
abbrev pub front : Str → Str
front r = take (length r - 1) r

-- what a row says: the line in front of its byte 10, read by its letter
unfoldable pub line_of : Str → Content
line_of r = cond (eqb (get_or r (length r - 1) 0) 10) (reader (get_or r 0 0)) bad_line (front r)

-- what the first row says; where there is none, there is no line
unfoldable pub line_at : List Str → Content
line_at [] = empty_row
line_at (r ∷ rs) = line_of r

-- where the text of a line with a letter begins, after its numbers and a space; 0 for a line without a text
unfoldable pub text_start : ℕ → ℕ
text_start letter =
    cond (eqb letter (byte "R")) 2
    (cond (eqb letter (byte "N")) 149
    (cond (eqb letter (byte "P")) 2
    (cond (eqb letter (byte "F")) 86
    (cond (eqb letter (byte "G")) 44 0))))

-- the text of a row: its root, module, parameter or field name
unfoldable pub text_of : Str → Str
text_of r = cond (eqb (text_start (get_or r 0 0)) 0) [] (drop (text_start (get_or r 0 0)) (front r))

-- the text of the first row
unfoldable pub text_at : List Str → Str
text_at [] = []
text_at (r ∷ rs) = text_of r

-- by what a line says
abbrev pub cases :
    {A : Type 0}
    → A → (ℕ → ℕ → ℕ → ℕ → ℕ → ℕ → ℕ → A) → A → (ℕ → ℕ → ℕ → ℕ → A) → (ℕ → ℕ → A)
    → (ℕ → ℕ → ℕ → ℕ → A) → (ℕ → ℕ → ℕ → A) → A → (ℕ → ℕ → A) → (ℕ → A) → (ℕ → Fault → A) → Content → A
cases r n p f g t s u v w z Root = r
cases r n p f g t s u v w z (Node i q k x y c o) = n i q k x y c o
cases r n p f g t s u v w z Parameter = p
cases r n p f g t s u v w z (Field o d e q) = f o d e q
cases r n p f g t s u v w z (Group i d) = g i d
cases r n p f g t s u v w z (Typ k a b c) = t k a b c
cases r n p f g t s u v w z (Scope i b c) = s i b c
cases r n p f g t s u v w z Unbound = u
cases r n p f g t s u v w z (Value k b) = v k b
cases r n p f g t s u v w z (Word x) = w x
cases r n p f g t s u v w z (Bad x k) = z x k

-- each letter alone: y for its lines, z for all others
abbrev pub as_root : {A : Type 0} → Content → A → A → A
as_root l y z =
    cases y (λ _ _ _ _ _ _ _. z) z (λ _ _ _ _. z) (λ _ _. z) (λ _ _ _ _. z) (λ _ _ _. z) z (λ _ _. z) (λ _. z) (λ _ _. z) l

abbrev pub as_node : {A : Type 0} → Content → (ℕ → ℕ → ℕ → ℕ → ℕ → ℕ → ℕ → A) → A → A
as_node l y z = cases z y z (λ _ _ _ _. z) (λ _ _. z) (λ _ _ _ _. z) (λ _ _ _. z) z (λ _ _. z) (λ _. z) (λ _ _. z) l

abbrev pub as_parameter : {A : Type 0} → Content → A → A → A
as_parameter l y z =
    cases z (λ _ _ _ _ _ _ _. z) y (λ _ _ _ _. z) (λ _ _. z) (λ _ _ _ _. z) (λ _ _ _. z) z (λ _ _. z) (λ _. z) (λ _ _. z) l

abbrev pub as_field : {A : Type 0} → Content → (ℕ → ℕ → ℕ → ℕ → A) → A → A
as_field l y z = cases z (λ _ _ _ _ _ _ _. z) z y (λ _ _. z) (λ _ _ _ _. z) (λ _ _ _. z) z (λ _ _. z) (λ _. z) (λ _ _. z) l

abbrev pub as_group : {A : Type 0} → Content → (ℕ → ℕ → A) → A → A
as_group l y z = cases z (λ _ _ _ _ _ _ _. z) z (λ _ _ _ _. z) y (λ _ _ _ _. z) (λ _ _ _. z) z (λ _ _. z) (λ _. z) (λ _ _. z) l

abbrev pub as_type : {A : Type 0} → Content → (ℕ → ℕ → ℕ → ℕ → A) → A → A
as_type l y z = cases z (λ _ _ _ _ _ _ _. z) z (λ _ _ _ _. z) (λ _ _. z) y (λ _ _ _. z) z (λ _ _. z) (λ _. z) (λ _ _. z) l

abbrev pub as_scope : {A : Type 0} → Content → (ℕ → ℕ → ℕ → A) → A → A
as_scope l y z = cases z (λ _ _ _ _ _ _ _. z) z (λ _ _ _ _. z) (λ _ _. z) (λ _ _ _ _. z) y z (λ _ _. z) (λ _. z) (λ _ _. z) l

abbrev pub as_unbound : {A : Type 0} → Content → A → A → A
as_unbound l y z =
    cases z (λ _ _ _ _ _ _ _. z) z (λ _ _ _ _. z) (λ _ _. z) (λ _ _ _ _. z) (λ _ _ _. z) y (λ _ _. z) (λ _. z) (λ _ _. z) l

abbrev pub as_value : {A : Type 0} → Content → (ℕ → ℕ → A) → A → A
as_value l y z = cases z (λ _ _ _ _ _ _ _. z) z (λ _ _ _ _. z) (λ _ _. z) (λ _ _ _ _. z) (λ _ _ _. z) z y (λ _. z) (λ _ _. z) l

abbrev pub as_word : {A : Type 0} → Content → (ℕ → A) → A → A
as_word l y z = cases z (λ _ _ _ _ _ _ _. z) z (λ _ _ _ _. z) (λ _ _. z) (λ _ _ _ _. z) (λ _ _ _. z) z (λ _ _. z) y (λ _ _. z) l

-- the fault of a bad line with a letter, if that is what stands there
abbrev pub fault_of : ℕ → Content → Option Fault
fault_of letter l =
    cases None (λ _ _ _ _ _ _ _. None) None (λ _ _ _ _. None) (λ _ _. None) (λ _ _ _ _. None) (λ _ _ _. None) None (λ _ _. None)
    (λ _. None) (λ x k. cond (eqb x letter) (Some k) None) l
