-- Readers: functions from the rows of a sheet to what they say. Assumes nothing.
use Rattle.std.specs.Prelude.{List, [], ◌∷◌, ℕ, zero, suc}
use Rattle.std.specs.Prelude.{Option, None, Some}
use Rattle.text.specs.Bytes.{Str}
use Rattle.row.specs.Rows.{rest_of}
use Rattle.row.specs.Line.{line_at, text_at, as_root, as_node, as_parameter, as_field, as_group}
use Rattle.row.specs.Line.{as_type, as_scope, as_unbound, as_value, as_word, Fault, byte, fault_of}

abbrev pub Rows : Type 0
Rows = List Str

-- what was read and the rows that follow, or what is refused, with its column, and the rows from the bad line on
pub data Reading (A : Type 0) : Type 0 where
  got : A → Rows → Reading A
  no : Fault → Rows → Reading A

abbrev pub Reader : Type 0 → Type 0
Reader A = Rows → Reading A

infixl 20 ◌then◌
-- a reader goes on where another came to, unless that one refused
abbrev pub ◌then◌ : {A B : Type 0} → Reading A → (A → Reader B) → Reading B
got a rs then f = f a rs
no k rs then f = no k rs

-- what a reader reads, changed by a function
abbrev pub map_r : {A B : Type 0} → (A → B) → Reader A → Reader B
map_r f p rs = p rs then λ a. got (f a)

-- a reader n times in a row; each time it gives what is put in front of the rest
unfoldable pub times : {A : Type 0} → Reader (A → A) → A → ℕ → Reader A
times one none zero rs = got none rs
times one none (suc n) rs = one rs then λ f. map_r f (times one none n)

-- one reader at the end of the sheet, another before it
abbrev pub at_end : {A : Type 0} → Reader A → Reader A → Reader A
at_end f g [] = f []
at_end f g (r ∷ rs) = g (r ∷ rs)

-- a fault is told, if there is one; else a reader reads
abbrev pub told : {A : Type 0} → Option Fault → Reader A → Reader A
told (Some k) other rs = no k rs
told None other rs = other rs

-- the fault of a bad line with a letter, if that is the first row; else a reader reads from that row on
abbrev pub or_fault : {A : Type 0} → ℕ → Reader A → Reader A
or_fault letter other rs = told (fault_of letter (line_at rs)) other rs

-- for each letter: if the first row is such a line, one reader goes on after it with the line's numbers and text; if it is a bad
-- line with that letter, its fault is told; else the other reads from that row on
module _ {A : Type 0} where
  abbrev pub on_root : (Str → Reader A) → Reader A → Reader A
  on_root f other rs = as_root {A = Reader A} (line_at rs) (λ rs. f (text_at rs) (rest_of rs)) (or_fault (byte "R") other) rs

  abbrev pub on_node : (ℕ → ℕ → ℕ → ℕ → ℕ → ℕ → ℕ → Str → Reader A) → Reader A → Reader A
  on_node f other rs = as_node {A = Reader A} (line_at rs) (λ i p s t g c o rs. f i p s t g c o (text_at rs) (rest_of rs))
      (or_fault (byte "N") other) rs

  abbrev pub on_parameter : (Str → Reader A) → Reader A → Reader A
  on_parameter f other rs =
      as_parameter {A = Reader A} (line_at rs) (λ rs. f (text_at rs) (rest_of rs)) (or_fault (byte "P") other) rs

  abbrev pub on_field : (ℕ → ℕ → ℕ → ℕ → Str → Reader A) → Reader A → Reader A
  on_field f other rs = as_field {A = Reader A} (line_at rs) (λ o d e p rs. f o d e p (text_at rs) (rest_of rs))
      (or_fault (byte "F") other) rs

  abbrev pub on_group : (ℕ → ℕ → Str → Reader A) → Reader A → Reader A
  on_group f other rs =
      as_group {A = Reader A} (line_at rs) (λ i d rs. f i d (text_at rs) (rest_of rs)) (or_fault (byte "G") other) rs

  abbrev pub on_type : (ℕ → ℕ → ℕ → ℕ → Reader A) → Reader A → Reader A
  on_type f other rs = as_type {A = Reader A} (line_at rs) (λ k a b c rs. f k a b c (rest_of rs)) (or_fault (byte "T") other) rs

  abbrev pub on_scope : (ℕ → ℕ → ℕ → Reader A) → Reader A → Reader A
  on_scope f other rs = as_scope {A = Reader A} (line_at rs) (λ i b n rs. f i b n (rest_of rs)) (or_fault (byte "S") other) rs

  abbrev pub on_unbound : Reader A → Reader A → Reader A
  on_unbound f other rs = as_unbound {A = Reader A} (line_at rs) (λ rs. f (rest_of rs)) (or_fault (byte "U") other) rs

  abbrev pub on_value : (ℕ → ℕ → Reader A) → Reader A → Reader A
  on_value f other rs = as_value {A = Reader A} (line_at rs) (λ k b rs. f k b (rest_of rs)) (or_fault (byte "V") other) rs

  abbrev pub on_word : (ℕ → Reader A) → Reader A → Reader A
  on_word f other rs = as_word {A = Reader A} (line_at rs) (λ w rs. f w (rest_of rs)) (or_fault (byte "W") other) rs

-- a fact of what is read, if anything is
abbrev pub On : {A : Type 0} → Reading A → (A → Type 0) → Type 0
On (got a rs) P = P a
On (no k rs) P = Unit {0}

-- something is read, and a fact of it
abbrev pub Has : {A : Type 0} → Reading A → (A → Type 0) → Type 0
Has (got a rs) P = P a
Has (no k rs) P = ⊥
