-- Names in generated code: `camel_to_snake_case` and `module_name` of codegen.rs, and the name of a default's constant. A name
-- is its bytes in UTF-8. Assumes nothing.
use Rattle.std.specs.Prelude.{◌≡◌, Bool, true, false, not, [], ◌∷◌, ◌++◌, map, ℕ, ◌+◌, ◌-◌, ◌≤◌, leb, ltb, length, get_or, take}
use Rattle.std.specs.Prelude.{replicate}
use Rattle.text.specs.Bytes.{Str, ascii, unit, cond, both, either}
use Rattle.column.specs.Texts.{between, is_lead, is_accented, are_chars, is_field_name}
use Rattle.names.specs.Keywords.{is_keyword}
use Rattle.names.specs.declared.Snake.{Snake}

-- `c.is_uppercase()` of the char that begins with the byte b before the bytes t: A to Z, or a letter from U+00C0 to U+00DE (N2).
-- The second byte of a letter begins no char
abbrev pub is_uppercase : ℕ → Str → Bool
is_uppercase b t =
    either (between 65 90 b) (both (both (is_lead b) (is_accented (get_or t 0 0))) (leb (get_or t 0 0) 0x9E))

-- `to_ascii_lowercase` and `to_ascii_uppercase` of a char: they change no byte but ASCII letters
abbrev pub to_ascii_lowercase : ℕ → ℕ
to_ascii_lowercase b = cond (between 65 90 b) (b + 32) b

abbrev pub to_ascii_uppercase : ℕ → ℕ
to_ascii_uppercase b = cond (between 97 122 b) (b - 32) b

-- a byte of ASCII
abbrev pub is_ascii : ℕ → Bool
is_ascii b = ltb b 128

-- the names that are taken: at most 64 bytes, of ASCII and letters from U+00C0 to U+00FF
unfoldable pub taken : Str → Bool
taken name = both (leb (length name) 64) (are_chars is_ascii false name)

-- what an F or G line admits, the name helpers take: no text has an empty name
abbrev pub FieldNamesTaken : Type 0
FieldNamesTaken = (t : Str) → is_field_name t ≡ true → taken t ≡ true

-- a turn of the loop of `camel_to_snake_case`, byte by byte: an underscore before a capital that is not the first char, and the
-- byte in lower case
abbrev pub snake_byte : Bool → ℕ → Str → Str
snake_byte first b t = cond (both (is_uppercase b t) (not first)) (unit 95) [] ++ unit (to_ascii_lowercase b)

unfoldable pub snake_from : Bool → Str → Str
snake_from first [] = []
snake_from first (b ∷ t) = snake_byte first b t ++ snake_from false t

-- `camel_to_snake_case`; a name that is not taken gives the empty one
unfoldable pub camel_to_snake_case : Str → Str
camel_to_snake_case name = cond (taken name) (snake_from true name) []

-- `format!("DEFAULT_{}", camel_to_snake_case(name).to_ascii_uppercase())`
unfoldable pub default_name : Str → Str
default_name name = ascii "DEFAULT_" ++ map to_ascii_uppercase (camel_to_snake_case name)

-- a name that is a keyword gets an underscore at its end
abbrev pub escaped : Str → Str
escaped name = cond (is_keyword name) (name ++ unit 95) name

-- `module_name`
unfoldable pub module_name : Str → Str
module_name name = escaped (camel_to_snake_case name)

-- the struct that holds a snake name: its bytes, then zeros
unfoldable pub held : Str → Snake
held s = record { bytes = s ++ replicate (128 - length s) 0; len = length s }

-- the name that a struct holds
abbrev pub name_of : Snake → Str
name_of n = take n.len n.bytes

-- what `camel_to_snake_case` makes of a name: its snake name, held whole, in at most 127 bytes
pub record Snaked (name : Str) (n : Snake) : Type 0 where
  pub whole : n ≡ held (camel_to_snake_case name)
  pub short : n.len ≤ 127
