-- The texts of a line, each after one space: a name of ASCII, a field's name, which may have letters with accents (N2), or
-- graphic bytes. Assumes nothing.
use Rattle.std.specs.Prelude.{◌≡◌, Bool, true, false, not, [], ◌∷◌, ℕ, ◌+◌, ◌-◌, eqb, leb, length, get_or, take, drop}
use Rattle.text.specs.Bytes.{Str, cond, both, either}

-- whether b lies between two bytes or is one of them
abbrev pub between : ℕ → ℕ → ℕ → Bool
between lo hi b = both (leb lo b) (leb b hi)

-- 0 to 9
abbrev pub is_digit : ℕ → Bool
is_digit b = between 48 57 b

-- a letter, a to z or A to Z, an underscore or a digit
unfoldable pub is_word : ℕ → Bool
is_word b = either (between 97 122 b) (either (between 65 90 b) (either (eqb b 95) (is_digit b)))

-- bytes 33 to 126
unfoldable pub is_graphic : ℕ → Bool
is_graphic b = between 33 126 b

-- whether each byte passes a test
unfoldable pub all : (ℕ → Bool) → Str → Bool
all ok [] = true
all ok (b ∷ t) = cond (ok b) (all ok t) false

-- 1 to so many bytes
abbrev pub sized : ℕ → Str → Bool
sized most t = between 1 most (length t)

-- what every name is: 1 to 64 bytes, not digit first
abbrev pub may_be_name : Str → Bool
may_be_name t = cond (sized 64 t) (not (is_digit (get_or t 0 0))) false

-- a name: ASCII letters, digits or underscores
unfoldable pub is_name : Str → Bool
is_name t = cond (may_be_name t) (all is_word t) false

-- at a stands one space, after it up to e a name, and at e byte 10
pub record NameTo (t : Str) (a e : ℕ) : Type 0 where
  pub space : get_or t a 0 ≡ 32
  pub name : is_name (take (e - (a + 1)) (drop (a + 1) t)) ≡ true
  pub ends : get_or t e 0 ≡ 10

-- the first byte, in UTF-8, of a letter from U+00C0 to U+00FF
abbrev pub is_lead : ℕ → Bool
is_lead b = eqb b 0xC3

-- the byte after it: 80 to BF, but for 97 and B7, of which U+00D7 and U+00F7 are made, the signs of multiplication and division
abbrev pub is_accented : ℕ → Bool
is_accented b = both (between 0x80 0xBF b) (not (either (eqb b 0x97) (eqb b 0xB7)))

-- whether a byte may come next: after the first byte of a letter its second; else a byte that passes a test, or a first one
abbrev pub may_come : (ℕ → Bool) → Bool → ℕ → Bool
may_come ok true b = is_accented b
may_come ok false b = either (ok b) (is_lead b)

-- whether a text is made of bytes that pass a test and of such letters, each whole; `begun` says that the first byte of a letter
-- stands before the text
unfoldable pub are_chars : (ℕ → Bool) → Bool → Str → Bool
are_chars ok begun [] = not begun
are_chars ok begun (b ∷ t) = cond (may_come ok begun b) (are_chars ok (is_lead b) t) false

-- a field's name (N2): ASCII letters, digits, underscores, or letters from U+00C0 to U+00FF
unfoldable pub is_field_name : Str → Bool
is_field_name t = cond (may_be_name t) (are_chars is_word false t) false

-- 1 to so many graphic bytes: with 64 a root, with 128 a module
unfoldable pub is_graphic_text : ℕ → Str → Bool
is_graphic_text most t = cond (sized most t) (all is_graphic t) false

-- whether one space stands at a, and after it a text that passes a test
unfoldable pub ends_in : (Str → Bool) → Str → ℕ → Bool
ends_in ok t a = cond (eqb (get_or t a 0) 32) (ok (drop (a + 1) t)) false
