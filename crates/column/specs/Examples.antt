-- Worked names, by computation: letters with accents by their code points, each bound and one past it, torn and other sequences.
-- Assumes nothing.
use Rattle.std.specs.Prelude.{◌≡◌, refl, Bool, true, false, not, List, [], ◌∷◌, ◌++◌, map, ℕ, zero, suc, ◌+◌, ◌/◌, ◌%◌, eqb}
use Rattle.std.specs.Prelude.{ltb, length, replicate}
use Prim.Native.Char.{code}
use Prim.Native.String as S
use Rattle.text.specs.Bytes.{Str, unit, cond, both, either}
use Rattle.column.specs.Texts.{between, is_word, all, are_chars, is_name, is_field_name}

-- a char in UTF-8, up to U+07FF
abbrev pub utf8_char : ℕ → Str
utf8_char c = cond (ltb c 0x80) (unit c) ((0xC0 + c / 64) ∷ (0x80 + c % 64) ∷ [])

-- the bytes of a literal in UTF-8
abbrev pub utf8 : S.String → Str
utf8 S.[] = []
utf8 (S.◌∷◌ c s) = utf8_char (code c) ++ utf8 s

-- so many numbers from one on
abbrev pub numbers_from : ℕ → ℕ → List ℕ
numbers_from n zero = []
numbers_from n (suc k) = n ∷ numbers_from (n + 1) k

-- the letters that N2 names, by their code points
abbrev pub is_letter : ℕ → Bool
is_letter c = both (between 0xC0 0xFF c) (not (either (eqb c 0xD7) (eqb c 0xF7)))

abbrev pub alike : Bool → Bool → Bool
alike true b = b
alike false b = not b

-- of the 1,920 chars of two bytes just these letters make a name
letters : all (λ c. alike (is_field_name (utf8_char c)) (is_letter c)) (numbers_from 0x80 1920) ≡ true
unfolding all is_word are_chars is_field_name
letters = refl

-- a name of so many bytes of ASCII
abbrev bytes : ℕ → Str
bytes n = replicate n 97

-- names of fields, at their bounds
good : List Str
good =
    utf8 "étatÄ" ∷ utf8 "Übergabe" ∷ utf8 "straßeNr" ∷ utf8 "_ÿ9" ∷ utf8 "ÄÄÄÄÄÄÄÄÄÄÄÄÄÄÄÄÄÄÄÄÄÄÄÄÄÄÄÄÄÄÄÄ"
    ∷ (bytes 62 ++ utf8 "é") ∷ bytes 64 ∷ []

-- no names: too long; a digit first; a first byte at the end, before another byte, doubled; a second byte alone; U+00D7, U+00F7,
-- U+00AA, U+0100; a combining mark; an overlong A; a byte of Latin-1; nothing
bad : List Str
bad =
    utf8 "ÄÄÄÄÄÄÄÄÄÄÄÄÄÄÄÄÄÄÄÄÄÄÄÄÄÄÄÄÄÄÄÄa" ∷ (bytes 63 ++ utf8 "é") ∷ utf8 "9ä" ∷ (bytes 1 ++ unit 0xC3) ∷ (0xC3 ∷ bytes 1)
    ∷ (0xC3 ∷ utf8 "é") ∷ unit 0xA9 ∷ utf8 "×" ∷ utf8 "÷" ∷ utf8 "ª" ∷ utf8 "Ā" ∷ utf8 "ä̀" ∷ (0xC1 ∷ 0x81 ∷ []) ∷ unit 0xE4 ∷ []
    ∷ []

good-names : map is_field_name good ≡ replicate (length good) true
unfolding good all is_word are_chars is_field_name
good-names = refl

bad-names : map is_field_name bad ≡ replicate (length bad) false
unfolding bad all is_word are_chars is_field_name
bad-names = refl

-- no letter with an accent stands in a parameter's name
ascii-names : map is_name (utf8 "état" ∷ utf8 "T" ∷ []) ≡ false ∷ true ∷ []
unfolding all is_word is_name
ascii-names = refl
