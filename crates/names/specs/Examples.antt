-- Worked names, by computation: letters with accents in snake names and in the names of defaults, and the bound of 127 bytes,
-- reached. Assumes nothing.
use Rattle.std.specs.Prelude.{◌≡◌, refl, Bool, true, false, List, [], ◌∷◌, ◌++◌, map, leb, length, replicate}
use Rattle.text.specs.Bytes.{Str, both}
use Rattle.column.specs.Texts.{all, are_chars}
use Rattle.column.specs.Examples.{utf8_char, utf8, numbers_from, is_letter, alike}
use Rattle.names.specs.Names.{is_uppercase, taken, snake_from, camel_to_snake_case, default_name}

-- names, and what becomes of them
given : List Str
given = map utf8
    ("möbelÄnderung" ∷ "Übergabe" ∷ "étatÄ" ∷ "straßeNr" ∷ "aÀaÖaØaÞ" ∷ "aßaàaöaøaÿ" ∷ "ÄÖ" ∷ "a×" ∷ "a÷" ∷ [])

snakes : List Str
snakes = map utf8
    ("möbel_Änderung" ∷ "Übergabe" ∷ "état_Ä" ∷ "straße_nr" ∷ "a_Àa_Öa_Øa_Þ" ∷ "aßaàaöaøaÿ" ∷ "Ä_Ö" ∷ "" ∷ "" ∷ [])

snake-names : map camel_to_snake_case given ≡ snakes
unfolding given snakes are_chars taken snake_from camel_to_snake_case
snake-names = refl

default-name : default_name (utf8 "étatÄ") ≡ utf8 "DEFAULT_éTAT_Ä"
unfolding are_chars taken snake_from camel_to_snake_case default_name
default-name = refl

-- of the 1,920 chars of two bytes just the letters up to U+00DE are capitals
abbrev capital_first : Str → Bool
capital_first [] = false
capital_first (b ∷ t) = is_uppercase b t

capital_letters : all (λ c. alike (capital_first (utf8_char c)) (both (is_letter c) (leb c 0xDE))) (numbers_from 0x80 1920) ≡ true
unfolding all
capital_letters = refl

-- 64 capitals have a snake name of 127 bytes; one letter of two bytes among them makes it 126
capitals : List Str
capitals = replicate 64 65 ∷ (replicate 62 65 ++ utf8 "Ä") ∷ []

longest : map (λ (name : Str). length (camel_to_snake_case name)) capitals ≡ 127 ∷ 126 ∷ []
unfolding capitals are_chars taken snake_from camel_to_snake_case
longest = refl
