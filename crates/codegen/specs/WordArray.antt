-- `word_array_declaration` of pointer_constants.rs, for words that come in the sheet. Assumes nothing.
use Rattle.std.specs.Prelude.{ℕ, zero, suc, ◌/◌, ◌%◌, Bool, true, false, List, [], ◌∷◌, ◌++◌, length}
use Rattle.text.specs.Bytes.{Str, ascii}
use Rattle.text.specs.Decimal.{decimal}
use Rattle.text.specs.Lines.{FormattedText, Indent, Branch, Line, FormattedTexts, none, ◌&◌}

-- the bytes of a word from the lowest on, each in decimal after a comma and a space; the first without
unfoldable pub bytes_from : ℕ → ℕ → Str
bytes_from zero w = []
bytes_from (suc n) w = ascii ", " ++ decimal (w % 256) ++ bytes_from n (w / 256)

abbrev pub word_bytes : ℕ → Str
word_bytes w = decimal (w % 256) ++ bytes_from 7 (w / 256)

-- a line for each word
unfoldable pub words_lines : Str → List ℕ → FormattedTexts
words_lines root [] = none
words_lines root (w ∷ ws) = Line (root ++ ascii "::word(" ++ word_bytes w ++ ascii "),") & words_lines root ws

-- WordArrayDeclarationOptions's pub_crate
abbrev pub vis : Bool → Str
vis true = ascii "pub(crate) "
vis false = []

unfoldable pub word_array_declaration : Str → Str → List ℕ → Bool → FormattedText
word_array_declaration root name words pub_crate =
    Branch (
    Line (vis pub_crate ++ ascii "static " ++ name ++ ascii ": [" ++ root ++ ascii "::Word; "
    ++ decimal (length words) ++ ascii "] = [")
    & Indent (Branch (words_lines root words))
    & Line (ascii "];")
    & none)
