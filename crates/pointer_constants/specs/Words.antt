-- The words that stand at a position, and by the level the text of their lines and of a declaration by them. Assumes nothing.
use Rattle.std.specs.Prelude.{ℕ, zero, suc, ◌+◌, List, [], ◌∷◌, ◌++◌}
use Rattle.text.specs.Bytes.{Str, ascii}
use Rattle.text.specs.Decimal.{decimal}
use Rattle.text.specs.Lines.{margin}
use Rattle.row.specs.Rows.{rest_of}
use Rattle.row.specs.Line.{line_at, as_word}
use Rattle.codegen.specs.WordArray.{word_bytes}

-- the words of the W rows that stand first, up to a number
unfoldable pub words_at : ℕ → List Str → List ℕ
words_at zero rs = []
words_at (suc n) rs = as_word (line_at rs) (λ w. w ∷ words_at n (rest_of rs)) []

-- a word's line, one step in
abbrev pub word_code : Str → ℕ → ℕ → Str
word_code root w level = margin (level + 1) ++ root ++ ascii "::word(" ++ word_bytes w ++ ascii "),\n"

unfoldable pub words_text : Str → List ℕ → ℕ → Str
words_text root [] level = []
words_text root (w ∷ ws) level = word_code root w level ++ words_text root ws level

-- the declaration of an array whose length is said to be n, with these words
abbrev pub declaration_text : Str → Str → ℕ → List ℕ → ℕ → Str
declaration_text root name n ws level =
    margin level ++ ascii "pub(crate) static " ++ name ++ ascii ": [" ++ root ++ ascii "::Word; " ++ decimal n ++ ascii "] = [\n"
    ++ words_text root ws level ++ margin level ++ ascii "];\n"
