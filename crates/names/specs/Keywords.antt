-- `RUST_KEYWORDS` of codegen.rs, all 53. Assumes nothing.
use Rattle.std.specs.Prelude.{Bool, false, List, [], ◌∷◌, map}
use Rattle.text.specs.Bytes.{Str, ascii, either, same}

abbrev pub rust_keywords : List Str
rust_keywords =
    map ascii
    ("abstract" ∷ "alignof" ∷ "as" ∷ "be" ∷ "become" ∷ "box" ∷ "break" ∷ "const" ∷ "continue" ∷ "crate"
    ∷ "do" ∷ "else" ∷ "enum" ∷ "extern" ∷ "false" ∷ "final" ∷ "fn" ∷ "for" ∷ "if" ∷ "impl" ∷ "in" ∷ "let"
    ∷ "loop" ∷ "macro" ∷ "match" ∷ "mod" ∷ "move" ∷ "mut" ∷ "offsetof" ∷ "once" ∷ "override" ∷ "priv" ∷ "proc"
    ∷ "pub" ∷ "pure" ∷ "ref" ∷ "return" ∷ "self" ∷ "sizeof" ∷ "static" ∷ "struct" ∷ "super" ∷ "trait" ∷ "true"
    ∷ "type" ∷ "typeof" ∷ "unsafe" ∷ "unsized" ∷ "use" ∷ "virtual" ∷ "where" ∷ "while" ∷ "yield" ∷ [])

-- whether s is one of the words
unfoldable pub is_one_of : Str → List Str → Bool
is_one_of s [] = false
is_one_of s (w ∷ ws) = either (same s w) (is_one_of s ws)

-- `RUST_KEYWORDS.contains(name)`
unfoldable pub is_keyword : Str → Bool
is_keyword name = is_one_of name rust_keywords
