-- Lines of generated code: `FormattedText`, `to_lines` and `stringify` of codegen.rs. Assumes nothing.
use Rattle.std.specs.Prelude.{List, [], ◌∷◌, ◌++◌, ℕ, ◌+◌, ◌*◌, ◌==◌, replicate}
use Rattle.text.specs.Bytes.{Str, unit, cond}

infixr 50 ◌&◌
mutual
  pub data FormattedText : Type 0 where
    Indent : FormattedText → FormattedText
    Branch : FormattedTexts → FormattedText
    Line : Str → FormattedText
    BlankLine : FormattedText

  -- a `Vec<FormattedText>`
  pub data FormattedTexts : Type 0 where
    none : FormattedTexts
    ◌&◌ : FormattedText → FormattedTexts → FormattedTexts

-- `" ".repeat(n)`
abbrev pub spaces : ℕ → Str
spaces n = replicate n 32

unfoldable mutual
  pub to_lines : FormattedText → ℕ → List Str
  to_lines (Indent ft) indent = to_lines ft (indent + 1)
  to_lines (Branch fts) indent = flat_map fts indent
  to_lines (Line s) indent = (spaces (indent * 4) ++ s) ∷ []
  to_lines BlankLine indent = [] ∷ []

  -- `to_lines` of each, one after the other
  pub flat_map : FormattedTexts → ℕ → List Str
  flat_map none indent = []
  flat_map (ft & fts) indent = to_lines ft indent ++ flat_map fts indent

-- `lines.join(between)`
unfoldable pub join : Str → List Str → Str
join between [] = []
join between (l ∷ []) = l
join between (l ∷ m ∷ ls) = l ++ between ++ join between (m ∷ ls)

-- `stringify`, with the level of indentation at which `to_lines` begins: the Rust's own is 0
unfoldable pub stringify : FormattedText → ℕ → Str
stringify ft level = join (unit 10) (to_lines ft level) ++ unit 10

-- what a line at a level begins with
unfoldable pub margin : ℕ → Str
margin level = spaces (level * 4)

-- a part of a text in which lines end, by the level: each line that begins behind a byte 10 of it has its margin
unfoldable pub broken : Str → ℕ → Str
broken [] level = []
broken (x ∷ []) level = x ∷ []
broken (x ∷ (y ∷ s)) level = x ∷ cond (x == 10) (margin level) [] ++ broken (y ∷ s) level

-- lines, each with its byte 10: what writing one after the other gives. It is `stringify` where there is a line
-- (proofs/LinesLaws.antt)
unfoldable pub ended : List Str → Str
ended [] = []
ended (l ∷ ls) = l ++ 10 ∷ ended ls
