-- A level moves in the lines of a text: by induction on its tree. Assumes nothing.
use mathlib.Core.Path.{◌≡◌, refl, sym, ap, ap₂, ◌∙◌}
use mathlib.Core.List.{List, [], ◌∷◌, ◌++◌, map, append_assoc}
use Prim.Native.Nat.{ℕ, ◌+◌, ◌*◌}
use native.Mathlib.Omega.{arith}
use Rattle.std.proofs.lemmas.List.{map-append}
use Rattle.text.specs.Bytes.{Str, unit}
use Rattle.text.specs.Lines.{FormattedText, FormattedTexts, Indent, Branch, Line, BlankLine, none, ◌&◌, spaces, margin, join}
use Rattle.text.specs.Lines.{to_lines, flat_map, stringify, ended}
use Rattle.text.specs.Levels.{Laid, laid_out, all_laid_out, moved_in, shown, StringifyMovesHolds}
use Rattle.text.proofs.LinesLaws.{spaces-more, join-ended}

mutual
  unfolding to_lines flat_map laid_out all_laid_out

  lines-moved : (ft : FormattedText) (level indent : ℕ)
      → to_lines ft (level + indent) ≡ map (moved_in level) (laid_out ft indent)
  lines-moved (Indent ft) level indent =
      let e : level + indent + 1 ≡ level + (indent + 1) = omega arith in
      ap (to_lines ft) e ∙ lines-moved ft level (indent + 1)
  lines-moved (Branch fts) level indent = all-moved fts level indent
  lines-moved (Line s) level indent =
      ap (λ (l : Str). l ∷ [])
      (ap (λ (l : Str). l ++ s) (spaces-more level indent) ∙ append_assoc (margin level) (spaces (indent * 4)) s)
  lines-moved BlankLine level indent = refl

  all-moved : (fts : FormattedTexts) (level indent : ℕ)
      → flat_map fts (level + indent) ≡ map (moved_in level) (all_laid_out fts indent)
  all-moved none level indent = refl
  all-moved (ft & fts) level indent =
      ap₂ (λ (a b : List Str). a ++ b) (lines-moved ft level indent) (all-moved fts level indent)
      ∙ sym (map-append (moved_in level) (laid_out ft indent) (all_laid_out fts indent))

-- THE TEXT AT A LEVEL
pub stringify-moves : StringifyMovesHolds
unfolding stringify shown
stringify-moves ft level =
    let e : level ≡ level + 0 = omega arith in
    ap (λ (ls : List Str). join (unit 10) ls ++ unit 10) (ap (to_lines ft) e ∙ lines-moved ft level 0)

-- a text of lines of which there is one, as each line with its byte 10
pub shown-lines : (level : ℕ) (l : Laid) (ls : List Laid) → shown level (l ∷ ls) ≡ ended (map (moved_in level) (l ∷ ls))
unfolding shown
shown-lines level l ls = join-ended (moved_in level l) (map (moved_in level) ls)
