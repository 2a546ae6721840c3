-- What a level of indentation does to a text of lines: it moves in each line but a `BlankLine`, and leaves no lines as they are.
-- Assumes nothing.
use Rattle.std.specs.Prelude.{◌≡◌, List, [], ◌∷◌, ◌++◌, map, ℕ, ◌+◌, ◌*◌}
use Rattle.text.specs.Bytes.{Str, unit}
use Rattle.text.specs.Lines.{FormattedText, FormattedTexts, Indent, Branch, Line, BlankLine, none, ◌&◌}
use Rattle.text.specs.Lines.{spaces, margin, join, stringify}

-- A line of a text as it stands at level 0. Lines are those of `to_lines`: no line begins behind a byte 10 inside a `Line`.
pub data Laid : Type 0 where
  blank : Laid
  line : Str → Laid

-- `to_lines`, by which of its lines are `BlankLine`s
unfoldable mutual
  pub laid_out : FormattedText → ℕ → List Laid
  laid_out (Indent ft) indent = laid_out ft (indent + 1)
  laid_out (Branch fts) indent = all_laid_out fts indent
  laid_out (Line s) indent = line (spaces (indent * 4) ++ s) ∷ []
  laid_out BlankLine indent = blank ∷ []

  pub all_laid_out : FormattedTexts → ℕ → List Laid
  all_laid_out none indent = []
  all_laid_out (ft & fts) indent = laid_out ft indent ++ all_laid_out fts indent

-- such a line at a level: a `BlankLine` has no bytes, and any other line has the level's spaces in front
abbrev pub moved_in : ℕ → Laid → Str
moved_in level blank = []
moved_in level (line l) = margin level ++ l

-- a text of such lines at a level
unfoldable pub shown : ℕ → List Laid → Str
shown level ls = join (unit 10) (map (moved_in level) ls) ++ unit 10

-- The text at a level is the text at level 0 with four spaces for each level in front of every line that is no `BlankLine`; a
-- text of no lines stays one newline.
abbrev pub StringifyMovesHolds : Type 0
StringifyMovesHolds = (ft : FormattedText) (level : ℕ) → stringify ft level ≡ shown level (laid_out ft 0)
