-- What the program `verdicts` prints of a sheet: a line for each slot with bits, those of disagreeing slots first, and how many
-- there are. Assumes nothing.
use Rattle.std.specs.List.{filter, flat_map}
use Rattle.std.specs.Prelude.{Bool, true, false, not, List, [], ◌∷◌, ◌++◌, ℕ, length, Option, None, Some}
use Rattle.text.specs.Bytes.{Str, ascii}
use Rattle.text.specs.Decimal.{decimal}
use Rattle.tree.specs.Tree.{Field, Node, Sheet}
use Rattle.tree.specs.Read as read
use Rattle.tree.specs.Read.{Admitted}
use Rattle.verdict.specs.Verdict.{verdict_of}
use Rattle.verdict.specs.declared.Verdict.{Verdict}
use Rattle.verdict.specs.declared.Verdict.TheVariants.{Agree, SignFlipped, CombinedWithDefault, NotBothGenerated}

-- a slot with bits: the id of its node, its name, and its verdict
pub record Judged : Type 0 where
  pub node : ℕ
  pub name : Str
  pub verdict : Verdict

abbrev pub judged_by : Node → Field → Option Verdict → List Judged
judged_by n f None = []
judged_by n f (Some v) = record { node = n.id; name = f.name; verdict = v } ∷ []

-- a field of a node, if it has a verdict; and those of all fields of all nodes, in the sheet's order
unfoldable pub judged : Sheet → Node → Field → List Judged
judged sheet n f = judged_by n f (verdict_of sheet (n, f))

abbrev pub node_judged : Sheet → Node → List Judged
node_judged sheet n = flat_map (judged sheet n) n.fields

abbrev pub all_judged : Sheet → List Judged
all_judged sheet = flat_map (node_judged sheet) sheet.nodes

-- setter and getters are generated, and a value is not read as it was written
abbrev pub disagrees : Verdict → Bool
disagrees Agree = false
disagrees SignFlipped = true
disagrees CombinedWithDefault = true
disagrees NotBothGenerated = false

abbrev pub disagreeing : List Judged → List Judged
disagreeing = filter (λ j. disagrees j.verdict)

abbrev pub others : List Judged → List Judged
others = filter (λ j. not (disagrees j.verdict))

abbrev pub verdict_text : Verdict → Str
verdict_text Agree = ascii "agree"
verdict_text SignFlipped = ascii "sign flipped"
verdict_text CombinedWithDefault = ascii "combined with the default"
verdict_text NotBothGenerated = ascii "not both generated"

unfoldable pub judged_line : Judged → Str
judged_line j =
    ascii "node " ++ decimal j.node ++ ascii " " ++ j.name ++ ascii ": " ++ verdict_text j.verdict ++ ascii "\n"

abbrev pub judged_lines : List Judged → Str
judged_lines = flat_map judged_line

-- how many slots there are, and how many of them disagree
unfoldable pub tally : ℕ → ℕ → Str
tally slots disagree = decimal slots ++ ascii " slots, " ++ decimal disagree ++ ascii " disagree\n"

-- a refused sheet, as the program `accessors` prints it
unfoldable pub refusal_text : ℕ → ℕ → ℕ → Str
refusal_text k line column =
    ascii "refused " ++ decimal k ++ ascii " line " ++ decimal line ++ ascii " column " ++ decimal column ++ ascii "\n"

-- The report is written in two parts: the lines of disagreeing slots, and all that stands behind them.
abbrev pub first_part : Admitted → Str
first_part (read.sheet sheet) = judged_lines (disagreeing (all_judged sheet))
first_part (read.refused k line column) = []

abbrev pub second_part : Admitted → Str
second_part (read.sheet sheet) =
    judged_lines (others (all_judged sheet))
    ++ tally (length (all_judged sheet)) (length (disagreeing (all_judged sheet)))
second_part (read.refused k line column) = refusal_text k line column

abbrev pub report_text : Admitted → Str
report_text a = first_part a ++ second_part a
