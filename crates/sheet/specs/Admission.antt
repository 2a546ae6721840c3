-- What the answer of admission says of a sheet and its tree, and of the index. Assumes nothing.
use Rattle.std.specs.Prelude.{List, ℕ, ⊤, Option, None, Some, Result, Ok, Err}
use Rattle.text.specs.Bytes.{Str}
use Rattle.terms.specs.Refusals.{number}
use Rattle.tree.specs.Read.{Admitted, sheet, refused}
use Rattle.nodes.specs.Index.{Indexed}
use Rattle.sheet.specs.declared.Refused.{Refused}

-- the number, the line and the column of the refusal that an answer of the code gives, if it gives one
abbrev pub answer_numbers : Result ⊤ Refused → Option (ℕ × ℕ × ℕ)
answer_numbers (Ok u) = None
answer_numbers (Err r) = Some (number r.refusal, r.line, r.column)

-- the same for what is refused; none for a sheet
abbrev pub refusal_in : Admitted → Option (ℕ × ℕ × ℕ)
refusal_in (sheet sh) = None
refusal_in (refused k l c) = Some (k, l, c)

-- the index holds the nodes of the tree, if there is one
abbrev pub IndexOf : Str → Admitted → List ℕ → Type 0
IndexOf s (sheet sh) x = Indexed s sh.nodes x
IndexOf s (refused k l c) x = Unit {0}
