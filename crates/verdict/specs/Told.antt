-- What is told of a field's verdict, in every sheet whose nodes the index has. Assumes nothing.
use Rattle.std.specs.Prelude.{◌≡◌, ℕ, Option, Result, Ok, Err}
use Rattle.terms.specs.Refusals.{number}
use Rattle.terms.specs.declared.refusals.Refusal.{Refusal}
use Rattle.tree.specs.Tree as tree
use Rattle.codegen_types.specs.Out.{Out, ok, refused}
use Rattle.nodes.specs.Index.{InSource}
use Rattle.nodes.specs.declared.Source.{Source}
use Rattle.field.specs.Field.{FindsField}
use Rattle.field.specs.declared.Field.{Field}
use Rattle.verdict.specs.Verdict.{verdict_in}
use Rattle.verdict.specs.declared.Verdict.{Verdict}

-- what the code answers: a verdict, or the papers' number of its refusal
abbrev pub verdict_said : Result Verdict Refusal → Out Verdict
verdict_said (Ok v) = ok v
verdict_said (Err e) = refused (number e)

-- the verdict of a field that was read, in the node with a number
abbrev pub VerdictTold : Source → ℕ → Option Field → Result Verdict Refusal → Type 0
VerdictTold x number f r =
    InSource x (λ sheet. (o : Option tree.Field) → FindsField x.bytes.now f o → verdict_said r ≡ verdict_in sheet number o)
