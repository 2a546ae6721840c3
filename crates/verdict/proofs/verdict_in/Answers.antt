-- `verdict::verdict_in` meets its contract: no node, or the verdict of a field. Assumes nothing.
use mathlib.Core.Path.{◌≡◌, sym, ap, ◌∙◌}
use Rattle.terms.specs.declared.refusals.Refusal.TheVariants.{NotThere}
use Rattle.std.specs.Option.{ok_or}
use Rattle.requests.specs.Requests.{there}
use Rattle.verdict.specs.Told.{verdict_said}
use Rattle.verdict.proofs.VerdictLaws.{verdict_there, no-node, field-told}
use Rattle.verdict.proofs.verdict_in.Goals as goal

pub returns-in_default-2 : goal.returns-in_default-2
returns-in_default-2 c = λ nodes x o is.
    no-node c.args.source.now.bytes.now nodes c.args.source.now.index.now x c.args.node o _
    (sym c.in_default.is-0 ∙ c.nth.ensures)

pub returns : goal.returns
returns c = λ nodes x o is.
    let answer : c.ok_or.result ≡ ok_or c.verdict_of.result NotThere = c.ok_or.ensures.value in
    field-told c.args.source.now.bytes.now nodes c.args.source.now.index.now x c.args.node o _ _ _
    (sym c.in-Some-Some.is-0 ∙ c.nth.ensures) (rw c.in-Some-Some.is-1 at is) _
    (λ at e h. ap verdict_said answer ∙ verdict_there c.verdict_of.result ∙ ap there (c.verdict_of.ensures nodes x at e h))
