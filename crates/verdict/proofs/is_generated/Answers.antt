-- `verdict::is_generated` meets its contract: what is measured is generated. Assumes nothing.
use mathlib.Core.Path.{◌≡◌, ◌∙◌}
use Rattle.std.specs.Result.{is_ok}
use Rattle.nodes.specs.Index.{sheet_of}
use Rattle.requests.specs.Requests.{accessor_text}
use Rattle.verdict.specs.Verdict.{is_generated}
use Rattle.verdict.proofs.VerdictLaws.{measured-given}
use Rattle.verdict.proofs.is_generated.Goals as goal

pub returns : goal.returns
unfolding is_generated
returns c = λ nodes x at e h.
    let ok : c.is_ok.result ≡ is_ok c.measure.result = c.is_ok.ensures.value in
    ok
    ∙ (measured-given (accessor_text (sheet_of c.args.source.now.root.now nodes) at c.args.accessor 0) _
    (c.measure.ensures nodes x at e h))
