-- `sheet::read` meets its contract: each return is one law of AdmitLaws. Assumes nothing.
use mathlib.Core.Path.{ap, ◌∙◌}
use native.Mathlib.Omega.{arith}
use Rattle.std.specs.Prelude.{Ok}
use Rattle.tree.proofs.ElseLaws.{other-than}
use Rattle.tree.proofs.WalkLaws.{walked_wrong}
use Rattle.sheet.proofs.AdmitLaws.{no-root, sheet-read}
use Rattle.sheet.proofs.read.Goals as goal

pub returns-in_default : goal.returns-in_default
returns-in_default c =
    rw c.wrong_at.ensures
    (no-root _ c.requires _ c.next-row.ensures.line_value _ (other-than 0 c.next-row.result.line (λ f e h. grind arith)) _
    (walked_wrong c.args.s.now 82 0 c.next-row.result.line))

pub returns : goal.returns
returns c =
    let g = c.next-row.ensures in
    let w = c.in-Ok-Root in
    let f = rw w.is at w.field-0-is in
    sheet-read _ c.requires _ g.line_value _ (w.is ∙ ap Ok f) _ g.s_value _ c.all_nodes.ensures
