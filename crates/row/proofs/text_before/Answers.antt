-- `row::text_before` meets its contract: the bytes of the text's span. Assumes nothing.
use mathlib.Core.Path.{ap}
use Rattle.row.specs.Span.{spanned}
use Rattle.row.specs.declared.Span.{Span}
use Rattle.row.proofs.text_before.Goals as goal

pub returns : goal.returns
returns c =
    let told = c.text_span-start.ensures in
    record { text = told.text; is = ap (λ (p : Span). spanned c.args.s.now p) told.is }
