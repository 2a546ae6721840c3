-- `row::text` meets its contract: the row at the position ends where `row_end` says. Assumes nothing.
use mathlib.Core.Path.{ap, ◌∙◌}
use Rattle.row.specs.Span.{spanned}
use Rattle.row.specs.declared.Span.{Span}
use Rattle.row.proofs.Laws.{row-bounds}
use Rattle.row.proofs.SpanLaws.{to_text}
use Rattle.row.proofs.text.Goals as goal

pub span_to-start-requires : goal.span_to-start-requires
span_to-start-requires c = row-bounds c.args.s.now c.args.at _ c.if-s-at.false c.row_end.ensures

pub returns : goal.returns
returns c =
    let a = c.args in
    let b = row-bounds a.s.now a.at _ c.if-s-at.false c.row_end.ensures in
    ap (λ (p : Span). spanned a.s.now p) c.span_to-start.ensures.is
    ∙ to_text a.s.now a.at _ b.0 b.1 c.row_end.ensures
