-- `row::text_span` meets its contract: where no row stands, or the next would not begin after it, the span is empty. Assumes
-- nothing.
use Rattle.row.proofs.SpanLaws.{between_none, between_told}
use Rattle.row.proofs.text_span.Goals as goal

pub returns-then-e-at-clause-text : goal.returns-then-e-at-clause-text
returns-then-e-at-clause-text c = (between_told _ _ _ _ (between_none _ _ _ _ c.min-e.ensures c.if-e-at.true)).1.0
