-- `requests::locate` meets its contract: no node, no field, or both. Assumes nothing.
use mathlib.Core.Path.{sym, ◌∙◌}
use Rattle.requests.proofs.FieldLaws.{located, no-field, no-node}
use Rattle.requests.proofs.locate.Goals as goal

pub returns-in_err-node : goal.returns-in_err-node
returns-in_err-node c = λ x is.
    rw (is.bytes-are, is.index-is) (λ nodes d.
    rw c.from_residual.ensures (no-node _ _ nodes _ _ d (sym c.in_err-node.was ∙ c.find.ensures)))

pub returns-in_err-field : goal.returns-in_err-field
returns-in_err-field c = λ x is.
    rw (is.bytes-are, is.index-is) (λ nodes d.
    rw c.from_residual-in_err-field.ensures
    (no-field _ _ nodes _ _ d _ (sym c.in_ok-node.was ∙ c.find.ensures) (rw c.in_err-field.was at c.at_place.ensures.found)))

pub returns : goal.returns
returns c = λ x is.
    rw (is.bytes-are, is.index-is) (λ nodes d.
    located _ _ nodes _ _ d _ _ (sym c.in_ok-node.was ∙ c.find.ensures) (rw c.in_ok-field.was at c.at_place.ensures.found))
