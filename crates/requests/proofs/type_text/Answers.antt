-- `requests::type_text` meets its contract: the margin and a leaf's text, or 15 where none is named. Assumes nothing.
use mathlib.Core.Path.{refl}
use Rattle.text.proofs.Laws.{some-text}
use Rattle.codegen_types.proofs.WrittenLaws.{refused-text}
use Rattle.codegen.proofs.AroundLaws.{within-behind}
use Rattle.requests.specs.Requests.{accessor_text}
use Rattle.requests.proofs.FieldLaws.{slot-type, slot-no-leaf}
use Rattle.requests.proofs.type_text.Goals as goal

pub returns-in_default-clause-text : goal.returns-in_default-clause-text
unfolding accessor_text
returns-in_default-clause-text c = λ tag nodes x at e h.
    rw c.in_default.is (slot-no-leaf c.args.source.now.bytes.now at.1 _ _ _ h (refused-text refl))

pub returns-clause-text : goal.returns-clause-text
unfolding accessor_text
returns-clause-text c = λ tag nodes x at e h.
    rw c.in-Some.is
    (slot-type c.args.source.now.bytes.now at.1 _ _ _ _ h c.margin-t.ensures.lines (c.type_string.ensures.text nodes x))

pub returns-clause-within : goal.returns-clause-within
returns-clause-within c = within-behind _ _ (some-text c.margin-t.ensures.lines) c.type_string.ensures.within
