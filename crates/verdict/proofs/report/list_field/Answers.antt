-- `verdict::report::list_field` meets its contract: no verdict, one that disagrees, or another one. Assumes nothing.
use mathlib.Core.Path.{sym, ◌∙◌}
use Rattle.nodes.specs.Index.{sheet_of}
use Rattle.verdict.proofs.VerdictLaws.{group-verdict}
use Rattle.verdict.proofs.ListLaws.{sorts-none, sorts-first, sorts-second, judged-none, judged-one, slot-name}
use Rattle.verdict.proofs.report.list_field.Goals as goal

pub returns-in_default : goal.returns-in_default
returns-in_default c = λ nodes x at e h i.
    rw (judged-none (sheet_of c.args.source.now.root.now nodes) at
    (group-verdict c.args.source.now.bytes.now _ at c.in_default.field-0-1 (rw c.in_default.is-1 at h)))
    (sorts-none c.args.first.now c.args.second.now c.args.sorted)

pub returns-in_default-2 : goal.returns-in_default-2
returns-in_default-2 c = λ nodes x at e h i.
    rw (judged-none (sheet_of c.args.source.now.root.now nodes) at
    (sym c.in_default.is-0 ∙ c.verdict_of.ensures nodes x at e h))
    (sorts-none c.args.first.now c.args.second.now c.args.sorted)

pub returns-then-disagrees : goal.returns-then-disagrees
returns-then-disagrees c = λ nodes x at e h i.
    rw (judged-one (sheet_of c.args.source.now.root.now nodes) at c.in-Some-Slot.verdict c.args.node.id c.name-name.result.now
    (sym c.in-Some-Slot.is-0 ∙ c.verdict_of.ensures nodes x at e h) i
    (slot-name c.args.source.now.bytes.now at.1 c.in-Some-Slot.slot c.name-name.result.now (rw c.in-Some-Slot.is-1 at h)
    c.name-name.ensures.name))
    (sorts-first _ c.args.first.now c.args.second.now c.args.sorted _ _ (sym c.disagrees.ensures ∙ c.if-disagrees.true)
    c.slot.ensures)

pub returns : goal.returns
returns c = λ nodes x at e h i.
    rw (judged-one (sheet_of c.args.source.now.root.now nodes) at c.in-Some-Slot.verdict c.args.node.id c.name-name.result.now
    (sym c.in-Some-Slot.is-0 ∙ c.verdict_of.ensures nodes x at e h) i
    (slot-name c.args.source.now.bytes.now at.1 c.in-Some-Slot.slot c.name-name.result.now (rw c.in-Some-Slot.is-1 at h)
    c.name-name.ensures.name))
    (sorts-second _ c.args.first.now c.args.second.now c.args.sorted _ _ (sym c.disagrees.ensures ∙ c.if-disagrees.false)
    c.slot-2.ensures)
