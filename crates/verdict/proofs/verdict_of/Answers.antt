-- `verdict::verdict_of` meets its contract: by what was read of the field, one law of VerdictLaws. Assumes nothing.
use mathlib.Core.Path.{sym, ◌∙◌}
use Rattle.verdict.proofs.VerdictLaws.{group-verdict, no-bits, setter-refused, getter-refused, both_generated}
use Rattle.verdict.proofs.verdict_of.Goals as goal
use Rattle.verdict.proofs.verdict_of.Goals.{then-not-is_generated-via-then-not-is_generated}
use Rattle.verdict.proofs.verdict_of.Goals.{then-not-is_generated-via-else-not-is_generated+then-not-is_generated-2}

pub returns-in_default : goal.returns-in_default
returns-in_default c = λ nodes x at e h.
    group-verdict c.args.source.now.bytes.now _ at c.in_default.field-0 (rw c.in_default.is at h)

pub returns-then-not-has_bits : goal.returns-then-not-has_bits
returns-then-not-has_bits c = λ nodes x at e h.
    no-bits c.args.source.now.bytes.now _ at c.in-Slot.slot (rw c.in-Slot.is at h)
    (sym c.has_bits.ensures ∙ c.if-not-has_bits.true)

pub returns-then-not-is_generated : goal.returns-then-not-is_generated
returns-then-not-is_generated c = λ nodes x at e h.
    elim c.then-not-is_generated.branch [
      | then-not-is_generated-via-then-not-is_generated w ↦
          setter-refused c.args.source.now.bytes.now _ at c.in-Slot.slot (rw c.in-Slot.is at h)
          (sym c.has_bits.ensures ∙ c.if-not-has_bits.false)
          (sym (c.is_generated.ensures nodes x at e h) ∙ w.if-not-is_generated.true)
      | then-not-is_generated-via-else-not-is_generated+then-not-is_generated-2 w ↦
          getter-refused c.args.source.now.bytes.now _ at c.in-Slot.slot (rw c.in-Slot.is at h)
          (sym c.has_bits.ensures ∙ c.if-not-has_bits.false)
          (sym (w.is_generated-else-not-is_generated.ensures nodes x at e h) ∙ w.if-not-is_generated-2.true)
    ]

pub returns : goal.returns
returns c = λ nodes x at e h.
    rw c.masks_verdict.ensures
    (both_generated c.args.source.now.bytes.now _ at c.in-Slot.slot (rw c.in-Slot.is at h)
    (sym c.has_bits.ensures ∙ c.if-not-has_bits.false)
    (sym (c.is_generated.ensures nodes x at e h) ∙ c.if-not-is_generated.false)
    (sym (c.is_generated-else-not-is_generated.ensures nodes x at e h) ∙ c.if-not-is_generated-2.false))
