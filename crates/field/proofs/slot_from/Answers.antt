-- `field::slot_from` meets its contract: the slot's rows, one after the other; without a V row, or with words that are refused,
-- there is no slot. Assumes nothing.
use mathlib.Core.Path.{refl, sym, ap, ◌∙◌}
use native.Mathlib.Omega.{arith}
use Rattle.std.specs.Prelude.{None, Ok}
use Rattle.field.specs.Parts.{SlotRead}
use Rattle.field.proofs.SlotLaws.{slot-no-value, slot-bad-value, slot-no-words, words-ok, slot-told}
use Rattle.field.specs.declared.Slot.{Slot}
use Rattle.field.proofs.slot_from.Goals as goal

pub returns-in_default-clause-is : goal.returns-in_default-clause-is
returns-in_default-clause-is c = λ after.
    let a = c.args in
    slot-no-value a.s.now a.typ c.type_span-span.result c.type_span-span.ensures.is _ _ _
    (SlotRead a.s.now None a.at a.discriminant) c.in_default.field-0 (rw c.in_default.is at c.next-value.ensures.line_value)
    (λ e. grind arith)

pub returns-in_default-2-clause-is : goal.returns-in_default-2-clause-is
returns-in_default-2-clause-is c = λ after.
    let a = c.args in
    slot-bad-value a.s.now a.typ c.type_span-span.result c.type_span-span.ensures.is _ _ _
    (SlotRead a.s.now None a.at a.discriminant) c.in_default.field-0 (rw c.in_default.is at c.next-value.ensures.line_value)

pub returns-in_err-words-clause-is : goal.returns-in_err-words-clause-is
returns-in_err-words-clause-is c =
    let a = c.args in
    let v = c.next-value.ensures in
    let w = c.in-Ok-Value in
    let here = rw (w.is ∙ ap Ok (rw w.is at w.field-0-is)) at v.line_value in
    rw c.from_residual.ensures
    (λ after. slot-no-words a.s.now a.typ c.type_span-span.result c.type_span-span.ensures.is _ _ _ _ _ _
    (SlotRead a.s.now None a.at a.discriminant) _ c.words_from.result here v.s_value c.has_words.ensures c.words_from.ensures
    (sym c.in_err-words.ensures.value))

pub returns : goal.returns
returns c =
    let a = c.args in
    let t = c.type_span-span in
    let v = c.next-value in
    let w = c.in-Ok-Value in
    let n = c.in_ok-words.words in
    let here = rw (w.is ∙ ap Ok (rw w.is at w.field-0-is)) at v.ensures.line_value in
    let r : Slot = record {
      offset = a.offset;
      discriminant = a.discriminant;
      explicit = a.explicit;
      option = a.option;
      kind = t.result.kind;
      id = t.result.id;
      default = w.default;
      bits = w.bits;
      at = a.at;
      typ = a.typ;
      words = v.result.next;
      count = n.count;
      next = n.next;
    } in
    let counted = rw (words-ok c.words_from.result n (sym c.in_ok-words.ensures.value)) at c.words_from.ensures in
    let told = slot-told a.s.now r t.result t.ensures.is refl refl here v.ensures.s_value _ c.has_words.ensures counted
    t.ensures.fewer in
    record { is = told.0; fewer = told.1 }
