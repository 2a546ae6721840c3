-- `requests::slot_accessor` meets its contract, accessor by accessor. Assumes nothing.
use mathlib.Core.Path.{refl}
use Rattle.text.proofs.Laws.{some-text}
use Rattle.codegen_types.proofs.WrittenLaws.{whole, refused-text}
use Rattle.codegen.specs.Haser.{haser_request}
use Rattle.requests.specs.Requests.{accessor_text}
use Rattle.requests.proofs.FieldLaws.{slot_accessor, slot-no-zeroing}
use Rattle.requests.proofs.slot_accessor.Goals as goal

pub returns-in-TypeText-clause-text : goal.returns-in-TypeText-clause-text
returns-in-TypeText-clause-text c = λ nodes x at e h. rw c.in-TypeText.is (c.type_text.ensures.text _ nodes x at e h)

pub returns-in-Getter-clause-text : goal.returns-in-Getter-clause-text
unfolding accessor_text
returns-in-Getter-clause-text c = λ nodes x at e h.
    rw c.in-Getter.is
    (slot_accessor c.args.source.now.bytes.now at.1 c.args.slot _ h (λ f here. c.getter.ensures.text nodes x f here))

pub returns-in-Setter-clause-text : goal.returns-in-Setter-clause-text
unfolding accessor_text
returns-in-Setter-clause-text c = λ nodes x at e h.
    rw (c.in-Setter.is, e) (slot_accessor c.args.source.now.bytes.now at.1 c.args.slot _ h
    (λ f here. c.setter.ensures.text nodes x f here))

pub returns-in-PairedSetter-clause-text : goal.returns-in-PairedSetter-clause-text
unfolding accessor_text
returns-in-PairedSetter-clause-text c = λ nodes x at e h.
    rw (c.in-PairedSetter.is, e) (slot_accessor c.args.source.now.bytes.now at.1 c.args.slot _ h
    (λ f here. c.setter-in-PairedSetter.ensures.text nodes x f here))

pub returns-in-Haser-clause-text : goal.returns-in-Haser-clause-text
unfolding accessor_text haser_request
returns-in-Haser-clause-text c = λ nodes x at e h.
    rw (c.in-Haser.is, e) (slot_accessor c.args.source.now.bytes.now at.1 c.args.slot _ h (λ f here. whole
    (rw (here.discriminant, here.slot.kind, here.slot.offset, ← c.name-name.ensures.name f here) c.haser.ensures.lines)))

pub returns-in-Haser-clause-within : goal.returns-in-Haser-clause-within
returns-in-Haser-clause-within c = some-text c.haser.ensures.lines

pub returns-in-Zeroing-clause-text : goal.returns-in-Zeroing-clause-text
unfolding accessor_text
returns-in-Zeroing-clause-text c = λ nodes x at e h.
    rw c.in-Zeroing.is (slot-no-zeroing c.args.source.now.bytes.now at.1 c.args.slot _ h (refused-text refl))
