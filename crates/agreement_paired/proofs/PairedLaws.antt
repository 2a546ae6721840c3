-- The paired setter, from what runs of the entry left. A getter that is given shows the default to be of the slot's kind, so that
-- both masks are the default's bits, and exclusive or by the same bits twice gives the value back. Assumes nothing.
use Rattle.std.specs.Prelude.{◌≡◌, ℕ, Some}
use mathlib.Core.Path.{refl, ap, ◌∙◌}
use Rattle.text.specs.Bytes.{Str}
use Rattle.text.specs.Lines.{stringify}
use Rattle.names.specs.Names.{camel_to_snake_case}
use Rattle.tree.specs.Tree as arm
use Rattle.tree.specs.Tree.{Arm}
use Rattle.codegen_types.specs.Out.{ok, ◌then◌}
use Rattle.codegen.specs.Profiles.{paired_mask}
use Rattle.codegen.specs.Setter.{setter_functions, generate_setter, setter_request}
use Rattle.record.specs.Masks.{get_mask}
use Rattle.meaning.specs.Claims.{setter_leaves}
use Rattle.meaning.proofs.LevelLaws.{setter-alike}
use Rattle.meaning.proofs.MaskLaws.{get_mask_bits, xor_twice}
use Rattle.requests.specs.Requests.{accessor_text, slot_named, slot_setter}
use Rattle.requests.proofs.LevelLaws.{setter-levels}
use Rattle.requests.specs.declared.Accessor.TheVariants.{PairedSetter}
use Rattle.agreement.specs.Slots.{Generated, Ran, SlotAt, tag_at, place_at, is_explicit}
use Rattle.agreement.proofs.AloneLaws.{get-fits, own_fits, set-by}
use Rattle.agreement.proofs.ClaimLaws.{accessor-given, accessor-generated, getter-text, own_default-holds, means-by, left-by}
use Rattle.agreement.proofs.ClaimLaws.{read-by}
use Rattle.agreement.proofs.GetterLaws.{type-given}
use Rattle.agreement.proofs.LevelLaws.{Flat, flat}
use Rattle.agreement.proofs.SheetLaws.{bounds}
use Rattle.agreement_paired.specs.Paired.{PairedGivenHolds, PairedSet, PairedSetHolds, PairedMeansHolds, PairedSetGetHolds}
use Rattle.agreement_paired.proofs.GivenLaws.{parts-given}
use Rattle.agreement_paired.proofs.MaskLaws.{paired_is}

module _ {s : Str} {id place : ℕ} (a : SlotAt s id place) where
  -- the text of a paired setter, at the level of the run
  paired-text : (w : Str) → Ran s id place PairedSetter w
      → Flat (setter_request paired_mask a.tree a.node.tag_offset a.field.name a.field.discriminant a.slot) w
  unfolding accessor_text
  paired-text w x =
      flat _ _ (setter-levels paired_mask a.tree a.node.tag_offset a.field.name a.field.discriminant a.slot) x.state.level w
      (rw a.is-slot at (accessor-given a PairedSetter w x))

  -- and a text of the slot's request is generated
  generated-of : (level : ℕ) (w : Str)
      → setter_request paired_mask a.tree a.node.tag_offset a.field.name a.field.discriminant a.slot level ≡ ok w
      → Generated s id place PairedSetter level w
  unfolding accessor_text
  generated-of level w e = accessor-generated a PairedSetter level w (by-arm a.field.arm a.is-slot)
    where
      by-arm : (x : Arm) → x ≡ arm.slot a.slot
          → (slot_named a.field.name a.field.discriminant x then slot_setter paired_mask a.tree a.node.tag_offset level) ≡ ok w
      by-arm x h = rw h e

pub paired_set-holds : PairedSetHolds
paired_set-holds s id place a k w v r c =
    let t = paired-text a w c.setter in
    let d = a.slot.default.bits in
    let e = is_explicit a.slot in
    setter-alike t.alike v r
    ∙ set-by a k c.has-bits paired_mask (get_mask k d e) (get-fits k d e (own_fits a k c.has-bits c.own_default))
    (paired_is a.slot k c.has-bits (bounds a).flag c.own_default) c.own_default t.text t.is v r
    ∙ ap (λ (m : ℕ). setter_leaves (tag_at a) (place_at a k) v m r) (get_mask_bits k d e)

pub paired_means-holds : PairedMeansHolds
paired_means-holds s id place a k w v r c =
    means-by a k w v a.slot.default.bits r (paired_set-holds s id place a k w v r c)

pub paired_set-get-holds : PairedSetGetHolds
paired_set-get-holds s id place a k w is_reader is_fn g v r c =
    let own = own_default-holds s id place a is_reader is_fn g c.getter in
    let setter : PairedSet a k w = record { has-bits = c.has-bits; own_default = own; setter = c.setter } in
    let leaves = paired_set-holds s id place a k w v r setter in
    let d = a.slot.default.bits in
    let run = (means-by a k w v d r leaves).0 c.long c.tag_long in
    let x = left-by a k w v d r leaves c.value (own_fits a k c.has-bits own) run in
    record {
      left = run.0;
      runs = run.1;
      answers = read-by a k is_reader is_fn g v d r run.0 c.has-bits c.getter x ∙ ap Some (xor_twice v d);
      same = x.same;
      tagged = x.tagged c.clear;
    }

-- where a getter is given the type has a text, and the default is of the slot's kind, so that there is a mask, or none is needed
pub paired_given-holds : PairedGivenHolds
unfolding setter_request generate_setter
paired_given-holds s id place a is_reader is_fn g x level =
    let own = own_default-holds s id place a is_reader is_fn g x in
    let t = getter-text a is_reader is_fn g x in
    let i = type-given a.tree a.field.name a.slot is_reader is_fn t.text t.is in
    let p = parts-given a.tree a.slot own is_reader i in
    let name = camel_to_snake_case a.field.name in
    let w = stringify (setter_functions a.tree.root a.node.tag_offset name a.field.discriminant p.0) level in
    (w, generated-of a level w (rw p.1 refl))
