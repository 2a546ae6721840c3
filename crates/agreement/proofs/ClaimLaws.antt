-- The claims, from what runs of the entry left: the bytes are a text that `codegen` gives, for the slot that stands at the place.
-- At a level above 0 it does what that at level 0 does. Set and get follows from what a setter alone leaves, with whatever mask,
-- and what a getter alone answers. Assumes nothing.
use Rattle.std.specs.Prelude.{◌≡◌, ℕ, ◌^◌, ◌<◌, Bool}
use mathlib.Core.Path.{refl, sym, ap, ◌∙◌}
use Rattle.std.specs.Prelude.{Option, None, Some}
use lib.Bits.{bit_xor}
use lib.Pow.{pow_pos}
use Rattle.text.specs.Bytes.{Str}
use Rattle.names.specs.Names.{camel_to_snake_case}
use Rattle.tree.specs.Tree.{kind}
use Rattle.codegen_types.specs.Out.{Out, ok, refused}
use Rattle.codegen.specs.Getter.{getter_request}
use Rattle.codegen.specs.Haser.{generate_haser, haser_request}
use Rattle.codegen.specs.Profiles.{present_mask}
use Rattle.codegen.specs.Setter.{setter_request}
use Rattle.record.specs.Lines.{Tag}
use Rattle.record.specs.Masks.{set_mask}
use Rattle.record.specs.Record.{Record, Holds}
use Rattle.record.specs.Types.{Kind, slot_bits, kind_of, tag_place}
use Rattle.record.specs.declared.PointerOffset.{PointerOffset}
use Rattle.record.proofs.RecordLaws.{get-past, put-held, null-past}
use Rattle.meaning.specs.Claims.{TagHolds, setter_leaves, void_leaves, SetterLeft}
use Rattle.meaning.specs.Meaning.{run_setter, run_getter, run_haser}
use Rattle.meaning.proofs.HaserLaws as meaning
use Rattle.meaning.proofs.LevelLaws.{setter-alike, getter-alike, haser-alike}
use Rattle.meaning.proofs.MaskLaws.{slot-size, mask_below, get_mask_bits, expected-holds}
use Rattle.meaning.proofs.SetLaws as setting
use Rattle.requests.specs.Requests.{accessor_text, gives, outcome}
use Rattle.requests.specs.Levels.{tree_laid}
use Rattle.requests.proofs.LevelLaws.{getter-levels, setter-levels, haser-levels}
use Rattle.requests.specs.declared.Accessor.{Accessor}
use Rattle.requests.specs.declared.Accessor.TheVariants.{Getter, Setter, Haser}
use Rattle.agreement.specs.Slots.{is_explicit, Generated, Ran, SlotAt, slot_kind, tag_at, place_at, setter_mask}
use Rattle.agreement.specs.Claims.{GetHolds, DefaultHolds, OwnDefaultHolds, SetCase, SetHolds, Means, SetMeansHolds}
use Rattle.agreement.specs.Claims.{NoMeaningHolds, SetGetHolds, VoidHolds, VoidMeansHolds, VoidSetHolds, HaserHolds}
use Rattle.agreement.specs.Claims.{TagPastHolds, HaserPastHolds, NoHaserHolds}
use Rattle.agreement.proofs.AnsweredLaws.{ran_generated}
use Rattle.agreement.proofs.GetterLaws.{own_default}
use Rattle.agreement.proofs.HaserLaws.{opening_of, whole-opening, haser-given, no-haser}
use Rattle.agreement.proofs.LevelLaws.{Flat, flat}
use Rattle.agreement.proofs.OutLaws.{ok-is}
use Rattle.agreement.proofs.AloneLaws.{set-fits, tag_fits-at, own_fits, get-alone, set-alone}
use Rattle.agreement.proofs.SetterLaws.{GivenVoid, void-given}
use Rattle.agreement.proofs.SheetLaws.{bounds}

-- a text that is given is no refusal
pub given-ok : (o : Out Str) (w : Str) → outcome o ≡ gives w → o ≡ ok w
given-ok (ok v) w e = let z : v ≡ w = cc in ap ok z
given-ok (refused k) w e = cc

module _ {s : Str} {id place : ℕ} (a : SlotAt s id place) where
  -- the text of an accessor of a slot's field, at the level of the run
  pub accessor-given : (accessor : Accessor) (w : Str) (x : Ran s id place accessor w)
      → accessor_text a.tree (a.node, a.field) accessor x.state.level ≡ ok w
  accessor-given accessor w x =
      given-ok (accessor_text a.tree (a.node, a.field) accessor x.state.level) w
      (rw (a.is-admitted, a.is_found) at (ran_generated s id place accessor w x))

  -- and such a text is generated
  pub accessor-generated : (accessor : Accessor) (level : ℕ) (w : Str)
      → accessor_text a.tree (a.node, a.field) accessor level ≡ ok w → Generated s id place accessor level w
  accessor-generated accessor level w e = rw (a.is-admitted, a.is_found) (ap outcome e)

  setter-text : (w : Str) → Ran s id place Setter w
      → Flat (setter_request present_mask a.tree a.node.tag_offset a.field.name a.field.discriminant a.slot) w
  unfolding accessor_text
  setter-text w x =
      flat _ _ (setter-levels present_mask a.tree a.node.tag_offset a.field.name a.field.discriminant a.slot) x.state.level w
      (rw a.is-slot at (accessor-given Setter w x))

  pub getter-text : (is_reader is_fn : Bool) (g : Str) → Ran s id place (Getter is_reader is_fn) g
      → Flat (getter_request a.tree a.field.name a.slot is_reader is_fn) g
  unfolding accessor_text
  getter-text is_reader is_fn g x =
      flat _ _ (getter-levels a.tree a.field.name a.slot is_reader is_fn) x.state.level g
      (rw a.is-slot at (accessor-given (Getter is_reader is_fn) g x))

  void-text : (w : Str) → slot_kind a ≡ 0 → (x : Ran s id place Setter w) → GivenVoid (tag_at a) (setter-text w x).text
  void-text w h x =
      let t = setter-text w x in
      void-given present_mask a.tree a.node.tag_offset a.field.name a.field.discriminant a.slot t.text (bounds a).named h t.is

  haser-given-at : (is_reader : Bool) (h : Str) (x : Ran s id place (Haser is_reader) h)
      → ok (haser_request a.node.tag_offset a.field.name a.field.discriminant a.slot is_reader x.state.level) ≡ ok h
  unfolding accessor_text
  haser-given-at is_reader h x = rw a.is-slot at (accessor-given (Haser is_reader) h x)

  haser-text : (is_reader : Bool) (h : Str) → Ran s id place (Haser is_reader) h
      → Flat (λ n. ok (haser_request a.node.tag_offset a.field.name a.field.discriminant a.slot is_reader n)) h
  haser-text is_reader h x =
      let name = camel_to_snake_case a.field.name in
      let ft = generate_haser a.node.tag_offset name a.field.discriminant (kind a.slot.ty) a.slot.offset is_reader in
      flat _ (ok (tree_laid ft)) (haser-levels a.node.tag_offset a.field.name a.field.discriminant a.slot is_reader)
      x.state.level h (haser-given-at is_reader h x)

-- ---- a getter alone, a setter alone

pub get_holds : GetHolds
get_holds s id place a k is_reader is_fn g r h x =
    let t = getter-text a is_reader is_fn g x in getter-alike t.alike r ∙ get-alone a k h is_reader is_fn t.text t.is r

pub own_default-holds : OwnDefaultHolds
own_default-holds s id place a is_reader is_fn g x =
    let t = getter-text a is_reader is_fn g x in sym (own_default a.tree a.field.name a.slot is_reader is_fn t.text t.is)

-- the default has the slot's width, so that zero bits under it read as the default
pub default-holds : DefaultHolds
default-holds s id place a k is_reader is_fn g r h x past =
    let fits = own_fits a k h (own_default-holds s id place a is_reader is_fn g x) in
    let n = slot-size k a.slot.offset in
    get_holds s id place a k is_reader is_fn g r h x
    ∙ ap Some (get-past (place_at a k) a.slot.default.bits r (rw n fits) past)

pub set_holds : SetHolds
set_holds s id place a k w v r c =
    let t = setter-text a w c.setter in setter-alike t.alike v r ∙ set-alone a k c.has-bits c.own_default t.text t.is v r

-- a text that writes v under the mask m to a slot of kind k, on the record r
module _ {s : Str} {id place : ℕ} (a : SlotAt s id place) (k : Kind) (w : Str) (v m : ℕ) (r : Record)
    (leaves : run_setter w v r ≡ setter_leaves (tag_at a) (place_at a k) v m r) where
  pub means-by : (Holds (place_at a k) r → TagHolds (tag_at a) r → Means w v r)
      × (Means w v r → Holds (place_at a k) r × TagHolds (tag_at a) r)
  means-by =
      let means = setting.setter_means (tag_at a) (place_at a k) v m r in
      ((λ long tag_long. let x = means.0 long tag_long in (x.0, leaves ∙ x.1)), λ m. means.1 m.0 (sym leaves ∙ m.1))

  -- what it leaves, where it has a meaning, by the one law of what a setter leaves
  pub left-by : v < 2 ^ slot_bits k → m < 2 ^ slot_bits k → (x : Means w v r)
      → SetterLeft (tag_at a) (place_at a k) v m r x.0
  left-by value fits x =
      let n = slot-size k a.slot.offset in
      setting.setter-leaves (tag_at a) (place_at a k) v m r x.0 (tag_fits-at a) (rw n value) (rw n fits) (sym leaves ∙ x.1)

pub set_means_holds : SetMeansHolds
set_means_holds s id place a k w v r c = means-by a k w v (setter_mask a k) r (set_holds s id place a k w v r c)

-- the getter is given, so the default is of the slot's kind; a run that leaves no record has no meaning
pub no_meaning_holds : NoMeaningHolds
no_meaning_holds s id place a k w is_reader is_fn g v r bits setter getter =
    (λ past. go past (run_setter w v r) refl, λ e held. let m = means.0 held.0 held.1 in cc)
  where
    means : (Holds (place_at a k) r → TagHolds (tag_at a) r → Means w v r)
        × (Means w v r → Holds (place_at a k) r × TagHolds (tag_at a) r)
    means =
        let own = own_default-holds s id place a is_reader is_fn g getter in
        set_means_holds s id place a k w v r (record { has-bits = bits; own_default = own; setter = setter })

    go : (Holds (place_at a k) r × TagHolds (tag_at a) r → ⊥) → (o : Option Record) → run_setter w v r ≡ o
        → run_setter w v r ≡ None
    go past None e = e
    go past (Some left) e = absurd (past (means.1 (left, e)))

-- ---- set and get, from the two: the getter is given, so the default is of the slot's kind

-- what a getter answers on what is left, the default's bits being its mask
pub read-by : {s : Str} {id place : ℕ} (a : SlotAt s id place) (k : Kind) (is_reader is_fn : Bool) (g : Str) (v m : ℕ)
    (r left : Record) → kind_of (slot_kind a) ≡ Some k → Ran s id place (Getter is_reader is_fn) g
    → SetterLeft (tag_at a) (place_at a k) v m r left → run_getter g left ≡ Some (bit_xor (bit_xor v m) a.slot.default.bits)
read-by {s} {id} {place} a k is_reader is_fn g v m r left h x y =
    let fits = own_fits a k h (own_default-holds s id place a is_reader is_fn g x) in
    let n = slot-size k a.slot.offset in
    get_holds s id place a k is_reader is_fn g left h x ∙ ap Some (y.reads a.slot.default.bits (rw n fits))

pub set-get-holds : SetGetHolds
set-get-holds s id place a k w is_reader is_fn g v r c =
    let own = own_default-holds s id place a is_reader is_fn g c.getter in
    let setter : SetCase a k w = record { has-bits = c.has-bits; own_default = own; setter = c.setter } in
    let leaves = set_holds s id place a k w v r setter in
    let run = (means-by a k w v (setter_mask a k) r leaves).0 c.long c.tag_long in
    let d = a.slot.default.bits in
    let e = is_explicit a.slot in
    let fits = mask_below k (set_mask k d e) (set-fits k d e (own_fits a k c.has-bits own)) in
    let x = left-by a k w v (setter_mask a k) r leaves c.value fits run in
    record {
      left = run.0;
      runs = run.1;
      answers =
          read-by a k is_reader is_fn g v (setter_mask a k) r run.0 c.has-bits c.getter x
          ∙ ap (λ (m : ℕ). Some (bit_xor (bit_xor v (setter_mask a k)) m)) (sym (get_mask_bits k d e))
          ∙ ap Some (expected-holds k d e v);
      same = x.same;
      tagged = x.tagged c.clear;
    }

-- ---- the Void setter

pub void-holds : VoidHolds
void-holds s id place a w v r h x =
    let setter = void-text a w h x in
    setter-alike (setter-text a w x).alike v r
    ∙ ap (λ (y : Str). run_setter y v r) setter.text
    ∙ setting.void-holds setter.opening (tag_at a) v r setter.one_line.is (tag_fits-at a)

pub void-set-holds : VoidSetHolds
void-set-holds s id place a w v r h x tag_long =
    let setter = void-text a w h x in
    let held = setting.void-set-holds setter.opening (tag_at a) v r setter.one_line.is (tag_fits-at a) tag_long in
    record {
      left = held.left;
      runs = setter-alike (setter-text a w x).alike v r ∙ ap (λ (y : Str). run_setter y v r) setter.text ∙ held.runs;
      same = held.same;
      tagged = held.tagged;
    }

-- where the tag's line leaves a record, the tag was held
tag_held : (tag : Option Tag) (r left : Record) → void_leaves tag r ≡ Some left → TagHolds tag r
tag_held None r left e = tt
tag_held (Some t) r left e = put-held (tag_place t.0) t.1 0 r left e

pub void_means_holds : VoidMeansHolds
void_means_holds s id place a w v r h x = (
  (λ tag_long. let held = void-set-holds s id place a w v r h x tag_long in (held.left, held.runs)),
  λ m. tag_held (tag_at a) r m.0 (sym (void-holds s id place a w v r h x) ∙ m.1),
)

-- ---- hasers

pub haser-holds : HaserHolds
haser-holds s id place a is_reader h r p hs =
    let b = bounds a in
    let to = a.node.tag_offset in
    let name = a.field.name in
    let d = a.field.discriminant in
    let t = haser-text a is_reader h hs in
    let text = sym (ok-is t.is) ∙ haser-given to name d a.slot is_reader p in
    haser-alike t.alike r
    ∙ ap (λ (x : Str). run_haser x r) text
    ∙ meaning.haser-holds (opening_of to name d a.slot is_reader) is_reader (tag_at a) a.slot.offset r
    (whole-opening to name d a.slot is_reader b.named).is

pub tag_past-holds : TagPastHolds
tag_past-holds s id place a is_reader h r t p hs e past =
    haser-holds s id place a is_reader h r p hs
    ∙ rw (e, get-past (tag_place t.0) 0 r (pow_pos 16) past)

pub haser-past-holds : HaserPastHolds
haser-past-holds s id place a is_reader h r p hs past =
    let i : PointerOffset = record { 0 = a.slot.offset } in
    haser-holds s id place a is_reader h r p hs ∙ ap Some (meaning.has-absent (tag_at a) i r (null-past i r past))

pub no-haser-holds : NoHaserHolds
no-haser-holds s id place a is_reader h p hs =
    sym (ok-is (haser-given-at a is_reader h hs))
    ∙ no-haser a.node.tag_offset a.field.name a.field.discriminant a.slot is_reader p hs.state.level
