-- A GETTER ALONE and A SETTER ALONE, from the texts of one slot's requests. The texts are those of crate meaning's claims, whose
-- conditions follow from the sheet being admitted and the default being of the slot's kind. Assumes nothing.
use Rattle.std.specs.Prelude.{◌≡◌, ℕ, ◌^◌, ◌<◌, ◌≤◌, Bool, true, false, eqb}
use mathlib.Core.Path.{sym, ap, ◌∙◌}
use Rattle.std.specs.Option.{option_map}
use Rattle.std.specs.Prelude.{Option, None, Some}
use native.Mathlib.Omega.{arith}
use Rattle.text.specs.Bytes.{Str, cond, either}
use Rattle.row.specs.Line.{most_bits}
use Rattle.codegen_types.specs.Out.{ok}
use Rattle.codegen.specs.Getter.{getter_request}
use Rattle.codegen.specs.Default.{value}
use Rattle.codegen.specs.Profiles.{MaskRule, present_mask}
use Rattle.codegen.specs.Setter.{mask_by, setter_request}
use Rattle.record.specs.Masks.{get_mask, set_mask, set_mask_text, mask_bits}
use Rattle.record.specs.Record.{Record, get}
use Rattle.record.specs.Types.{float32, float64, Kind, num, enum, slot_bits, kind_of}
use Rattle.meaning.specs.Claims.{MaskFits, TagFits, setter_leaves}
use Rattle.meaning.specs.Meaning.{run_setter, run_getter}
use Rattle.meaning.proofs.MaskLaws.{get_mask_bits}
use Rattle.meaning.proofs.SetLaws as setting
use Rattle.agreement.specs.Slots.{SlotAt, tag_of, is_explicit, slot_kind, tag_at, place_at, OwnDefault, setter_mask}
use Rattle.agreement.proofs.GetterLaws.{getter-given}
use Rattle.agreement.proofs.KindLaws.{most-bits, present_mask_lem}
use Rattle.agreement.proofs.SetterLaws.{setter-given}
use Rattle.agreement.proofs.SheetLaws.{bounds}

-- a default of the slot's kind has the slot's width
default-fits : (d n : ℕ) (k : Kind) → kind_of n ≡ Some k → d ≤ most_bits n → d < 2 ^ slot_bits k
default-fits d n k h b = omega (arith, most-bits n k h)

-- so both masks have it
fits-unless : (k : Kind) (d : ℕ) (t : Bool) → d < 2 ^ slot_bits k → MaskFits k (cond t None (Some d))
fits-unless k d true h = tt
fits-unless k d false h = h

pub get-fits : (k : Kind) (d : ℕ) (explicit : Bool) → d < 2 ^ slot_bits k → MaskFits k (get_mask k d explicit)
get-fits k d explicit h = fits-unless k d (eqb d 0) h

pub set-fits : (k : Kind) (d : ℕ) (explicit : Bool) → d < 2 ^ slot_bits k → MaskFits k (set_mask k d explicit)
set-fits (num float32) d explicit h = fits-unless (num float32) d (either (eqb d 0) (eqb d (2 ^ 31))) h
set-fits (num float64) d explicit h = fits-unless (num float64) d (either (eqb d 0) (eqb d (2 ^ 63))) h
set-fits enum d true h = h
set-fits enum d false h = tt
set-fits k d explicit h = fits-unless k d (eqb d 0) h

-- a discriminant has 16 bits
tag_fits : (to d : ℕ) → d < 2 ^ 16 → TagFits (tag_of to d)
tag_fits to d h = go (eqb d 65535)
  where
    go : (t : Bool) → TagFits (cond t None (Some (to, d)))
    go true = tt
    go false = h

pub tag_fits-at : {s : Str} {id place : ℕ} (a : SlotAt s id place) → TagFits (tag_at a)
tag_fits-at a = tag_fits a.node.tag_offset a.field.discriminant (bounds a).discriminant

-- a slot of kind k
module _ {s : Str} {id place : ℕ} (a : SlotAt s id place) (k : Kind) (h : kind_of (slot_kind a) ≡ Some k) where
  -- a default of the slot's own kind has its width
  pub own_fits : OwnDefault a → a.slot.default.bits < 2 ^ slot_bits k
  own_fits own = default-fits a.slot.default.bits a.slot.default.kind k (rw (← own) at h) (bounds a).bits

  -- what the text of a getter's request answers
  pub get-alone : (is_reader is_fn : Bool) (g : Str) → getter_request a.tree a.field.name a.slot is_reader is_fn 0 ≡ ok g
      → (r : Record) → run_getter g r ≡ Some (get (place_at a k) a.slot.default.bits r)
  get-alone is_reader is_fn g is r =
      let d = a.slot.default.bits in
      let e = is_explicit a.slot in
      let getter = getter-given a.tree (bounds a).clean a.field.name is_reader is_fn k a.slot e g h is in
      ap (λ (x : Str). run_getter x r) getter.text
      ∙ setting.get_holds getter.typ is_reader k a.slot.offset (get_mask k d e) r getter.one_line.is
      (get-fits k d e (own_fits (sym getter.same_kind)))
      ∙ ap (λ (m : ℕ). Some (get (place_at a k) m r)) (get_mask_bits k d e)

  -- what the text of a setter's request leaves, where the default is of the slot's kind, with the mask that the rule gives
  module _ (rule : MaskRule) (ms : Option ℕ) (fits : MaskFits k ms)
      (masks : mask_by rule a.slot ≡ ok (option_map (set_mask_text k) ms)) where
    pub set-by : OwnDefault a → (w : Str)
        → setter_request rule a.tree a.node.tag_offset a.field.name a.field.discriminant a.slot 0 ≡ ok w
        → (v : ℕ) (r : Record) → run_setter w v r ≡ setter_leaves (tag_at a) (place_at a k) v (mask_bits ms) r
    set-by own w is v r =
        let b = bounds a in
        let setter =
        setter-given rule a.tree a.node.tag_offset a.field.name a.field.discriminant a.slot w b.clean b.below k ms
        b.named h (sym own) masks is in
        ap (λ (x : Str). run_setter x v r) setter.text
        ∙ setting.set_holds setter.opening (tag_at a) k a.slot.offset ms v r setter.one_line.is (tag_fits-at a) fits

  -- the present one
  pub set-alone : OwnDefault a → (w : Str)
      → setter_request present_mask a.tree a.node.tag_offset a.field.name a.field.discriminant a.slot 0 ≡ ok w
      → (v : ℕ) (r : Record) → run_setter w v r ≡ setter_leaves (tag_at a) (place_at a k) v (setter_mask a k) r
  set-alone own w is v r =
      let d = a.slot.default.bits in
      let e = is_explicit a.slot in
      set-by present_mask (set_mask k d e) (set-fits k d e (own_fits own))
      (ap (λ (n : ℕ). present_mask (slot_kind a) a.slot.explicit (value n d)) own
      ∙ present_mask_lem d a.slot.explicit (bounds a).flag (slot_kind a) k h) own w is v r
