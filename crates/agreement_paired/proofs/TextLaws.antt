-- Where the request for a paired setter comes to what that for the present one comes to, and where to another text. In the three
-- cases both are made of the type's text, with and without a mask; everywhere else their masks are the same. Assumes nothing.
use Rattle.std.specs.Prelude.{◌≡◌, ℕ, ◌^◌, Bool, true, false, not, eqb, ◌⊎◌, Option, None, Some}
use mathlib.Core.Logic.{inl, inr}
use mathlib.Core.Path.{refl, sym, ap, ◌∙◌}
use borrow.Author.Tests.{eqb-true}
use Rattle.text.specs.Bytes.{Str, both, either}
use Rattle.text.proofs.BytesLaws.{both_true}
use Rattle.tree.specs.Tree as arm
use Rattle.tree.specs.Tree.{kind, Arm, Slot, Field, Node, Sheet}
use Rattle.tree.specs.Read as read
use Rattle.tree.specs.Read.{Admitted, admitted}
use Rattle.codegen_types.specs.Out.{Out, ok, refused, ◌then◌}
use Rattle.codegen.specs.Profiles.{present_mask, paired_mask}
use Rattle.codegen.specs.Setter.{setter_parts, setter_request, generate_setter}
use Rattle.record.specs.Types.{Kind, kind_of}
use Rattle.requests.specs.Requests.{field_at, of_field, accessor_text, Outcome, refuses, outcome, outcome_of}
use Rattle.requests.specs.declared.Accessor.TheVariants.{Setter, PairedSetter}
use Rattle.agreement.specs.Slots.{SlotAt}
use Rattle.agreement.proofs.ClaimLaws.{given-ok}
use Rattle.agreement.proofs.OutLaws.{ok-is}
use Rattle.agreement.proofs.SheetLaws.{bounds}
use Rattle.agreement_paired.specs.Paired.{one_of_three, in_three_cases, SameTextHolds, OtherTextHolds, SameRefusalHolds}
use Rattle.agreement_paired.proofs.MaskLaws.{paired_is, present_is, rules-alike, other-masks}
use Rattle.agreement_paired.proofs.PartsLaws.{same-parts, no-parts, TwoTexts, two-texts}

-- ---- a slot of an admitted sheet

-- the three cases are of a Float32, a Float64 and an enum
three-kinds : (k e d : ℕ) → one_of_three k e d ≡ true → (k ≡ 10) ⊎ ((k ≡ 11) ⊎ (k ≡ 15))
three-kinds k e d h = go (eqb k 10) (eqb k 11) (eqb k 15) refl refl refl h
  where
    go : (a b c : Bool) → eqb k 10 ≡ a → eqb k 11 ≡ b → eqb k 15 ≡ c
        → either (either (both a (eqb d (2 ^ 31))) (both b (eqb d (2 ^ 63))))
        (either (both c (both (eqb e 0) (not (eqb d 0)))) (both c (both (not (eqb e 0)) (eqb d 0)))) ≡ true
        → (k ≡ 10) ⊎ ((k ≡ 11) ⊎ (k ≡ 15))
    go true b c f g i h = inl (eqb-true k 10 f)
    go false true c f g i h = inr (inl (eqb-true k 11 g))
    go false false true f g i h = inr (inr (eqb-true k 15 i))
    go false false false f g i h = cc

-- they have bits
three-bits : (k : ℕ) → (k ≡ 10) ⊎ ((k ≡ 11) ⊎ (k ≡ 15)) → (x : Kind) × (kind_of k ≡ Some x)
unfolding kind_of
three-bits k (inl e) = rw e (_, refl)
three-bits k (inr (inl e)) = rw e (_, refl)
three-bits k (inr (inr e)) = rw e (_, refl)

module _ {s : Str} {id place : ℕ} (a : SlotAt s id place) (level : ℕ) where
  abbrev paired : Out Str
  paired = setter_request paired_mask a.tree a.node.tag_offset a.field.name a.field.discriminant a.slot level

  abbrev present : Out Str
  present = setter_request present_mask a.tree a.node.tag_offset a.field.name a.field.discriminant a.slot level

  same-request : in_three_cases a.slot ≡ false → paired ≡ present
  unfolding setter_request generate_setter
  same-request f = rw (by-kind (kind_of (kind a.slot.ty)) refl) refl
    where
      by-kind : (o : Option Kind) → kind_of (kind a.slot.ty) ≡ o
          → setter_parts paired_mask a.tree a.slot a.slot.ty ≡ setter_parts present_mask a.tree a.slot a.slot.ty
      by-kind None h = no-parts a.tree a.slot a.slot.ty (bounds a).below h
      by-kind (Some k) h = same-parts a.tree a.slot (rules-alike a.slot k h (bounds a).flag f) a.slot.ty

  two : in_three_cases a.slot ≡ true → TwoTexts paired present
  two f =
      let t = a.slot in
      let (same, three) = both_true (eqb (kind t.ty) t.default.kind) (one_of_three (kind t.ty) t.explicit t.default.bits) f in
      let own : t.default.kind ≡ kind t.ty = sym (eqb-true (kind t.ty) t.default.kind same) in
      let c = three-kinds (kind t.ty) t.explicit t.default.bits three in
      let x = three-bits (kind t.ty) c in
      let b = bounds a in
      two-texts a.tree a.node.tag_offset a.field.name a.field.discriminant t level x.0 _ _
      (other-masks t.default.bits t.explicit b.flag (kind t.ty) x.0 x.1 three)
      (paired_is t x.0 x.1 b.flag own) (present_is t x.0 x.1 b.flag own) t.ty refl b.below c

-- ---- whatever is asked

-- what holds of both outcomes of any request: where they are the same, and of a slot of an admitted sheet
module _ (s : Str) (id place level : ℕ) (P : Outcome → Outcome → Type 0) (same : (o : Outcome) → P o o)
    (slot : (a : SlotAt s id place) → P (outcome (paired a level)) (outcome (present a level))) where
  module _ (sh : Sheet) (sheet-is : admitted s ≡ read.sheet sh) where
    by-arm : (n : Node) (f : Field) → field_at sh.nodes id place ≡ ok (n, f) → (x : Arm) → f.arm ≡ x
        → P (outcome (accessor_text sh (n, f) PairedSetter level)) (outcome (accessor_text sh (n, f) Setter level))
    unfolding accessor_text
    by-arm n f e (arm.slot t) h =
        rw h
        (slot (record {
          tree = sh;
          node = n;
          field = f;
          slot = t;
          is-admitted = sheet-is;
          is_found = e;
          is-slot = h;
        }))
    by-arm n f e (arm.group g) h = rw h (same (refuses 15 0 0))

    by-field : (o : Out (Node × Field)) → field_at sh.nodes id place ≡ o
        → P (outcome (o then λ at. accessor_text sh at PairedSetter level))
        (outcome (o then λ at. accessor_text sh at Setter level))
    by-field (ok (n, f)) e = by-arm n f e f.arm refl
    by-field (refused k) e = same (refuses k 0 0)

  by-sheet : (x : Admitted) → admitted s ≡ x
      → P (outcome_of x id (of_field place PairedSetter) level) (outcome_of x id (of_field place Setter) level)
  by-sheet (read.sheet sh) e = by-field sh e (field_at sh.nodes id place) refl
  by-sheet (read.refused k line column) e = same (refuses k line column)

  asked : P (outcome_of (admitted s) id (of_field place PairedSetter) level)
      (outcome_of (admitted s) id (of_field place Setter) level)
  asked = by-sheet (admitted s) refl

pub same_text-holds : SameTextHolds
same_text-holds s id place level h =
    asked s id place level (λ x y. x ≡ y) (λ o. refl)
    (λ a. ap outcome (same-request a level (not-true (in_three_cases a.slot) (h a))))
  where
    not-true : (b : Bool) → (b ≡ true → ⊥) → b ≡ false
    not-true true n = absurd (n refl)
    not-true false n = refl

-- one is refused where the other is, and as it is
abbrev Alike : Outcome → Outcome → Type 0
Alike x y =
    (number line column : ℕ)
    → (x ≡ refuses number line column → y ≡ refuses number line column)
    × (y ≡ refuses number line column → x ≡ refuses number line column)

same-alike : (x y : Outcome) → x ≡ y → Alike x y
same-alike x y e number line column = ((λ h. sym e ∙ h), (λ h. e ∙ h))

made-alike : {o o' : Out Str} → TwoTexts o o' → Alike (outcome o) (outcome o')
made-alike t = rw (t.paired_is, t.present_is) (go t.typ)
  where
    go : (o : Out Str) → Alike (outcome (o then λ x. ok (t.with_paired x))) (outcome (o then λ x. ok (t.with_present x)))
    go (ok x) number line column = ((λ h. cc), (λ h. cc))
    go (refused k) number line column = ((λ h. h), (λ h. h))

pub same_refusal-holds : SameRefusalHolds
same_refusal-holds s id place level =
    asked s id place level Alike (λ o number line column. ((λ h. h), (λ h. h))) (λ a. of-slot a (in_three_cases a.slot) refl)
  where
    of-slot : (a : SlotAt s id place) (b : Bool) → in_three_cases a.slot ≡ b
        → Alike (outcome (paired a level)) (outcome (present a level))
    of-slot a true f = made-alike (two a level f)
    of-slot a false f = same-alike _ _ (ap outcome (same-request a level f))

pub other_text-holds : OtherTextHolds
unfolding accessor_text
other_text-holds s id place a level w x f paired-given present-given e =
    let t = two a level f in
    let p = rw (a.is-admitted, a.is_found, a.is-slot) at paired-given in
    let q = rw (a.is-admitted, a.is_found, a.is-slot) at present-given in
    go t t.typ (sym t.paired_is ∙ given-ok _ w p) (sym t.present_is ∙ given-ok _ x q)
  where
    go : {o o' : Out Str} (t : TwoTexts o o') (y : Out Str) → (y then λ z. ok (t.with_paired z)) ≡ ok w
        → (y then λ z. ok (t.with_present z)) ≡ ok x → ⊥
    go t (ok z) g h = t.differ z (ok-is g ∙ e ∙ sym (ok-is h))
    go t (refused k) g h = cc
