-- A verdict is what demand 3 says: where setter and getters are generated, what is expected to be read is what the verdict says,
-- kind by kind, and exclusive or by bits that are not all zero never gives the value back; and it is that of what is not
-- generated exactly where one of them is refused, at every level alike. Assumes nothing.
use Rattle.std.specs.Prelude.{◌≡◌, ℕ, zero, suc, ◌-◌, ◌^◌, ◌<◌, Bool, true, false, not, eqb, bit_xor, ◌⊎◌, None, Some}
use mathlib.Core.Logic.{inl, inr}
use mathlib.Core.Path.{refl, sym, ap, ◌∙◌}
use native.Mathlib.Omega.{arith}
use borrow.Author.Tests.{eqb-true}
use lib.Bits.{xor_assoc, xor_self, xor_zero_l, xor_zero_r}
use lib.Pow.{pow_pos}
use Rattle.text.specs.Bytes.{Str, cond, both}
use Rattle.text.proofs.BytesLaws.{both_true}
use Rattle.tree.specs.Tree as arm
use Rattle.tree.specs.Read.{admitted}
use Rattle.tree.specs.Tree.{Ty, plain, enum, kind, Arm, Node, Field, Sheet}
use Rattle.codegen_types.specs.Out.{Out, ok, refused}
use Rattle.record.specs.Types.{float32, float64, Kind, num, enum, slot_bits, kind_of}
use Rattle.meaning.specs.Claims.{expected}
use Rattle.requests.specs.Requests.{accessor_text, of_field, refuses, outcome, outcome_of}
use Rattle.requests.specs.Levels.{accessor_shape, shown_at}
use Rattle.requests.proofs.LevelLaws.{levels-hold}
use Rattle.requests.specs.declared.Accessor.{Accessor}
use Rattle.requests.specs.declared.Accessor.TheVariants.{Getter, Setter}
use Rattle.verdict.specs.Verdict.{is_given, is_generated, all_are_generated, has_bits, masks_verdict, slot_verdict, verdict_by}
use Rattle.verdict.specs.Verdict.{verdict_of}
use Rattle.verdict.specs.declared.Verdict.{Verdict}
use Rattle.verdict.specs.declared.Verdict.TheVariants.{Agree, SignFlipped, CombinedWithDefault, NotBothGenerated}
use Rattle.verdict.proofs.GeneratedLaws.{given-then, getter-alike, getter-alone}
use Rattle.agreement.specs.Slots.{Generated, Ran, SlotAt, slot_kind}
use Rattle.agreement.proofs.ClaimLaws.{accessor-given, accessor-generated, set-get-holds}
use Rattle.agreement.proofs.KindLaws.{by_kind, by_no_kind}
use Rattle.agreement.proofs.SheetLaws.{bounds}
use Rattle.agreement_paired.specs.Verdicts.{verdict_at, reads_as, FiveGenerated, OneRefused, VerdictReadsHolds}
use Rattle.agreement_paired.specs.Verdicts.{DisagreeHolds, BothHolds, NoVerdictHolds}

-- ---- what is read

kind-bits : (n : ℕ) (k : Kind) → kind_of n ≡ Some k → has_bits n ≡ true
kind-bits = by_kind (λ n k. has_bits n ≡ true) refl refl refl refl refl refl refl refl refl refl refl refl

-- what the verdict says of a value is what is expected to be read
reads-expected : (d e v : ℕ) → e < 2 → (n : ℕ) (k : Kind) → kind_of n ≡ Some k
    → reads_as k d (masks_verdict n e d) v ≡ Some (expected k d (eqb e 1) v)
unfolding masks_verdict
reads-expected d e v flag =
    by_kind (λ n k. reads_as k d (masks_verdict n e d) v ≡ Some (expected k d (eqb e 1) v))
    refl refl refl refl refl refl refl refl refl (flipped_32 (eqb d (2 ^ 31))) (flipped_64 (eqb d (2 ^ 63)))
    (by_flag e flag (eqb d 0) refl)
  where
    flipped_32 : (b : Bool) → reads_as (num float32) d (cond b SignFlipped Agree) v ≡ Some (cond b (bit_xor v (2 ^ 31)) v)
    flipped_32 true = refl
    flipped_32 false = refl

    flipped_64 : (b : Bool) → reads_as (num float64) d (cond b SignFlipped Agree) v ≡ Some (cond b (bit_xor v (2 ^ 63)) v)
    flipped_64 true = refl
    flipped_64 false = refl

    by_flag : (e : ℕ) → e < 2 → (b : Bool) → eqb d 0 ≡ b
        → reads_as enum d (cond (both (eqb e 0) (not b)) CombinedWithDefault Agree) v ≡ Some (cond (eqb e 1) v (bit_xor v d))
    by_flag zero f true g = rw (eqb-true d 0 g, xor_zero_r) refl
    by_flag zero f false g = refl
    by_flag (suc zero) f b g = refl
    by_flag (suc (suc e)) f b g = absurd (omega arith)

-- bits that are not all zero change a value
changed : (v m : ℕ) → (m ≡ 0 → ⊥) → bit_xor v m ≡ v → ⊥
changed v m n e =
    n (sym (xor_zero_l m) ∙ ap (λ (x : ℕ). bit_xor x m) (sym (xor_self v)) ∙ xor_assoc v v m ∙ ap (bit_xor v) e ∙ xor_self v)

-- a default that is combined is not 0
combined-other : (n e d : ℕ) → masks_verdict n e d ≡ CombinedWithDefault → d ≡ 0 → ⊥
unfolding masks_verdict
combined-other n e d h z = go (eqb n 10) (eqb n 11) (eqb n 15) (eqb e 0) (rw z at h)
  where
    go : (a b c f : Bool)
        → cond a Agree (cond b Agree (cond c (cond (both f false) CombinedWithDefault Agree) Agree)) ≡ CombinedWithDefault → ⊥
    go true b c f h = cc
    go false true c f h = cc
    go false false true true h = cc
    go false false true false h = cc
    go false false false f h = cc

-- ---- what is generated

-- what is given at one level is given at each
levels-given : (sheet : Sheet) (at : Node × Field) (a : Accessor) (level other : ℕ)
    → is_given (accessor_text sheet at a level) ≡ is_given (accessor_text sheet at a other)
levels-given sheet at a level other = shaped level ∙ sym (shaped other)
  where
    shaped : (n : ℕ) → is_given (accessor_text sheet at a n) ≡ is_given (accessor_shape sheet at a)
    shaped n = ap is_given (levels-hold sheet at a n) ∙ given-then (accessor_shape sheet at a) (shown_at n)

-- what is given is a text
given-text : (o : Out Str) → is_given o ≡ true → (w : Str) × (o ≡ ok w)
given-text (ok w) e = (w, refl)
given-text (refused k) e = cc

text-given : (o : Out Str) (w : Str) → o ≡ ok w → is_given o ≡ true
text-given o w e = rw e refl

module _ {s : Str} {id place : ℕ} (a : SlotAt s id place) where
  abbrev at : Node × Field
  at = (a.node, a.field)

  -- what is generated has a text at every level, and a text at some level is generated
  text-at : (accessor : Accessor) → is_generated a.tree at accessor ≡ true → (level : ℕ)
      → (w : Str) × Generated s id place accessor level w
  unfolding is_generated
  text-at accessor e level =
      let x = given-text (accessor_text a.tree at accessor level) (levels-given a.tree at accessor level 0 ∙ e) in
      (x.0, accessor-generated a accessor level x.0 x.1)

  generated-at : (accessor : Accessor) (level : ℕ) (w : Str) → accessor_text a.tree at accessor level ≡ ok w
      → is_generated a.tree at accessor ≡ true
  unfolding is_generated
  generated-at accessor level w e =
      levels-given a.tree at accessor 0 level ∙ text-given (accessor_text a.tree at accessor level) w e

  run-shown : (accessor : Accessor) (w : Str) → Ran s id place accessor w → is_generated a.tree at accessor ≡ true
  run-shown accessor w x = generated-at accessor x.state.level w (accessor-given a accessor w x)

  -- a slot with bits has a verdict, by whether both are generated
  module _ (k : Kind) (h : kind_of (slot_kind a) ≡ Some k) where
    abbrev verdict_here : Verdict
    verdict_here = cond (all_are_generated a.tree at) (slot_verdict a.slot) NotBothGenerated

    verdict-is : verdict_at a ≡ Some verdict_here
    unfolding verdict_of
    verdict-is = by-arm a.field.arm a.is-slot
      where
        by-arm : (x : Arm) → x ≡ arm.slot a.slot → verdict_by a.tree at x ≡ Some verdict_here
        by-arm x e = rw (e, kind-bits (slot_kind a) k h) refl

    both-alone : all_are_generated a.tree at ≡ both (is_generated a.tree at Setter) (is_generated a.tree at (Getter true false))
    both-alone = getter-alone a.tree at a.slot a.is-slot (kind-bits (slot_kind a) k h)

    getters-alike : (is_reader is_fn : Bool)
        → is_generated a.tree at (Getter is_reader is_fn) ≡ is_generated a.tree at (Getter true false)
    getters-alike = getter-alike a.tree at a.slot a.is-slot (kind-bits (slot_kind a) k h)

    -- all of them are, from one setter and one getter
    all-of : (is_reader is_fn : Bool) → is_generated a.tree at Setter ≡ true
        → is_generated a.tree at (Getter is_reader is_fn) ≡ true
        → all_are_generated a.tree at ≡ true
    all-of is_reader is_fn f g = both-alone ∙ rw (f, sym (getters-alike is_reader is_fn) ∙ g) refl

-- the masks of what is generated never say that it is not
says-both : (n e d : ℕ) → masks_verdict n e d ≡ NotBothGenerated → ⊥
unfolding masks_verdict
says-both n e d = go (eqb n 10) (eqb n 11) (eqb n 15) (eqb d (2 ^ 31)) (eqb d (2 ^ 63)) (both (eqb e 0) (not (eqb d 0)))
  where
    go : (a b c x y f : Bool)
        → cond a (cond x SignFlipped Agree) (cond b (cond y SignFlipped Agree) (cond c (cond f CombinedWithDefault Agree) Agree))
        ≡ NotBothGenerated → ⊥
    go true b c true y f h = cc
    go true b c false y f h = cc
    go false true c x true f h = cc
    go false true c x false f h = cc
    go false false true x y true h = cc
    go false false true x y false h = cc
    go false false false x y f h = cc

pub verdict_reads-holds : VerdictReadsHolds
verdict_reads-holds s id place a k w is_reader is_fn g v r c =
    let h = c.has-bits in
    let all =
    all-of a k h is_reader is_fn (run-shown a Setter w c.setter) (run-shown a (Getter is_reader is_fn) g c.getter) in
    let x = set-get-holds s id place a k w is_reader is_fn g v r c in
    let d = a.slot.default.bits in
    let said = x.answers ∙ sym (reads-expected d a.slot.explicit v (bounds a).flag (slot_kind a) k h) in
    let both = says-both (slot_kind a) a.slot.explicit d in
    (slot_verdict a.slot, x.left, (verdict-is a k h ∙ rw all refl, both, x.runs, said))

pub disagree-holds : DisagreeHolds
disagree-holds s id place a k x v h e which reads =
    by which (some-is (sym (verdict-is a k h) ∙ e))
  where
    some-is : {A : Type 0} {y z : A} → Some y ≡ Some z → y ≡ z
    some-is f = cc

    d : ℕ
    d = a.slot.default.bits

    of-all : (b : Bool) → cond b (slot_verdict a.slot) NotBothGenerated ≡ CombinedWithDefault
        → slot_verdict a.slot ≡ CombinedWithDefault
    of-all true f = f
    of-all false f = cc

    by : (x ≡ SignFlipped) ⊎ (x ≡ CombinedWithDefault) → verdict_here a k h ≡ x → ⊥
    by (inl f) i =
        changed v (2 ^ (slot_bits k - 1)) (λ z. let p = pow_pos (slot_bits k - 1) in omega arith) (some-is (rw f at reads))
    by (inr f) i =
        changed v d (combined-other (slot_kind a) a.slot.explicit d (of-all (all_are_generated a.tree (at a)) (i ∙ f)))
        (some-is (rw f at reads))

module _ {s : Str} {id place : ℕ} (a : SlotAt s id place) (k : Kind) (h : kind_of (slot_kind a) ≡ Some k) where
  all-five : all_are_generated a.tree (at a) ≡ true → FiveGenerated s id place
  all-five e level =
      let (f, g) = both_true (is_generated a.tree (at a) Setter) (is_generated a.tree (at a) (Getter true false))
      (sym (both-alone a k h) ∙ e) in
      let w = text-at a Setter f level in
      (w.0, w.1, λ is_reader is_fn. text-at a (Getter is_reader is_fn) (getters-alike a k h is_reader is_fn ∙ g) level)

  -- what is not generated is refused
  refusal-of : (accessor : Accessor) → is_generated a.tree (at a) accessor ≡ false
      → (k : ℕ) × (outcome_of (admitted s) id (of_field place accessor) 0 ≡ refuses k 0 0)
  unfolding is_generated
  refusal-of accessor e = rw (a.is-admitted, a.is_found) (go (accessor_text a.tree (at a) accessor 0) e)
    where
      go : (o : Out Str) → is_given o ≡ false → (k : ℕ) × (outcome o ≡ refuses k 0 0)
      go (ok w) e = cc
      go (refused k) e = (k, refl)

  one-refused : all_are_generated a.tree (at a) ≡ false → OneRefused s id place
  one-refused e = by (is_generated a.tree (at a) Setter) refl (sym (both-alone a k h) ∙ e)
    where
      by : (b : Bool) → is_generated a.tree (at a) Setter ≡ b → both b (is_generated a.tree (at a) (Getter true false)) ≡ false
          → OneRefused s id place
      by true f g = let x = refusal-of (Getter true false) g in (Getter true false, x.0, (tt, x.1))
      by false f g = let x = refusal-of Setter f in (Setter, x.0, (tt, x.1))

pub both-holds : BothHolds
both-holds s id place a k h = (verdict_here a k h, (verdict-is a k h, go (all_are_generated a.tree (at a)) refl))
  where
    go : (b : Bool) → all_are_generated a.tree (at a) ≡ b
        → (cond b (slot_verdict a.slot) NotBothGenerated ≡ NotBothGenerated → OneRefused s id place)
        × ((cond b (slot_verdict a.slot) NotBothGenerated ≡ NotBothGenerated → ⊥) → FiveGenerated s id place)
    go true e = (
      (λ f. absurd (says-both (slot_kind a) a.slot.explicit a.slot.default.bits f)),
      (λ n. all-five a k h e),
    )
    go false e = ((λ f. one-refused a k h e), (λ n. absurd (n refl)))

-- a kind below 14 without bits is Void, Text or Data, and any other is a pointer's
no-bits : {s : Str} {id place : ℕ} (a : SlotAt s id place) → kind_of (slot_kind a) ≡ None → verdict_at a ≡ None
unfolding verdict_of kind_of
no-bits a h = by-arm a.field.arm a.is-slot
  where
    none : (t : Ty) → ((n : ℕ) → t ≡ plain n → n < 14) → kind_of (kind t) ≡ None → has_bits (kind t) ≡ false
    none (plain n) below e = by_no_kind (λ n. has_bits n ≡ false) refl refl refl n (below n refl) e
    none (enum i ss) below e = cc
    none _ below e = refl

    by-arm : (x : Arm) → x ≡ arm.slot a.slot → verdict_by a.tree (at a) x ≡ None
    by-arm x e = rw (e, none a.slot.ty (bounds a).below h) refl

pub no_verdict-holds : NoVerdictHolds
unfolding verdict_of
no_verdict-holds = ((λ s id place a h. no-bits a h), (λ sheet n f g e. rw e refl))
