-- The masks of both profiles, for a default of the slot's kind: the paired one is the getter's; it is the present one but in the
-- three cases, where one of the two setters is plain and the other is not. Each is computed kind by kind. Assumes nothing.
use Rattle.std.specs.Option.{option_map}
use Rattle.std.specs.Prelude.{◌≡◌, ℕ, zero, suc, ◌^◌, ◌<◌, Bool, true, false, not, eqb, Option, None, Some}
use mathlib.Core.Path.{refl, sym, ap, ◌∙◌}
use native.Mathlib.Omega.{arith}
use borrow.Author.Tests.{eqb-true}
use Rattle.text.specs.Bytes.{cond, both, either}
use Rattle.tree.specs.Tree.{kind, Slot}
use Rattle.codegen_types.specs.Out.{ok}
use Rattle.codegen.specs.Default.{value}
use Rattle.codegen.specs.Profiles.{present_mask, paired_mask}
use Rattle.codegen.specs.Setter.{mask_by}
use Rattle.record.specs.Masks.{get_mask, set_mask, set_mask_text}
use Rattle.record.specs.Types.{Kind, kind_of}
use Rattle.agreement.proofs.KindLaws.{by_kind, present_mask_lem, paired_mask_lem}
use Rattle.agreement_paired.specs.Paired.{one_of_three, in_three_cases}

-- one is there and the other is not
abbrev pub Opposite : Option ℕ → Option ℕ → Type 0
Opposite None (Some m) = Unit {0}
Opposite (Some m) None = Unit {0}
Opposite None None = ⊥
Opposite (Some m) (Some n) = ⊥

or_none : (b : Bool) → either b false ≡ b
or_none true = refl
or_none false = refl

-- what is left of the three tests for a Float32, and for a Float64: that its default is -0.0
first : {b : Bool} (c : Bool) → either (either b false) false ≡ c → b ≡ c
first {b} c h = sym (or_none (either b false) ∙ or_none b) ∙ h

second : {b : Bool} (c : Bool) → either b false ≡ c → b ≡ c
second {b} c h = sym (or_none b) ∙ h

-- a default by its flag and its bits
module _ (d e : ℕ) (flag : e < 2) where
  same-masks : (n : ℕ) (k : Kind) → kind_of n ≡ Some k → one_of_three n e d ≡ false
      → get_mask k d (eqb e 1) ≡ set_mask k d (eqb e 1)
  same-masks =
      by_kind (λ n k. one_of_three n e d ≡ false → get_mask k d (eqb e 1) ≡ set_mask k d (eqb e 1))
      (λ h. refl) (λ h. refl) (λ h. refl) (λ h. refl) (λ h. refl) (λ h. refl) (λ h. refl) (λ h. refl) (λ h. refl)
      (λ h. float (eqb d 0) (eqb d (2 ^ 31)) (first false h)) (λ h. float (eqb d 0) (eqb d (2 ^ 63)) (second false h))
      (by_flag e flag (eqb d 0))
    where
      float : (none negative : Bool) → negative ≡ false
          → cond none None (Some d) ≡ cond (either none negative) None (Some d)
      float true negative h = refl
      float false true h = cc
      float false false h = refl

      by_flag : (e : ℕ) → e < 2 → (none : Bool)
          → either false (either (both (eqb e 0) (not none)) (both (not (eqb e 0)) none)) ≡ false
          → cond none None (Some d) ≡ cond (eqb e 1) (Some d) None
      by_flag zero f true h = refl
      by_flag zero f false h = cc
      by_flag (suc zero) f true h = cc
      by_flag (suc zero) f false h = refl
      by_flag (suc (suc e)) f none h = absurd (omega arith)

  pub other-masks : (n : ℕ) (k : Kind) → kind_of n ≡ Some k → one_of_three n e d ≡ true
      → Opposite (get_mask k d (eqb e 1)) (set_mask k d (eqb e 1))
  other-masks =
      by_kind (λ n k. one_of_three n e d ≡ true → Opposite (get_mask k d (eqb e 1)) (set_mask k d (eqb e 1)))
      (λ h. cc) (λ h. cc) (λ h. cc) (λ h. cc) (λ h. cc) (λ h. cc) (λ h. cc) (λ h. cc) (λ h. cc)
      (λ h. float (2 ^ 31) (λ z. omega arith) (eqb d 0) (eqb d (2 ^ 31)) refl refl (first true h))
      (λ h. float (2 ^ 63) (λ z. omega arith) (eqb d 0) (eqb d (2 ^ 63)) refl refl (second true h))
      (by_flag e flag (eqb d 0))
    where
      float : (sign : ℕ) → (sign ≡ 0 → ⊥) → (none negative : Bool) → eqb d 0 ≡ none → eqb d sign ≡ negative → negative ≡ true
          → Opposite (cond none None (Some d)) (cond (either none negative) None (Some d))
      float sign n true true f g h = absurd (n (sym (eqb-true d sign g) ∙ eqb-true d 0 f))
      float sign n true false f g h = cc
      float sign n false true f g h = tt
      float sign n false false f g h = cc

      by_flag : (e : ℕ) → e < 2 → (none : Bool)
          → either false (either (both (eqb e 0) (not none)) (both (not (eqb e 0)) none)) ≡ true
          → Opposite (cond none None (Some d)) (cond (eqb e 1) (Some d) None)
      by_flag zero f true h = cc
      by_flag zero f false h = tt
      by_flag (suc zero) f true h = tt
      by_flag (suc zero) f false h = cc
      by_flag (suc (suc e)) f none h = absurd (omega arith)

-- a default of another kind has the present rule's
other-kind : (s : Slot) → eqb (kind s.ty) s.default.kind ≡ false → mask_by paired_mask s ≡ mask_by present_mask s
unfolding paired_mask
other-kind s e = rw e refl

-- a slot with bits whose flag is one
module _ (s : Slot) (k : Kind) (h : kind_of (kind s.ty) ≡ Some k) (flag : s.explicit < 2) where
  module _ (own : s.default.kind ≡ kind s.ty) where
    pub paired_is : mask_by paired_mask s ≡ ok (option_map (set_mask_text k) (get_mask k s.default.bits (eqb s.explicit 1)))
    paired_is =
        ap (λ (n : ℕ). paired_mask (kind s.ty) s.explicit (value n s.default.bits)) own
        ∙ paired_mask_lem s.default.bits s.explicit (eqb s.explicit 1) (kind s.ty) k h

    pub present_is : mask_by present_mask s ≡ ok (option_map (set_mask_text k) (set_mask k s.default.bits (eqb s.explicit 1)))
    present_is =
        ap (λ (n : ℕ). present_mask (kind s.ty) s.explicit (value n s.default.bits)) own
        ∙ present_mask_lem s.default.bits s.explicit flag (kind s.ty) k h

  -- outside the three cases the two rules give one mask, or one refusal
  pub rules-alike : in_three_cases s ≡ false → mask_by paired_mask s ≡ mask_by present_mask s
  rules-alike f = go (eqb (kind s.ty) s.default.kind) refl f
    where
      go : (b : Bool) → eqb (kind s.ty) s.default.kind ≡ b
          → both b (one_of_three (kind s.ty) s.explicit s.default.bits) ≡ false → mask_by paired_mask s ≡ mask_by present_mask s
      go false e f = other-kind s e
      go true e f =
          let own : s.default.kind ≡ kind s.ty = sym (eqb-true (kind s.ty) s.default.kind e) in
          paired_is own
          ∙ ap (λ (m : Option ℕ). ok (option_map (set_mask_text k) m))
          (same-masks s.default.bits s.explicit flag (kind s.ty) k h f)
          ∙ sym (present_is own)
