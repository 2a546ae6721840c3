-- The parts of a setter by either rule differ by the mask alone; and with two masks of which one is none there are two texts,
-- made of the same type's text. Assumes nothing.
use Rattle.std.specs.Option.{option_map}
use Rattle.std.specs.Prelude.{◌≡◌, ℕ, ◌+◌, ◌<◌, ◌≤◌, false, ◌⊎◌, ◌++◌, get_or, Option, None, Some}
use mathlib.Core.Logic.{inl, inr}
use mathlib.Core.Path.{refl, sym, ap, ◌∙◌}
use native.Mathlib.Omega.{arith}
use borrow.Author.Tests.{ne_eqb}
use Rattle.std.proofs.lemmas.List.{append_cancel_left, append_cancel_right}
use Rattle.text.specs.Bytes.{Str, ascii}
use Rattle.text.specs.Lines.{margin, broken, stringify}
use Rattle.names.specs.Names.{camel_to_snake_case}
use Rattle.tree.specs.Tree.{Ty, plain, list, enum, struct, interface, any_pointer, parameter, kind, Scopes, Slot, Sheet}
use Rattle.codegen_types.specs.Out.{Out, ok, refused, ◌then◌}
use Rattle.codegen_types.specs.TypeString.{type_string, get_qualified_module}
use Rattle.codegen_types.specs.declared.Leaf.TheVariants.{Reader}
use Rattle.codegen_types.specs.declared.Lifetime.TheVariants.{A}
use Rattle.calls.specs.Calls.{set_data_field}
use Rattle.codegen.specs.Profiles.{MaskRule, present_mask, paired_mask}
use Rattle.codegen.specs.Setter.{setter_only, line_alone, mask_by, setter_parts, setter_functions, generate_setter}
use Rattle.codegen.specs.Setter.{setter_request}
use Rattle.setter_code.specs.Parts.{tag_line, set_open, set_close}
use Rattle.setter_code.proofs.Laws.{only-text}
use Rattle.record.specs.Masks.{set_mask_text}
use Rattle.record.specs.Types.{Kind, kind_of}
use Rattle.agreement.proofs.KindLaws.{by_no_kind}
use Rattle.agreement_paired.proofs.MaskLaws.{Opposite}

-- ---- the mask alone makes the difference

module _ (sheet : Sheet) (s : Slot) where
  -- where both rules give the same
  pub same-parts : mask_by paired_mask s ≡ mask_by present_mask s → (t : Ty)
      → setter_parts paired_mask sheet s t ≡ setter_parts present_mask sheet s t
  same-parts e (plain k) = rw e refl
  same-parts e (enum id ss) = rw e refl
  same-parts e _ = refl

  -- and where the slot has no bits, whatever they give
  pub no-parts : (t : Ty) → ((n : ℕ) → t ≡ plain n → n < 14) → kind_of (kind t) ≡ None
      → setter_parts paired_mask sheet s t ≡ setter_parts present_mask sheet s t
  unfolding kind_of
  no-parts (plain n) below h =
      by_no_kind (λ n. setter_parts paired_mask sheet s (plain n) ≡ setter_parts present_mask sheet s (plain n))
      refl refl refl n (below n refl) h
  no-parts (enum id ss) below h = cc
  no-parts _ below h = refl

-- ---- texts with two masks

-- a call with a mask is another than one without
masked-apart : (typ : Str) (o : ℕ) (v mask : Str) → set_data_field typ o v None ≡ set_data_field typ o v (Some mask) → ⊥
unfolding set_data_field
masked-apart typ o v mask e = let z : ◌≡◌ {A = ℕ} 58 95 = ap (λ (l : Str). get_or l 27 0) e in absurd (omega arith)

calls-apart : (k : Kind) (typ : Str) (o : ℕ) (v : Str) (a b : Option ℕ) → Opposite a b
    → set_data_field typ o v (option_map (set_mask_text k) a) ≡ set_data_field typ o v (option_map (set_mask_text k) b) → ⊥
calls-apart k typ o v None (Some m) c e = masked-apart typ o v (set_mask_text k m) e
calls-apart k typ o v (Some m) None c e = masked-apart typ o v (set_mask_text k m) (sym e)
calls-apart k typ o v None None c e = c
calls-apart k typ o v (Some m) (Some n) c e = c

module _ (root : Str) (to : ℕ) (name : Str) (d level : ℕ) where
  -- the text of a setter of one line
  pub only : Str → Str → Str
  only line typ = stringify (setter_functions root to name d (setter_only (ascii "value") (line_alone line) typ)) level

  -- it says its line
  only-own : (line other typ : Str) → only line typ ≡ only other typ → line ≡ other
  unfolding only
  only-own line other typ e =
      let before = set_open name level ++ typ ++ set_close root false ++ tag_line to d level ++ margin (level + 1) in
      let whole : before ++ line ++ broken (ascii "\n}\n") level ≡ before ++ other ++ broken (ascii "\n}\n") level =
      only-text level root to name d line typ ∙ e ∙ sym (only-text level root to name d other typ) in
      append_cancel_left before line other
      (append_cancel_right (before ++ line) (before ++ other) (broken (ascii "\n}\n") level) whole)

-- a request for a setter whose parts are those of one line with a mask, where the type has a text
module _ (rule : MaskRule) (sheet : Sheet) (to : ℕ) (name : Str) (d : ℕ) (s : Slot) (level : ℕ) where
  made-request : (o : Out Str) (line : Str → Str)
      → setter_parts rule sheet s s.ty ≡ (o then λ typ. ok (setter_only (ascii "value") (line_alone (line typ)) typ))
      → setter_request rule sheet to name d s level
      ≡ (o then λ typ. ok (only sheet.root to (camel_to_snake_case name) d level (line typ) typ))
  unfolding setter_request generate_setter only
  made-request o line e = rw e (go o)
    where
      go : (o : Out Str)
          → (((o then λ typ. ok (setter_only (ascii "value") (line_alone (line typ)) typ))
          then λ p. ok (setter_functions sheet.root to (camel_to_snake_case name) d p)) then λ ft. ok (stringify ft level))
          ≡ (o then λ typ. ok (stringify (setter_functions sheet.root to (camel_to_snake_case name) d
          (setter_only (ascii "value") (line_alone (line typ)) typ)) level))
      go (ok typ) = refl
      go (refused k) = refl

  number-request : (n : ℕ) (m : Option Str) → s.ty ≡ plain n → 2 ≤ n → n ≤ 11 → mask_by rule s ≡ ok m
      → setter_request rule sheet to name d s level
      ≡ (type_string s.ty sheet (Reader A) then λ typ.
      ok (only sheet.root to (camel_to_snake_case name) d level (set_data_field typ s.offset (ascii "value") m) typ))
  number-request n m e low high f =
      made-request (type_string s.ty sheet (Reader A)) (λ typ. set_data_field typ s.offset (ascii "value") m)
      (ap (setter_parts rule sheet s) e
      ∙ rw (
        ne_eqb n 0 (λ z. omega arith),
        ne_eqb n 12 (λ z. omega arith),
        ne_eqb n 13 (λ z. omega arith),
        ne_eqb (kind s.ty) 1 (λ z. let k = ap kind e in omega arith),
        f,
      ) refl)

  enum-request : (id : ℕ) (ss : Scopes) (m : Option Str) → s.ty ≡ enum id ss → mask_by rule s ≡ ok m
      → setter_request rule sheet to name d s level
      ≡ (get_qualified_module sheet id then λ the_mod.
      ok (only sheet.root to (camel_to_snake_case name) d level
      (set_data_field (ascii "u16") s.offset (ascii "value as u16") m) the_mod))
  enum-request id ss m e f =
      made-request (get_qualified_module sheet id) (λ typ. set_data_field (ascii "u16") s.offset (ascii "value as u16") m)
      (ap (setter_parts rule sheet s) e ∙ rw f refl)

-- ---- the three cases

no-three : {n : ℕ} → (n ≡ 10 → ⊥) → (n ≡ 11 → ⊥) → (n ≡ 15 → ⊥) → (n ≡ 10) ⊎ ((n ≡ 11) ⊎ (n ≡ 15)) → ⊥
no-three a b c (inl z) = a z
no-three a b c (inr (inl z)) = b z
no-three a b c (inr (inr z)) = c z

-- both requests are made of one text by either mask, and the two differ whatever it is
pub record TwoTexts (paired present : Out Str) : Type 0 where
  pub typ : Out Str
  pub with_paired : Str → Str
  pub with_present : Str → Str
  pub paired_is : paired ≡ (typ then λ t. ok (with_paired t))
  pub present_is : present ≡ (typ then λ t. ok (with_present t))
  pub differ : (t : Str) → with_paired t ≡ with_present t → ⊥

module _ (sheet : Sheet) (to : ℕ) (name : Str) (d : ℕ) (s : Slot) (level : ℕ) (k : Kind) (a b : Option ℕ) (o : Opposite a b)
    (paired : mask_by paired_mask s ≡ ok (option_map (set_mask_text k) a))
    (present : mask_by present_mask s ≡ ok (option_map (set_mask_text k) b)) where
  abbrev Two : Type 0
  Two = TwoTexts (setter_request paired_mask sheet to name d s level) (setter_request present_mask sheet to name d s level)

  abbrev made : Str → Str → Str
  made = only sheet.root to (camel_to_snake_case name) d level

  pub two-texts : (t : Ty) → s.ty ≡ t → ((n : ℕ) → t ≡ plain n → n < 14) → (kind t ≡ 10) ⊎ ((kind t ≡ 11) ⊎ (kind t ≡ 15)) → Two
  two-texts (plain n) e below c =
      let range : (2 ≤ n) × (n ≤ 11) = between c (below n refl) in
      record {
        typ = type_string s.ty sheet (Reader A);
        with_paired = λ t. made (set_data_field t s.offset (ascii "value") (option_map (set_mask_text k) a)) t;
        with_present = λ t. made (set_data_field t s.offset (ascii "value") (option_map (set_mask_text k) b)) t;
        paired_is = number-request paired_mask sheet to name d s level n _ e range.0 range.1 paired;
        present_is = number-request present_mask sheet to name d s level n _ e range.0 range.1 present;
        differ = λ t f. calls-apart k t s.offset (ascii "value") a b o
            (only-own sheet.root to (camel_to_snake_case name) d level _ _ t f);
      }
    where
      between : {n : ℕ} → (n ≡ 10) ⊎ ((n ≡ 11) ⊎ (n ≡ 15)) → n < 14 → (2 ≤ n) × (n ≤ 11)
      between (inl z) l = (omega arith, omega arith)
      between (inr (inl z)) l = (omega arith, omega arith)
      between (inr (inr z)) l = absurd (omega arith)
  two-texts (enum id ss) e below c = record {
    typ = get_qualified_module sheet id;
    with_paired = λ t. made (set_data_field (ascii "u16") s.offset (ascii "value as u16") (option_map (set_mask_text k) a)) t;
    with_present = λ t. made (set_data_field (ascii "u16") s.offset (ascii "value as u16") (option_map (set_mask_text k) b)) t;
    paired_is = enum-request paired_mask sheet to name d s level id ss _ e paired;
    present_is = enum-request present_mask sheet to name d s level id ss _ e present;
    differ = λ t f. calls-apart k (ascii "u16") s.offset (ascii "value as u16") a b o
        (only-own sheet.root to (camel_to_snake_case name) d level _ _ t f);
  }
  two-texts (list t) e below c = absurd (no-three (λ z. omega arith) (λ z. omega arith) (λ z. omega arith) c)
  two-texts (struct id ss) e below c = absurd (no-three (λ z. omega arith) (λ z. omega arith) (λ z. omega arith) c)
  two-texts (interface id ss) e below c = absurd (no-three (λ z. omega arith) (λ z. omega arith) (λ z. omega arith) c)
  two-texts any_pointer e below c = absurd (no-three (λ z. omega arith) (λ z. omega arith) (λ z. omega arith) c)
  two-texts (parameter id j) e below c = absurd (no-three (λ z. omega arith) (λ z. omega arith) (λ z. omega arith) c)
