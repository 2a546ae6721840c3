-- Laws of the parts of a field: what stands under a header, a part, and the parts from one on. Assumes nothing.
use mathlib.Core.Path.{◌≡◌, refl, sym, ap, subst, ◌∙◌}
use mathlib.Core.List.{List, [], ◌∷◌, ◌++◌, append_assoc, append-nil}
use Rattle.std.specs.Prelude.{Some, Result, Ok, Err}
use Prim.Native.Nat.{ℕ, ◌+◌, ◌*◌, ◌^◌, ◌≤◌, ◌<◌}
use native.Mathlib.Omega.{arith}
use borrow.Author.Tests.{lt-ltb, le-ltb}
use lib.ListN.{length, take}
use Rattle.text.specs.Bytes.{Str}
use Rattle.text.specs.Text.{state_at, Wrote}
use Rattle.text.specs.declared.Text.{Text}
use Rattle.tree.specs.Tree as tree
use Rattle.tree.specs.Tree.{Node, Sheet}
use Rattle.codegen_types.specs.Out.{Out, ok, refused}
use Rattle.codegen_types.specs.Written.{Writes}
use Rattle.terms.specs.Refusals.{number}
use Rattle.terms.specs.declared.refusals.Refusal.{Refusal}
use Rattle.codegen_types.proofs.WrittenLaws.{refusal-is}
use Rattle.nodes.specs.Index.{InSource, sheet_of}
use Rattle.nodes.specs.declared.Source.{Source}
use Rattle.field.specs.declared.Field.{Field}
use Rattle.requests.specs.Requests.{accessor_text}
use Rattle.parts.specs.Program.{accessor_of, header_text, refused_text, part_text, printed_part, each_text}
use Rattle.parts.specs.Fit.{part_most, Named, PartPut, PartsPut}
use Rattle.parts.specs.declared.Part.{Part}
use Rattle.parts.proofs.FitLaws.{start-at, text-end, lent, back, back-length, on-within, taken-on}

-- what is written at the start, at its level, is written at level 0
at-start : {l l' : Str} {t : Text} {r : Result Text Refusal} (o : ℕ → Out Str) → t ≡ state_at 0 → Writes (o t.level) l t l' r
    → Writes (o 0) l t l' r
at-start {l} {l'} {t} {r} o e = subst (λ (n : ℕ). Writes (o n) l t l' r) (ap (λ (u : Text). u.level) e)

-- ---- what stands under a header, over the outcome of the accessor's text, which left l' and r

module _ {l l' : Str} {t₀ : Text} (z : t₀ ≡ state_at 0) where
  -- it is refused
  pub refused-part : (o : ℕ → Out Str) (e : Refusal) → Writes (o t₀.level) l t₀ l' (Err e)
      → refused_text (number e) ≡ part_text (o 0)
  unfolding part_text
  refused-part o e h = rw (refusal-is (o 0) (at-start o z h)) refl

  -- it is longer than a text may be
  pub long-part : (o : ℕ → Out Str) (t : Text) → Writes (o t₀.level) l t₀ l' (Ok t) → 65536 < t.at
      → refused_text 22 ≡ part_text (o 0)
  unfolding part_text
  long-part o t h g = go (o 0) (at-start o z h)
    where
      go : (o : Out Str) → Writes o l t₀ l' (Ok t) → refused_text 22 ≡ part_text o
      go (ok w) h =
          let f : 65536 < length w = omega (arith, text-end (start-at z) (h.text w t refl refl)) in rw (lt-ltb 65536 (length w) f)
      go (refused j) h = let f = h.refusal in cc

  -- it is whole
  pub whole_part : (o : ℕ → Out Str) (t : Text) → Writes (o t₀.level) l t₀ l' (Ok t) → t.at ≤ 65536 → length l < 2 ^ 63
      → Wrote l (state_at 0) (part_text (o 0)) l' t
  unfolding part_text
  whole_part o t h g b = go (o 0) (at-start o z h)
    where
      go : (o : Out Str) → Writes o l t₀ l' (Ok t) → Wrote l (state_at 0) (part_text o) l' t
      go (ok w) h =
          let v = h.text w t refl refl in
          let f : length w ≤ 65536 = omega (arith, text-end (start-at z) v) in
          rw (le-ltb 65536 (length w) f, ← z) v
      go (refused j) h = let f = h.refusal in cc

-- ---- a part: a header of n bytes, and under it a text of m bytes of what was lent from n on

pub part-whole :
    (sheet : Sheet) (at : Node × tree.Field) (part : Part) (name l l' : Str) (n m : ℕ) → name ≡ at.1.name → n ≤ length l
    → m ≤ length l' → take n l ≡ header_text part name → take m l' ≡ part_text (accessor_text sheet at (accessor_of part) 0)
    → take (n + m) (back l n l') ≡ printed_part sheet at part
unfolding printed_part
part-whole sheet at part name l l' n m i h g header text = taken-on l l' n h m g ∙ rw (header, text, i)

-- ---- parts of a field, one after the other

-- n bytes of l are the parts `all` but for these, which are left; each part has at most `part_most name` bytes
pub record PartsLeft (x : Source) (tag : ℕ) (field : Field) (name : Str) (all : List Part) (l₀ l : Str) (n : ℕ)
    (left : List Part) : Type 0 where
  pub size : length l ≡ length l₀
  pub within : n ≤ length l
  pub fits : n + length left * part_most name ≤ length all * part_most name
  pub said : InSource x (λ sheet. (at : Node × tree.Field) → Named x.bytes.now tag field name at
      → take n l ++ each_text (printed_part sheet at) left ≡ each_text (printed_part sheet at) all)

module _ (x : Source) (tag : ℕ) (field : Field) (name : Str) (all : List Part) (l₀ : Str) where
  module _ (l : Str) (n : ℕ) (part : Part) (parts : List Part) (left : PartsLeft x tag field name all l₀ l n (part ∷ parts)) where
    -- the next part stands behind them, and these are left
    pub parts_more :
        (l' : Str) (m : ℕ) → length l' ≡ length (lent l n) → m ≤ length l'
        → m ≤ part_most name → PartPut x tag field name part l' (Some m)
        → PartsLeft x tag field name all l₀ (back l n l') (n + m) parts
    unfolding each_text
    parts_more l' m k g h put = record {
      size = back-length l l' n left.within k ∙ left.size;
      within = on-within l l' n left.within m g;
      fits = omega (arith, h, left.fits);
      said = λ ns i₀ at named.
          let each = each_text (printed_part (sheet_of x.root.now ns) at) in
          ap (λ (y : Str). y ++ each parts) (taken-on l l' n left.within m g)
          ∙ append_assoc (take n l) (take m l') (each parts)
          ∙ ap (λ (y : Str). take n l ++ (y ++ each parts)) (put ns i₀ at named)
          ∙ left.said ns i₀ at named;
    }

  -- none is left
  pub parts_last :
      (l : Str) (n : ℕ) → PartsLeft x tag field name all l₀ l n []
      → PartsPut x tag field name all l (Some n)
  unfolding each_text
  parts_last l n left = λ ns i₀ at named. sym (append-nil (take n l)) ∙ left.said ns i₀ at named
