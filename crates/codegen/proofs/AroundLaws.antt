-- What is made of a text that may be refused, by bytes in front of it and behind it: its outcome, and what stands in the buffer.
-- Assumes nothing.
use mathlib.Core.Path.{refl, sym}
use mathlib.Core.List.{List, ◌++◌}
use Rattle.std.specs.Prelude.{Result, Ok, Err}
use Prim.Native.Nat.{ℕ}
use Rattle.text.specs.Bytes.{Str}
use Rattle.text.specs.Text.{Wrote, WroteSome}
use Rattle.text.specs.declared.Text.{Text}
use Rattle.text.proofs.Laws.{◌⨾◌, ◌⨟◌}
use Rattle.terms.specs.declared.refusals.Refusal.{Refusal}
use Rattle.codegen_types.specs.Out.{Out, ok, refused, ◌then◌}
use Rattle.codegen_types.specs.Written.{Writes, Within}
use Rattle.tree.proofs.OtherLines.{never}
use Rattle.codegen_types.proofs.WrittenLaws.{whole, text-of, not-ok, ok-one, kept-behind}

-- what is made of a text that was written, and of what was made of one
module _ {l₁ l₂ : List ℕ} {t₁ u : Text} {l l' : List ℕ} {t t' : Text} (f : Str → Str) where
  pub made : (o : Out Str) → Writes o l₁ t₁ l₂ (Ok u) → ((w : Str) → Wrote l₁ t₁ w l₂ u → Wrote l t (f w) l' t')
      → Writes (o then λ w. ok (f w)) l t l' (Ok t')
  made o x h = let p = text-of o x in rw p.is (whole (h p.text p.wrote))

  pub made_of : (g : Str → Str) (o : Out Str) → Writes (o then λ w. ok (g w)) l₁ t₁ l₂ (Ok u)
      → ((w : Str) → Wrote l₁ t₁ w l₂ u → Wrote l t (f w) l' t') → Writes (o then λ w. ok (f (g w))) l t l' (Ok t')
  made_of g (ok w) x h = whole (h (g w) (x.text (g w) u refl refl))
  made_of g (refused k) x h = let e = x.refusal in never cc

-- bytes in front of what is made of a text, whether it was refused or not
pub front : {a : Str} {l l₁ l₂ : List ℕ} {t t₁ : Text} {r : Result Text Refusal} (f : Str → Str) (o : Out Str)
    → Wrote l t a l₁ t₁ → Writes (o then λ w. ok (f w)) l₁ t₁ l₂ r → Writes (o then λ w. ok (a ++ f w)) l t l₂ r
front f (ok w) x y = record {
  refusal = y.refusal;
  text = λ v u e g. rw (sym (ok-one e)) (x ⨾ y.text (f w) u refl g);
}
front f (refused k) x y = record { refusal = y.refusal; text = λ v u e g. absurd (not-ok e) }

-- what was written in front of it is as it was
pub within-behind : {l l₁ : List ℕ} {t t₁ : Text} (l₂ : List ℕ) (r : Result Text Refusal) → WroteSome l t l₁ t₁
    → Within l₁ t₁ l₂ r → Within l t l₂ r
within-behind l₂ (Ok u) w h = w ⨟ h
within-behind l₂ (Err e) w h = kept-behind w h
