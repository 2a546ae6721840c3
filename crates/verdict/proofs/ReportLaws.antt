-- Laws of a whole report: both parts of an admitted sheet's, and of a refused one's. Assumes nothing.
use mathlib.Core.Path.{◌≡◌, refl, sym, ap, ◌∙◌}
use mathlib.Core.List.{List, []}
use Rattle.std.specs.Prelude.{Ok, Err, ⊤}
use Rattle.std.proofs.lemmas.Option.{same_Some}
use Prim.Native.Nat.{ℕ, ◌+◌, ◌-◌, ◌^◌, min}
use Rattle.text.specs.Bytes.{Str}
use Rattle.text.specs.Text.{state_at, put, adv, Wrote}
use Rattle.text.specs.declared.Text.{Text}
use Rattle.text.proofs.Laws.{◌⨾◌}
use Rattle.row.specs.Rows.{rows}
use Rattle.row.specs.Line.{text_at}
use Rattle.terms.specs.Refusals.{number}
use Rattle.tree.specs.Tree.{Node}
use Rattle.tree.specs.Read.{Admitted, sheet, refused, admitted}
use Rattle.tree.proofs.OtherLines.{never}
use Rattle.nodes.specs.Index.{Indexed, sheet_of, InSource, IsSource}
use Rattle.nodes.specs.declared.Source.{Source}
use Rattle.sheet.specs.Admission.{answer_numbers, refusal_in, IndexOf}
use Rattle.sheet.specs.declared.Refused.{Refused}
use Rattle.requests.proofs.SheetLaws.{of_sheet}
use Rattle.verdict.specs.Report.{all_judged, tally, refusal_text, first_part}
use Rattle.verdict.specs.Report.{second_part}
use Rattle.verdict.specs.Listing.{Sorts, none_sorted}
use Rattle.verdict.specs.declared.report.Sorted.{Sorted}
use Rattle.verdict.proofs.CountLaws.{sheet-few, counted-disagreeing, counted-all}

-- a refused sheet: nothing, and its refusal
module _ (s : Str) (r : Refused) (told : answer_numbers (Err r) ≡ refusal_in (admitted s)) where
  pub refused-parts :
      (first_part (admitted s) ≡ [])
      × (second_part (admitted s) ≡ refusal_text (number r.refusal) r.line r.column)
  refused-parts = go (admitted s) told
    where
      go : (a : Admitted) → answer_numbers (Err r) ≡ refusal_in a
          → (first_part a ≡ []) × (second_part a ≡ refusal_text (number r.refusal) r.line r.column)
      go (sheet sh) e = never cc
      go (refused k l c) e =
          let same : ◌≡◌ {A = ℕ × ℕ × ℕ} (number r.refusal, r.line, r.column) (k, l, c) = same_Some _ _ e in
          (refl, ap (λ (p : ℕ × ℕ × ℕ). refusal_text p.0 p.1 p.2) (sym same))

pub nothing-first : (s : Str) (r : Refused) → answer_numbers (Err r) ≡ refusal_in (admitted s) → (l : Str) (t : Text)
    → t ≡ state_at 0 → Wrote l (state_at 0) (first_part (admitted s)) l t
unfolding put adv
nothing-first s r told l t e = rw (e, (refused-parts s r told).0) (record { bytes = refl; state = refl })

pub refusal-second : (s : Str) (r : Refused) → answer_numbers (Err r) ≡ refusal_in (admitted s) → (m m' : Str) (t : Text)
    → Wrote m (state_at 0) (refusal_text (number r.refusal) r.line r.column) m' t
    → Wrote m (state_at 0) (second_part (admitted s)) m' t
refusal-second s r told m m' t e = rw (refused-parts s r told).1 e

-- an admitted one: its slots in both buffers, and behind them how many they are
module _ (s : Str) (index : List ℕ) (u : ⊤) (told : answer_numbers (Ok u) ≡ refusal_in (admitted s))
    (indexed : IndexOf s (admitted s) index) (x : Source) (is : IsSource s index x) (l m l₁ m₁ : Str) (b : Sorted)
    (listed : InSource x (λ sheet. Sorts (all_judged sheet) l m none_sorted l₁ m₁ b)) where
  sorted : (ns : List Node) → Indexed s ns index → Sorts (all_judged (sheet_of (text_at (rows s)) ns)) l m none_sorted l₁ m₁ b
  sorted ns d = rw is.root-is at (listed ns (rw (is.bytes-are, is.index-is) d))

  pub admitted-first : Wrote l (state_at 0) (first_part (admitted s)) l₁ b.disagreeing.text
  admitted-first =
      of_sheet s index (λ a. Wrote l (state_at 0) (first_part a) l₁ b.disagreeing.text) u told indexed
      (λ ns d. (sorted ns d).first.lines)

  pub admitted-second : (slots : ℕ) (m₂ : Str) (t : Text) → slots ≡ min (b.disagreeing.count + b.others.count) (2 ^ 64 - 1)
      → Wrote m₁ b.others.text (tally slots b.disagreeing.count) m₂ t
      → Wrote m (state_at 0) (second_part (admitted s)) m₂ t
  admitted-second slots m₂ t all e =
      of_sheet s index (λ a. Wrote m (state_at 0) (second_part a) m₂ t) u told indexed
      (λ ns d.
      let sh = sheet_of (text_at (rows s)) ns in
      let js = all_judged sh in
      let few = sheet-few s index sh u told d in
      let told = sorted ns d in
      told.second.lines
      ⨾ (rw (all ∙ counted-all js few b told, counted-disagreeing js few b told) at e))
