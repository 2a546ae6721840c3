-- Laws of where the printing of a sheet begins: all of an admitted sheet is left at its first node, and of a refused one its
-- refusal. Assumes nothing.
use mathlib.Core.Path.{◌≡◌, sym, ap}
use mathlib.Core.List.{List}
use Prim.Native.Nat.{ℕ}
use Rattle.text.specs.Bytes.{Str}
use Rattle.tree.specs.Read.{Admitted, sheet, refused, admitted}
use Rattle.sheet.specs.Admission.{answer_numbers, refusal_in, IndexOf}
use Rattle.requests.proofs.SheetLaws.{of_sheet}
use Rattle.std.specs.Prelude.{Ok, Err, ⊤}
use Rattle.std.proofs.lemmas.Option.{same_Some}
use Rattle.terms.specs.Refusals.{number}
use Rattle.sheet.specs.declared.Refused.{Refused}
use Rattle.parts.specs.Program.{program_text, refused_sheet_text}
use Rattle.parts.specs.Left.{Left}
use Rattle.parts.specs.Steps.{Enters}
use Rattle.parts.specs.declared.Place.{Place}
use Rattle.parts.specs.declared.Place.TheVariants as place

-- a sheet that is admitted, and has this index
pub start-sheet : (s : Str) (index : List ℕ) (place : Place) (u : ⊤) → answer_numbers (Ok u) ≡ refusal_in (admitted s)
    → IndexOf s (admitted s) index → Enters index 0 place → Left s index place (program_text (admitted s))
unfolding program_text
start-sheet s index place u told indexed enters =
    of_sheet s index (λ (a : Admitted). Left s index place (program_text a)) u told indexed (λ nodes x. enters.left s nodes x)

-- one that is refused
pub start-refused : (s : Str) (index : List ℕ) (r : Refused) → answer_numbers (Err r) ≡ refusal_in (admitted s)
    → Left s index (place.Refused r) (program_text (admitted s))
unfolding program_text
start-refused s index r told = go (admitted s) told
  where
    go : (a : Admitted) → answer_numbers (Err r) ≡ refusal_in a → Left s index (place.Refused r) (program_text a)
    go (sheet sh) e = cc
    go (refused k l c) e =
        let same : ◌≡◌ {A = ℕ × ℕ × ℕ} (number r.refusal, r.line, r.column) (k, l, c) = same_Some _ _ e in
        ap (λ (p : ℕ × ℕ × ℕ). refused_sheet_text p.0 p.1 p.2) (sym same)
