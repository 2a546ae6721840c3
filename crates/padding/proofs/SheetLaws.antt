-- The two claims: the rows of an admitted sheet are lines printed, and each of them stays and comes back. Assumes nothing.
use mathlib.Core.Path.{◌≡◌, refl, sym, ap, ◌∙◌}
use mathlib.Core.List.{[], ◌++◌, map}
use Rattle.text.specs.Bytes.{Str}
use Rattle.row.specs.Rows.{rows, joined}
use Rattle.row.specs.Print.{print_line}
use Rattle.tree.specs.Reader.{Rows}
use Rattle.tree.specs.Tree.{Sheet}
use Rattle.tree.specs.Read.{sheet, admitted}
use Rattle.tree.specs.Print.{sheet_rows, printed}
use Rattle.printed.proofs.Reading.{Lined, no_line, a_line}
use Rattle.printed.proofs.Sheets.{tree-lined, tree-back, prints_read}
use Rattle.padding.specs.Padded.{padded_rows, padded_text}
use Rattle.padding.specs.Short.{short}
use Rattle.padding.specs.Claims.{PadsShortHolds, KeepsPaddedHolds}
use Rattle.padding.proofs.ShortLaws.{rows_short}
use Rattle.padding.proofs.RowLaws.{line-comes}

-- rows that stay as they are, and that come back from their short forms
record RowsCome (rs : Rows) : Type 0 where
  keep : padded_rows rs ≡ joined rs
  return : padded_rows (map short rs) ≡ joined rs

none_come : RowsCome []
unfolding padded_rows joined
none_come = record { keep = refl; return = refl }

lines_come : {rs rest : Rows} → Lined rs rest → RowsCome rest → RowsCome rs
unfolding padded_rows joined
lines_come no_line h = h
lines_come (a_line l text {rs = rs} f r) h =
    let one = line-comes l text f in
    let more = lines_come r h in
    record {
      keep =
          ap (λ (s : Str). s ++ padded_rows rs) one.keeps ∙ ap (λ (s : Str). print_line l text ++ s) more.keep;
      return =
          ap (λ (s : Str). s ++ padded_rows (map short rs)) one.returns
          ∙ ap (λ (s : Str). print_line l text ++ s) more.return;
    }

-- the rows of an admitted sheet
module _ (s : Str) (sh : Sheet) (e : admitted s ≡ sheet sh) where
  rows_are : rows s ≡ sheet_rows sh
  rows_are = let (p, w) = prints_read s sh e in ap rows (sym p) ∙ tree-back sh w

  all_come : RowsCome (sheet_rows sh)
  all_come = lines_come (tree-lined sh (prints_read s sh e).1) none_come

  bytes-are : joined (sheet_rows sh) ≡ s
  unfolding printed
  bytes-are = (prints_read s sh e).0

pub pads_short : PadsShortHolds
unfolding padded_text
pads_short s sh e =
    ap padded_rows (rows_short s ∙ ap (map short) (rows_are s sh e)) ∙ (all_come s sh e).return ∙ bytes-are s sh e

pub keeps-padded : KeepsPaddedHolds
unfolding padded_text
keeps-padded s sh e = ap padded_rows (rows_are s sh e) ∙ (all_come s sh e).keep ∙ bytes-are s sh e
