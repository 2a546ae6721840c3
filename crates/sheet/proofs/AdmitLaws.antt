-- Laws of `read` and `admit`: the answer in each of their cases, from what is refused of the sheet's rows. Assumes nothing.
use mathlib.Core.Path.{◌≡◌, refl, sym, ap, ◌∙◌}
use mathlib.Core.List.{List, []}
use Rattle.std.specs.Prelude.{⊤, Result, Ok, Err}
use Prim.Native.Nat.{ℕ, ◌≤◌, ◌<◌}
use borrow.Author.Tests.{lt-ltb, le-ltb}
use lib.ListN.{length}
use Rattle.text.specs.Bytes.{Str}
use Rattle.terms.specs.declared.refusals.Refusal.TheVariants as refusal
use Rattle.row.specs.Rows.{rows, rest_of}
use Rattle.row.specs.Line.{line_said, line_at, text_at, fault_of}
use Rattle.row.specs.declared.BadLine.{BadLine}
use Rattle.row.specs.declared.Line.{Line}
use Rattle.tree.specs.Tree.{Node, Sheet}
use Rattle.tree.specs.Reader.{Rows, Reading, got, no, Reader, ◌then◌, On}
use Rattle.tree.specs.Read.{read_nodes, read_sheet, numbered, admitted}
use Rattle.tree.specs.Walked.{refused_row}
use Rattle.tree.specs.declared.RefusedRow.{RefusedRow}
use Rattle.tree.proofs.ElseLaws.{OtherThan, else-root}
use Rattle.tree.proofs.WalkLaws.{fault_or, told_wrong}
use Rattle.nodes.specs.Index.{Indexed}
use Rattle.sheet.specs.Admission.{answer_numbers, refusal_in, IndexOf}
use Rattle.sheet.specs.Steps.{refusal_of, NodesRead, SheetRead}
use Rattle.row.specs.declared.Line.TheVariants as line

pub too-long-answer :
    (s : Str) → 65536 < length s
    → answer_numbers (Err (record { refusal = refusal.SheetTooLong; line = 0; column = 0 })) ≡ refusal_in (admitted s)
unfolding admitted
too-long-answer s h = rw (admitted, lt-ltb 65536 (length s) h)

pub too-long-index : (s : Str) (y : List ℕ) → 65536 < length s → IndexOf s (admitted s) y
unfolding admitted
too-long-index s y h = rw (admitted, lt-ltb 65536 (length s) h) tt

-- a sheet that is not too long, and what the code says of its first row
module _ (s : Str) (short : length s ≤ 65536) (l : Result Line BadLine) (here : line_said l ≡ line_at (rows s)) (y : List ℕ) where
  fits : admitted s ≡ numbered s (read_sheet (rows s))
  unfolding admitted
  fits = rw (admitted, le-ltb 65536 (length s) short)

  pub no-root :
      OtherThan 0 l → (r : RefusedRow) → refused_row {A = ⊤} s r ≡ no (fault_or (fault_of 82 (line_said l))) (rows s)
      → SheetRead s (Err r) y
  unfolding read_sheet
  no-root o r e =
      let all : admitted s ≡ numbered s (no (fault_or (fault_of 82 (line_said l))) (rows s)) = fits ∙ ap (numbered s) refused in
      record { refusal = ap (refusal_of s) e ∙ sym (ap refusal_in all); index = λ big. rw all tt }
    where
      refused : read_sheet (rows s) ≡ no (fault_or (fault_of 82 (line_said l))) (rows s)
      refused =
          rw (← here, else-root {A = Reader _} l _ _ o, ← here) (told_wrong {A = Sheet} (fault_of 82 (line_said l)) (rows s))

  -- an R row, and the nodes after it
  module _ (is : l ≡ Ok line.Root) (rest : Rows) (after : rest ≡ rest_of (rows s)) (r : Result ⊤ RefusedRow)
      (read : NodesRead s r y (read_nodes 64 [] [] rest)) where
    made : List Node → Sheet
    made ns = record { root = text_at (rows s); nodes = ns }

    nodes-read : admitted s ≡ numbered s (read_nodes 64 [] [] rest then λ ns. got (made ns))
    unfolding line_said read_sheet made
    nodes-read = fits ∙ rw (← here, is, ← after)

    pub sheet-read : SheetRead s r y
    unfolding made
    sheet-read = record {
      refusal = read.refusal ∙ sym (ap refusal_in nodes-read ∙ same (read_nodes 64 [] [] rest));
      index = λ big. rw nodes-read (of_nodes (read_nodes 64 [] [] rest) (read.index big));
    }
      where
        same : (g : Reading (List Node)) → refusal_in (numbered s (g then λ ns. got (made ns))) ≡ refusal_of s g
        same (got ns us) = refl
        same (no k us) = refl

        of_nodes : (g : Reading (List Node)) → On g (λ ns. Indexed s ns y) → IndexOf s (numbered s (g then λ ns. got (made ns))) y
        of_nodes (got ns us) d = d
        of_nodes (no k us) d = tt
