-- `exports::index::claims` meets its contract: an admitted sheet is the sheet of its root and the nodes that its index has.
-- Assumes nothing.
use mathlib.Core.Path.{◌≡◌}
use Rattle.std.specs.Prelude.{Ok}
use Rattle.tree.specs.Read.{admitted}
use Rattle.sheet.specs.Admission.{answer_numbers, refusal_in}
use Rattle.requests.proofs.SheetLaws.{of_sheet}
use Rattle.exports.specs.Boundary.{SameAnswersHold, ask, Asked}
use Rattle.exports.proofs.index.claims.Goals as goal

same-answers : SameAnswersHold
same-answers s index sh e indexed id request level l fill l' fill' number line column h =
    let told : answer_numbers (Ok tt) ≡ refusal_in (admitted s) = rw e in
    of_sheet s index (λ a. Asked l fill (ask a id request level) l' fill' number line column) tt told indexed
    (λ nodes d. h nodes d)

pub returns : goal.returns
returns c = same-answers
