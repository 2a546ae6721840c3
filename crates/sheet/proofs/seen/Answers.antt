-- `sheet::seen` meets its contract: what `any` finds in the parts of 32, and what is found among the ids after them. Assumes
-- nothing.
use mathlib.Core.Path.{◌≡◌, ◌∙◌}
use Prim.Native.Nat.{◌/◌}
use lib.ListN.{length}
use borrow.Author.Rules.{rules}
use borrow.Author.Tests.{tests}
use Rattle.std.proofs.lemmas.Iterator.{YieldsList-from_slice}
use Rattle.std.proofs.lemmas.Iterator.Search.{any_from_yields_List}
use Rattle.text.specs.Bytes.{either}
use Rattle.tree.specs.Read.{among}
use Rattle.sheet.proofs.FieldsLaws.{any_id, seen_parts}
use Rattle.sheet.proofs.seen.Goals as goal
use Rattle.sheet.proofs.seen.Goals.{After-any}

-- what `any` answers, and what is left, make the whole answer
whole :
    (c : After-any)
    → either c.any.result (any_id c.args.id c.as_chunks.result.1.now) ≡ among c.args.id c.args.ids.now
whole c =
    let id = c.args.id in
    let ids = c.args.ids.now in
    let parts = any_from_yields_List (any_id id) _ _ _ c.any.ensures.ran (YieldsList-from_slice c.as_chunks.result.0.now cc)
    (λ x b q k. search (rules, tests)) in
    let cut = c.as_chunks.ensures in
    rw (parts, cut.front, cut.back) (seen_parts id (length ids / 32) ids)

pub returns-then-any : goal.returns-then-any
returns-then-any c = c.if-any.true ∙ rw c.if-any.true at (whole (goal.at.returns-then-any c).After-any)

pub returns-else-any : goal.returns-else-any
returns-else-any c = c.among.ensures ∙ rw c.if-any.false at (whole (goal.at.returns-else-any c).After-any)
