-- `row::singly` meets its contract: `position` tells where the first byte 10 of the rest stands, and past the end there is none.
-- Assumes nothing.
use mathlib.Core.Path.{◌≡◌, sym, ap, ◌∙◌}
use mathlib.Core.Bool.{Bool}
use Prim.Native.Nat.{ℕ, ◌+◌}
use native.Mathlib.Omega.{arith}
use lib.Dec.{eqb}
use borrow.Author.Rules.{rules}
use borrow.Author.Tests.{tests}
use Rattle.std.specs.List.{position_from}
use Rattle.std.specs.Option.{option_map}
use Rattle.std.proofs.lemmas.Iterator.{YieldsList-from_slice}
use Rattle.std.proofs.lemmas.Iterator.Search.{position_from_yields_List}
use Rattle.std.proofs.lemmas.Iterator.Adapters.{position_from-zero}
use Rattle.column.proofs.Laws.{rest-is}
use Rattle.row.specs.Newline.{newline_from}
use Rattle.row.proofs.NewlineLaws.{position-is, found_none}
use Rattle.row.proofs.ends.singly.Goals as goal
use Rattle.row.proofs.ends.singly.Goals.{After-position}

-- what `position` answers
found : (c : After-position) → option_map (λ (k : ℕ). c.args.from + k) c.position.result ≡ newline_from c.args.s.now c.args.from
found c =
    let s = c.args.s.now in
    let rest = c.in_ok-rest.rest.now in
    let ten : ℕ → Bool = λ b. eqb b 10 in
    position-is s c.args.from _
    (position_from_yields_List ten _ _ _ c.position.ensures.ran (YieldsList-from_slice rest cc)
    (λ x b q k. search (rules, tests))
    ∙ position_from-zero {B = ℕ} ten rest
    ∙ ap (position_from ten 0) (c.in_ok-rest.ensures.lookup.0.2 ∙ rest-is s c.args.from))

pub returns : goal.returns
returns c = rw c.in_ok-i.was at (found (goal.at.returns c).After-position)

pub returns-in_err-rest : goal.returns-in_err-rest
returns-in_err-rest c =
    c.from_residual.ensures ∙ sym (found_none c.args.s.now c.args.from (omega (arith, c.in_err-rest.ensures.lookup)))

pub returns-in_err-i : goal.returns-in_err-i
returns-in_err-i c =
    c.from_residual-in_err-i.ensures ∙ rw c.in_err-i.was at (found (goal.at.returns-in_err-i c).After-position)
