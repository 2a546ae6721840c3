-- `parts::print::print_pieces` meets its contract and ends: what it hands over is the piece that `fill` made, each piece comes
-- to a place of the sheet, and one with a byte in it leaves less. Assumes nothing.
use mathlib.Core.Path.{◌∙◌}
use Rattle.parts.proofs.FitLaws.{front_length}
use Rattle.parts.proofs.LeftLaws.{reached_next}
use Rattle.parts.proofs.print.print_pieces.Goals as goal

pub loop-place-preserved : goal.loop-place-preserved
loop-place-preserved c =
    let so_far = c.loop-place.invariant in
    let l = c.fill-n.new.out in
    let l' = c.hand.new.piece in (
      front_length l l' c.fill-n.result.n c.fill-n.ensures.count.0 c.hand.auto.piece
          ∙ c.fill-n.auto.out
          ∙ so_far.0,
      reached_next _ _ _ _ _ _ so_far.1 c.fill-n.ensures.filled,
    )
