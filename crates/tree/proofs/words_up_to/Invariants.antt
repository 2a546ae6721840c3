use mathlib.Core.Path.{◌≡◌}
use lib.ListN.{length, drop}
use Rattle.row.specs.Rows.{rows}
use Rattle.tree.specs.Reader.{map_r}
use Rattle.tree.specs.Read.{read_words_up_to}
use Rattle.tree.proofs.SlotLaws.{counting}
use Rattle.tree.proofs.words_up_to.Given as goal

abbrev pub invariant-loop-count : goal.invariant-loop-count
invariant-loop-count l =
    counting l.most l.count (rows (drop l.at l.s)) ≡ map_r length (read_words_up_to l.most) (rows (drop l.from l.s))
