-- `padding::pad_row` meets its contract: the row's letter and what stands after it. Assumes nothing.
use Rattle.std.proofs.Common.{arith}
use Rattle.text.proofs.Laws.{◌⨾◌}
use Rattle.padding.proofs.Laws.{wrote_as, row-none, row-padded}
use Rattle.padding.proofs.pad_row.Goals as goal

pub returns-in_default : goal.returns-in_default
returns-in_default c = row-none c.args.r.now (omega arith)

pub returns : goal.returns
returns c =
    wrote_as (row-padded c.args.r.now _ (λ e. omega arith) c.number_count.ensures) (c.byte-out.ensures ⨾ c.words_padded.ensures)
