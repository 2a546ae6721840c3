-- `row::newline_bits` meets its contract: its test is that of eight bytes, whose law stands in WordLaws. Assumes nothing.
use Rattle.row.proofs.WordLaws.{repeated, test_bits, others-fit}
use Rattle.row.proofs.ends.newline_bits.Goals as goal

pub overflow_add-others : goal.overflow_add-others
unfolding repeated
overflow_add-others c = record { fits = others-fit c.args.w }

pub returns : goal.returns
unfolding repeated
returns c = test_bits 8 c.args.w
