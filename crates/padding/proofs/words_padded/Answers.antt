-- `padding::words_padded` meets its contract. The loop's invariant: the words that are left, put now, make what all make from the
-- start. Assumes nothing.
use Rattle.std.proofs.Common.{◌≡◌, arith, ◌-◌}
use Rattle.text.proofs.Laws.{left-more}
use Rattle.padding.proofs.Laws.{left-last, words-turn, words-rest}
use Rattle.padding.proofs.words_padded.Goals as goal

pub loop-preserved : goal.loop-preserved
loop-preserved c =
    left-more
    (rw (words-turn c.loop.rest.now c.space_len.result c.word_len-len.result c.space_len.ensures c.word_len-len.ensures
    c.args.count c.loop.counter c.loop-test.true) at c.loop.invariant)
    c.right_justified-out.ensures

pub returns : goal.returns
returns c =
    let none : c.args.count - c.loop.counter ≡ 0 = omega arith in
    left-last
    (rw (
      words-rest c.loop.rest.now c.space_len-2.result c.space_len-2.ensures (c.args.count - c.loop.counter) none,
      ← c.saturating_sub.ensures,
    ) at c.loop.invariant)
    c.bytes.ensures
