-- `column::are_chars` meets its contract. Each char passed is one that passes the test, or a letter. Assumes nothing.
use Rattle.std.proofs.Common.{rules, arith, sym, ◌∙◌}
use Rattle.column.proofs.CharLaws.{letter-inside, chars-more, chars-letter, chars-stop, chars_end}
use Rattle.column.proofs.are_chars.Goals as goal

pub loop-i-preserved-then-ok : goal.loop-i-preserved-then-ok
loop-i-preserved-then-ok g c = (
  search rules,
  λ test is low.
      let passes = sym (is _ _ c.ok.ensures) ∙ c.if-ok.true in
      c.loop-i.invariant.1 test is low ∙ chars-more test _ _ c.loop-i-test.true passes (low _ passes),
)

pub loop-i-preserved : goal.loop-i-preserved
loop-i-preserved g c =
    let letter = sym c.letter_at.ensures ∙ c.if-letter_at.true in (
      omega (arith, letter-inside c.args.t.now c.loop-i.i letter),
      λ test is low.
          let fails = sym (is _ _ c.ok.ensures) ∙ c.if-ok.false in
          c.loop-i.invariant.1 test is low ∙ chars-letter test _ _ c.loop-i-test.true fails letter,
    )

pub returns-else-letter_at : goal.returns-else-letter_at
returns-else-letter_at g c = λ test is low.
    let fails = sym (is _ _ c.ok.ensures) ∙ c.if-ok.false in
    let no-letter = sym c.letter_at.ensures ∙ c.if-letter_at.false in
    sym (c.loop-i.invariant.1 test is low ∙ chars-stop test _ _ c.loop-i-test.true fails no-letter)

pub returns : goal.returns
returns g c = λ test is low. sym (c.loop-i.invariant.1 test is low ∙ chars_end test _ _ c.loop-i-test.false)
