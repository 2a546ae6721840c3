-- `tree::words` meets its contract: at least one W row where words belong, and none elsewhere. Assumes nothing.
use mathlib.Core.Path.{refl}
use borrow.Author.Tests.{eq-eqb, ne_eqb}
use Rattle.std.proofs.lemmas.Result.{err_from_is_err_and}
use Rattle.tree.proofs.SlotLaws.{words-absent, words-some}
use Rattle.tree.proofs.words.Goals as goal

pub returns-then-not-has : goal.returns-then-not-has
returns-then-not-has c = words-absent _ _ c.if-not-has.true

pub returns-in_err-words : goal.returns-in_err-words
returns-in_err-words c =
    let p = err_from_is_err_and c.from_residual.result c.from_residual.ensures.1 in
    rw (p.1, p.2, words-some _ _ c.if-not-has.false, ← c.in_err-words.ensures) refl

pub returns-then-words-eq0 : goal.returns-then-words-eq0
returns-then-words-eq0 c =
    rw (words-some _ _ c.if-not-has.false, ← c.in_ok-words.ensures, eq-eqb c.in_ok-words.words.count 0 c.if-words-eq0.true) refl

pub returns : goal.returns
returns c =
    rw (words-some _ _ c.if-not-has.false, ← c.in_ok-words.ensures, ne_eqb c.in_ok-words.words.count 0 c.if-words-eq0.false) refl
