-- `getter::declaration` meets its contract: the declaration of the words, or nothing. Assumes nothing.
use mathlib.Core.Path.{refl, sym, ◌∙◌}
use Rattle.text.proofs.Laws.{nothing-at, reworded}
use Rattle.getter.proofs.declaration.Goals as goal

pub returns-then-has_words : goal.returns-then-has_words
returns-then-has_words c =
    reworded (λ n. rw (sym c.has_words.ensures ∙ c.if-has_words.true) refl) c.word_array_declaration.ensures

pub returns : goal.returns
returns c = nothing-at (rw (sym c.has_words.ensures ∙ c.if-has_words.false) refl)
