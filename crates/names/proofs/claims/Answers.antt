-- `names::claims` meets its contract: a field's name has at most 64 bytes, and its bytes that are no part of a letter are ASCII.
-- Assumes nothing.
use mathlib.Core.Path.{◌≡◌}
use mathlib.Core.Bool.{true, false}
use Prim.Native.Nat.{ℕ}
use lib.ListN.{length}
use borrow.Author.Tests.{le-leb, lt-ltb}
use Rattle.column.specs.Texts.{is_word}
use Rattle.column.proofs.CharLaws.{word_low, chars_wider}
use Rattle.column.proofs.Laws.{may_length, field-name_may, field-name_chars}
use Rattle.names.specs.Names.{is_ascii, taken, FieldNamesTaken}
use Rattle.names.proofs.claims.Goals as goal

word-ascii : (b : ℕ) → is_word b ≡ true → is_ascii b ≡ true
word-ascii b e = lt-ltb b 128 (word_low b e)

field-names-taken : FieldNamesTaken
unfolding taken
field-names-taken t e =
    rw (le-leb (length t) 64 (may_length t (field-name_may t e)).1)
    (chars_wider is_word is_ascii word-ascii false t (field-name_chars t e))

pub returns : goal.returns
returns c = field-names-taken
