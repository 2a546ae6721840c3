-- `names::takes` meets its contract. The test of its chars is `is_ascii`, which takes no first byte of a letter. Assumes nothing.
use borrow.Author.Tests.{lt-leb, le-leb, ltb-true}
use Rattle.column.proofs.CharLaws.{low-no-lead}
use Rattle.names.specs.Names.{is_ascii, taken}
use Rattle.names.proofs.takes.Goals as goal

pub returns-then-name-le-NAME_BYTES : goal.returns-then-name-le-NAME_BYTES
unfolding taken
returns-then-name-le-NAME_BYTES c =
    rw (le-leb _ _ c.if-name-le-NAME_BYTES.true)
    (c.are_chars.ensures is_ascii (λ b r said. said) (λ b low. low-no-lead b (ltb-true _ _ low)))

pub returns-else-name-le-NAME_BYTES : goal.returns-else-name-le-NAME_BYTES
unfolding taken
returns-else-name-le-NAME_BYTES c = simp (lt-leb _ _ c.if-name-le-NAME_BYTES.false)
