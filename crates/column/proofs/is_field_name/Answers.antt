-- `column::is_field_name` meets its contract. The test of its chars is `is_word`, which takes no first byte of a letter. Assumes
-- nothing.
use Rattle.std.proofs.Common.{sym, ◌∙◌}
use Rattle.column.specs.Texts.{is_word, is_field_name}
use Rattle.column.proofs.CharLaws.{word-no-lead}
use Rattle.column.proofs.is_field_name.Goals as goal

pub returns-then-may_be_name : goal.returns-then-may_be_name
unfolding is_field_name
returns-then-may_be_name c =
    rw (sym c.may_be_name.ensures ∙ c.if-may_be_name.true) (c.are_chars.ensures is_word (λ b r said. said) word-no-lead)
