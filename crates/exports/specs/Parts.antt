-- What the private parts of the code say, in the terms of the definitions. Assumes nothing.
use Rattle.std.specs.Prelude.{◌≡◌, ℕ, Option, None, Some}
use Rattle.terms.specs.Refusals.{number}
use Rattle.sheet.specs.declared.Refused.{Refused}
use Rattle.text.specs.Answer as text
use Rattle.exports.specs.Boundary.{number_in, line_in, column_in, fill_in}

-- the number, the line and the column of a refusal; 0 where there is none
abbrev pub numbers_of : Option Refused → ℕ × ℕ × ℕ
numbers_of None = (0, 0, 0)
numbers_of (Some r) = (number r.refusal, r.line, r.column)

-- they are what is told
pub record Tells (r : Option Refused) (told line column : ℕ) : Type 0 where
  pub number_is : told ≡ (numbers_of r).0
  pub line-is : line ≡ (numbers_of r).1
  pub column-is : column ≡ (numbers_of r).2

-- over a fill count, an answer leaves fill', and is told by a number, a line and a column
pub record Said (a : text.Answer) (fill fill' number line column : ℕ) : Type 0 where
  pub number_is : number ≡ number_in a
  pub line-is : line ≡ line_in a
  pub column-is : column ≡ column_in a
  pub fill_is : fill' ≡ fill_in fill a
