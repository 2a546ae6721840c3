-- What is answered for a sheet that is written by hand. Assumes nothing.
use Rattle.std.specs.Prelude.{◌≡◌, ℕ}
use Rattle.text.specs.Bytes.{Str}
use Rattle.text.specs.Answer.{answer_of, buffer_of}
use Rattle.padding.specs.Padded.{padded_text}
use Rattle.exports.specs.Boundary.{number_in, fill_in}

-- the sheet that the text s says, put into l at a fill count, leaves l' and fill', and is told by a number
pub record PadTold (s l : Str) (fill : ℕ) (l' : Str) (fill' number : ℕ) : Type 0 where
  pub number_is : number ≡ number_in (answer_of l fill (padded_text s))
  pub fill_is : fill' ≡ fill_in fill (answer_of l fill (padded_text s))
  pub buffer-is : l' ≡ buffer_of l fill (padded_text s)
