-- What the code's answer says of a request is what is asked of it at the boundary. Assumes nothing.
use mathlib.Core.Path.{◌≡◌, ap, ◌∙◌}
use Rattle.std.specs.Prelude.{Option, Result}
use Prim.Native.Nat.{ℕ}
use Rattle.text.specs.Bytes.{Str}
use Rattle.text.specs.Text.{state_at_level}
use Rattle.text.specs.declared.Text.{Text}
use Rattle.tree.specs.Tree.{Sheet}
use Rattle.tree.specs.Read.{sheet}
use Rattle.requests.specs.Requests.{request_text, Outcome, outcome}
use Rattle.requests.specs.declared.Request.{Request}
use Rattle.requests.specs.Told.{in_numbers, Answered}
use Rattle.sheet.specs.declared.Refused.{Refused}
use Rattle.exports.specs.Boundary.{number_in, line_in, column_in, fill_in, reply_of, ask, Asked}
use Rattle.exports.specs.Parts.{Said}

-- a request that comes to o, asked at a fill count and a level
module _ (l : Str) (fill level : ℕ) (o : Outcome) (l' : Str) (r : Result Text Refused)
    (answered : Answered l (state_at_level fill level) o l' r) where
  -- what is said of the answer is what is asked
  pub asked : (fill' number line column : ℕ) → Said (in_numbers r) fill fill' number line column
      → Asked l fill (reply_of o level) l' fill' number line column
  unfolding reply_of
  asked fill' number line column s = record {
    number_is = s.number_is ∙ ap number_in answered.answer;
    line-is = s.line-is ∙ ap line_in answered.answer;
    column-is = s.column-is ∙ ap column_in answered.answer;
    fill_is = s.fill_is ∙ ap (fill_in fill) answered.answer;
    buffer-is = answered.buffer;
  }

-- a request of the sheet with some nodes: q as the code has it, and q' as it was asked
pub asked_in :
    (l : Str) (fill level : ℕ) (sh : Sheet) (id : ℕ) (q q' : Option Request) (t : Text) (l' : Str) (r : Result Text Refused)
    → q ≡ q' → t ≡ state_at_level fill level
    → Answered l t (outcome (request_text sh id q t.level)) l' r → (fill' number line column : ℕ)
    → Said (in_numbers r) fill fill' number line column → Asked l fill (ask (sheet sh) id q' level) l' fill' number line column
asked_in l fill level sh id q q' t l' r e at answered =
    asked l fill level (outcome (request_text sh id q' level)) l' r (rw (e, at) at answered)
