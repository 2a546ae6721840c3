-- What a writer of a text that the Rust may refuse leaves. Assumes nothing.
use Rattle.std.specs.Prelude.{◌≡◌, List, ℕ, ◌-◌, ◌^◌, min, length, take, Option, None, Some, Result, Ok, Err}
use Rattle.text.specs.Bytes.{Str}
use Rattle.text.specs.Text.{Wrote, WroteSome}
use Rattle.text.specs.declared.Text.{Text}
use Rattle.terms.specs.Refusals.{number}
use Rattle.terms.specs.declared.refusals.Refusal.{Refusal}
use Rattle.codegen_types.specs.Out.{Out, refusal_of, ok}

-- document 01's number of the refusal that the code answers, if it answers one
abbrev pub refusal_number : {A : Type 0} → Result A Refusal → Option ℕ
refusal_number (Ok a) = None
refusal_number (Err e) = Some (number e)

-- what the Rust gives, written at t into l: its refusal, or its whole text; a refused text counts for nothing
pub record Writes (o : Out Str) (l : List ℕ) (t : Text) (l' : List ℕ) (r : Result Text Refusal) : Type 0 where
  pub refusal : refusal_number r ≡ refusal_of o
  pub text : (w : Str) (u : Text) → o ≡ ok w → r ≡ Ok u → Wrote l t w l' u

-- the buffer keeps its length, and no byte before the fill count changes, as where some text was put there (`kept-put` of
-- KeptLaws); that count stops at the largest usize
pub record Kept (l : List ℕ) (t : Text) (l' : List ℕ) : Type 0 where
  pub size : length l' ≡ length l
  pub before : take (min t.at (2 ^ 64 - 1)) l' ≡ take (min t.at (2 ^ 64 - 1)) l

-- what is written at t into l in any case: some text, or, where it is refused, nothing before the fill count
abbrev pub Within : List ℕ → Text → List ℕ → Result Text Refusal → Type 0
Within l t l' (Ok u) = WroteSome l t l' u
Within l t l' (Err e) = Kept l t l'
