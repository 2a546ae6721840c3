-- What the writer of a group's zeroing leaves: the lines and the flag for `mut`, or the refusal. Assumes nothing.
use Rattle.std.specs.Prelude.{◌≡◌, List, ℕ, Result, Ok, Err}
use Rattle.text.specs.Lines.{Branch, stringify}
use Rattle.text.specs.Text.{WroteLines, WroteSome}
use Rattle.text.specs.declared.Text.{Text}
use Rattle.terms.specs.Refusals.{number}
use Rattle.terms.specs.declared.refusals.Refusal.{Refusal}
use Rattle.codegen_types.specs.Out.{Out, ok, refused}
use Rattle.codegen_types.specs.Written.{Kept}
use Rattle.codegen.specs.Zeroing.{Zeroing}
use Rattle.zeroing.specs.declared.Zeroed.{Zeroed}

-- the whole text of a zeroing, written at t into l at the level of t, and its flag for `mut`
pub record WholeText (z : Zeroing) (l : List ℕ) (t : Text) (l' : List ℕ) (r : Zeroed) : Type 0 where
  pub text : WroteLines l t (stringify (Branch z.result)) l' r.text
  pub clear : r.clear ≡ z.clear

abbrev pub Zeroes : Out Zeroing → List ℕ → Text → List ℕ → Result Zeroed Refusal → Type 0
Zeroes (ok z) l t l' (Ok r) = WholeText z l t l' r
Zeroes (ok z) l t l' (Err e) = ⊥
Zeroes (refused k) l t l' (Ok r) = ⊥
Zeroes (refused k) l t l' (Err e) = number e ≡ k

-- what is written at t into l in any case: some text, or, where it is refused, nothing before the fill count
abbrev pub ZeroedWithin : List ℕ → Text → List ℕ → Result Zeroed Refusal → Type 0
ZeroedWithin l t l' (Ok r) = WroteSome l t l' r.text
ZeroedWithin l t l' (Err e) = Kept l t l'
