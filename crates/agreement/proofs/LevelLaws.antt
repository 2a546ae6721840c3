-- A text that a run of the entry left at some level has the lines of the text at level 0 but for the spaces in front, so that it
-- does the same. Assumes nothing.
use mathlib.Core.Path.{◌≡◌, sym, ◌∙◌}
use mathlib.Core.List.{List, [], ◌∷◌}
use Prim.Native.Nat.{ℕ}
use Rattle.text.specs.Bytes.{Str}
use Rattle.text.specs.Levels.{Laid}
use Rattle.codegen_types.specs.Out.{Out, ok, refused}
use Rattle.meaning.proofs.LevelLaws.{Trimmed, none-alike, shown-alike}
use Rattle.requests.specs.Levels.{shown_all}
use Rattle.requests.proofs.LevelLaws.{OfLines}
use Rattle.agreement.proofs.OutLaws.{ok-is}

-- the text at level 0 of what w is at another
pub record Flat (o : ℕ → Out Str) (w : Str) : Type 0 where
  pub text : Str
  pub is : o 0 ≡ ok text
  pub alike : Trimmed w text

all-alike : (level : ℕ) (ts : List (List Laid)) → Trimmed (shown_all level ts) (shown_all 0 ts)
unfolding shown_all
all-alike level [] = none-alike
all-alike level (ls ∷ ts) = shown-alike level ls (all-alike level ts)

pub flat : (o : ℕ → Out Str) (laid : Out (List (List Laid))) → OfLines o laid → (level : ℕ) (w : Str) → o level ≡ ok w → Flat o w
flat o (refused k) e level w h = let z = sym (e level) ∙ h in cc
flat o (ok ts) e level w h =
    let z : w ≡ shown_all level ts = ok-is (sym h ∙ e level) in
    record { text = shown_all 0 ts; is = e 0; alike = rw z (all-alike level ts) }
