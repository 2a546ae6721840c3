-- What the writers of a group's lines leave: the lines with their byte 10, as they stand at the level of the state before them,
-- and whether one clears a pointer, or the refusal. Assumes nothing.
use Rattle.std.specs.Prelude.{◌≡◌, Bool, true, false, List, [], ◌∷◌, ℕ, eqb, Result, Ok, Err}
use Rattle.text.specs.Bytes.{Str, either}
use Rattle.text.specs.Lines.{flat_map, ended}
use Rattle.text.specs.Text.{Wrote, WroteSome}
use Rattle.tree.specs.Tree.{Field}
use Rattle.terms.specs.Refusals.{number}
use Rattle.terms.specs.declared.refusals.Refusal.{Refusal}
use Rattle.codegen_types.specs.Out.{Out, ok, refused}
use Rattle.codegen_types.specs.Written.{Kept}
use Rattle.codegen.specs.Zeroing.{Zeroing}
use Rattle.zeroing.specs.Lines.{repeats, slot_lines, with_margin}
use Rattle.zeroing.specs.declared.Lines.{Lines}

-- whether there is a line
abbrev pub is_any : List Str → Bool
is_any [] = false
is_any (l ∷ ls) = true

-- these lines, their margins with them, written into l after those of p; `clear`: whether one of them clears a pointer
pub record Added (lines : List Str) (clear : Bool) (l : List ℕ) (p : Lines) (l' : List ℕ) (p' : Lines) : Type 0 where
  pub text : Wrote l p.text (ended lines) l' p'.text
  pub clears : p'.clear ≡ either p.clear clear
  pub any : p'.any ≡ either p.any (is_any lines)

-- the line of a slot by its type and offset, after those of some fields
abbrev pub AddedSlot : ℕ → ℕ → List Field → List ℕ → Lines → List ℕ → Lines → Type 0
AddedSlot type offset fs l p l' p' =
    Added (with_margin (slot_lines type offset (repeats type offset fs)) p.text.level) (eqb type 12) l p l' p'

-- what the Rust gives: its lines at the level of p, or its refusal, and then what was written counts for nothing
abbrev pub Adds : Out Zeroing → List ℕ → Lines → List ℕ → Result Lines Refusal → Type 0
Adds (ok z) l p l' (Ok p') = Added (flat_map z.result p.text.level) z.clear l p l' p'
Adds (ok z) l p l' (Err e) = ⊥
Adds (refused k) l p l' (Ok p') = ⊥
Adds (refused k) l p l' (Err e) = number e ≡ k

-- what is written into l after the lines of p in any case: some text, or, where it is refused, nothing before the fill count
abbrev pub AddsWithin : List ℕ → Lines → List ℕ → Result Lines Refusal → Type 0
AddsWithin l p l' (Ok p') = WroteSome l p.text l' p'.text
AddsWithin l p l' (Err e) = Kept l p.text l'
