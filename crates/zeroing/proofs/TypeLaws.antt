-- Laws of the types of lines by their numbers. By cases, or by induction on the places of a table. Assumes nothing.
use mathlib.Core.Path.{◌≡◌, refl, ap, ◌∙◌}
use mathlib.Core.Bool.{Bool, true, false}
use mathlib.Core.List.{List, ◌∷◌}
use Prim.Native.Nat.{ℕ, zero, suc, ◌<◌}
use native.Mathlib.Omega.{arith}
use lib.Dec.{eqb}
use lib.ListN.{length, get_or, replicate}
use denote.Enum.Bare.{sameb}
use denote.Enum.Declared.{tag_of}
use Rattle.std.specs.Prelude.{not}
use Rattle.std.proofs.lemmas.Bool.Decides.{nat_tests}
use Rattle.std.proofs.lemmas.List.{get_or-map}
use Rattle.terms.specs.Kinds.{number_of, kind_numbered}
use Rattle.calls.specs.Calls.{zero_data}
use Rattle.codegen_types.specs.Primitive.{primitive_text}
use Rattle.zeroing.specs.Lines.{line_type, zero_text}
use Rattle.zeroing.specs.contracts.LineType.{the_type}
use Rattle.zeroing.specs.Types.{type_number, type_numbers}
use Rattle.zeroing.specs.declared.LineType.{LineType}
use Rattle.zeroing.specs.declared.LineType.TheVariants as typ

-- past the numbers, but for an enum, is a pointer
pub past-numbers : (k : ℕ) → 11 < k → (k ≡ 15 → ⊥) → 12 ≡ line_type k
unfolding line_type
past-numbers k h e = grind (arith, nat_tests)

-- the text of what is no Bool's line and no pointer's is that of a number, whose kind has the type's number
pub number-text : (a : LineType) (offset : ℕ) → (a ≡ typ.Bool → ⊥) → (a ≡ typ.Pointer → ⊥)
    → zero_data (primitive_text (number_of (kind_numbered (type_number a)))) offset ≡ zero_text (type_number a) offset
unfolding zero_text kind_numbered
number-text typ.Bool offset b p = absurd (b refl)
number-text typ.Pointer offset b p = absurd (p refl)
number-text a offset b p = refl

-- types are the same where their numbers are
tag-number : (a : LineType) → tag_of the_type a ≡ type_number a
tag-number typ.Void = refl
tag-number a = refl

pub same-type : (a b : LineType) → sameb the_type a b ≡ eqb (type_number a) (type_number b)
same-type a b = rw (← tag-number a, ← tag-number b) refl

-- Void, as a test tells it
pub void-is : (a : LineType) (b : Bool) → b ≡ sameb the_type a typ.Void → b ≡ true → type_number a ≡ 0
void-is a b is e = let v = is ∙ same-type a typ.Void in grind (arith, nat_tests)

-- and a place of a table, as a test tells that it is not Void
module _ (ts : List LineType) (i : ℕ) (d : LineType) (inside : i < length ts) (b : Bool)
    (is : b ≡ not (sameb the_type (get_or ts i d) typ.Void)) where
  place : b ≡ not (eqb (get_or (type_numbers ts) i 0) 0)
  place = is ∙ rw (same-type (get_or ts i d) typ.Void, get_or-map type_number ts i d 0 inside) refl

  pub place-held : b ≡ true → get_or (type_numbers ts) i 0 ≡ 0 → ⊥
  place-held e z = let p = place in grind (arith, nat_tests)

  pub place-free : b ≡ false → get_or (type_numbers ts) i 0 ≡ 0
  place-free e = let p = place in grind (arith, nat_tests)

-- free places are of type 0
pub numbers-none : (n : ℕ) → type_numbers (replicate n typ.Void) ≡ replicate n 0
numbers-none zero = refl
numbers-none (suc n) = ap (λ (ns : List ℕ). 0 ∷ ns) (numbers-none n)
