-- The line of a slot by its type and offset: a line that this group has already is one whose type and offset a field before it
-- has. By induction on the fields before. Assumes nothing.
use mathlib.Core.Path.{◌≡◌, refl, sym, ap, ◌∙◌}
use mathlib.Core.Bool.{Bool, true, false, ◌&&◌}
use mathlib.Core.List.{List, [], ◌∷◌, ◌++◌}
use Rattle.std.specs.Prelude.{Option, None, Some}
use Prim.Native.Nat.{ℕ, ◌≤◌}
use native.Mathlib.Omega.{arith}
use lib.Dec.{eqb}
use Rattle.text.specs.Bytes.{Str, cond, both, either}
use Rattle.tree.specs.Tree.{kind, Slot, Arm, slot, group, Field}
use Rattle.codegen_types.specs.TypeString.{is_pointer}
use Rattle.std.proofs.lemmas.Bool.Decides.{nat_tests}
use Rattle.codegen.specs.Zeroing.{zero_line, contains}
use Rattle.zeroing.specs.Lines.{line_type, zero_text, has_line, repeats, slot_lines, tag_lines}
use Rattle.zeroing.proofs.LineLaws.{same_true, same_line, tag_unlike}

-- ---- Booleans

pub either-false : (a : Bool) → either a false ≡ a
either-false true = refl
either-false false = refl

pub either_true : (a : Bool) → either a true ≡ true
either_true true = refl
either_true false = refl

pub either_assoc : (a b c : Bool) → either (either a b) c ≡ either a (either b c)
either_assoc true b c = refl
either_assoc false b c = refl

-- the code's `==` on a line's offset and type
pub and-both : (a b : Bool) → (a && b) ≡ both a b
and-both true b = refl
and-both false b = refl

-- ---- the types of lines

type_least : (k : ℕ) → line_type k ≤ 12
unfolding line_type
type_least k = grind (arith, nat_tests)

-- a slot's line
abbrev line_of : ℕ → ℕ → Option Str
line_of type offset = cond (eqb type 0) None (Some (zero_text type offset))

pub line-is : (s : Slot) → zero_line s ≡ line_of (line_type (kind s.ty)) s.offset
unfolding zero_line line_type zero_text
line-is s = grind (arith, nat_tests)

-- Void's line is none, and Void is no pointer; a pointer's line is of type 12
pub pointer_is : (s : Slot) → is_pointer s.ty ≡ eqb (line_type (kind s.ty)) 12
unfolding line_type
pointer_is s = grind (arith, nat_tests)

-- ---- the lines of this group so far

-- after one more slot, one more field, some fields
abbrev pub seen_line : List Str → Option Str → List Str
seen_line seen None = seen
seen_line seen (Some line) = cond (contains seen line) seen (line ∷ seen)

abbrev pub seen_arm : List Str → Arm → List Str
seen_arm seen (slot s) = seen_line seen (zero_line s)
seen_arm seen (group id) = seen

unfoldable pub seen_after : List Str → List Field → List Str
seen_after seen [] = seen
seen_after seen (f ∷ fs) = seen_after (seen_arm seen f.arm) fs

pub seen_append : (seen : List Str) (fs : List Field) (f : Field)
    → seen_after seen (fs ++ (f ∷ [])) ≡ seen_arm (seen_after seen fs) f.arm
unfolding seen_after
seen_append seen [] f = refl
seen_append seen (g ∷ fs) f = seen_append (seen_arm seen g.arm) fs f

-- a line of type c at offset o that is looked for
module _ (c o : ℕ) (c0 : c ≡ 0 → ⊥) (c12 : c ≤ 12) where
  abbrev line : Str
  line = zero_text c o

  contains-line : (seen : List Str) (d p : ℕ) → (d ≡ 0 → ⊥) → d ≤ 12
      → contains (seen_line seen (Some (zero_text d p))) line ≡ either (contains seen line) (both (eqb p o) (eqb d c))
  unfolding contains
  contains-line seen d p d0 d12 =
      rw (← same_line d c p o d0 d12 c0 c12) (grind (arith, nat_tests, same_true (zero_text d p) line))

  contains-arm : (seen : List Str) (a : Arm)
      → contains (seen_arm seen a) line ≡ either (contains seen line) (has_line c o a)
  unfolding has_line
  contains-arm seen (group id) = sym (either-false (contains seen line))
  contains-arm seen (slot s) =
      let k = line_type (kind s.ty) in
      rw (line-is s)
      (grind (arith, nat_tests, type_least (kind s.ty), contains-line seen k s.offset, either-false (contains seen line)))

  contains-after : (fs : List Field) (seen : List Str)
      → contains (seen_after seen fs) line ≡ either (contains seen line) (repeats c o fs)
  unfolding seen_after repeats
  contains-after [] seen = sym (either-false (contains seen line))
  contains-after (f ∷ fs) seen =
      contains-after fs (seen_arm seen f.arm)
      ∙ ap (λ (x : Bool). either x (repeats c o fs)) (contains-arm seen f.arm)
      ∙ either_assoc (contains seen line) (has_line c o f.arm) (repeats c o fs)

  -- a tag's line is no slot's
  contains-tag : (a b : ℕ) → contains (tag_lines a b) line ≡ false
  unfolding contains
  contains-tag a b = grind (arith, nat_tests, tag_unlike c b o c0 c12)

  contains-repeat : (a b : ℕ) (fs : List Field) → contains (seen_after (tag_lines a b) fs) line ≡ repeats c o fs
  contains-repeat a b fs = contains-after fs (tag_lines a b) ∙ rw (contains-tag a b) refl

-- the line that a slot adds to those of its group
abbrev pub added_lines : List Str → Option Str → List Str
added_lines seen None = []
added_lines seen (Some line) = cond (contains seen line) [] (line ∷ [])

pub slot-lines : (a b : ℕ) (fs : List Field) (s : Slot)
    → added_lines (seen_after (tag_lines a b) fs) (zero_line s)
    ≡ slot_lines (line_type (kind s.ty)) s.offset (repeats (line_type (kind s.ty)) s.offset fs)
slot-lines a b fs s =
    let k = line_type (kind s.ty) in
    rw (line-is s)
    (grind (arith, nat_tests, type_least (kind s.ty), λ (n : k ≡ 0 → ⊥) (m : k ≤ 12). contains-repeat k s.offset n m a b fs))
