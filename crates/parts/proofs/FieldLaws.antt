-- Laws of one field that was read: its name has at most 64 bytes, its parts are those of its arm, and what is written of it is
-- its unit. Assumes nothing.
use mathlib.Core.Path.{◌≡◌, refl}
use mathlib.Core.Bool.{Bool, true, false}
use mathlib.Core.List.{List, [], ◌∷◌}
use Rattle.std.specs.Prelude.{Option, None, Some}
use Rattle.nodes.specs.declared.Source.{Source}
use Prim.Native.Nat.{ℕ, ◌+◌, ◌*◌, ◌≤◌}
use native.Mathlib.Nat.{le_trans, mul-le-mul_right}
use native.Mathlib.Omega.{arith}
use lib.Dec.{eqb}
use lib.ListN.{length}
use Rattle.text.specs.Bytes.{Str}
use Rattle.column.specs.Texts.{is_field_name}
use Rattle.column.proofs.Laws.{may_length, field-name_may}
use Rattle.row.proofs.ReadLaws.{printed-line}
use Rattle.row.specs.Rows.{rest_of}
use Rattle.row.specs.Line as line
use Rattle.row.specs.Line.{Content, line_of, line_at, text_of, text_at}
use Rattle.tree.specs.Tree as tree
use Rattle.tree.specs.Tree.{Arm, slot, group}
use Rattle.tree.specs.Reader.{Rows, Reading, got, no, ◌then◌, On}
use Rattle.tree.specs.Read.{read_slot, field, read_field}
use Rattle.tree.specs.Fields.{FieldsHere, more}
use Rattle.field.specs.Slot.{SlotField, SlotHere}
use Rattle.field.specs.Field.{SlotIn, GroupHere, GroupIn}
use Rattle.field.specs.declared.Slot as code
use Rattle.field.specs.declared.Group.{Group}
use Rattle.field.specs.declared.Field.TheVariants as field_is
use Rattle.parts.specs.Program.{slot_parts, group_parts, parts_of, field_text}
use Rattle.parts.specs.Fit.{part_most, unit_most, TakesAtMost, PartsPut, FieldPut}

-- ---- its name

name-few : (t : Str) → is_field_name t ≡ true → length t ≤ 64
name-few t e = (may_length t (field-name_may t e)).1

read-few : (rs : Rows) → On (read_field rs) (λ f. length f.name ≤ 64)
unfolding read_field line_at text_at
read-few [] = tt
read-few (r ∷ rs) = go (line_of r) refl
  where
    slots : (o d e p : ℕ) → line_of r ≡ line.Field o d e p → (g : Reading tree.Slot)
        → On (g then λ sl. got (field (text_of r) d (slot sl))) (λ f. length f.name ≤ 64)
    slots o d e p i (got sl us) = name-few (text_of r) (printed-line r (line.Field o d e p) tt i).fits.4
    slots o d e p i (no k us) = tt

    go : (l : Content) → line_of r ≡ l → On (read_field (r ∷ rs)) (λ f. length f.name ≤ 64)
    go (line.Field o d e p) i = rw i (slots o d e p i (read_slot o e p (rest_of (r ∷ rs))))
    go (line.Group j d) i = rw (i, i, i) (name-few (text_of r) (printed-line r (line.Group j d) tt i).fits.2)
    go (line.Bad x k) i = by-letters (eqb x 70) (eqb x 71) refl refl
      where
        by-letters : (f g : Bool) → eqb x 70 ≡ f → eqb x 71 ≡ g → On (read_field (r ∷ rs)) (λ f. length f.name ≤ 64)
        by-letters true g e h = rw (i, i, e) tt
        by-letters false true e h = rw (i, i, e, i, i, h) tt
        by-letters false false e h = rw (i, i, e, i, i, h) tt
    go _ i = rw (i, i, i, i) tt

pub field-few : (rs : Rows) (f : tree.Field) (fs : List tree.Field) → FieldsHere rs (f ∷ fs) → length f.name ≤ 64
field-few rs f fs (more e h) = rw e at (read-few rs)

-- ---- its unit

-- five parts at most, of as many bytes as one has at most
unit-most : (k n : ℕ) → k ≤ 5 → n ≤ 64 → k * (n + 65554) ≤ unit_most
unit-most k n h g = le_trans (mul-le-mul_right (n + 65554) h) (omega arith)

fits_unit : (k : ℕ) (l : Str) (name : Str) (r : Option ℕ) → k ≤ 5 → length name ≤ 64 → TakesAtMost (k * part_most name) l r
    → TakesAtMost unit_most l r
fits_unit k l name (Some n) h g f = omega (arith, unit-most k (length name) h g)
fits_unit k l name None h g f = omega (arith, unit-most k (length name) h g)

module _ (x : Source) (tag : ℕ) (name l l' : Str) (r : Option ℕ) where
  -- what is known of a slot's name and of its parts
  pub slot-unit :
      (sl : code.Slot) → ((f : SlotField) → SlotHere x.bytes.now sl f → name ≡ f.name)
      → TakesAtMost (length slot_parts * part_most name) l r
      → PartsPut x tag (field_is.Slot sl) name slot_parts l' r
      → FieldPut x tag (field_is.Slot sl) l l' r
  unfolding field_text
  slot-unit sl named fits put ns i₀ at tag-is is few =
      let (i, parts) = go at.1.arm is in (
        fits_unit 5 l name r (omega arith) (rw i few) fits,
        rw parts (put ns i₀ at (record { tag-is = tag-is; field_is = is; name-is = i })),
      )
    where
      go : (arm : Arm) → SlotIn x.bytes.now sl at.1.name at.1.discriminant arm
          → (name ≡ at.1.name) × (parts_of arm ≡ slot_parts)
      go (slot t) h = (named _ h, refl)
      go (group id) h = absurd h

  -- and of a group's
  pub group-unit :
      (g : Group) → ((n : Str) (d id : ℕ) → GroupHere x.bytes.now g n d id → name ≡ n)
      → TakesAtMost (length group_parts * part_most name) l r
      → PartsPut x tag (field_is.Group g) name group_parts l' r
      → FieldPut x tag (field_is.Group g) l l' r
  unfolding field_text
  group-unit g named fits put ns i₀ at tag-is is few =
      let (i, parts) = go at.1.arm is in (
        fits_unit 1 l name r (omega arith) (rw i few) fits,
        rw parts (put ns i₀ at (record { tag-is = tag-is; field_is = is; name-is = i })),
      )
    where
      go : (arm : Arm) → GroupIn x.bytes.now g at.1.name at.1.discriminant arm
          → (name ≡ at.1.name) × (parts_of arm ≡ group_parts)
      go (slot t) h = absurd h
      go (group id) h = (named _ _ _ h, refl)
