-- Laws of a field's numbers: what is put, what is read from them, and that a field that was put is read back. Its numbers stand
-- first, so that every place computes. Assumes nothing.
use mathlib.Core.Path.{◌≡◌, refl, sym, ◌∙◌}
use mathlib.Core.List.{List, [], ◌∷◌}
use Prim.Native.Nat.{ℕ, ◌<◌, ◌≤◌}
use native.Mathlib.Omega.{arith}
use borrow.Author.Tests.{eq-eqb, ne_eqb, lt-ltb, le-ltb}
use lib.Dec.{lit<}
use lib.ListN.{length, take, set, get_or, length-drop}
use lib.Seq.{get_or-take}
use Rattle.terms.proofs.KindLaws.{kind-back}
use Rattle.tree.proofs.OtherLines.{never}
use Rattle.field.specs.Numbers.{field_numbers, begun, with_field, slot_in, group_in, field_in}
use Rattle.std.specs.Prelude.{Option, Some, None}
use Rattle.field.specs.declared.Field.{Field}
use Rattle.field.specs.declared.Field.TheVariants as field

-- ---- what is put

-- the number of no field
pub nothing_by : (l : List ℕ) → 14 ≤ length l → set l 0 0 ≡ begun (field_numbers None) l
nothing_by [] h = let z : ⊥ = omega arith in absurd z
nothing_by (x ∷ l) h = refl

module _ (l : List ℕ) (f : Option Field) where
  pub put-none : length l < 14 → l ≡ with_field l f
  unfolding with_field
  put-none h = rw (lt-ltb (length l) 14 h)

  pub put_some : 14 ≤ length l → begun (field_numbers f) l ≡ with_field l f
  unfolding with_field
  put_some h = rw (le-ltb (length l) 14 h)

-- ---- what is read

module _ (l : List ℕ) where
  pub get-few : length l < 14 → None ≡ field_in l
  unfolding field_in
  get-few h = rw (lt-ltb (length l) 14 h)

  module _ (h : 14 ≤ length l) where
    pub get-slot : get_or l 0 0 ≡ 1 → Some (field.Slot (slot_in l)) ≡ field_in l
    unfolding field_in
    get-slot e = rw (le-ltb (length l) 14 h, eq-eqb (get_or l 0 0) 1 e)

    pub get-group : get_or l 0 0 ≡ 2 → Some (field.Group (group_in l)) ≡ field_in l
    unfolding field_in
    get-group e = rw (le-ltb (length l) 14 h, ne_eqb (get_or l 0 0) 1 (λ z. never cc), eq-eqb (get_or l 0 0) 2 e)

    pub get-nothing : (get_or l 0 0 ≡ 1 → ⊥) → (get_or l 0 0 ≡ 2 → ⊥) → None ≡ field_in l
    unfolding field_in
    get-nothing a b = rw (le-ltb (length l) 14 h, ne_eqb (get_or l 0 0) 1 a, ne_eqb (get_or l 0 0) 2 b)

-- by the first fourteen of them
module _ (l m : List ℕ) (h : 14 ≤ length l) (is : m ≡ take 14 l) where
  number-taken : (k : ℕ) → k < 14 → get_or m k 0 ≡ get_or l k 0
  number-taken k f = rw is (get_or-take 14 l k 0 f)

  slot-taken : slot_in m ≡ slot_in l
  slot-taken =
      rw (
        number-taken 1 (lit< tt),
        number-taken 2 (lit< tt),
        number-taken 3 (lit< tt),
        number-taken 4 (lit< tt),
        number-taken 5 (lit< tt),
        number-taken 6 (lit< tt),
        number-taken 7 (lit< tt),
        number-taken 8 (lit< tt),
        number-taken 9 (lit< tt),
        number-taken 10 (lit< tt),
        number-taken 11 (lit< tt),
        number-taken 12 (lit< tt),
        number-taken 13 (lit< tt),
      ) refl

  group-taken : group_in m ≡ group_in l
  group-taken =
      rw (
        number-taken 1 (lit< tt),
        number-taken 2 (lit< tt),
        number-taken 3 (lit< tt),
        number-taken 4 (lit< tt),
      ) refl

  pub taken-slot : get_or m 0 0 ≡ 1 → Some (field.Slot (slot_in m)) ≡ field_in l
  taken-slot e = rw slot-taken (get-slot l h (sym (number-taken 0 (lit< tt)) ∙ e))

  pub taken-group : get_or m 0 0 ≡ 2 → Some (field.Group (group_in m)) ≡ field_in l
  taken-group e = rw group-taken (get-group l h (sym (number-taken 0 (lit< tt)) ∙ e))

  pub taken-nothing : (get_or m 0 0 ≡ 1 → ⊥) → (get_or m 0 0 ≡ 2 → ⊥) → None ≡ field_in l
  taken-nothing a b =
      get-nothing l h (λ z. a (number-taken 0 (lit< tt) ∙ z)) (λ z. b (number-taken 0 (lit< tt) ∙ z))

-- ---- a field that was put is read back

pub field_put : (l : List ℕ) (f : Option Field) → 14 ≤ length l → field_in (with_field l f) ≡ f
field_put l f h = rw (← put_some l f h) (go f)
  where
    room : (f : Option Field) → 14 ≤ length (begun (field_numbers f) l)
    room (Some (field.Slot r)) = omega arith
    room (Some (field.Group g)) = omega (arith, length-drop 5 l)
    room None = omega (arith, length-drop 1 l)

    go : (f : Option Field) → field_in (begun (field_numbers f) l) ≡ f
    go (Some (field.Slot r)) =
        sym (get-slot (begun (field_numbers (Some (field.Slot r))) l) (room (Some (field.Slot r))) refl)
        ∙ rw (kind-back r.kind, kind-back r.default) refl
    go (Some (field.Group g)) =
        sym (get-group (begun (field_numbers (Some (field.Group g))) l) (room (Some (field.Group g))) refl)
    go None =
        sym (get-nothing (begun (field_numbers None) l) (room None) (λ z. never cc) (λ z. never cc))
