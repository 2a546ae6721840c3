-- Laws of the fields that stand at some rows: the first is what its row says, and the others stand after it. By cases on what is
-- read. Assumes nothing.
use mathlib.Core.Path.{◌≡◌, refl, sym, ◌∙◌}
use mathlib.Core.Bool.{Bool, true, false}
use mathlib.Core.List.{List, [], ◌∷◌}
use Prim.Native.Nat.{ℕ, suc, ◌+◌, ◌-◌, ◌<◌, ◌≤◌}
use native.Mathlib.Omega.{arith}
use Rattle.std.specs.Prelude.{Option, Some, None, Ok, Err}
use denote.Enum.Declared.{tag_of}
use lib.ListN.{drop}
use lib.Dec.{eqb}
use Rattle.text.specs.Bytes.{Str}
use Rattle.row.specs.Rows.{rows, rest_of}
use Rattle.row.specs.Line as content
use Rattle.row.specs.Line.{Fault, fault, misplaced, line_said, line_at, text_at}
use Rattle.terms.specs.Refusals.{number}
use Rattle.row.specs.declared.BadLine.{BadLine}
use Rattle.row.specs.declared.Line.{Line}
use Rattle.row.specs.declared.Line.TheVariants as line
use Rattle.row.specs.contracts.Line.{the_type}
use Rattle.tree.specs.Tree as tree
use Rattle.tree.specs.Tree.{slot, group}
use Rattle.tree.specs.Reader.{Rows, Reading, got, no, ◌then◌}
use Rattle.tree.specs.Read as read
use Rattle.tree.specs.Read.{read_slot, read_field, is_field}
use Rattle.tree.specs.Fields as fields
use Rattle.tree.specs.Fields.{FieldsHere}
use Rattle.tree.proofs.OtherLines.{never}
use Rattle.nodes.specs.Index.{nth}
use Rattle.field.specs.Field.{next_of, ReadsFirst, Fewer, FindsField}
use Rattle.field.specs.Parts.{Gets, SlotRead}
use Rattle.field.specs.declared.Field.{Field}
use Rattle.field.specs.declared.Field.TheVariants as field
use Rattle.field.proofs.SlotLaws.{row-fewer}
use Rattle.field.proofs.TypeLaws.{rest-fewer}

-- where no F or G line stands, none is read: at a bad one its fault is told, and any other is misplaced
module _ (rs rest : Rows) (f : tree.Field) (x : read_field rs ≡ got f rest) where
  never-read : (k : Fault) → read_field rs ≡ no k rs → ⊥
  never-read k n = never cc

  not-read : (l : Line) → line_said (Ok l) ≡ line_at rs → (tag_of the_type l ≡ 3 → ⊥) → (tag_of the_type l ≡ 4 → ⊥) → ⊥
  unfolding line_said read_field
  not-read line.Root e u v = never-read misplaced (rw (← e, ← e, ← e, ← e))
  not-read (line.Node a b c d x f g) e u v = never-read misplaced (rw (← e, ← e, ← e, ← e))
  not-read line.Parameter e u v = never-read misplaced (rw (← e, ← e, ← e, ← e))
  not-read (line.Field a b c d) e u v = u refl
  not-read (line.Group a b) e u v = v refl
  not-read (line.Typ a b c d) e u v = never-read misplaced (rw (← e, ← e, ← e, ← e))
  not-read (line.Scope a b) e u v = never-read misplaced (rw (← e, ← e, ← e, ← e))
  not-read line.Unbound e u v = never-read misplaced (rw (← e, ← e, ← e, ← e))
  not-read (line.Value a b) e u v = never-read misplaced (rw (← e, ← e, ← e, ← e))
  not-read (line.Word a) e u v = never-read misplaced (rw (← e, ← e, ← e, ← e))

  bad-read : (b : BadLine) → line_said (Err b) ≡ line_at rs → ⊥
  unfolding line_said read_field
  bad-read b e = by-letters (eqb b.letter 70) (eqb b.letter 71) refl refl
    where
      k : Fault
      k = fault (number b.refusal) b.column

      by-letters : (f g : Bool) → eqb b.letter 70 ≡ f → eqb b.letter 71 ≡ g → ⊥
      by-letters true g i j = never-read k (rw (← e, ← e, i))
      by-letters false true i j = never-read k (rw (← e, ← e, i, ← e, ← e, j))
      by-letters false false i j = never-read misplaced (rw (← e, ← e, i, ← e, ← e, j))

-- what the code says of the row at a position, and the rows after it
module _ (s : Str) (at next : ℕ) (after : rows (drop next s) ≡ rest_of (rows (drop at s))) where
  abbrev rs : Rows
  rs = rows (drop at s)

  -- an F row
  module _ (o d e p : ℕ) (here : line_said (Ok (line.Field o d e p)) ≡ line_at rs) where
    of_slot : read_field rs ≡ (read_slot o e p (rows (drop next s)) then λ sl. got (read.field (text_at rs) d (slot sl)))
    unfolding line_said read_field
    of_slot = rw (← here, ← after)

    pub first_slot :
        (r : Option Field) → Gets (read_slot o e p (rows (drop next s))) (SlotRead s r at d) → (fs : List tree.Field)
        → FieldsHere rs fs → ReadsFirst s r fs
    unfolding line_said
    first_slot r h [] (fields.none x) =
        let i : is_field (line_at rs) ≡ true = rw (← here) refl in never cc
    first_slot r h (f ∷ fs) (fields.more {rest = rest} x y) =
        go r (read_slot o e p (rows (drop next s))) h (sym of_slot ∙ x)
      where
        go : (r : Option Field) (g : Reading tree.Slot) → Gets g (SlotRead s r at d)
            → (g then λ sl. got (read.field (text_at rs) d (slot sl))) ≡ got f rest → ReadsFirst s r (f ∷ fs)
        go (Some r) (got sl z) h x =
            let i : f ≡ read.field (text_at rs) d (slot sl) = cc in
            let j : z ≡ rest = cc in
            (rw i h.0, rw (h.1, j) y)
        go None (got sl z) h x = absurd h
        go (Some r) (no k z) h x = never cc
        go None (no k z) h x = never cc

    pub fewer-slot : (r : Option Field) → Fewer s next r → Fewer s at r
    fewer-slot (Some r) h = let g = rest-fewer _ _ after in omega arith
    fewer-slot None h = tt

  -- a G row
  module _ (i d : ℕ) (here : line_said (Ok (line.Group i d)) ≡ line_at rs) where
    abbrev here-group : Option Field
    here-group = Some (field.Group (record { id = i; discriminant = d; at = at; next = next }))

    of_group : read_field rs ≡ got (read.field (text_at rs) d (group i)) (rows (drop next s))
    unfolding line_said read_field
    of_group = rw (← here, ← here, ← here, ← after)

    pub first_group : (fs : List tree.Field) → FieldsHere rs fs → ReadsFirst s here-group fs
    unfolding line_said
    first_group [] (fields.none x) = let i : is_field (line_at rs) ≡ true = rw (← here) refl in never cc
    first_group (f ∷ fs) (fields.more {rest = rest} x y) =
        let e : got (read.field (text_at rs) d (group i)) (rows (drop next s)) ≡ got f rest = sym of_group ∙ x in
        let j : f ≡ read.field (text_at rs) d (group i) = cc in
        let k : rows (drop next s) ≡ rest = cc in
        (rw j (record { name-is = refl; after = after; discriminant-is = refl; id-is = refl }), rw k y)

    pub fewer-group : Fewer s at here-group
    unfolding line_said
    fewer-group = row-fewer _ _ (content.Group i d) here after tt

-- another row, or a bad one
module _ (s : Str) (at : ℕ) where
  pub first-none : (l : Line) → line_said (Ok l) ≡ line_at (rows (drop at s)) → (tag_of the_type l ≡ 3 → ⊥)
      → (tag_of the_type l ≡ 4 → ⊥) → (fs : List tree.Field) → FieldsHere (rows (drop at s)) fs → ReadsFirst s None fs
  first-none l here u v [] (fields.none x) = tt
  first-none l here u v (f ∷ fs) (fields.more {rest = rest} x y) = not-read _ rest f x l here u v

  pub first-bad : (b : BadLine) → line_said (Err b) ≡ line_at (rows (drop at s)) → (fs : List tree.Field)
      → FieldsHere (rows (drop at s)) fs → ReadsFirst s None fs
  first-bad b here [] (fields.none x) = tt
  first-bad b here (f ∷ fs) (fields.more {rest = rest} x y) = bad-read _ rest f x b here

-- ---- by place

-- the field read at a position, whatever fields stand there
module _ (s : Str) (at : ℕ) (r : Option Field)
    (first : (fs : List tree.Field) → FieldsHere (rows (drop at s)) fs → ReadsFirst s r fs) where
  -- what is found n fields on is found n - 1 fields on from the next
  pub place-on :
      (n i : ℕ) → i < n → (x : Field) → r ≡ Some x → (found : Option Field)
      → ((fs : List tree.Field) → FieldsHere (rows (drop (next_of x) s)) fs → FindsField s found (nth (n - (i + 1)) fs))
      → (fs : List tree.Field) → FieldsHere (rows (drop at s)) fs → FindsField s found (nth (n - i) fs)
  unfolding nth
  place-on n i h x is found more fs here =
      let z : n - i ≡ suc (n - (i + 1)) = omega arith in
      rw z (go fs (rw is at (first fs here)))
    where
      go : (fs : List tree.Field) → ReadsFirst s (Some x) fs → FindsField s found (nth (suc (n - (i + 1))) fs)
      go [] w = absurd w
      go (f ∷ fs) w = more fs w.1

  pub place-stop : (n : ℕ) → r ≡ None → (fs : List tree.Field) → FieldsHere (rows (drop at s)) fs
      → FindsField s None (nth n fs)
  unfolding nth
  place-stop n none fs here = go fs (rw none at (first fs here))
    where
      go : (fs : List tree.Field) → ReadsFirst s None fs → FindsField s None (nth n fs)
      go [] w = tt
      go (f ∷ fs) w = absurd w

  pub place_here : (n : ℕ) → n ≤ 0 → (fs : List tree.Field) → FieldsHere (rows (drop at s)) fs → FindsField s r (nth n fs)
  unfolding nth
  place_here n h fs here = let z : n ≡ 0 = omega arith in rw z (go r fs (first fs here))
    where
      go : (r : Option Field) (fs : List tree.Field) → ReadsFirst s r fs → FindsField s r (nth 0 fs)
      go None [] w = tt
      go None (f ∷ fs) w = absurd w
      go (Some x) [] w = absurd w
      go (Some x) (f ∷ fs) w = w.0
