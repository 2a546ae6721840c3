-- Laws of `seen`, `params` and `fields`: one turn of each loop, and the line at which it ends: a bad one with a letter that may
-- stand there is refused by its fault. Assumes nothing.
use mathlib.Core.Path.{◌≡◌, refl, sym, ap, ◌∙◌}
use mathlib.Core.Bool.{Bool, true, false, ◌||◌}
use mathlib.Core.List.{List, [], ◌∷◌, ◌++◌, append-nil, append_assoc}
use Rattle.std.specs.Prelude.{Option, None, Some, Result, Ok, Err, is_some}
use Rattle.std.specs.List.{list_any}
use Rattle.std.specs.Simd.{first_chunks}
use Prim.Native.Nat.{ℕ, zero, suc, ◌+◌, ◌*◌, ◌≤◌, ◌<◌}
use native.Mathlib.Omega.{arith}
use native.Mathlib.Numerals.{add-one}
use lib.Dec.{eqb}
use lib.ListN.{length, take, drop, set, take-append-drop}
use lib.Seq.{drop-drop, take-suc-set}
use denote.Enum.Declared.{tag_of}
use Rattle.text.specs.Bytes.{Str, unit, cond, either}
use Rattle.row.specs.contracts.Line.{the_type}
use Rattle.row.specs.Rows.{rows, rest_of, size}
use Rattle.row.specs.Line.{Fault, fault, misplaced, Parameter, line_said, line_at, text_at, fault_of}
use Rattle.row.specs.declared.BadLine.{BadLine}
use Rattle.row.specs.declared.Line.{Line}
use Rattle.row.proofs.ReadLaws.{Good}
use Rattle.tree.specs.Tree.{Slot, Field, slot, group}
use Rattle.tree.specs.Reader.{Rows, Reading, got, no, Reader, ◌then◌, told, on_group}
use Rattle.tree.specs.Read.{among, overlap, read_slot, field, read_field, is_field, group_id, group_ids, read_fields}
use Rattle.tree.specs.Read.{read_params}
use Rattle.terms.specs.Refusals.{number}
use Rattle.tree.specs.Walked.{passed, refused_row, end_at}
use Rattle.tree.specs.declared.RefusedRow.{RefusedRow}
use Rattle.tree.proofs.OtherLines.{never, not_a_field, not_a_field-tag}
use Rattle.tree.proofs.ElseLaws.{OtherThan, else-parameter}
use Rattle.tree.proofs.WalkLaws.{passed-map, end-here, end-next, end-refused}
use Rattle.tree.proofs.TailLaws.{Tail, tail_rest, tail_length, tail_size, leaves-passed, leaves-slot}
use Rattle.tree.proofs.FieldLaws.{fields-here}
use Rattle.tree.proofs.AmongLaws.{among_append}
use Rattle.nodes.proofs.Laws.{among-any}
use Rattle.sheet.proofs.RoomLaws.{group-room}
use Rattle.sheet.specs.Steps.{groups_after}
use Rattle.row.specs.declared.Line.TheVariants as line

-- whether an id stands among ids, by parts of 32 and what is left after them
grouped : (p q r : Bool) → either (p || q) r ≡ either p (either q r)
grouped true q r = refl
grouped false q r = refl

module _ (id : ℕ) where
  abbrev pub any_id : List ℕ → Bool
  any_id part = list_any (λ (y : ℕ). eqb y id) part

  pub seen_parts :
      (k : ℕ) (ids : List ℕ) → either (list_any any_id (first_chunks 32 k ids)) (any_id (drop (k * 32) ids)) ≡ among id ids
  seen_parts zero ids = among-any id ids
  seen_parts (suc k) ids =
      let e : suc k * 32 ≡ 32 + k * 32 = omega arith in
      let left = ap (λ (n : ℕ). any_id (drop n ids)) e ∙ ap any_id (sym (drop-drop (k * 32) 32 ids)) in
      let others = list_any any_id (first_chunks 32 k (drop 32 ids)) in
      grouped (any_id (take 32 ids)) others (any_id (drop (suc k * 32) ids))
      ∙ ap (either (any_id (take 32 ids))) (ap (either others) left ∙ seen_parts k (drop 32 ids))
      ∙ ap (λ (b : Bool). either b (among id (drop 32 ids))) (among-any id (take 32 ids))
      ∙ sym (among_append id (take 32 ids) (drop 32 ids)) ∙ ap (among id) (take-append-drop 32 ids)

-- an id put after the first n
pub pushed : (l : List ℕ) (n i : ℕ) → n < length l → take (n + 1) (set l n i) ≡ take n l ++ unit i
pushed l n i h = rw add-one (take-suc-set l n i h)

-- a field that is read, and the groups after it
groups-on :
    (seen : List ℕ) (rs ts : Rows) (f : Field) → is_field (line_at rs) ≡ true → read_field rs ≡ got f ts
    → overlap (group_id f.arm) seen ≡ false → groups_after seen rs ≡ groups_after (seen ++ group_id f.arm) ts
unfolding group_ids
groups-on seen rs ts f i e o =
    ap (λ (g : Reading (List Field)). g then λ fs. got (seen ++ group_ids fs)) (fields-here seen rs)
    ∙ rw (i, e, o) (go (read_fields (seen ++ group_id f.arm) ts))
  where
    go : (g : Reading (List Field))
        → ((g then λ fs. got (f ∷ fs)) then λ fs. got (seen ++ group_ids fs))
        ≡ (g then λ fs. got (seen ++ group_id f.arm ++ group_ids fs))
    go (got fs us) = ap (λ (x : List ℕ). got x us) (sym (append_assoc seen (group_id f.arm) (group_ids fs)))
    go (no k us) = refl

-- a field that is refused
groups-no :
    (seen : List ℕ) (rs ts : Rows) (k : Fault) → is_field (line_at rs) ≡ true → read_field rs ≡ no k ts
    → groups_after seen rs ≡ no k ts
groups-no seen rs ts k i e =
    ap (λ (g : Reading (List Field)). g then λ fs. got (seen ++ group_ids fs)) (fields-here seen rs) ∙ rw (i, e)

-- a line that is neither F nor G is read as no field: a bad one with such a letter is refused by its fault, any other by 2
not-read :
    (rs : Rows) (l : Result Line BadLine) → line_said l ≡ line_at rs → OtherThan 3 l → OtherThan 4 l
    → read_field rs ≡ told (fault_of 70 (line_said l)) (told (fault_of 71 (line_said l)) (no misplaced)) rs
unfolding line_said read_field
not-read rs (Ok line.Root) here u v = rw (← here, ← here, ← here, ← here)
not-read rs (Ok (line.Node a b c d e f g)) here u v = rw (← here, ← here, ← here, ← here)
not-read rs (Ok line.Parameter) here u v = rw (← here, ← here, ← here, ← here)
not-read rs (Ok (line.Field a b c d)) here u v = absurd (u refl)
not-read rs (Ok (line.Group a b)) here u v = absurd (v refl)
not-read rs (Ok (line.Typ a b c d)) here u v = rw (← here, ← here, ← here, ← here)
not-read rs (Ok (line.Scope a b)) here u v = rw (← here, ← here, ← here, ← here)
not-read rs (Ok line.Unbound) here u v = rw (← here, ← here, ← here, ← here)
not-read rs (Ok (line.Value a b)) here u v = rw (← here, ← here, ← here, ← here)
not-read rs (Ok (line.Word a)) here u v = rw (← here, ← here, ← here, ← here)
not-read rs (Err b) here u v = rw (← here, ← here) (go (eqb b.letter 70))
  where
    as-group : Reader Field
    as-group = on_group (λ i d name. got (field name d (group i))) (no misplaced)

    k : Fault
    k = fault (number b.refusal) b.column

    go : (t : Bool)
        → told (cond t (Some k) None) as-group rs
        ≡ told (cond t (Some k) None) (told (cond (eqb b.letter 71) (Some k) None) (no misplaced)) rs
    go true = refl
    go false = rw (← here, ← here)

-- and it begins no field, but for a bad one with such a letter
no-field :
    (l : Result Line BadLine) → OtherThan 3 l → OtherThan 4 l
    → is_field (line_said l) ≡ either (is_some (fault_of 70 (line_said l))) (is_some (fault_of 71 (line_said l)))
unfolding line_said
no-field (Ok l) u v =
    not_a_field l (not_a_field-tag l (λ a b c d e. u (ap (tag_of the_type) e)) (λ a b e. v (ap (tag_of the_type) e)))
no-field (Err b) u v = refl

-- where there is a line of a letter, there is a row
shorter : (rs : Rows) → Good (line_at rs) → length (rest_of rs) < length rs
unfolding line_at rest_of
shorter [] h = absurd h
shorter (r ∷ rs) h = omega arith

-- a P row, and the rows after it
module _ (rs rest : Rows) (is : line_at rs ≡ Parameter) (after : rest ≡ rest_of rs) where
  pub params_less : length rest < length rs
  params_less = rw after (shorter rs (rw is tt))

  pub params-on : passed (read_params rs) ≡ passed (read_params rest)
  unfolding read_params line_at rest_of
  params-on = rw after (go rs is)
    where
      go : (rs : Rows) → line_at rs ≡ Parameter → passed (read_params rs) ≡ passed (read_params (rest_of rs))
      go [] e = never cc
      go (r ∷ rs) e = rw e (passed-map _ (read_params rs))

-- what the code says of the first row, and the rows after it
module _ (rs rest : Rows) (l : Result Line BadLine) (here : line_said l ≡ line_at rs) (after : rest ≡ rest_of rs) where
  pub params-stop :
      OtherThan 2 l → read_params rs ≡ told (fault_of 80 (line_said l)) (got []) rs
  unfolding read_params line_at
  params-stop o = go rs here
    where
      go : (rs : Rows) → line_said l ≡ line_at rs → read_params rs ≡ told (fault_of 80 (line_said l)) (got []) rs
      go [] e = rw e
      go (r ∷ rs) e = rw (← e, else-parameter {A = Reader _} l _ _ o, ← e)

  pub groups-stop :
      (seen : List ℕ) → OtherThan 3 l → OtherThan 4 l
      → told (fault_of 70 (line_said l)) (told (fault_of 71 (line_said l)) (got seen)) rs ≡ groups_after seen rs
  unfolding group_ids
  groups-stop seen u v =
      go (fault_of 70 (line_said l)) (fault_of 71 (line_said l)) (ap is_field (sym here) ∙ no-field l u v)
      (not-read rs l here u v)
    where
      go : (a b : Option Fault) → is_field (line_at rs) ≡ either (is_some a) (is_some b)
          → read_field rs ≡ told a (told b (no misplaced)) rs → told a (told b (got seen)) rs ≡ groups_after seen rs
      go (Some k) b i f = sym (groups-no seen rs rs k i f)
      go None (Some k) i f = sym (groups-no seen rs rs k i f)
      go None None i f =
          sym (ap (λ (g : Reading (List Field)). g then λ fs. got (seen ++ group_ids fs)) (fields-here seen rs)
          ∙ rw (i, append-nil seen))

  module _ (o d e p : ℕ) (is : l ≡ Ok (line.Field o d e p)) where
    field-here : read_field rs ≡ (read_slot o e p rest then λ sl. got (field (text_at rs) d (slot sl)))
    unfolding line_said read_field
    field-here = rw (← here, is, ← after)

    pub groups-slot :
        (seen : List ℕ) (q : Rows) → got tt q ≡ passed (read_slot o e p rest) → groups_after seen rs ≡ groups_after seen q
    unfolding line_said overlap
    groups-slot seen q h = go (read_slot o e p rest) refl h
      where
        go : (g : Reading Slot) → read_slot o e p rest ≡ g → got tt q ≡ passed g → groups_after seen rs ≡ groups_after seen q
        go (got sl ts) i h =
            let z : ts ≡ q = cc in
            groups-on seen rs ts (field (text_at rs) d (slot sl)) (rw (← here, is)) (field-here ∙ rw i) refl
            ∙ rw (append-nil seen, z)
        go (no k ts) i h = never cc

    pub groups-slot-no :
        (seen : List ℕ) (s : Str) (r : RefusedRow) → refused_row s r ≡ passed (read_slot o e p rest)
        → refused_row s r ≡ passed (groups_after seen rs)
    unfolding line_said
    groups-slot-no seen s r h = go (read_slot o e p rest) refl h
      where
        go : (g : Reading Slot) → read_slot o e p rest ≡ g → refused_row s r ≡ passed g
            → refused_row s r ≡ passed (groups_after seen rs)
        go (got sl ts) i h = never cc
        go (no k ts) i h = h ∙ ap passed (sym (groups-no seen rs ts k (rw (← here, is)) (field-here ∙ rw i)))

    pub slot-tail : (q : Rows) → got tt q ≡ passed (read_slot o e p rest) → Tail q rest
    slot-tail q h = leaves-passed (leaves-slot o e p rest) q h

    pub slot-less : (q : Rows) → got tt q ≡ passed (read_slot o e p rest) → length q < length rs
    unfolding line_said
    slot-less q h =
        let z : length rest < length rs = rw after (shorter rs (rw (← here, is) tt)) in
        omega (arith, tail_length (slot-tail q h))

    pub slot-room : (q : Rows) → got tt q ≡ passed (read_slot o e p rest) → size q ≤ size rs
    slot-room q h = let z : size rest ≤ size rs = rw after (tail_size (tail_rest rs)) in omega
        (arith, tail_size (slot-tail q h))

  module _ (i d : ℕ) (is : l ≡ Ok (line.Group i d)) where
    group-here : read_field rs ≡ got (field (text_at rs) d (group i)) rest
    unfolding line_said read_field
    group-here = rw (← here, is, ← here, is, ← here, is, ← after)

    pub groups-double : (seen : List ℕ) (b : Bool) → b ≡ among i seen → b ≡ true → no (fault 3 2) rs
        ≡ passed (groups_after seen rs)
    unfolding line_said overlap
    groups-double seen b e t =
        let z : is_field (line_at rs) ≡ true = rw (← here, is) in
        sym (ap (λ (g : Reading (List Field)). passed (g then λ fs. got (seen ++ group_ids fs))) (fields-here seen rs)
        ∙ rw (z, group-here, ← e, t))

    pub groups-group :
        (seen : List ℕ) (b : Bool) → b ≡ among i seen → b ≡ false → groups_after seen rs ≡ groups_after (seen ++ unit i) rest
    unfolding line_said overlap
    groups-group seen b e t =
        groups-on seen rs rest (field (text_at rs) d (group i)) (rw (← here, is)) group-here (rw (← e, t))

    pub group-less : length rest < length rs
    unfolding line_said
    group-less = rw after (shorter rs (rw (← here, is) tt))

    pub group-fits : 44 + size rest ≤ size rs
    unfolding line_said
    group-fits = rw after (group-room rs i d (sym here ∙ ap line_said is))

-- a row at a position that is neither F nor G: it is refused by its fault as one of them, or no field stands there
module _ (s : Str) (at : ℕ) (l : Result Line BadLine) (here : line_said l ≡ line_at (rows (drop at s))) (seen : List ℕ)
    (u : OtherThan 3 l) (v : OtherThan 4 l) where
  abbrev after_field : Reader (List ℕ)
  after_field = told (fault_of 71 (line_said l)) (got seen)

  pub field-refused : (r : RefusedRow) → end_at 70 l at ≡ Err r → refused_row s r ≡ passed (groups_after seen (rows (drop at s)))
  field-refused r e =
      ap passed (sym (end-refused after_field s 70 at l r e) ∙ groups-stop _ _ l here refl seen u v)

  module _ (q : ℕ) (e : end_at 70 l at ≡ Ok q) where
    group-next : after_field (rows (drop q s)) ≡ groups_after seen (rows (drop at s))
    group-next = sym (end-next after_field s 70 at l q e) ∙ groups-stop _ _ l here refl seen u v

    pub group-refused :
        (r : RefusedRow) → end_at 71 l q ≡ Err r → refused_row s r ≡ passed (groups_after seen (rows (drop at s)))
    group-refused r f = ap passed (sym (end-refused (got seen) s 71 q l r f) ∙ group-next)

    pub fields-end : (p : ℕ) → end_at 71 l q ≡ Ok p → groups_after seen (rows (drop at s)) ≡ got seen (rows (drop at s))
    fields-end p f =
        let same : at ≡ p = end-here 70 at l q e ∙ end-here 71 q l p f in
        sym group-next ∙ end-next (got seen) s 71 q l p f ∙ ap (λ (m : ℕ). got seen (rows (drop m s))) (sym same)
