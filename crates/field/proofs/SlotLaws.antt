-- Laws of a slot: what is read after an F row is what its type's row, its V row and its words say, one after the other. By cases
-- on what is read. Assumes nothing.
use mathlib.Core.Path.{◌≡◌, refl, sym, ap, ◌∙◌}
use mathlib.Core.Bool.{Bool}
use mathlib.Core.List.{List, [], ◌∷◌}
use Prim.Native.Nat.{ℕ, ◌<◌, ◌≤◌}
use native.Mathlib.Omega.{arith}
use Rattle.std.specs.Prelude.{Some, None, Result, Ok, Err}
use denote.Enum.Declared.{tag_of}
use lib.ListN.{drop, length}
use Rattle.terms.specs.Kinds.{number_of}
use Rattle.terms.specs.declared.kinds.Kind.{Kind}
use Rattle.text.specs.Bytes.{Str}
use Rattle.row.specs.Rows.{rows, rest_of}
use Rattle.row.specs.Line as content
use Rattle.row.specs.Line.{Fault, Content, good_said, line_said, line_at, fault_of}
use Rattle.row.specs.declared.BadLine.{BadLine}
use Rattle.row.specs.declared.Line.{Line}
use Rattle.row.specs.declared.Line.TheVariants as line
use Rattle.row.specs.contracts.Line.{the_type}
use Rattle.row.proofs.ReadLaws.{Good}
use Rattle.tree.specs.Tree as tree
use Rattle.tree.specs.Tree.{Ty, Value}
use Rattle.std.specs.Result.{result_ok}
use Rattle.tree.specs.Walked.{counted}
use Rattle.tree.specs.declared.Counted.{Counted}
use Rattle.tree.specs.declared.RefusedRow.{RefusedRow}
use Rattle.tree.specs.Reader.{Rows, Reading, Reader, got, no, ◌then◌, map_r}
use Rattle.tree.specs.Read.{read_type, has_words, value_of, read_words_up_to, read_words, read_slot}
use Rattle.tree.proofs.OtherLines.{never, not-value, not_value-tag}
use Rattle.tree.proofs.WalkLaws.{fault_or, told_wrong}
use Rattle.field.specs.Field.{Fewer}
use Rattle.field.specs.Parts.{Gets, TypeIs, most_words, SlotRead}
use Rattle.field.specs.declared.Slot.{Slot}
use Rattle.field.specs.declared.TypeSpan.{TypeSpan}
use Rattle.field.specs.declared.Field.TheVariants as field
use Rattle.field.proofs.WordsLaws.{words-counted, words-refused, counted-fewer}

gets-got : {A : Type 0} (P : A → Rows → Type 0) (g : Reading A) (a : A) (q : Rows) → Gets g P → g ≡ got a q → P a q
gets-got P g a q h e = rw e at h

-- the slot that is read, by its type, its default and its words
slot-gets : (o e p : ℕ) (rs : Rows) (P : tree.Slot → Rows → Type 0)
    → ((ty : Ty) (q : Rows) (v : Value) (w : Rows) (ws : List ℕ) (z : Rows)
    → read_type 16 rs ≡ got ty q → value_of q ≡ got v w → read_words (has_words e v.kind) w ≡ got ws z
    → P (record { offset = o; explicit = e; option = p; ty = ty; default = v; words = ws }) z)
    → Gets (read_slot o e p rs) P
unfolding read_slot
slot-gets o e p rs P f = types (read_type 16 rs) refl
  where
    words : (ty : Ty) (q : Rows) (v : Value) (w : Rows) → read_type 16 rs ≡ got ty q → value_of q ≡ got v w
        → (g : Reading (List ℕ)) → read_words (has_words e v.kind) w ≡ g
        → Gets (g then λ ws. got (record { offset = o; explicit = e; option = p; ty = ty; default = v; words = ws })) P
    words ty q v w et ev (got ws z) ew = f ty q v w ws z et ev ew
    words ty q v w et ev (no k z) ew = tt

    values : (ty : Ty) (q : Rows) → read_type 16 rs ≡ got ty q → (g : Reading Value) → value_of q ≡ g
        → Gets (g then λ v rs. read_words (has_words e v.kind) rs then λ ws.
        got (record { offset = o; explicit = e; option = p; ty = ty; default = v; words = ws })) P
    values ty q et (got v w) ev = words ty q v w et ev (read_words (has_words e v.kind) w) refl
    values ty q et (no k w) ev = tt

    types : (g : Reading Ty) → read_type 16 rs ≡ g
        → Gets (g then λ t rs. value_of rs then λ v rs. read_words (has_words e v.kind) rs then λ ws.
        got (record { offset = o; explicit = e; option = p; ty = t; default = v; words = ws })) P
    types (got ty q) et = values ty q et (value_of q) refl
    types (no k q) et = tt

-- a row that says something is left behind
pub row-fewer : (rs rest : Rows) (l : Content) → l ≡ line_at rs → rest ≡ rest_of rs → Good l → length rest < length rs
unfolding rest_of line_at
row-fewer [] rest l here after h = let z : ⊥ = rw here at h in absurd z
row-fewer (r ∷ rs) rest l here after h = rw after (omega arith)

-- the type t that stands at a position, and what the code says of the row after it
module _ (s : Str) (typ : ℕ) (t : TypeSpan) (type-is : Gets (read_type 16 (rows (drop typ s))) (TypeIs s t)) where
  -- no V row
  no-value : (o e p : ℕ) (P : tree.Slot → Rows → Type 0)
      → ((v : Value) (w : Rows) → value_of (rows (drop t.past s)) ≡ got v w → ⊥) → Gets (read_slot o e p (rows (drop typ s))) P
  no-value o e p P none =
      slot-gets o e p (rows (drop typ s)) P (λ ty q v w ws z et ev ew.
      absurd (none v w (rw (gets-got _ _ ty q type-is et).past ev)))

  pub slot-no-value : (o e p : ℕ) (P : tree.Slot → Rows → Type 0) (l : Line) → line_said (Ok l) ≡ line_at (rows (drop t.past s))
      → (tag_of the_type l ≡ 8 → ⊥) → Gets (read_slot o e p (rows (drop typ s))) P
  unfolding line_said value_of
  slot-no-value o e p P l here other =
      let tag = not_value-tag l (λ k b z. other (ap (tag_of the_type) z)) in
      no-value o e p P (λ v w ev.
      let n : value_of (rows (drop t.past s)) ≡ no (fault_or (fault_of 86 (good_said l))) (rows (drop t.past s)) =
      rw (← here, not-value {A = Reader _} l _ _ tag, ← here) (told_wrong (fault_of 86 (good_said l)) _) in
      never cc)

  pub slot-bad-value : (o e p : ℕ) (P : tree.Slot → Rows → Type 0) (b : BadLine)
      → line_said (Err b) ≡ line_at (rows (drop t.past s)) → Gets (read_slot o e p (rows (drop typ s))) P
  unfolding line_said value_of
  slot-bad-value o e p P b here =
      no-value o e p P (λ v w ev.
      let n : value_of (rows (drop t.past s)) ≡ no (fault_or (fault_of 86 (line_said (Err b)))) (rows (drop t.past s)) =
      rw (← here, ← here) (told_wrong (fault_of 86 (line_said (Err b))) _) in
      never cc)

  -- words that are refused
  pub slot-no-words :
      (o e p : ℕ) (k : Kind) (b : ℕ) (after : Rows) (P : tree.Slot → Rows → Type 0) (has : Bool) (w : Result Counted RefusedRow)
      → line_said (Ok (line.Value k b)) ≡ line_at (rows (drop t.past s)) → after ≡ rest_of (rows (drop t.past s))
      → has ≡ has_words e (number_of k) → counted s w ≡ map_r length (read_words_up_to (most_words has)) after
      → result_ok w ≡ None
      → Gets (read_slot o e p (rows (drop typ s))) P
  unfolding line_said value_of
  slot-no-words o e p k b after P has (Ok c) here rest has-is refused bad = never cc
  slot-no-words o e p k b after P has (Err r) here rest has-is refused bad =
      slot-gets o e p (rows (drop typ s)) P none
    where
      none : (ty : Ty) (q : Rows) (v : Value) (w : Rows) (ws : List ℕ) (z : Rows) → read_type 16 (rows (drop typ s)) ≡ got ty q
          → value_of q ≡ got v w → read_words (has_words e v.kind) w ≡ got ws z
          → P (record { offset = o; explicit = e; option = p; ty = ty; default = v; words = ws }) z
      none ty q v w ws z et ev ew =
          let at : rows (drop t.past s) ≡ q = (gets-got _ _ ty q type-is et).past in
          let g : value_of q ≡ got (record { kind = number_of k; bits = b }) (rest_of q) = rw (← at, ← here) refl in
          let v-is : v ≡ record { kind = number_of k; bits = b } = cc in
          let w-is : w ≡ rest_of q = cc in
          let w-after : w ≡ after = w-is ∙ sym (rw at at rest) in
          let words : read_words has after ≡ got ws z =
          rw (has-is, ← ap (λ (y : Value). y.kind) v-is, ← w-after) ew in
          absurd (words-refused has after ws z _ _ words refused)

-- words that were counted
pub words-ok : (w : Result Counted RefusedRow) (c : Counted) → result_ok w ≡ Some c → w ≡ Ok c
words-ok (Ok d) c h = cc
words-ok (Err r) c h = never cc

-- a slot by value, whose type t, V row and words these are
module _ (s : Str) (r : Slot) (t : TypeSpan) (type-is : Gets (read_type 16 (rows (drop r.typ s))) (TypeIs s t))
    (kind : r.kind ≡ t.kind) (id : r.id ≡ t.id)
    (here : line_said (Ok (line.Value r.default r.bits)) ≡ line_at (rows (drop t.past s)))
    (after : rows (drop r.words s) ≡ rest_of (rows (drop t.past s)))
    (has : Bool) (has-is : has ≡ has_words r.explicit (number_of r.default))
    (words-are : got r.count (rows (drop r.next s))
    ≡ map_r length (read_words_up_to (most_words has)) (rows (drop r.words s))) where
  value-is : (q : Rows) (v : Value) (w : Rows) → rows (drop t.past s) ≡ q → value_of q ≡ got v w
      → (v ≡ record { kind = number_of r.default; bits = r.bits }) × (w ≡ rows (drop r.words s))
  unfolding line_said value_of
  value-is q v w e ev =
      let g : value_of q ≡ got (record { kind = number_of r.default; bits = r.bits }) (rest_of q) = rw (← e, ← here) refl in
      let w-is : w ≡ rest_of q = cc in
      (cc, w-is ∙ sym (rw e at after))

  slot-here : rows (drop r.typ s) ≡ rest_of (rows (drop r.at s))
      → Gets (read_slot r.offset r.explicit r.option (rows (drop r.typ s)))
      (SlotRead s (Some (field.Slot r)) r.at r.discriminant)
  slot-here next = slot-gets r.offset r.explicit r.option (rows (drop r.typ s)) _ found
    where
      found : (ty : Ty) (q : Rows) (v : Value) (w : Rows) (ws : List ℕ) (z : Rows)
          → read_type 16 (rows (drop r.typ s)) ≡ got ty q → value_of q ≡ got v w
          → read_words (has_words r.explicit v.kind) w ≡ got ws z
          → SlotRead s (Some (field.Slot r)) r.at r.discriminant
          (record { offset = r.offset; explicit = r.explicit; option = r.option; ty = ty; default = v; words = ws }) z
      found ty q v w ws z et ev ew =
          let typ = gets-got _ _ ty q type-is et in
          let default = value-is q v w typ.past ev in
          let words : read_words has (rows (drop r.words s)) ≡ got ws z =
          rw (has-is, ← ap (λ (y : Value). y.kind) default.0, ← default.1) ew in
          let all = words-counted has (rows (drop r.words s)) ws z r.count (rows (drop r.next s)) words words-are in (
            record {
              name = refl;
              after = next;
              discriminant = refl;
              slot = record {
                offset = refl;
                explicit = refl;
                option = refl;
                kind = typ.kind ∙ sym (ap number_of kind);
                id = rw id typ.id;
                default = ap (λ (y : Value). y.kind) default.0;
                bits = ap (λ (y : Value). y.bits) default.0;
              };
              typ = rw et refl;
              words = rw (← has-is, words) refl;
              count = all.0;
            },
            all.1,
          )

  slot-fewer : length (rows (drop t.past s)) ≤ length (rows (drop r.typ s)) → Fewer s r.typ (Some (field.Slot r))
  unfolding line_said
  slot-fewer h =
      let v = row-fewer _ _ (content.Value (number_of r.default) r.bits) here after tt in
      let w = counted-fewer (most_words has) (rows (drop r.words s)) r.count (rows (drop r.next s)) words-are in
      omega arith

  pub slot-told : length (rows (drop t.past s)) ≤ length (rows (drop r.typ s))
      → (rows (drop r.typ s) ≡ rest_of (rows (drop r.at s))
      → Gets (read_slot r.offset r.explicit r.option (rows (drop r.typ s)))
      (SlotRead s (Some (field.Slot r)) r.at r.discriminant))
      × Fewer s r.typ (Some (field.Slot r))
  slot-told h = (slot-here, slot-fewer h)
