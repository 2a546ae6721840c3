-- Laws of a field that was read: which it is in the tree, and what its type's text and its accessors are there, by the field's
-- arm. Assumes nothing.
use mathlib.Core.Path.{◌≡◌, refl, sym}
use mathlib.Core.Bool.{false}
use mathlib.Core.List.{List}
use Rattle.std.specs.Prelude.{Option, None, Some, Result, Ok, Err}
use Prim.Native.Nat.{ℕ}
use lib.ListN.{drop}
use Rattle.text.specs.Bytes.{Str}
use Rattle.text.specs.Lines.{Branch, stringify, margin}
use Rattle.text.specs.Text.{Wrote}
use Rattle.text.specs.declared.Text.{Text}
use Rattle.row.specs.Rows.{rows}
use Rattle.tree.specs.Tree as tree
use Rattle.tree.specs.Tree.{Ty, Arm, slot, group, Node, Sheet}
use Rattle.tree.specs.Fields.{FieldsHere}
use Rattle.tree.specs.Read.{read_type}
use Rattle.tree.specs.Reader.{Reading, got, no, On, Has}
use Rattle.codegen_types.specs.Out.{Out, ok, refused, ◌then◌}
use Rattle.codegen_types.specs.TypeString.{type_string}
use Rattle.codegen_types.specs.Written.{Writes}
use Rattle.codegen_types.specs.declared.Leaf.{Leaf}
use Rattle.terms.specs.declared.refusals.Refusal.{Refusal}
use Rattle.terms.specs.declared.refusals.Refusal.TheVariants.{NotThere}
use Rattle.sheet.specs.declared.Refused.{Refused}
use Rattle.codegen_types.proofs.WrittenLaws as written
use Rattle.nodes.specs.Index.{by_id, nth, Indexed, Finds, lookup}
use Rattle.nodes.specs.declared.Entry.{Entry}
use Rattle.nodes.proofs.Laws.{found-is}
use Rattle.field.specs.Slot.{SlotField, SlotHere}
use Rattle.field.specs.Field.{SlotIn, GroupIn, FieldIs, FindsField}
use Rattle.field.specs.declared.Slot as code
use Rattle.field.specs.declared.Group.{Group}
use Rattle.field.specs.declared.Field.{Field}
use Rattle.field.specs.declared.Field.TheVariants as field
use Rattle.codegen.specs.Zeroing as zero
use Rattle.codegen.specs.Zeroing.{zero_fields_of_group, zeroing_request}
use Rattle.zeroing.specs.Told.{Zeroes}
use Rattle.zeroing.specs.declared.Zeroed.{Zeroed}
use Rattle.requests.specs.Requests.{there, field_at, type_text, slot_named, slot_field, group_of, accessor_text, outcome}
use Rattle.requests.specs.Told.{Answered, StateAllowed, unplaced}
use Rattle.requests.proofs.AnswerLaws.{own-refusal}
use Rattle.requests.specs.declared.Accessor.{Accessor}
use Rattle.requests.specs.declared.Accessor.TheVariants.{TypeText, Getter, Setter, PairedSetter, Haser, Zeroing}
use Rattle.requests.specs.Parts.{may_have_scopes, Locates}
use Rattle.requests.specs.declared.Located.{Located}

-- ---- where a field is

module _ (s : Str) (index : List ℕ) (nodes : List Node) (id place : ℕ) (x : Indexed s nodes index) where
  -- in the node whose entry this is, whatever is found at the place
  in-entry : (e : Entry) (r : Option Located) → Some e ≡ lookup index id
      → ((n : Node) → n.tag_offset ≡ e.tag_offset → FieldsHere (rows (drop e.fields s)) n.fields
      → Locates s r (there (nth place n.fields) then λ g. ok (n, g))) → Locates s r (field_at nodes id place)
  unfolding field_at
  in-entry e r i f = go (by_id id nodes) (rw (← i) at (found-is s nodes index id x))
    where
      go : (o : Option Node) → Finds s index (Some e) o
          → Locates s r (there o then λ n. there (nth place n.fields) then λ g. ok (n, g))
      go (Some n) h = f n (sym h.tag-offset) h.fields
      go None h = absurd h

  pub located : (e : Entry) (f : Field) → Some e ≡ lookup index id
      → ((fs : List tree.Field) → FieldsHere (rows (drop e.fields s)) fs → FindsField s (Some f) (nth place fs))
      → Locates s (Some (record { tag = e.tag_offset; field = f })) (field_at nodes id place)
  located e f i found = in-entry e (Some (record { tag = e.tag_offset; field = f })) i
      (λ n t h. go n (nth place n.fields) t (found n.fields h))
    where
      go : (n : Node) (o : Option tree.Field) → n.tag_offset ≡ e.tag_offset → FindsField s (Some f) o
          → Locates s (Some (record { tag = e.tag_offset; field = f })) (there o then λ g. ok (n, g))
      go n (Some g) t h = (t, h)
      go n None t h = absurd h

  pub no-field : (e : Entry) → Some e ≡ lookup index id
      → ((fs : List tree.Field) → FieldsHere (rows (drop e.fields s)) fs → FindsField s None (nth place fs))
      → Locates s None (field_at nodes id place)
  no-field e i found = in-entry e None i (λ n t h. go n (nth place n.fields) (found n.fields h))
    where
      go : (n : Node) (o : Option tree.Field) → FindsField s None o → Locates s None (there o then λ g. ok (n, g))
      go n (Some g) h = absurd h
      go n None h = refl

  pub no-node : None ≡ lookup index id → Locates s None (field_at nodes id place)
  unfolding field_at
  no-node i = go (by_id id nodes) (rw (← i) at (found-is s nodes index id x))
    where
      go : (o : Option Node) → Finds s index None o
          → Locates s None (there o then λ n. there (nth place n.fields) then λ g. ok (n, g))
      go (Some n) h = absurd h
      go None h = refl

-- what is asked of it: 15 where there is no field
module _ (l : Str) (t : Text) (s : Str) (f : Node × tree.Field → Out Str) where
  pub nowhere : StateAllowed l t → (o : Out (Node × tree.Field)) → Locates s None o
      → Answered l t (outcome (o then f)) l (Err (unplaced NotThere))
  nowhere free (ok at) h = absurd h
  nowhere free (refused k) h = rw h (own-refusal l t free (unplaced NotThere))

  pub somewhere : (o : Out (Node × tree.Field)) (r : Located) → Locates s (Some r) o → (l' : Str) (q : Result Text Refused)
      → ((at : Node × tree.Field) → at.0.tag_offset ≡ r.tag → FieldIs s r.field at.1 → Answered l t (outcome (f at)) l' q)
      → Answered l t (outcome (o then f)) l' q
  somewhere (ok at) r h l' q k = k at h.0 h.1
  somewhere (refused k) r h l' q g = absurd h

-- ---- what its requests come to

-- what is read at a position, where it is known
on-has : {A : Type 0} (P : A → Type 0) (g : Reading A) (a : A) → On g P → Has g (λ b. b ≡ a) → P a
on-has P (got b q) a h e = rw e at h
on-has P (no k q) a h e = absurd e

-- of the field f, which was read from s
module _ (s : Str) (f : tree.Field) {l : List ℕ} {t : Text} {l' : List ℕ} {q : Result Text Refusal} where
  pub slot_accessor : (r : code.Slot) (g : SlotField → Out Str) → FieldIs s (field.Slot r) f
      → ((a : SlotField) → SlotHere s r a → Writes (g a) l t l' q) → Writes (slot_field f then g) l t l' q
  slot_accessor r g h k = go f.arm h
    where
      go : (a : Arm) → SlotIn s r f.name f.discriminant a
          → Writes (slot_named f.name f.discriminant a then g) l t l' q
      go (slot sl) h = k _ h
      go (group id) h = absurd h

  pub group-no_accessor : (r : Group) (g : SlotField → Out Str) → FieldIs s (field.Group r) f → Writes (refused 15) l t l' q
      → Writes (slot_field f then g) l t l' q
  group-no_accessor r g h k = go f.arm h
    where
      go : (a : Arm) → GroupIn s r f.name f.discriminant a
          → Writes (slot_named f.name f.discriminant a then g) l t l' q
      go (slot sl) h = absurd h
      go (group id) h = k

  pub slot-no-zeroing : (r : code.Slot) (g : ℕ → Out Str) → FieldIs s (field.Slot r) f → Writes (refused 15) l t l' q
      → Writes (group_of f.arm then g) l t l' q
  slot-no-zeroing r g h k = go f.arm h
    where
      go : (a : Arm) → SlotIn s r f.name f.discriminant a → Writes (group_of a then g) l t l' q
      go (slot sl) h = k
      go (group id) h = absurd h

  pub group-zeroing : (r : Group) (g : ℕ → Out Str) → FieldIs s (field.Group r) f → Writes (g r.id) l t l' q
      → Writes (group_of f.arm then g) l t l' q
  group-zeroing r g h k = go f.arm h
    where
      go : (a : Arm) → GroupIn s r f.name f.discriminant a → Writes (group_of a then g) l t l' q
      go (slot sl) h = absurd h
      go (group id) h = rw h.id-is k

  pub slot-type : (sheet : Sheet) (r : code.Slot) (leaf : Leaf) (level : ℕ) {l₁ : List ℕ} {t₁ : Text} → FieldIs s (field.Slot r) f
      → Wrote l t (margin level) l₁ t₁
      → On (read_type 16 (rows (drop r.typ s))) (λ ty. Writes (type_string ty sheet leaf) l₁ t₁ l' q)
      → Writes (type_text sheet f.arm (Some leaf) level) l t l' q
  unfolding type_text
  slot-type sheet r leaf level {l₁} {t₁} h m k = go f.arm h
    where
      go : (a : Arm) → SlotIn s r f.name f.discriminant a → Writes (type_text sheet a (Some leaf) level) l t l' q
      go (slot sl) h =
          written.in_front (type_string sl.ty sheet leaf) m
          (on-has (λ ty. Writes (type_string ty sheet leaf) l₁ t₁ l' q) (read_type 16 (rows (drop r.typ s))) sl.ty k h.typ)
      go (group id) h = absurd h

  pub slot-no-leaf : (sheet : Sheet) (r : code.Slot) (level : ℕ) → FieldIs s (field.Slot r) f → Writes (refused 15) l t l' q
      → Writes (type_text sheet f.arm None level) l t l' q
  unfolding type_text
  slot-no-leaf sheet r level h k = go f.arm h
    where
      go : (a : Arm) → SlotIn s r f.name f.discriminant a → Writes (type_text sheet a None level) l t l' q
      go (slot sl) h = k
      go (group id) h = absurd h

  pub group-no-type : (sheet : Sheet) (r : Group) (leaf : Option Leaf) (level : ℕ) → FieldIs s (field.Group r) f
      → Writes (refused 15) l t l' q → Writes (type_text sheet f.arm leaf level) l t l' q
  unfolding type_text
  group-no-type sheet r leaf level h k = go f.arm h
    where
      go : (a : Arm) → GroupIn s r f.name f.discriminant a → Writes (type_text sheet a leaf level) l t l' q
      go (slot sl) h = absurd h
      go (group id) h = k

-- a zeroing as a request: its text, or its refusal
pub zeroed-text : (sheet : Sheet) (id : ℕ) {l : List ℕ} {t : Text} {l' : List ℕ} (z : Zeroed)
    → Zeroes (zero_fields_of_group sheet 16 id) l t l' (Ok z) → Writes (zeroing_request sheet id t.level) l t l' (Ok z.text)
unfolding zeroing_request
zeroed-text sheet id {l} {t} {l'} z h = go (zero_fields_of_group sheet 16 id) h
  where
    go : (o : Out zero.Zeroing) → Zeroes o l t l' (Ok z)
        → Writes (o then λ y. ok (stringify (Branch y.result) t.level)) l t l' (Ok z.text)
    go (ok y) h = written.whole h.text.lines
    go (refused k) h = absurd h

pub zeroed-refusal : (sheet : Sheet) (id : ℕ) {l : List ℕ} {t : Text} {l' : List ℕ} (e : Refusal)
    → Zeroes (zero_fields_of_group sheet 16 id) l t l' (Err e) → Writes (zeroing_request sheet id t.level) l t l' (Err e)
unfolding zeroing_request
zeroed-refusal sheet id {l} {t} {l'} e h = go (zero_fields_of_group sheet 16 id) h
  where
    go : (o : Out zero.Zeroing) → Zeroes o l t l' (Err e)
        → Writes (o then λ y. ok (stringify (Branch y.result) t.level)) l t l' (Err e)
    go (ok y) h = absurd h
    go (refused k) h = written.refused-text h

-- a group has no other accessor
pub group-alone : (s : Str) (sheet : Sheet) (at : Node × tree.Field) (r : Group) (a : Accessor) (level : ℕ) → (a ≡ Zeroing → ⊥)
    → FieldIs s (field.Group r) at.1 → {l : List ℕ} {t : Text} {l' : List ℕ} {q : Result Text Refusal}
    → Writes (refused 15) l t l' q → Writes (accessor_text sheet at a level) l t l' q
unfolding accessor_text
group-alone s sheet at r (TypeText leaf) level n h w = group-no-type s at.1 sheet r leaf level h w
group-alone s sheet at r (Getter b f) level n h w = group-no_accessor s at.1 r _ h w
group-alone s sheet at r Setter level n h w = group-no_accessor s at.1 r _ h w
group-alone s sheet at r PairedSetter level n h w = group-no_accessor s at.1 r _ h w
group-alone s sheet at r (Haser b) level n h w = group-no_accessor s at.1 r _ h w
group-alone s sheet at r Zeroing level n h w = absurd (n refl)

-- a field that is no slot has no scopes
pub scopes-none : (f : Field) → ((r : code.Slot) → f ≡ field.Slot r → ⊥) → false ≡ may_have_scopes f
scopes-none (field.Slot r) o = absurd (o r refl)
scopes-none (field.Group g) o = refl
