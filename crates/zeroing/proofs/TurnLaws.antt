-- The loop over a group's fields, one law for each turn: what is left to write from a field on, after the fields before it,
-- gives what was to be written from the first one on (`Going`). With fewer levels a refusal 4 goes back from there to the first
-- one too, since each group before was given. Assumes nothing.
use mathlib.Core.Path.{◌≡◌, refl, ◌∙◌}
use mathlib.Core.Bool.{Bool}
use mathlib.Core.List.{List, [], ◌∷◌, ◌++◌}
use Prim.Native.Nat.{ℕ, suc, ◌+◌}
use native.Mathlib.Numerals.{add-one}
use lib.ListN.{take, drop, replicate}
use Rattle.std.specs.Prelude.{None, Some, Result, Ok, Err}
use Rattle.terms.specs.Kinds.{number_of}
use Rattle.text.specs.Bytes.{Str}
use Rattle.row.specs.Rows.{rows}
use Rattle.tree.specs.Tree.{Field}
use Rattle.tree.specs.Reader.{Rows}
use Rattle.tree.specs.Fields.{FieldsHere}
use Rattle.field.specs.Field.{FieldIs, next_of, ReadsFirst}
use Rattle.field.specs.declared.Slot.{Slot}
use Rattle.field.specs.declared.Group.{Group}
use Rattle.field.specs.declared.Field as code
use Rattle.field.specs.declared.Field.TheVariants as read
use Rattle.codegen_types.specs.Out.{Out, refused}
use Rattle.terms.specs.declared.refusals.Refusal.{Refusal}
use Rattle.codegen.specs.Zeroing.{Zeroing, zero_fields}
use Rattle.zeroing.specs.Lines.{line_type, has_line, repeats, tag_lines}
use Rattle.zeroing.specs.Table.{KeptLines, with_line}
use Rattle.zeroing.specs.Added.{AddedSlot, Adds}
use Rattle.zeroing.specs.declared.Lines.{Lines}
use Rattle.zeroing.proofs.FieldLaws.{Turn, turn, ended_here, says_slot, says-group}
use Rattle.zeroing.proofs.SlotLaws.{either-false, pointer_is, seen_arm, seen_after, seen_append, slot-lines}
use Rattle.zeroing.proofs.RepeatLaws.{repeats_append}
use Rattle.zeroing.proofs.TableLaws.{kept-first}
use Rattle.zeroing.proofs.LevelLaws.{Fewer, back-here, back-slot, back-group}
use Rattle.zeroing.proofs.GroupLaws.{adds-ok, fields-none, next-slot, next-group, next-stop}

-- the lines of some fields are those of others
kept_same : (xs ys : List ℕ) (has has' : ℕ → ℕ → Bool) → ((c o : ℕ) → has' c o ≡ has c o)
    → KeptLines xs ys has → KeptLines xs ys has'
kept_same xs ys has has' e k = record {
  held = λ i n. e _ _ ∙ k.held i n;
  free = λ c o z w p f. e c o ∙ k.free c o z w p f;
}

-- fields that are refused with 4, whatever the lines before them
abbrev pub Refuses : (ℕ → Out Zeroing) → List Field → Type 0
Refuses other fs = (seen : List Str) → zero_fields other seen fs ≡ refused 4

-- after k fields, with this table and the lines so far: the fields that stand here, the lines of those before, and what is left
pub record Going (inner : ℕ → Out Zeroing) (tags offset : ℕ) (rs₀ : Rows) (l₀ : List ℕ) (p₀ : Lines) (rs : Rows) (k : ℕ)
    (xs ys l : List ℕ) (p : Lines) : Type 0 where
  pub here : (fs : List Field) → FieldsHere rs₀ fs → FieldsHere rs (drop k fs)
  pub kept : (fs : List Field) → FieldsHere rs₀ fs → KeptLines xs ys (λ c o. repeats c o (take k fs))
  pub rest : (fs : List Field) (l' : List ℕ) (r : Result Lines Refusal) → FieldsHere rs₀ fs
      → Adds (zero_fields inner (seen_after (tag_lines tags offset) (take k fs)) (drop k fs)) l p l' r
      → Adds (zero_fields inner (tag_lines tags offset) fs) l₀ p₀ l' r
  pub back : (fs : List Field) → FieldsHere rs₀ fs → (other : ℕ → Out Zeroing) → Fewer inner other
      → Refuses other (drop k fs) → Refuses other fs

pub going_first : {inner : ℕ → Out Zeroing} {tags offset : ℕ} {rs : Rows} {l : List ℕ} {p : Lines} (n : ℕ)
    → Going inner tags offset rs l p rs 0 (replicate n 0) (replicate n 0) l p
unfolding seen_after
going_first n = record {
  here = λ fs h. h;
  kept = λ fs h. kept-first n;
  rest = λ fs l' r h a. a;
  back = λ fs h other fewer z. z;
}

module _ {inner : ℕ → Out Zeroing} {tags offset : ℕ} {rs₀ : Rows} {l₀ : List ℕ} {p₀ : Lines} {rs : Rows} {k : ℕ}
    {xs ys l : List ℕ} {p : Lines} (g : Going inner tags offset rs₀ l₀ p₀ rs k xs ys l p) (s : Str) where
  -- no more fields
  pub going_end : ((fs : List Field) → FieldsHere rs fs → ReadsFirst s None fs) → (fs : List Field) → FieldsHere rs₀ fs
      → Adds (zero_fields inner (tag_lines tags offset) fs) l₀ p₀ l (Ok p)
  going_end reads fs h =
      g.rest fs l (Ok p) h
      (rw (ended_here s (drop k fs) (reads (drop k fs) (g.here fs h)))
      (fields-none inner (seen_after (tag_lines tags offset) (take k fs)) l p))

  -- one more field
  module _ (r : code.Field) (reads : (fs : List Field) → FieldsHere rs fs → ReadsFirst s (Some r) fs) where
    turns : (fs : List Field) → FieldsHere rs₀ fs → Turn s r k fs
    turns fs h = turn s r k fs (reads (drop k fs) (g.here fs h))

    going : (xs₁ ys₁ l₁ : List ℕ) (p₁ : Lines)
        → ((fs : List Field) → FieldsHere rs₀ fs → (f : Field) → FieldIs s r f
        → KeptLines xs₁ ys₁ (λ c o. repeats c o (take k fs ++ (f ∷ []))))
        → ((fs : List Field) → FieldsHere rs₀ fs → (f : Field) → FieldIs s r f → (l' : List ℕ) (r' : Result Lines Refusal)
        → Adds (zero_fields inner (seen_arm (seen_after (tag_lines tags offset) (take k fs)) f.arm) (drop (suc k) fs))
        l₁ p₁ l' r'
        → Adds (zero_fields inner (seen_after (tag_lines tags offset) (take k fs)) (f ∷ drop (suc k) fs)) l p l' r')
        → ((fs : List Field) → FieldsHere rs₀ fs → (f : Field) → FieldIs s r f → (other : ℕ → Out Zeroing) → Fewer inner other
        → Refuses other (drop (suc k) fs) → Refuses other (f ∷ drop (suc k) fs))
        → Going inner tags offset rs₀ l₀ p₀ (rows (drop (next_of r) s)) (k + 1) xs₁ ys₁ l₁ p₁
    going xs₁ ys₁ l₁ p₁ keep step over = rw (add-one k) (record {
      here = λ fs h. (turns fs h).next;
      kept = λ fs h. let t = turns fs h in rw t.taken (keep fs h t.field t.said);
      rest = λ fs l' r' h a.
          let t = turns fs h in
          g.rest fs l' r' h
          (rw t.first (step fs h t.field t.said l' r'
          (rw (t.taken, seen_append (tag_lines tags offset) (take k fs) t.field) at a)));
      back = λ fs h other fewer z.
          let t = turns fs h in
          g.back fs h other fewer (λ seen. rw t.first (over fs h t.field t.said other fewer z seen));
    })

    module _ {sl : Slot} (is : r ≡ read.Slot sl) where
      -- the line of a slot
      pub going-slot : {xs₁ ys₁ l₁ : List ℕ} {p₁ : Lines}
          → ((fs : List Field) → FieldsHere rs₀ fs → KeptLines xs ys (λ c o. repeats c o (take k fs))
          → AddedSlot (line_type (number_of sl.kind)) sl.offset (take k fs) l p l₁ p₁
          × KeptLines xs₁ ys₁ (with_line (line_type (number_of sl.kind)) sl.offset (take k fs)))
          → Going inner tags offset rs₀ l₀ p₀ (rows (drop sl.next s)) (k + 1) xs₁ ys₁ l₁ p₁
      unfolding has_line
      going-slot {xs₁} {ys₁} {l₁} {p₁} a = rw is at (going xs₁ ys₁ l₁ p₁
          (λ fs h f x.
          let w = says_slot s r f sl is x in
          kept_same xs₁ ys₁ (with_line (line_type (number_of sl.kind)) sl.offset (take k fs)) _
          (λ c o. repeats_append c o (take k fs) f ∙ rw (w.is, w.offset_is, w.kind_is) refl) (a fs h (g.kept fs h)).1)
          (λ fs h f x l' r' v.
          let w = says_slot s r f sl is x in
          next-slot inner (seen_after (tag_lines tags offset) (take k fs)) f (drop (suc k) fs) w.sl l p l₁ p₁ l' r' w.is
          (rw (slot-lines tags offset (take k fs) w.sl, pointer_is w.sl, w.kind_is, w.offset_is)
          (a fs h (g.kept fs h)).0) v)
          (λ fs h f x other fewer z seen.
          let w = says_slot s r f sl is x in
          back-slot other f (drop (suc k) fs) z seen w.sl w.is))

    module _ {gr : Group} (is : r ≡ read.Group gr) where
      -- a group inside that is refused with 4, with fewer levels
      pub going_back : (other : ℕ → Out Zeroing) → Fewer inner other → other gr.id ≡ refused 4
          → (fs : List Field) → FieldsHere rs₀ fs → Refuses other fs
      going_back other fewer z fs h =
          let t = turns fs h in
          let w = says-group s r t.field gr is t.said in
          g.back fs h other fewer (λ seen. rw t.first (back-here other t.field (drop (suc k) fs) seen gr.id w z))

      -- the lines of a group inside
      pub going-group : {l₁ : List ℕ} {p₁ : Lines} → Adds (inner gr.id) l p l₁ (Ok p₁)
          → Going inner tags offset rs₀ l₀ p₀ (rows (drop gr.next s)) (k + 1) xs ys l₁ p₁
      unfolding has_line
      going-group {l₁} {p₁} a = rw is at (going xs ys l₁ p₁
          (λ fs h f x.
          let w = says-group s r f gr is x in
          kept_same xs ys (λ c o. repeats c o (take k fs)) _
          (λ c o. repeats_append c o (take k fs) f ∙ rw w (either-false (repeats c o (take k fs)))) (g.kept fs h))
          (λ fs h f x l' r' v.
          let w = says-group s r f gr is x in
          next-group inner (seen_after (tag_lines tags offset) (take k fs)) f (drop (suc k) fs) gr.id w l p l₁ p₁ a l' r' v)
          (λ fs h f x other fewer z seen.
          let w = says-group s r f gr is x in
          let given = adds-ok (inner gr.id) l p l₁ p₁ a in
          back-group other f (drop (suc k) fs) z seen gr.id w given.0 (rw given.1 at (fewer gr.id))))

      -- a group inside that is refused
      pub going-stop : (l₁ : List ℕ) (e : Refusal) → Adds (inner gr.id) l p l₁ (Err e) → (fs : List Field) → FieldsHere rs₀ fs
          → Adds (zero_fields inner (tag_lines tags offset) fs) l₀ p₀ l₁ (Err e)
      going-stop l₁ e a fs h =
          let t = turns fs h in
          let w = says-group s r t.field gr is t.said in
          g.rest fs l₁ (Err e) h
          (rw t.first (next-stop inner (seen_after (tag_lines tags offset) (take k fs)) t.field (drop (suc k) fs) gr.id w
          l p l₁ e a))
