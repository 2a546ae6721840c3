-- The lines of a group's zeroing are those of zeros, and the line of each slot of the group and of the groups inside it is among
-- them. By induction on the levels and on the fields: a line that `contains` leaves out is among the lines before it. Assumes
-- nothing.
use Rattle.std.specs.Prelude.{◌≡◌, ℕ, zero, suc, Bool, true, false, eqb, ◌⊎◌, List, [], ◌∷◌, ◌++◌}
use mathlib.Core.Path.{refl, sym, ap, ap₂, ◌∙◌}
use mathlib.Core.Logic.{inl, inr}
use Rattle.std.specs.Prelude.{Option, None, Some}
use Rattle.text.specs.Bytes.{Str, cond}
use Rattle.text.specs.Lines.{FormattedTexts, Branch, Line, ◌&◌, to_lines, flat_map}
use Rattle.tree.specs.Tree.{Slot, Arm, slot, group, Field, Node, Sheet}
use Rattle.codegen_types.specs.Out.{Out, ok, refused, ◌then◌}
use Rattle.codegen_types.specs.TypeString.{is_pointer, node_of}
use Rattle.calls.specs.Calls.{zero_tag}
use Rattle.codegen.specs.Zeroing.{Zeroing, zero_line, contains, push, no_push, zero_slot, zero_field, zero_fields, zero_node}
use Rattle.codegen.specs.Zeroing.{zero_fields_of_group}
use Rattle.record.specs.Lines.{Zero, of_tag, zeroing_line, zero_texts}
use Rattle.meaning.specs.Claims.{In}
use Rattle.agreement_zeroing.proofs.LineLaws.{zero_of, contains_in}

-- the code's lines are those of zeros, and each line that is due is among them or among those before
pub record Covers (Due : Str → Type 0) (seen : List Str) (code : FormattedTexts) : Type 0 where
  pub zeros : List Zero
  pub lines : flat_map code 0 ≡ zero_texts zeros
  pub due : (l : Str) → Due l → In l seen ⊎ In l (zero_texts zeros)

-- ---- lines one after the other

texts_append : (a b : List Zero) → zero_texts (a ++ b) ≡ zero_texts a ++ zero_texts b
texts_append [] b = refl
texts_append (z ∷ a) b = ap (λ (ls : List Str). zeroing_line z ∷ ls) (texts_append a b)

in_first : (l : Str) (a b : List Str) → In l a → In l (a ++ b)
in_first l [] b i = absurd i
in_first l (x ∷ a) b (inl e) = inl e
in_first l (x ∷ a) b (inr i) = inr (in_first l a b i)

in_second : (l : Str) (a b : List Str) → In l b → In l (a ++ b)
in_second l [] b i = i
in_second l (x ∷ a) b i = inr (in_second l a b i)

-- ---- one field in front of more

abbrev Both : (Due More : Str → Type 0) → Str → Type 0
Both Due More l = Due l ⊎ More l

module _ (Due More : Str → Type 0) (seen : List Str) where
  -- a group's code
  covers-branch : (a b : FormattedTexts) → Covers Due [] a → Covers More seen b → Covers (Both Due More) seen (Branch a & b)
  unfolding to_lines flat_map
  covers-branch a b c d = record {
    zeros = c.zeros ++ d.zeros;
    lines = ap₂ ◌++◌ c.lines d.lines ∙ sym (texts_append c.zeros d.zeros);
    due = λ l. rw (texts_append c.zeros d.zeros) (go l);
  }
    where
      first : (l : Str) → In l [] ⊎ In l (zero_texts c.zeros) → In l (zero_texts c.zeros ++ zero_texts d.zeros)
      first l (inl i) = absurd i
      first l (inr i) = in_first l (zero_texts c.zeros) (zero_texts d.zeros) i

      second : (l : Str) → In l seen ⊎ In l (zero_texts d.zeros)
          → In l seen ⊎ In l (zero_texts c.zeros ++ zero_texts d.zeros)
      second l (inl i) = inl i
      second l (inr i) = inr (in_second l (zero_texts c.zeros) (zero_texts d.zeros) i)

      go : (l : Str) → Both Due More l → In l seen ⊎ In l (zero_texts c.zeros ++ zero_texts d.zeros)
      go l (inl x) = inr (first l (c.due l x))
      go l (inr y) = second l (d.due l y)

  -- a line
  covers-line : (z : Zero) (line : Str) (b : FormattedTexts) → zeroing_line z ≡ line → ((l : Str) → Due l → l ≡ line)
      → Covers More (line ∷ seen) b → Covers (Both Due More) seen (Line line & b)
  unfolding to_lines flat_map
  covers-line z line b e only d = record {
    zeros = z ∷ d.zeros;
    lines = ap₂ (λ (l : Str) (ls : List Str). l ∷ ls) (sym e) d.lines;
    due = go;
  }
    where
      later : (l : Str) → In l (line ∷ seen) ⊎ In l (zero_texts d.zeros) → In l seen ⊎ In l (zero_texts (z ∷ d.zeros))
      later l (inl (inl f)) = inr (inl (f ∙ sym e))
      later l (inl (inr i)) = inl i
      later l (inr i) = inr (inr i)

      go : (l : Str) → Both Due More l → In l seen ⊎ In l (zero_texts (z ∷ d.zeros))
      go l (inl x) = inr (inl (only l x ∙ sym e))
      go l (inr y) = later l (d.due l y)

  -- no code: what is due stands before
  covers_more : (b : FormattedTexts) → ((l : Str) → Due l → In l seen) → Covers More seen b → Covers (Both Due More) seen b
  covers_more b before d = record { zeros = d.zeros; lines = d.lines; due = go }
    where
      go : (l : Str) → Both Due More l → In l seen ⊎ In l (zero_texts d.zeros)
      go l (inl x) = inl (before l x)
      go l (inr y) = d.due l y

-- ---- code that may be refused

-- P holds of what a function of the Rust gives, where it gives something
abbrev pub Given : {A : Type 0} → Out A → (A → Type 0) → Type 0
Given (ok a) P = P a
Given (refused k) P = Unit {0}

abbrev CoversAfter : (Str → Type 0) → List Str → Out Zeroing → Type 0
CoversAfter Due seen o = Given o (λ z. Covers Due seen z.result)

module _ (Due Due' : Str → Type 0) (seen seen' : List Str) where
  covers-as : ((code : FormattedTexts) → Covers Due seen code → Covers Due' seen' code) → (o : Out Zeroing)
      → CoversAfter Due seen o → CoversAfter Due' seen' o
  covers-as step (ok z) c = step z.result c
  covers-as step (refused k) c = tt

  covers-then : (f : Zeroing → Zeroing) → ((z : Zeroing) → Covers Due seen z.result → Covers Due' seen' (f z).result)
      → (o : Out Zeroing) → CoversAfter Due seen o → CoversAfter Due' seen' (o then λ z. ok (f z))
  covers-then f step (ok z) c = step z c
  covers-then f step (refused k) c = tt

-- a slot: its line is new, or was seen
covers-slot : (s : Slot) (More : Str → Type 0) (clear : Bool) (more : List Str → Out Zeroing)
    → ((seen : List Str) → CoversAfter More seen (more seen)) → (seen : List Str)
    → CoversAfter (Both (λ l. zero_line s ≡ Some l) More) seen (zero_slot seen clear (zero_line s) more)
covers-slot s More clear more covered seen = by-line (zero_line s) refl
  where
    Due : Str → Type 0
    Due l = zero_line s ≡ Some l

    by-seen : (line : Str) → zero_line s ≡ Some line → (b : Bool) → contains seen line ≡ b
        → CoversAfter (Both Due More) seen
        (cond b (more seen then λ z. ok (no_push clear z)) (more (line ∷ seen) then λ z. ok (push (Line line) clear z)))
    by-seen line e true f =
        let before : (l : Str) → Due l → In l seen = λ l d. let g : l ≡ line = cc in rw g (contains_in seen line f) in
        covers-then More (Both Due More) seen seen (no_push clear) (λ z c. covers_more Due More seen z.result before c)
        (more seen) (covered seen)
    by-seen line e false f =
        let y = zero_of s line e in
        covers-then More (Both Due More) (line ∷ seen) seen (push (Line line) clear)
        (λ z c. covers-line Due More seen y.0 line z.result y.1 (λ l d. cc) c) (more (line ∷ seen))
        (covered (line ∷ seen))

    by-line : (o : Option Str) → zero_line s ≡ o → CoversAfter (Both Due More) seen (zero_slot seen clear o more)
    by-line None e =
        covers-as More (Both Due More) seen seen
        (λ code c. covers_more Due More seen code (λ l d. cc) c)
        (more seen) (covered seen)
    by-line (Some line) e = by-seen line e (contains seen line) refl

-- ---- the fields of a node, over what is due of a group inside

abbrev DueOfArm : (ℕ → Str → Type 0) → Arm → Str → Type 0
DueOfArm Due (slot s) l = zero_line s ≡ Some l
DueOfArm Due (group id) l = Due id l

abbrev DueOfFields : (ℕ → Str → Type 0) → List Field → Str → Type 0
DueOfFields Due [] l = ⊥
DueOfFields Due (f ∷ fs) l = DueOfArm Due f.arm l ⊎ DueOfFields Due fs l

module _ (inner : ℕ → Out Zeroing) (Due : ℕ → Str → Type 0) (covered : (id : ℕ) → CoversAfter (Due id) [] (inner id)) where
  covers-field : (a : Arm) (More : Str → Type 0) (more : List Str → Out Zeroing)
      → ((seen : List Str) → CoversAfter More seen (more seen)) → (seen : List Str)
      → CoversAfter (Both (DueOfArm Due a) More) seen (zero_field inner seen a more)
  covers-field (slot s) More more c seen = covers-slot s More (is_pointer s.ty) more c seen
  covers-field (group id) More more c seen = go (inner id) (covered id) (more seen) (c seen)
    where
      go : (o : Out Zeroing) → CoversAfter (Due id) [] o → (m : Out Zeroing) → CoversAfter More seen m
          → CoversAfter (Both (Due id) More) seen (o then λ g. m then λ z. ok (push (Branch g.result) g.clear z))
      go (ok g) x (ok z) y = covers-branch (Due id) More seen g.result z.result x y
      go (ok g) x (refused k) y = tt
      go (refused k) x m y = tt

  covers-fields : (fs : List Field) (seen : List Str) → CoversAfter (DueOfFields Due fs) seen (zero_fields inner seen fs)
  unfolding zero_fields flat_map
  covers-fields [] seen = record { zeros = []; lines = refl; due = λ l d. absurd d }
  covers-fields (f ∷ fs) seen =
      covers-field f.arm (DueOfFields Due fs) (λ seen. zero_fields inner seen fs) (λ seen. covers-fields fs seen) seen

  covers-node : (n : Node) → CoversAfter (DueOfFields Due n.fields) [] (zero_node inner n)
  covers-node n = go (eqb n.tag_count 0)
    where
      line : Str
      line = zero_tag n.tag_offset

      Fields : Str → Type 0
      Fields = DueOfFields Due n.fields

      tagged : (z : Zeroing) → Covers Fields (line ∷ []) z.result → Covers Fields [] (Line line & z.result)
      tagged z c =
          let d = covers-line (λ l. ⊥) Fields [] (of_tag n.tag_offset) line z.result refl (λ l x. absurd x) c in
          record { zeros = d.zeros; lines = d.lines; due = λ l x. d.due l (inr x) }

      go : (b : Bool)
          → CoversAfter Fields []
          (cond b (zero_fields inner [] n.fields)
          (zero_fields inner (line ∷ []) n.fields then λ z. ok (push (Line line) false z)))
      go true = covers-fields n.fields []
      go false =
          covers-then Fields Fields (line ∷ []) [] (push (Line line) false) tagged (zero_fields inner (line ∷ []) n.fields)
          (covers-fields n.fields (line ∷ []))

-- ---- a group, on every level

-- the line of a slot of the node with this id, or of a node inside it
pub data Due (nodes : List Node) : ℕ → Str → Type 0 where
  of_slot : {id : ℕ} {l : Str} (n : Node) (f : Field) (s : Slot) → node_of nodes id ≡ ok n → In f n.fields → f.arm ≡ slot s
      → zero_line s ≡ Some l → Due nodes id l
  of_group : {id h : ℕ} {l : Str} (n : Node) (f : Field) → node_of nodes id ≡ ok n → In f n.fields → f.arm ≡ group h
      → Due nodes h l → Due nodes id l

-- what is due of one of the fields
due-at : (Due : ℕ → Str → Type 0) (fs : List Field) (f : Field) (l : Str) → In f fs → DueOfArm Due f.arm l
    → DueOfFields Due fs l
due-at Due [] f l i x = absurd i
due-at Due (g ∷ fs) f l (inl e) x = inl (rw e at x)
due-at Due (g ∷ fs) f l (inr i) x = inr (due-at Due fs f l i x)

-- what is due of a node is due of its fields
due-fields : (nodes : List Node) (id : ℕ) (n : Node) → node_of nodes id ≡ ok n → (l : Str) → Due nodes id l
    → DueOfFields (Due nodes) n.fields l
due-fields nodes id n e l (of_slot m f s e' i a x) =
    let z : m ≡ n = cc in rw z at (due-at (Due nodes) m.fields f l i (rw a x))
due-fields nodes id n e l (of_group m f e' i a x) =
    let z : m ≡ n = cc in rw z at (due-at (Due nodes) m.fields f l i (rw a x))

-- ALL THAT IS DUE OF A GROUP IS AMONG ITS LINES
pub group-covers : (sheet : Sheet) (left id : ℕ) → CoversAfter (Due sheet.nodes id) [] (zero_fields_of_group sheet left id)
unfolding zero_fields_of_group
group-covers sheet zero id = tt
group-covers sheet (suc left) id = by-node (node_of sheet.nodes id) refl
    (covers-node (zero_fields_of_group sheet left) (Due sheet.nodes) (group-covers sheet left))
  where
    nodes : List Node
    nodes = sheet.nodes

    inner : ℕ → Out Zeroing
    inner = zero_fields_of_group sheet left

    by-node : (o : Out Node) → node_of nodes id ≡ o
        → ((n : Node) → CoversAfter (DueOfFields (Due nodes) n.fields) [] (zero_node inner n))
        → CoversAfter (Due nodes id) [] (o then λ n. cond (eqb n.is_struct 1) (zero_node inner n) (refused 14))
    by-node (refused k) e c = tt
    by-node (ok n) e c = by-struct (eqb n.is_struct 1)
      where
        by-struct : (b : Bool) → CoversAfter (Due nodes id) [] (cond b (zero_node inner n) (refused 14))
        by-struct true =
            covers-as (DueOfFields (Due nodes) n.fields) (Due nodes id) [] []
            (λ code d. record { zeros = d.zeros; lines = d.lines; due = λ l x. d.due l (due-fields nodes id n e l x) })
            (zero_node inner n) (c n)
        by-struct false = tt
