-- Laws of the lines of a group: what a slot, a group inside it and no more fields add, what the tag's line and the fields'
-- lines come to for its node, and which refusal is met. By cases on what the Rust gives. Assumes nothing.
use mathlib.Core.Path.{◌≡◌, refl, sym, ap, subst, ◌∙◌}
use mathlib.Core.Bool.{Bool, true, false}
use mathlib.Core.List.{List, [], ◌∷◌, ◌++◌}
use Rattle.std.specs.Prelude.{Option, None, Some, Result, Ok, Err}
use Prim.Native.Nat.{ℕ, zero, suc, ◌-◌}
use native.Mathlib.Numerals.{sub-one}
use native.Mathlib.Omega.{arith}
use borrow.Author.Tests.{eq-eqb, ne_eqb}
use lib.Dec.{eqb}
use lib.ListN.{drop}
use Rattle.std.proofs.lemmas.Bool.Decides.{nat_tests}
use Rattle.text.specs.Bytes.{Str, unit, cond, either}
use Rattle.text.specs.Lines.{Branch, Line, to_lines, flat_map, stringify, ended, margin}
use Rattle.text.specs.Lines as lines
use Rattle.text.specs.Text.{Wrote, WroteLines, adv, put}
use Rattle.text.specs.declared.Text.{Text}
use Rattle.text.proofs.Laws.{◌⨾◌, level, at}
use Rattle.text.proofs.LinesLaws.{ended_append, stringify-lines, stringify-none}
use Rattle.row.specs.Rows.{rows}
use Rattle.tree.specs.Tree.{Slot, slot, group, Field, Node, Sheet}
use Rattle.tree.specs.Fields.{FieldsHere}
use Rattle.nodes.specs.Index.{by_id, lookup, Indexed, EntryIs, Finds}
use Rattle.nodes.specs.declared.Entry.{Entry}
use Rattle.nodes.proofs.Laws.{found-is}
use Rattle.codegen_types.specs.Out.{Out, ok, refused, or_refused, ◌then◌}
use Rattle.codegen_types.proofs.NodeLaws.{node_by_id}
use Rattle.codegen_types.specs.TypeString.{is_pointer, node_of}
use Rattle.terms.specs.declared.refusals.Refusal.{Refusal}
use Rattle.calls.specs.Calls.{zero_tag}
use Rattle.codegen.specs.Zeroing.{Zeroing, zero_line, contains, push, no_push, zero_slot, zero_fields, zero_node}
use Rattle.codegen.specs.Zeroing.{zero_fields_of_group}
use Rattle.zeroing.specs.Lines.{zero_text, slot_lines, tag_lines, with_margin}
use Rattle.zeroing.specs.Added.{is_any, Added, Adds}
use Rattle.zeroing.specs.Told.{Zeroes}
use Rattle.zeroing.specs.declared.Lines.{Lines}
use Rattle.zeroing.proofs.SlotLaws.{either-false, either_true, either_assoc, line-is, pointer_is, seen_line, seen_arm}
use Rattle.zeroing.proofs.SlotLaws.{added_lines}
use Rattle.zeroing.proofs.LevelLaws.{back-node}

infixl 50 ◌⊞◌
-- ---- lines after lines

wrote_none : (l : List ℕ) (t : Text) → Wrote l t [] l t
unfolding put adv
wrote_none l t = record { bytes = refl; state = refl }

added_none : (l : List ℕ) (p : Lines) → Added [] false l p l p
unfolding ended
added_none l p = record {
  text = wrote_none l p.text;
  clears = sym (either-false p.clear);
  any = sym (either-false p.any);
}

is_any_append : (a b : List Str) → is_any (a ++ b) ≡ either (is_any a) (is_any b)
is_any_append [] b = refl
is_any_append (x ∷ a) b = refl

◌⊞◌ : {a b : List Str} {x y : Bool} {l l₁ l₂ : List ℕ} {p p₁ p₂ : Lines} → Added a x l p l₁ p₁ → Added b y l₁ p₁ l₂ p₂
    → Added (a ++ b) (either x y) l p l₂ p₂
◌⊞◌ {a} {b} {x} {y} {p = p} e f = record {
  text = rw (ended_append a b) (e.text ⨾ f.text);
  clears = f.clears ∙ ap (λ (z : Bool). either z y) e.clears ∙ either_assoc p.clear x y;
  any = f.any ∙ ap (λ (z : Bool). either z (is_any b)) e.any ∙ either_assoc p.any (is_any a) (is_any b)
      ∙ ap (λ (z : Bool). either p.any z) (sym (is_any_append a b));
}

-- what a group gives after some lines: with no line before it, or with the lines that f puts before it
module _ {l : List ℕ} {p : Lines} {l₁ : List ℕ} {p₁ : Lines} (l₂ : List ℕ) where
  -- its lines begin at the level of those before them
  adds-lines : {lines : List Str} {clear : Bool} → Added lines clear l p l₁ p₁ → (w : Zeroing) (q : Lines)
      → Adds (ok w) l₁ p₁ l₂ (Ok q) → Added (lines ++ flat_map w.result p.text.level) (either clear w.clear) l p l₂ q
  adds-lines a w q h = a ⊞ subst (λ (n : ℕ). Added (flat_map w.result n) w.clear l₁ p₁ l₂ q) (level a.text) h

  adds-alone : (o : Out Zeroing) (r : Result Lines Refusal) → Added [] false l p l₁ p₁ → Adds o l₁ p₁ l₂ r → Adds o l p l₂ r
  adds-alone (ok w) (Ok q) a h = adds-lines a w q h
  adds-alone (ok w) (Err e) a h = h
  adds-alone (refused k) (Ok q) a h = h
  adds-alone (refused k) (Err e) a h = h

  adds-after : (f : Zeroing → Zeroing) (lines : List Str) (clear : Bool)
      → ((w : Zeroing) → flat_map (f w).result p.text.level ≡ lines ++ flat_map w.result p.text.level)
      → ((w : Zeroing) → (f w).clear ≡ either clear w.clear)
      → Added lines clear l p l₁ p₁ → (o : Out Zeroing) (r : Result Lines Refusal) → Adds o l₁ p₁ l₂ r
      → Adds (o then λ z. ok (f z)) l p l₂ r
  adds-after f lines clear e c a (ok w) (Ok q) h = rw (e w, c w) (adds-lines a w q h)
  adds-after f lines clear e c a (ok w) (Err x) h = h
  adds-after f lines clear e c a (refused k) (Ok q) h = h
  adds-after f lines clear e c a (refused k) (Err x) h = h

-- one line with its margin and its byte 10
added_line : (line : Str) (clear : Bool) {l : List ℕ} (p : Lines) {l₁ : List ℕ} {t₁ : Text} {l₂ : List ℕ} {t₂ : Text}
    {l₃ : List ℕ} {t₃ : Text} (c : Bool) → c ≡ either p.clear clear → WroteLines l p.text margin l₁ t₁ → Wrote l₁ t₁ line l₂ t₂
    → Wrote l₂ t₂ (unit 10) l₃ t₃
    → Added (with_margin (line ∷ []) p.text.level) clear l p l₃ (record { text = t₃; clear = c; any = true })
unfolding ended
added_line line clear p c e m v w = record { text = m.lines ⨾ v ⨾ w; clears = e; any = sym (either_true p.any) }

-- no line: a repeat, which counts where it clears a pointer
added_repeat : (clear : Bool) (l : List ℕ) (p : Lines) (c : Bool) → c ≡ either p.clear clear
    → Added [] clear l p l (record { text = p.text; clear = c; any = p.any })
unfolding ended
added_repeat clear l p c e =
    record { text = wrote_none l p.text; clears = e; any = sym (either-false p.any) }

-- the line of a type at an offset: none, one that is there again, or a new one
module _ {c : ℕ} (o : ℕ) (again : Bool) {l : List ℕ} {p : Lines} where
  pub line-void : c ≡ 0 → Added (with_margin (slot_lines c o again) p.text.level) (eqb c 12) l p l p
  line-void z = rw z (added_none l p)

  module _ (line : c ≡ 0 → ⊥) {clear : Bool} (clears : clear ≡ either p.clear (eqb c 12)) where
    pub line-again : again ≡ true
        → Added (with_margin (slot_lines c o again) p.text.level) (eqb c 12) l p l
        (record { text = p.text; clear = clear; any = p.any })
    line-again y = rw (ne_eqb c 0 line, y) (added_repeat (eqb c 12) l p clear clears)

    pub line-new : {l₁ : List ℕ} {t₁ : Text} {l₂ : List ℕ} {t₂ : Text} {l₃ : List ℕ} {t₃ : Text} → again ≡ false
        → WroteLines l p.text margin l₁ t₁ → Wrote l₁ t₁ (zero_text c o) l₂ t₂ → Wrote l₂ t₂ (unit 10) l₃ t₃
        → Added (with_margin (slot_lines c o again) p.text.level) (eqb c 12) l p l₃
        (record { text = t₃; clear = clear; any = true })
    line-new y m v w =
        rw (ne_eqb c 0 line, y) (added_line (zero_text c o) (eqb c 12) p clear clears m v w)

-- ---- the fields of a group, one after the other

-- where there is no line there is no pointer
void-is : (s : Slot) → zero_line s ≡ None → is_pointer s.ty ≡ false
void-is s e =
    let none = sym (line-is s) ∙ e in
    rw (pointer_is s) (grind (arith, nat_tests))

-- what was added was given
pub adds-ok : (o : Out Zeroing) (l : List ℕ) (p : Lines) (l₁ : List ℕ) (p₁ : Lines) → Adds o l p l₁ (Ok p₁)
    → (z : Zeroing) × (o ≡ ok z)
adds-ok (ok z) l p l₁ p₁ a = (z, refl)
adds-ok (refused k) l p l₁ p₁ a = absurd a

module _ (inner : ℕ → Out Zeroing) (seen : List Str) where
  fields-slot : (fs : List Field) (line : Option Str) (clear : Bool) → (line ≡ None → clear ≡ false)
      → (l : List ℕ) (p : Lines) (l₁ : List ℕ) (p₁ : Lines) (l₂ : List ℕ) (r : Result Lines Refusal)
      → Added (with_margin (added_lines seen line) p.text.level) clear l p l₁ p₁
      → Adds (zero_fields inner (seen_line seen line) fs) l₁ p₁ l₂ r
      → Adds (zero_slot seen clear line (λ s. zero_fields inner s fs)) l p l₂ r
  unfolding to_lines flat_map margin
  fields-slot fs None clear z l p l₁ p₁ l₂ r a h = adds-alone l₂ (zero_fields inner seen fs) r (rw (z refl) at a) h
  fields-slot fs (Some line) clear z l p l₁ p₁ l₂ r a h = by-repeat (contains seen line) a h
    where
      by-repeat : (t : Bool) → Added (with_margin (cond t [] (line ∷ [])) p.text.level) clear l p l₁ p₁
          → Adds (zero_fields inner (cond t seen (line ∷ seen)) fs) l₁ p₁ l₂ r
          → Adds (cond t (zero_fields inner seen fs then λ z. ok (no_push clear z))
          (zero_fields inner (line ∷ seen) fs then λ z. ok (push (Line line) clear z))) l p l₂ r
      by-repeat true a h =
          adds-after l₂ (no_push clear) [] clear (λ w. refl) (λ w. refl) a (zero_fields inner seen fs) r h
      by-repeat false a h =
          adds-after l₂ (push (Line line) clear) (with_margin (line ∷ []) p.text.level) clear (λ w. refl) (λ w. refl) a
          (zero_fields inner (line ∷ seen) fs) r h

  -- a group inside that is not refused, and one that is
  fields-group : (fs : List Field) (id : ℕ) (l : List ℕ) (p : Lines) (l₁ : List ℕ) (p₁ : Lines) (l₂ : List ℕ)
      (r : Result Lines Refusal) → Adds (inner id) l p l₁ (Ok p₁) → Adds (zero_fields inner seen fs) l₁ p₁ l₂ r
      → Adds (inner id then λ g. zero_fields inner seen fs then λ z. ok (push (Branch g.result) g.clear z)) l p l₂ r
  unfolding to_lines flat_map
  fields-group fs id l p l₁ p₁ l₂ r a h = go (inner id) a
    where
      go : (o : Out Zeroing) → Adds o l p l₁ (Ok p₁)
          → Adds (o then λ g. zero_fields inner seen fs then λ z. ok (push (Branch g.result) g.clear z)) l p l₂ r
      go (ok g) a =
          adds-after l₂ (push (Branch g.result) g.clear) (flat_map g.result p.text.level) g.clear (λ w. refl) (λ w. refl) a
          (zero_fields inner seen fs) r h
      go (refused k) a = absurd a

  fields-stop : (fs : List Field) (id : ℕ) (l : List ℕ) (p : Lines) (l₁ : List ℕ) (e : Refusal)
      → Adds (inner id) l p l₁ (Err e)
      → Adds (inner id then λ g. zero_fields inner seen fs then λ z. ok (push (Branch g.result) g.clear z)) l p l₁ (Err e)
  fields-stop fs id l p l₁ e a = go (inner id) a
    where
      go : (o : Out Zeroing) → Adds o l p l₁ (Err e)
          → Adds (o then λ g. zero_fields inner seen fs then λ z. ok (push (Branch g.result) g.clear z)) l p l₁ (Err e)
      go (ok g) a = absurd a
      go (refused j) a = a

  pub fields-none : (l : List ℕ) (p : Lines) → Adds (zero_fields inner seen []) l p l (Ok p)
  unfolding zero_fields flat_map
  fields-none l p = added_none l p

  -- the next field is a slot, or a group
  pub next-slot : (f : Field) (fs : List Field) (s : Slot) (l : List ℕ) (p : Lines) (l₁ : List ℕ) (p₁ : Lines) (l₂ : List ℕ)
      (r : Result Lines Refusal) → f.arm ≡ slot s
      → Added (with_margin (added_lines seen (zero_line s)) p.text.level) (is_pointer s.ty) l p l₁ p₁
      → Adds (zero_fields inner (seen_arm seen f.arm) fs) l₁ p₁ l₂ r → Adds (zero_fields inner seen (f ∷ fs)) l p l₂ r
  unfolding zero_fields
  next-slot f fs s l p l₁ p₁ l₂ r e a h =
      rw e (fields-slot fs (zero_line s) (is_pointer s.ty) (void-is s) l p l₁ p₁ l₂ r a (rw e at h))

  module _ (f : Field) (fs : List Field) (id : ℕ) (e : f.arm ≡ group id) (l : List ℕ) (p : Lines) (l₁ : List ℕ) where
    pub next-group : (p₁ : Lines) → Adds (inner id) l p l₁ (Ok p₁) → (l₂ : List ℕ) (r : Result Lines Refusal)
        → Adds (zero_fields inner (seen_arm seen f.arm) fs) l₁ p₁ l₂ r → Adds (zero_fields inner seen (f ∷ fs)) l p l₂ r
    unfolding zero_fields
    next-group p₁ a l₂ r h = rw e (fields-group fs id l p l₁ p₁ l₂ r a (rw e at h))

    pub next-stop : (x : Refusal) → Adds (inner id) l p l₁ (Err x) → Adds (zero_fields inner seen (f ∷ fs)) l p l₁ (Err x)
    unfolding zero_fields
    next-stop x a = rw e (fields-stop fs id l p l₁ x a)

-- ---- a group's node

-- the tag's line
module _ {tags : ℕ} (offset : ℕ) {l : List ℕ} {p : Lines} where
  pub tag_none : tags ≡ 0 → Added (with_margin (tag_lines tags offset) p.text.level) false l p l p
  tag_none z = rw (eq-eqb tags 0 z) (added_none l p)

  pub tag_some : {l₁ : List ℕ} {t₁ : Text} {l₂ : List ℕ} {t₂ : Text} {l₃ : List ℕ} {t₃ : Text} → (tags ≡ 0 → ⊥)
      → WroteLines l p.text margin l₁ t₁ → Wrote l₁ t₁ (zero_tag offset) l₂ t₂ → Wrote l₂ t₂ (unit 10) l₃ t₃
      → Added (with_margin (tag_lines tags offset) p.text.level) false l p l₃
      (record { text = t₃; clear = p.clear; any = true })
  tag_some z m v w =
      rw (ne_eqb tags 0 z) (added_line (zero_tag offset) false p p.clear (sym (either-false p.clear)) m v w)

-- the tag's line and the fields' lines
node-adds : (inner : ℕ → Out Zeroing) (n : Node) (l : List ℕ) (p : Lines) (l₁ : List ℕ) (p₁ : Lines) (l₂ : List ℕ)
    (r : Result Lines Refusal) → Added (with_margin (tag_lines n.tag_count n.tag_offset) p.text.level) false l p l₁ p₁
    → Adds (zero_fields inner (tag_lines n.tag_count n.tag_offset) n.fields) l₁ p₁ l₂ r
    → Adds (zero_node inner n) l p l₂ r
unfolding to_lines flat_map margin
node-adds inner n l p l₁ p₁ l₂ r a h = by-tag (eqb n.tag_count 0) a h
  where
    tag : Str
    tag = zero_tag n.tag_offset

    by-tag : (t : Bool) → Added (with_margin (cond t [] (tag ∷ [])) p.text.level) false l p l₁ p₁
        → Adds (zero_fields inner (cond t [] (tag ∷ [])) n.fields) l₁ p₁ l₂ r
        → Adds (cond t (zero_fields inner [] n.fields)
        (zero_fields inner (tag ∷ []) n.fields then λ z. ok (push (Line tag) false z))) l p l₂ r
    by-tag true a h = adds-alone l₂ (zero_fields inner [] n.fields) r a h
    by-tag false a h =
        adds-after l₂ (push (Line tag) false) (with_margin (tag ∷ []) p.text.level) false (λ w. refl) (λ w. refl) a
        (zero_fields inner (tag ∷ []) n.fields) r h

-- with no level left, and with one
pub none_left : (sheet : Sheet) (left id : ℕ) → left ≡ 0 → zero_fields_of_group sheet left id ≡ refused 4
unfolding zero_fields_of_group
none_left sheet left id z = rw z refl

some_left : (sheet : Sheet) (left id : ℕ) → (left ≡ 0 → ⊥) → zero_fields_of_group sheet left id
    ≡ (node_of sheet.nodes id then λ n.
    cond (eqb n.is_struct 1) (zero_node (zero_fields_of_group sheet (left - 1)) n) (refused 14))
unfolding zero_fields_of_group
some_left sheet zero id z = absurd (z refl)
some_left sheet (suc left) id z = rw (sub-one (suc left)) refl

-- the zeroing of a node, where it is a struct
abbrev struct_of : Sheet → ℕ → Node → Out Zeroing
struct_of sheet left n = cond (eqb n.is_struct 1) (zero_node (zero_fields_of_group sheet (left - 1)) n) (refused 14)

-- what the index has for a group, with a level left for it
pub record Sought (s : Str) (sheet : Sheet) (index : List ℕ) (left id : ℕ) (found : Option Entry) : Type 0 where
  pub more : left ≡ 0 → ⊥
  pub is : found ≡ lookup index id
  pub indexed : Indexed s sheet.nodes index

pub sought : {s : Str} (sheet : Sheet) {index : List ℕ} {left id : ℕ} {f g : Option Entry} → (left ≡ 0 → ⊥)
    → f ≡ lookup index id → Indexed s sheet.nodes index → f ≡ g → Sought s sheet index left id g
sought sheet more e x h = record { more = more; is = sym h ∙ e; indexed = x }

finds : {s : Str} {sheet : Sheet} {index : List ℕ} {left id : ℕ} {found : Option Entry}
    → Sought s sheet index left id found → Finds s index found (by_id id sheet.nodes)
finds {s} {sheet} {index} {left} {id} h = rw (← h.is) at (found-is s sheet.nodes index id h.indexed)

pub group_missing : {s : Str} {sheet : Sheet} {index : List ℕ} {left id : ℕ} → Sought s sheet index left id None
    → zero_fields_of_group sheet left id ≡ refused 5
group_missing {s} {sheet} {index} {left} {id} h =
    rw (some_left sheet left id h.more, node_by_id sheet.nodes id) (go (by_id id sheet.nodes) (finds h))
  where
    go : (o : Option Node) → Finds s index None o → (or_refused 5 o then struct_of sheet left) ≡ refused 5
    go None w = refl
    go (Some n) w = absurd w

module _ {s : Str} {sheet : Sheet} {index : List ℕ} {left id : ℕ} {node : Entry}
    (here : Sought s sheet index left id (Some node)) where
  group-there : (Q : Out Zeroing → Type 0) → ((n : Node) → EntryIs s index node n → Q (struct_of sheet left n))
      → Q (zero_fields_of_group sheet left id)
  group-there Q law =
      rw (some_left sheet left id here.more, node_by_id sheet.nodes id) (go (by_id id sheet.nodes) (finds here))
    where
      go : (o : Option Node) → Finds s index (Some node) o → Q (or_refused 5 o then struct_of sheet left)
      go None w = absurd w
      go (Some n) w = law n w

  pub no-struct : (node.is_struct ≡ 1 → ⊥) → zero_fields_of_group sheet left id ≡ refused 14
  no-struct h = group-there (λ o. o ≡ refused 14) (λ n w. rw (ne_eqb n.is_struct 1 (λ z. h (w.is-struct ∙ z))) refl)

  module _ (struct : node.is_struct ≡ 1) where
    pub group-refused : ((fs : List Field) → FieldsHere (rows (drop node.fields s)) fs → (seen : List Str)
        → zero_fields (zero_fields_of_group sheet (left - 1)) seen fs ≡ refused 4)
        → zero_fields_of_group sheet left id ≡ refused 4
    group-refused fields = group-there (λ o. o ≡ refused 4) (λ n w.
        rw (eq-eqb n.is_struct 1 (sym w.is-struct ∙ struct))
        (back-node (zero_fields_of_group sheet (left - 1)) n (fields n.fields w.fields)))

    pub group-adds : {l : List ℕ} {p : Lines} {l₁ : List ℕ} {p₁ : Lines} (l₂ : List ℕ) (r : Result Lines Refusal)
        → Added (with_margin (tag_lines node.tag_count node.tag_offset) p.text.level) false l p l₁ p₁
        → ((fs : List Field) → FieldsHere (rows (drop node.fields s)) fs
        → Adds (zero_fields (zero_fields_of_group sheet (left - 1)) (tag_lines node.tag_count node.tag_offset) fs)
        l₁ p₁ l₂ r)
        → Adds (zero_fields_of_group sheet left id) l p l₂ r
    group-adds {l} {p} {l₁} {p₁} l₂ r tag fields = group-there (λ o. Adds o l p l₂ r) (λ n w.
        rw (eq-eqb n.is_struct 1 (sym w.is-struct ∙ struct))
        (node-adds (zero_fields_of_group sheet (left - 1)) n l p l₁ p₁ l₂ r
        (rw (w.tag-count, w.tag-offset) at tag) (rw (w.tag-count, w.tag-offset) at (fields n.fields w.fields))))

-- ---- the whole text

-- no lines so far
abbrev start : Text → Lines
start t = record { text = t; clear = false; any = false }

any-lines : (ls : List Str) → is_any ls ≡ true → ls ≡ [] → ⊥
any-lines [] e h = cc
any-lines (l ∷ ls) e h = cc

no_lines : (ls : List Str) → is_any ls ≡ false → ls ≡ []
no_lines [] e = refl
no_lines (l ∷ ls) e = cc

module _ (o : Out Zeroing) (l : List ℕ) (t : Text) (l₁ : List ℕ) (p : Lines) (a : Adds o l (start t) l₁ (Ok p)) where
  pub text-some : p.any ≡ true → Zeroes o l t l₁ (Ok (record { text = p.text; clear = p.clear }))
  unfolding to_lines
  text-some y = go o a
    where
      go : (o : Out Zeroing) → Adds o l (start t) l₁ (Ok p) → Zeroes o l t l₁ (Ok (record { text = p.text; clear = p.clear }))
      go (ok z) a = record {
        text = record {
          lines = rw (stringify-lines (Branch z.result) t.level (any-lines (flat_map z.result t.level) (sym a.any ∙ y))) a.text;
        };
        clear = a.clears;
      }
      go (refused k) a = a

  pub text-none : {l₂ : List ℕ} {t₂ : Text} → p.any ≡ false → WroteLines l₁ p.text (stringify (Branch lines.none)) l₂ t₂
      → Zeroes o l t l₂ (Ok (record { text = t₂; clear = p.clear }))
  unfolding to_lines flat_map ended
  text-none {l₂} {t₂} y w = go o a
    where
      go : (o : Out Zeroing) → Adds o l (start t) l₁ (Ok p) → Zeroes o l t l₂ (Ok (record { text = t₂; clear = p.clear }))
      go (ok z) a =
          let e = no_lines (flat_map z.result t.level) (sym a.any ∙ y) in
          let v : Wrote l t [] l₁ p.text = rw e at a.text in
          record {
            text = record {
              lines = rw (stringify-none (Branch z.result) t.level e)
                  (v ⨾ rw (stringify-none (Branch lines.none) t.level refl) at (at (level v) w));
            };
            clear = a.clears;
          }
      go (refused k) a = a
