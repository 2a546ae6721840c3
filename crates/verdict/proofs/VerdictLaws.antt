-- Laws of a field's verdict, by what was read of the field. Assumes nothing.
use mathlib.Core.Path.{◌≡◌, refl, sym, ap}
use mathlib.Core.Bool.{Bool, true, false}
use mathlib.Core.List.{List}
use Prim.Native.Nat.{ℕ}
use Rattle.std.specs.Prelude.{Option, None, Some, Result, Ok, Err}
use Rattle.std.specs.Option.{ok_or}
use Rattle.std.specs.Result.{is_ok}
use Rattle.text.specs.Bytes.{Str, cond, both}
use Rattle.terms.specs.Kinds.{number_of}
use Rattle.terms.specs.declared.refusals.Refusal.{Refusal}
use Rattle.terms.specs.declared.refusals.Refusal.TheVariants.{NotThere}
use Rattle.tree.specs.Tree as tree
use Rattle.tree.specs.Tree.{kind, Arm, slot, group, Node, Sheet}
use Rattle.tree.proofs.OtherLines.{never}
use Rattle.codegen_types.specs.Out.{Out, ok, refused, ◌then◌}
use Rattle.nodes.specs.Index.{nth, entry_with, Indexed, Finds}
use Rattle.nodes.specs.declared.Entry.{Entry}
use Rattle.nodes.proofs.Laws.{nth-is}
use Rattle.field.specs.Slot.{SlotIs}
use Rattle.field.specs.Field.{SlotIn, GroupIn, FieldIs, FindsField}
use Rattle.field.specs.declared.Slot as code
use Rattle.field.specs.declared.Group.{Group}
use Rattle.field.specs.declared.Field.{Field}
use Rattle.field.specs.declared.Field.TheVariants as field
use Rattle.requests.specs.Requests.{there}
use Rattle.requests.specs.Told.{length_of, length_said, in_node}
use Rattle.requests.specs.declared.Accessor.TheVariants.{Getter, Setter}
use Rattle.verdict.specs.Verdict.{is_given, is_generated, has_bits, masks_verdict, slot_verdict, verdict_by, verdict_of}
use Rattle.verdict.specs.Told.{verdict_said}
use Rattle.verdict.specs.declared.Verdict.{Verdict}
use Rattle.verdict.specs.declared.Verdict.TheVariants.{NotBothGenerated}
use Rattle.verdict.proofs.GeneratedLaws.{getter-alone}

-- what was measured is generated, and what is refused is not
pub measured-given : (o : Out Str) (r : Result ℕ Refusal) → length_said r ≡ length_of o → is_ok r ≡ is_given o
measured-given (ok w) (Ok n) e = refl
measured-given (ok w) (Err x) e = never cc
measured-given (refused k) (Ok n) e = never cc
measured-given (refused k) (Err x) e = refl

module _ (s : Str) (sheet : Sheet) (at : Node × tree.Field) where
  -- a group has none
  pub group-verdict : (g : Group) → FieldIs s (field.Group g) at.1 → None ≡ verdict_of sheet at
  unfolding verdict_of
  group-verdict g h = go at.1.arm h
    where
      go : (a : Arm) → GroupIn s g at.1.name at.1.discriminant a → None ≡ verdict_by sheet at a
      go (slot sl) h = absurd h
      go (group id) h = refl

  -- that of a slot
  module _ (r : code.Slot) (h : FieldIs s (field.Slot r) at.1) where
    by-slot : (v : Option Verdict) → ((sl : tree.Slot) → at.1.arm ≡ slot sl → SlotIs r sl → v ≡ verdict_by sheet at (slot sl))
        → v ≡ verdict_of sheet at
    unfolding verdict_of
    by-slot v k = go at.1.arm refl h
      where
        go : (a : Arm) → at.1.arm ≡ a → SlotIn s r at.1.name at.1.discriminant a → v ≡ verdict_by sheet at a
        go (slot sl) e h = k sl e h.slot
        go (group id) e h = absurd h

    pub no-bits : has_bits (number_of r.kind) ≡ false → None ≡ verdict_of sheet at
    no-bits b = by-slot None (λ sl e i. rw (i.kind, b) refl)

    module _ (b : has_bits (number_of r.kind) ≡ true) where
      by-both : (v : Verdict)
          → ((sl : tree.Slot) → SlotIs r sl
          → v ≡ cond (both (is_generated sheet at Setter) (is_generated sheet at (Getter true false)))
          (slot_verdict sl) NotBothGenerated)
          → Some v ≡ verdict_of sheet at
      by-both v k =
          by-slot (Some v)
          (λ sl e i.
          let bits : has_bits (kind sl.ty) ≡ true = rw i.kind b in
          rw (bits, getter-alone sheet at sl e bits) (ap Some (k sl i)))

      pub setter-refused : is_generated sheet at Setter ≡ false → Some NotBothGenerated ≡ verdict_of sheet at
      setter-refused g = by-both NotBothGenerated (λ sl i. rw g refl)

      pub getter-refused : is_generated sheet at (Getter true false) ≡ false → Some NotBothGenerated ≡ verdict_of sheet at
      getter-refused g = by-both NotBothGenerated (λ sl i. rw g (go sl (is_generated sheet at Setter)))
        where
          go : (sl : tree.Slot) (x : Bool) → NotBothGenerated ≡ cond (both x false) (slot_verdict sl) NotBothGenerated
          go sl true = refl
          go sl false = refl

      pub both_generated : is_generated sheet at Setter ≡ true → is_generated sheet at (Getter true false) ≡ true
          → Some (masks_verdict (number_of r.kind) r.explicit r.bits) ≡ verdict_of sheet at
      both_generated f g =
          by-both (masks_verdict (number_of r.kind) r.explicit r.bits)
          (λ sl i. rw (f, g, i.kind, i.explicit, i.bits) refl)

-- ---- the field of a node with a number

-- no verdict is 15
pub verdict_there : (v : Option Verdict) → verdict_said (ok_or v NotThere) ≡ there v
verdict_there (Some v) = refl
verdict_there None = refl

-- a node and a field, each of which may be missing
abbrev in_nodes : Option Node → Option tree.Field → Out (Node × tree.Field)
in_nodes m o = there m then λ n. there o then λ f. ok (n, f)

module _ (s : Str) (nodes : List Node) (index : List ℕ) (x : Indexed s nodes index) (k : ℕ) (o : Option tree.Field)
    (g : Node × tree.Field → Out Verdict) where
  pub no-node : None ≡ entry_with index k → refused 15 ≡ (in_node nodes k o then g)
  no-node e = go (nth k nodes) (rw (← e) at (nth-is s nodes index k x))
    where
      go : (m : Option Node) → Finds s index None m → refused 15 ≡ (in_nodes m o then g)
      go (Some n) h = absurd h
      go None h = refl

  pub field-told : (e : Entry) (f : Field) → Some e ≡ entry_with index k → FindsField s (Some f) o → (r : Out Verdict)
      → ((at : Node × tree.Field) → at.0.tag_offset ≡ e.tag_offset → FieldIs s f at.1 → r ≡ g at)
      → r ≡ (in_node nodes k o then g)
  field-told e f has is r p = go (nth k nodes) (rw (← has) at (nth-is s nodes index k x)) o is
    where
      go : (m : Option Node) → Finds s index (Some e) m → (o : Option tree.Field) → FindsField s (Some f) o
          → r ≡ (in_nodes m o then g)
      go None b o c = absurd b
      go (Some n) b None c = absurd c
      go (Some n) b (Some y) c = p (n, y) (sym b.tag-offset) c
