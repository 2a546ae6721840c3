-- Demand 3 of a group's zeroing, from texts as runs of the entry left them: what stands inside the group, what its text touches,
-- and what is claimed of the record that it leaves. Assumes nothing.
use Rattle.std.specs.Prelude.{◌≡◌, ℕ, Bool, true, false, List, [], ◌∷◌, length, slice_index_or}
use Rattle.std.specs.Prelude.{Option, None, Some}
use Rattle.text.specs.Bytes.{Str}
use Rattle.tree.specs.Tree as arm
use Rattle.tree.specs.Tree.{Field, Node, Sheet}
use Rattle.tree.specs.Read.{sheet, admitted}
use Rattle.codegen_types.specs.Out.{ok}
use Rattle.codegen_types.specs.TypeString.{is_pointer}
use Rattle.record.specs.Record.{Record, null, Covers, Holds, HoldsPointer}
use Rattle.record.specs.Types.{Kind, kind_of}
use Rattle.meaning.specs.Meaning.{Op, set_op, clear_op, writes, lines, trim, run_getter, run_haser, run_zeroing}
use Rattle.requests.specs.Requests.{field_at}
use Rattle.requests.specs.declared.Accessor.TheVariants.{Getter, Haser, Zeroing}
use Rattle.agreement.specs.Slots.{Ran, SlotAt, slot_kind}

-- ---- the slots of a group

-- a G line, at a place of the node with an id, with the id of the node that it names
pub record GroupAt (s : Str) (id place : ℕ) : Type 0 where
  pub tree : Sheet
  pub node : Node
  pub field : Field
  pub group : ℕ
  pub is-admitted : admitted s ≡ sheet tree
  pub is_found : field_at tree.nodes id place ≡ ok (node, field)
  pub is-group : field.arm ≡ arm.group group

-- the id of the group's own node, or of the node that a G line of a node inside names
pub data Inside (s : Str) : ℕ → ℕ → Type 0 where
  here : {g : ℕ} → Inside s g g
  deeper : {g id : ℕ} (place : ℕ) (a : GroupAt s g place) → Inside s a.group id → Inside s g id

-- ---- what a text touches

-- P holds of what was read; where nothing was, nothing is asked
abbrev pub OfRead : (Op → Type 0) → Option (Op × Str) → Type 0
OfRead P None = Unit {0}
OfRead P (Some x) = P x.0

-- P holds of what each of the lines writes, read without the spaces in front; a line that writes nothing is passed over
abbrev pub EachLine : (Op → Type 0) → List Str → Type 0
EachLine P [] = Unit {0}
EachLine P (l ∷ ls) = OfRead P (writes (trim l)) × EachLine P ls

abbrev pub EachWrite : (Op → Type 0) → Str → Type 0
EachWrite P w = EachLine P (lines w)

-- the sections hold what a write touches
abbrev pub HoldsOp : Record → Op → Type 0
HoldsOp r (set_op p a m) = Holds p r
HoldsOp r (clear_op i) = HoldsPointer i r

-- long enough: the sections hold all that the lines touch
abbrev pub LongEnough : Str → Record → Type 0
LongEnough w r = EachWrite (HoldsOp r) w

-- a write does not touch this bit of the data section, this pointer
abbrev pub SparesBit : ℕ → Op → Type 0
SparesBit b (set_op p a m) = Covers p b → ⊥
SparesBit b (clear_op i) = Unit {0}

abbrev pub SparesPointer : ℕ → Op → Type 0
SparesPointer j (set_op p a m) = Unit {0}
SparesPointer j (clear_op i) = j ≡ i.0 → ⊥

-- ---- what is claimed

-- The text runs. Each getter of a slot with bits, in the group or in one inside it, then gives the bits of the slot's V line;
-- each pointer slot there is null, and each of its hasers says false. What no line touches stays.
pub record Zeroed (s : Str) (g : ℕ) (w : Str) (r : Record) : Type 0 where
  pub left : Record
  pub runs : run_zeroing w r ≡ Some left
  pub defaults : {id : ℕ} → Inside s g id → (place : ℕ) (a : SlotAt s id place)
      → (k : Kind) → kind_of (slot_kind a) ≡ Some k
      → (is_reader is_fn : Bool) (t : Str) → Ran s id place (Getter is_reader is_fn) t
      → run_getter t left ≡ Some a.slot.default.bits
  pub absent : {id : ℕ} → Inside s g id → (place : ℕ) (a : SlotAt s id place) → is_pointer a.slot.ty ≡ true
      → null (record { 0 = a.slot.offset }) left ≡ true
  pub hasers : {id : ℕ} → Inside s g id → (place : ℕ) (a : SlotAt s id place) → is_pointer a.slot.ty ≡ true
      → (is_reader : Bool) (h : Str) → Ran s id place (Haser is_reader) h → run_haser h left ≡ Some false
  pub lengths : (length left.bits ≡ length r.bits) × (length left.pointers ≡ length r.pointers)
  pub bits-same : (b : ℕ) → EachWrite (SparesBit b) w → slice_index_or left.bits b false ≡ slice_index_or r.bits b false
  pub pointers-same :
      (j : ℕ) → EachWrite (SparesPointer j) w → slice_index_or left.pointers j false ≡ slice_index_or r.pointers j false

-- for every sheet, every group of it with a zeroing, and every record that is long enough for the text
abbrev pub ZeroingHolds : Type 0
ZeroingHolds =
    (s : Str) (id place : ℕ) (a : GroupAt s id place) (w : Str) → Ran s id place Zeroing w
    → (r : Record) → LongEnough w r → Zeroed s a.group w r
