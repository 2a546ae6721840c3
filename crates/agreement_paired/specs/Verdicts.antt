-- That a slot's verdict is what demand 3 says of its present setter and its getters. Assumes nothing.
use Rattle.std.specs.Prelude.{◌≡◌, ℕ, ◌-◌, ◌^◌, Bool, ◌⊎◌, bit_xor}
use Rattle.std.specs.Prelude.{Option, None, Some}
use Rattle.text.specs.Bytes.{Str}
use Rattle.tree.specs.Tree as arm
use Rattle.tree.specs.Tree.{Field, Node, Sheet}
use Rattle.tree.specs.Read.{admitted}
use Rattle.record.specs.Record.{Record}
use Rattle.record.specs.Types.{Kind, slot_bits, kind_of}
use Rattle.meaning.specs.Meaning.{run_setter, run_getter}
use Rattle.requests.specs.Requests.{of_field, refuses, outcome_of}
use Rattle.requests.specs.declared.Accessor.{Accessor}
use Rattle.requests.specs.declared.Accessor.TheVariants.{Getter, Setter}
use Rattle.verdict.specs.Verdict.{verdict_of}
use Rattle.verdict.specs.declared.Verdict.{Verdict}
use Rattle.verdict.specs.declared.Verdict.TheVariants.{Agree, SignFlipped, CombinedWithDefault, NotBothGenerated}
use Rattle.agreement.specs.Slots.{Generated, SlotAt, slot_kind}
use Rattle.agreement.specs.Claims.{Case}

-- the verdict of the field at a place
abbrev pub verdict_at : {s : Str} {id place : ℕ} → SlotAt s id place → Option Verdict
verdict_at a = verdict_of a.tree (a.node, a.field)

-- what a value reads as by a verdict, of a slot of kind k with the default's bits d; nothing is said where not both are generated
abbrev pub reads_as : Kind → ℕ → Verdict → ℕ → Option ℕ
reads_as k d Agree v = Some v
reads_as k d SignFlipped v = Some (bit_xor v (2 ^ (slot_bits k - 1)))
reads_as k d CombinedWithDefault v = Some (bit_xor v d)
reads_as k d NotBothGenerated v = None

-- In every case of demand 3 the slot has a verdict, which is not that of what is not generated, and the getter answers after the
-- setter what the verdict says.
abbrev pub VerdictReadsHolds : Type 0
VerdictReadsHolds =
    (s : Str) (id place : ℕ) (a : SlotAt s id place) (k : Kind) (w : Str) (is_reader is_fn : Bool) (g : Str) (v : ℕ) (r : Record)
    → Case a k w is_reader is_fn g v r
    → (x : Verdict) × (left : Record)
    × ((verdict_at a ≡ Some x) × (x ≡ NotBothGenerated → ⊥) × (run_setter w v r ≡ Some left)
    × (run_getter g left ≡ reads_as k a.slot.default.bits x v))

-- A value that is read under a verdict of disagreement is never the value that was set.
abbrev pub DisagreeHolds : Type 0
DisagreeHolds =
    (s : Str) (id place : ℕ) (a : SlotAt s id place) (k : Kind) (x : Verdict) (v : ℕ)
    → kind_of (slot_kind a) ≡ Some k → verdict_at a ≡ Some x → (x ≡ SignFlipped) ⊎ (x ≡ CombinedWithDefault)
    → reads_as k a.slot.default.bits x v ≡ Some v → ⊥

-- the setter and all four getters of a slot are generated, at every level
abbrev pub FiveGenerated : Str → ℕ → ℕ → Type 0
FiveGenerated s id place =
    (level : ℕ) → (w : Str) × (Generated s id place Setter level w)
    × ((is_reader is_fn : Bool) → (g : Str) × Generated s id place (Getter is_reader is_fn) level g)

-- the present setter or a getter
abbrev pub OneOfFive : Accessor → Type 0
OneOfFive Setter = Unit {0}
OneOfFive (Getter is_reader is_fn) = Unit {0}
OneOfFive _ = ⊥

-- one of them is refused
abbrev pub OneRefused : Str → ℕ → ℕ → Type 0
OneRefused s id place =
    (accessor : Accessor) × (k : ℕ)
    × (OneOfFive accessor × (outcome_of (admitted s) id (of_field place accessor) 0 ≡ refuses k 0 0))

-- Each Bool, numeric or enum slot has a verdict: where that is not both generated, one of the five is refused, and where it is
-- another, all five are generated.
abbrev pub BothHolds : Type 0
BothHolds =
    (s : Str) (id place : ℕ) (a : SlotAt s id place) (k : Kind) → kind_of (slot_kind a) ≡ Some k
    → (x : Verdict) × ((verdict_at a ≡ Some x)
    × ((x ≡ NotBothGenerated → OneRefused s id place) × ((x ≡ NotBothGenerated → ⊥) → FiveGenerated s id place)))

-- any other slot has none, nor has a group
abbrev pub NoVerdictHolds : Type 0
NoVerdictHolds =
    ((s : Str) (id place : ℕ) (a : SlotAt s id place) → kind_of (slot_kind a) ≡ None → verdict_at a ≡ None)
    × ((sheet : Sheet) (n : Node) (f : Field) (g : ℕ) → f.arm ≡ arm.group g → verdict_of sheet (n, f) ≡ None)
