-- Demand 3 of a slot as it stands: which of its accessors are generated, and whether a value that its setter writes is the value
-- that its getters read. Assumes nothing.
use Rattle.std.specs.Prelude.{Bool, true, false, not, ℕ, ◌^◌, ◌==◌, Option, None, Some}
use Rattle.terms.specs.Kinds.{is_primitive}
use Rattle.text.specs.Bytes.{cond, both, either}
use Rattle.tree.specs.Tree.{kind, Slot, Arm, slot, group, Field, Node, Sheet}
use Rattle.codegen_types.specs.Out.{Out, ok, refused, ◌then◌}
use Rattle.requests.specs.Requests.{there, accessor_text}
use Rattle.requests.specs.Told.{in_node}
use Rattle.requests.specs.declared.Accessor.{Accessor}
use Rattle.requests.specs.declared.Accessor.TheVariants.{Getter, Setter}
use Rattle.verdict.specs.declared.Verdict.{Verdict}
use Rattle.verdict.specs.declared.Verdict.TheVariants.{Agree, SignFlipped, CombinedWithDefault, NotBothGenerated}

-- what was given, and not refused
abbrev pub is_given : {A : Type 0} → Out A → Bool
is_given (ok a) = true
is_given (refused k) = false

-- an accessor of a field of a node is generated: it has a text. Its level makes no difference (`LevelsHold` of crate requests)
unfoldable pub is_generated : Sheet → Node × Field → Accessor → Bool
is_generated sheet at accessor = is_given (accessor_text sheet at accessor 0)

-- the setter is generated, and all four getters are: readers' and builders', each in both forms
abbrev pub all_are_generated : Sheet → Node × Field → Bool
all_are_generated sheet at =
    both (is_generated sheet at Setter)
    (both (both (is_generated sheet at (Getter true true)) (is_generated sheet at (Getter true false)))
    (both (is_generated sheet at (Getter false true)) (is_generated sheet at (Getter false false))))

-- slots with bits are those of Bools, numbers and enums
abbrev pub has_bits : ℕ → Bool
has_bits k = cond (k == 0) false (either (k == 15) (is_primitive k))

-- Setter and getters of a slot, where they are generated, by its kind, its explicit flag and its default's bits: a float's
-- default of -0.0 flips the sign, and an enum's default other than 0 without its flag is combined with the value by exclusive or.
unfoldable pub masks_verdict : ℕ → ℕ → ℕ → Verdict
masks_verdict k explicit bits =
    cond (k == 10) (cond (bits == 2 ^ 31) SignFlipped Agree)
    (cond (k == 11) (cond (bits == 2 ^ 63) SignFlipped Agree)
    (cond (k == 15) (cond (both (explicit == 0) (not (bits == 0))) CombinedWithDefault Agree)
    Agree))

abbrev pub slot_verdict : Slot → Verdict
slot_verdict s = masks_verdict (kind s.ty) s.explicit s.default.bits

-- the verdict of a field of a node: none of a group, nor of a slot without bits
abbrev pub verdict_by : Sheet → Node × Field → Arm → Option Verdict
verdict_by sheet at (slot s) =
    cond (has_bits (kind s.ty)) (Some (cond (all_are_generated sheet at) (slot_verdict s) NotBothGenerated)) None
verdict_by sheet at (group id) = None

unfoldable pub verdict_of : Sheet → Node × Field → Option Verdict
verdict_of sheet at = verdict_by sheet at at.1.arm

-- the verdict of a field, if there is one, of the node with a number, from 0; 15 where there is no such node, no field or no
-- verdict of it
abbrev pub verdict_in : Sheet → ℕ → Option Field → Out Verdict
verdict_in sheet number o = in_node sheet.nodes number o then λ at. there (verdict_of sheet at)
