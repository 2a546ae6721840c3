-- `getter_code::fragment` meets its contract: the arm of the slot's kind. Assumes nothing.
use mathlib.Core.Path.{ap, ◌∙◌}
use native.Mathlib.Omega.{arith}
use Rattle.terms.specs.Kinds.{number_of}
use Rattle.terms.specs.declared.kinds.Kind.TheVariants as kinds
use Rattle.terms.proofs.KindLaws.{number-own, plain-below}
use Rattle.getter_code.proofs.Laws.{kind_by, parameter_by, fragment-number, fragment-pointer}
use Rattle.getter_code.proofs.fragment.Goals as goal

pub returns-in-Void : goal.returns-in-Void
returns-in-Void c =
    let s = c.args.slot in
    rw (kind_by (number_of s.kind) s.id, c.in-Void.is) c.void.ensures

pub returns-in-Bool : goal.returns-in-Bool
returns-in-Bool c =
    let s = c.args.slot in
    rw (kind_by (number_of s.kind) s.id, ← c.getter_mask-mask.ensures, c.in-Bool.is) c.get_bool_field.ensures

pub returns-in-Enum : goal.returns-in-Enum
returns-in-Enum c =
    let s = c.args.slot in
    rw (kind_by (number_of s.kind) s.id, ← c.getter_mask-mask-in-Enum.ensures, c.in-Enum.is) c.get_enum_field.ensures

pub returns-in-Interface : goal.returns-in-Interface
returns-in-Interface c =
    let s = c.args.slot in
    rw (kind_by (number_of s.kind) s.id, c.in-Interface.is) c.capability.ensures

pub returns-in-AnyPointer : goal.returns-in-AnyPointer
returns-in-AnyPointer c =
    let s = c.args.slot in
    let k = ap number_of c.in-AnyPointer.is in
    rw (kind_by (number_of s.kind) s.id ∙ k, parameter_by (number_of s.kind) s.id k) c.untyped.ensures

pub returns-in-Text : goal.returns-in-Text
returns-in-Text c =
    let a = c.args in
    rw (← fragment-pointer a.root.now a.name.now a.slot a.is_reader a.is_fn c.in-Text.is) c.from_pointer.ensures

pub returns-in_default : goal.returns-in_default
returns-in_default c =
    let a = c.args in
    let d = c.in_default in
    let k = a.slot.kind in
    let below = plain-below k d.not-List d.not-Enum d.not-Struct d.not-Interface d.not-AnyPointer d.not-Unnamed in
    let n0 = number-own k kinds.Void d.not-Void in
    let n1 = number-own k kinds.Bool d.not-Bool in
    let n12 = number-own k kinds.Text d.not-Text in
    let n13 = number-own k kinds.Data d.not-Data in
    rw (← fragment-number a.root.now a.name.now a.slot a.is_reader a.is_fn n0 n1 (omega arith)) c.get_number.ensures
