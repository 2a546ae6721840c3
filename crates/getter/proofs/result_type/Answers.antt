-- `getter::result_type` meets its contract: the arm of the slot's kind, behind the arrow. Assumes nothing.
use mathlib.Core.Path.{◌≡◌, sym, ap}
use borrow.Author.Tests.{leb-true, leb-false}
use Rattle.terms.specs.Kinds.{number_of}
use Rattle.terms.specs.declared.kinds.Kind.TheVariants as kind
use Rattle.terms.proofs.KindLaws.{number-own}
use native.Mathlib.Omega.{arith}
use Rattle.text.proofs.Laws.{some-text}
use Rattle.nodes.specs.Index.{sheet_of}
use Rattle.codegen.proofs.AroundLaws.{within-behind}
use Rattle.getter.proofs.ResultLaws.{prim_here, enum-here, client-here, any_here, fails-here}
use Rattle.getter.proofs.result_type.Goals as goal
use Rattle.getter.proofs.result_type.Goals.{In_default, in_default-via-in-AnyPointer+else-slot-eq0, in_default-via-in_default}

pub returns-then-is_primitive-clause-text : goal.returns-then-is_primitive-clause-text
returns-then-is_primitive-clause-text c =
    let a = c.args in
    λ ns ix f h. prim_here (sheet_of a.source.now.root.now ns) a.is_reader a.is_fn _ a.slot f h
    (leb-true (number_of a.slot.kind) 11 (sym c.if-is_primitive.ensures))
    c.prim_result.ensures

pub returns-in-Enum : goal.returns-in-Enum
returns-in-Enum c =
    let a = c.args in
    record {
      text = λ ns ix f h. enum-here (sheet_of a.source.now.root.now ns) a.is_reader a.is_fn _ a.slot f h
          c.arrow-t.ensures _ _ (ap number_of c.in-Enum.is) (c.enum_result.ensures.text ns ix);
      within = within-behind _ _ (some-text c.arrow-t.ensures) c.enum_result.ensures.within;
    }

pub returns-in-Interface : goal.returns-in-Interface
returns-in-Interface c =
    let a = c.args in
    record {
      text = λ ns ix f h. client-here (sheet_of a.source.now.root.now ns) a.is_reader a.is_fn _ a.slot f h
          c.arrow-t.ensures _ _ (ap number_of c.in-Interface.is) (c.fallible_result.ensures.text ns ix);
      within = within-behind _ _ (some-text c.arrow-t.ensures) c.fallible_result.ensures.within;
    }

pub returns-in-AnyPointer : goal.returns-in-AnyPointer
returns-in-AnyPointer c =
    let a = c.args in
    record {
      text = λ ns ix f h. any_here (sheet_of a.source.now.root.now ns) a.is_reader a.is_fn _ a.slot f h
          c.arrow-t.ensures _ _ _ c.module_leaf-leaf.ensures (ap number_of c.in-AnyPointer.is) c.if-slot-eq0.true
          (c.optional_type.ensures.text ns ix);
      within = within-behind _ _ (some-text c.arrow-t.ensures) c.optional_type.ensures.within;
    }

-- past the last arm there is no enum and no interface, and an AnyPointer is a parameter
past_arms :
    (c : In_default)
    → (number_of c.args.slot.kind ≡ 15 → ⊥) × (number_of c.args.slot.kind ≡ 17 → ⊥)
    × (number_of c.args.slot.kind ≡ 18 → c.args.slot.id ≡ 0 → ⊥)
past_arms c =
    let k = c.args.slot.kind in
    elim c.in_default.branch [
      | in_default-via-in-AnyPointer+else-slot-eq0 w ↦
          let n = ap number_of w.in-AnyPointer.is in
          (λ e. omega arith, λ e. omega arith, λ e z. w.if-slot-eq0.false z)
      | in_default-via-in_default w ↦
          let d = w.in_default in (
            number-own k kind.Enum d.not-Enum,
            number-own k kind.Interface d.not-Interface,
            λ e z. number-own k kind.AnyPointer d.not-AnyPointer e,
          )
    ]

pub returns-in_default : goal.returns-in_default
returns-in_default c =
    let a = c.args in
    let past = past_arms (goal.at.returns-in_default c).In_default in
    record {
      text = λ ns ix f h. fails-here (sheet_of a.source.now.root.now ns) a.is_reader a.is_fn _ a.slot f h
          c.arrow-t.ensures _ _ _ c.module_leaf-leaf.ensures
          (leb-false (number_of a.slot.kind) 11 (sym c.if-is_primitive.ensures))
          past.0 past.1 past.2 (c.fallible_result-in_default.ensures.text ns ix);
      within = within-behind _ _ (some-text c.arrow-t.ensures) c.fallible_result-in_default.ensures.within;
    }
