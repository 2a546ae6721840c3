-- `field::type_span` meets its contract: each kind of row is one law. Assumes nothing.
use mathlib.Core.Path.{refl, ap, ◌∙◌}
use native.Mathlib.Omega.{arith}
use Rattle.std.specs.Prelude.{Ok}
use Rattle.field.proofs.TypeLaws.{type_other, type-bad, type-alone, type-list, type_brand, rest-fewer, nested_fewer}
use Rattle.field.proofs.type_span.Goals as goal

pub returns-in_default-clause-is : goal.returns-in_default-clause-is
returns-in_default-clause-is c =
    type_other _ _ c.in_default.field-0 (rw c.in_default.is at c.next-got.ensures.line_value) (λ e. grind arith)

pub returns-in_default-clause-fewer : goal.returns-in_default-clause-fewer
returns-in_default-clause-fewer c = rest-fewer _ _ c.next-got.ensures.s_value

pub returns-in_default-2-clause-is : goal.returns-in_default-2-clause-is
returns-in_default-2-clause-is c =
    type-bad _ _ c.in_default.field-0 (rw c.in_default.is at c.next-got.ensures.line_value)

pub returns-in_default-2-clause-fewer : goal.returns-in_default-2-clause-fewer
returns-in_default-2-clause-fewer c = rest-fewer _ _ c.next-got.ensures.s_value

pub returns-in-List-clause-is : goal.returns-in-List-clause-is
returns-in-List-clause-is c =
    let g = c.next-got.ensures in
    let w = c.in-Ok-Typ in
    type-list c.args.s.now _ _ _ _ _ _ _ (rw (w.is ∙ ap Ok (rw w.is at w.field-0-is)) at g.line_value) g.s_value refl refl
    c.in-List.is c.past-past.ensures.rows

pub returns-in-List-clause-fewer : goal.returns-in-List-clause-fewer
returns-in-List-clause-fewer c = nested_fewer c.args.s.now _ _ _ c.next-got.ensures.s_value c.past-past.ensures.further

pub returns-in-Enum-clause-is : goal.returns-in-Enum-clause-is
returns-in-Enum-clause-is c =
    let g = c.next-got.ensures in
    let w = c.in-Ok-Typ in
    type_brand c.args.s.now _ _ _ _ _ _ _ (rw (w.is ∙ ap Ok (rw w.is at w.field-0-is)) at g.line_value) g.s_value refl refl
    c.in-Enum.is c.past-past-in-Enum.ensures.rows

pub returns-in-Enum-clause-fewer : goal.returns-in-Enum-clause-fewer
returns-in-Enum-clause-fewer c = nested_fewer c.args.s.now _ _ _ c.next-got.ensures.s_value c.past-past-in-Enum.ensures.further

pub returns-in_default-kind-clause-is : goal.returns-in_default-kind-clause-is
returns-in_default-kind-clause-is c =
    let g = c.next-got.ensures in
    let w = c.in-Ok-Typ in
    let n = c.in_default-kind in
    type-alone c.args.s.now _ _ _ _ _ _ _ (rw (w.is ∙ ap Ok (rw w.is at w.field-0-is)) at g.line_value) g.s_value refl refl
    n.not-List n.not-Enum n.not-Struct n.not-Interface refl

pub returns-in_default-kind-clause-fewer : goal.returns-in_default-kind-clause-fewer
returns-in_default-kind-clause-fewer c = rest-fewer _ _ c.next-got.ensures.s_value
