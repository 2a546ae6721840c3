-- `types::kind` meets its contract: a T row's kind, and Void for any other row. Assumes nothing.
use mathlib.Core.Path.{ap, ◌∙◌}
use native.Mathlib.Omega.{arith}
use Rattle.std.specs.Prelude.{Ok}
use Rattle.types.proofs.TypeLaws.{kind_other, kind-bad, kind-here}
use Rattle.types.proofs.kind.Goals as goal

pub returns-in_default : goal.returns-in_default
returns-in_default c =
    kind_other _ c.in_default.field-0 (rw c.in_default.is at c.next-got.ensures.line_value) (λ e. grind arith)

pub returns-in_default-2 : goal.returns-in_default-2
returns-in_default-2 c = kind-bad _ c.in_default.field-0 (rw c.in_default.is at c.next-got.ensures.line_value)

pub returns : goal.returns
returns c =
    let w = c.in-Ok-Typ in
    let f = w.is ∙ ap Ok (rw w.is at w.field-0-is) in
    kind-here _ _ _ _ _ (rw f at c.next-got.ensures.line_value)
