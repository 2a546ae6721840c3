-- `row::parts::type_owed` meets its contract: the arm of the kind that stands in its column. Assumes nothing.
use mathlib.Core.Path.{refl, sym, ◌∙◌}
use native.Mathlib.Omega.{arith}
use Rattle.row.specs.Part.{owed}
use Rattle.row.proofs.PartLaws.{type-scopes, type_owes, owed-none, owed-branded, part-known}
use Rattle.row.proofs.parts.type_owed.Goals as goal

pub returns-in-List : goal.returns-in-List
unfolding owed
returns-in-List c =
    let a = c.args in
    let kind = part-known a.s.now a.at 1 86 (omega arith) c.requires _ c.known.ensures in
    λ k x y z is. type_owes a.s.now a.at (omega arith) _ kind 1 k x y z is (rw (sym c.from.ensures, c.in-List.is) refl)

pub returns-in-Enum : goal.returns-in-Enum
returns-in-Enum c =
    let a = c.args in
    let kind = part-known a.s.now a.at 1 86 (omega arith) c.requires _ c.known.ensures in
    let scopes = part-known a.s.now a.at 43 86 (omega arith) c.requires _ c.known-in-Enum.ensures in
    λ k x y z is. type_owes a.s.now a.at (omega arith) _ kind _ k x y z is
    (rw (sym c.from.ensures)
    (scopes y (type-scopes a.s.now a.at (omega arith) k x y z is) ∙ owed-branded x y z _ c.in-Enum.is))

pub returns-in_default : goal.returns-in_default
returns-in_default c =
    let a = c.args in
    let n = c.in_default in
    let kind = part-known a.s.now a.at 1 86 (omega arith) c.requires _ c.known.ensures in
    λ k x y z is. type_owes a.s.now a.at (omega arith) _ kind 0 k x y z is
    (rw (sym c.from.ensures) (owed-none x y z _ n.not-List n.not-Enum n.not-Struct n.not-Interface))
