-- The walk over a type meets its contracts: each return is one law of WalkLaws, and each loop keeps what is left to read from
-- the start equal to what is left from here, past a run of U rows too. Levels fall from a type to its parts, and below a level
-- a type calls scopes, a scope its bindings, a binding its type. Assumes nothing.
use mathlib.Core.Path.{sym, ap, ◌∙◌}
use Prim.Native.Nat.{◌+◌, ◌-◌}
use native.Mathlib.Omega.{arith}
use Rattle.std.specs.Prelude.{Ok}
use Rattle.std.proofs.lemmas.Result.{err_from_is_err_and}
use Rattle.tree.specs.Walked.{passed}
use Rattle.tree.specs.Read.{read_type}
use Rattle.tree.proofs.ElseLaws.{other-than}
use Rattle.tree.proofs.WalkLaws.{type_other, type-deep, type-alone, type-list, type-branded, times_none}
use Rattle.tree.proofs.WalkLaws.{times-on, times-stop, binding-unbound, binding-other, scope-inherit, scope-bind}
use Rattle.tree.proofs.WalkLaws.{scope_other, walked_wrong, end-next, end-refused}
use Rattle.tree.proofs.UnboundLaws.{passed-unbound}
use Rattle.tree.proofs.+binding_binds_scope_scopes_typ.Goals as goal

pub binds-loop-n-preserved-then-u-gt0 : goal.binds-loop-n-preserved-then-u-gt0
binds-loop-n-preserved-then-u-gt0 t c =
    let run = c.unbound_run-u.ensures in
    c.loop-n.invariant ∙ passed-unbound _ _ _ _ _ run.few run.rows

pub binds-returns-in_err-at : goal.binds-returns-in_err-at
binds-returns-in_err-at t c =
    let p = err_from_is_err_and c.from_residual.result c.from_residual.ensures.1 in
    rw (p.1, p.2)
    (sym (c.loop-n.invariant ∙ times-stop _ _ c.args.s.now c.loop-n.n (c.loop-n.n - 1) (omega arith) c.loop-n.at _ _
    c.binding.ensures c.in_err-at.was))

pub binds-loop-n-preserved : goal.binds-loop-n-preserved
binds-loop-n-preserved t c =
    c.loop-n.invariant ∙ times-on _ _ c.args.s.now c.loop-n.n (c.loop-n.n - 1) (omega arith) c.loop-n.at _ _
    c.binding.ensures c.in_ok-at.was

pub binds-returns : goal.binds-returns
binds-returns t c =
    sym (c.loop-n.invariant ∙ times_none _ _ c.args.s.now c.loop-n.n c.loop-n.at c.loop-n-test.false)

pub scopes-returns-in_err-at : goal.scopes-returns-in_err-at
scopes-returns-in_err-at t c =
    let p = err_from_is_err_and c.from_residual.result c.from_residual.ensures.1 in
    rw (p.1, p.2)
    (sym (c.loop.invariant ∙ times-stop _ _ c.args.s.now _ (c.args.count - (c.loop.counter + 1)) (omega arith) c.loop.at _ _
    c.scope.ensures c.in_err-at.was))

pub scopes-loop-preserved : goal.scopes-loop-preserved
scopes-loop-preserved t c =
    c.loop.invariant ∙ times-on _ _ c.args.s.now _ (c.args.count - (c.loop.counter + 1)) (omega arith) c.loop.at _ _
    c.scope.ensures c.in_ok-at.was

pub scopes-returns : goal.scopes-returns
scopes-returns t c =
    sym (c.loop.invariant ∙ times_none _ _ c.args.s.now (c.args.count - c.loop.counter) c.loop.at (omega arith))

pub typ-returns-in_default : goal.typ-returns-in_default
typ-returns-in_default t c =
    let a = c.args in
    let g = c.next-row.ensures in
    rw c.wrong_at.ensures
    (walked_wrong a.s.now 84 a.at c.next-row.result.line
    ∙ type_other _ _ _ g.line_value g.s_value _ (other-than 5 c.next-row.result.line (λ f e h. grind arith)))

pub typ-returns-then-left-eq0 : goal.typ-returns-then-left-eq0
typ-returns-then-left-eq0 t c =
    let g = c.next-row.ensures in
    let w = c.in-Ok-Typ in
    let f = rw w.is at w.field-0-is in
    type-deep _ _ _ g.line_value g.s_value _ _ _ _ _ (w.is ∙ ap Ok f) c.if-left-eq0.true

pub typ-returns-in-List : goal.typ-returns-in-List
typ-returns-in-List t c =
    let g = c.next-row.ensures in
    let w = c.in-Ok-Typ in
    let f = rw w.is at w.field-0-is in
    type-list _ _ _ g.line_value g.s_value _ _ _ _ _ (w.is ∙ ap Ok f) _ c.if-left-eq0.false c.in-List.is c.typ.ensures

pub typ-returns-in-Enum : goal.typ-returns-in-Enum
typ-returns-in-Enum t c =
    let g = c.next-row.ensures in
    let w = c.in-Ok-Typ in
    let f = rw w.is at w.field-0-is in
    type-branded _ _ _ g.line_value g.s_value _ _ _ _ _ (w.is ∙ ap Ok f) _ c.if-left-eq0.false c.in-Enum.is c.scopes.ensures

pub typ-returns-in_default-kind : goal.typ-returns-in_default-kind
typ-returns-in_default-kind t c =
    let g = c.next-row.ensures in
    let w = c.in-Ok-Typ in
    let n = c.in_default-kind in
    let f = rw w.is at w.field-0-is in
    type-alone _ _ _ g.line_value g.s_value _ _ _ _ _ (w.is ∙ ap Ok f) c.if-left-eq0.false n.not-List n.not-Enum n.not-Struct
    n.not-Interface

pub scope-returns-in_default : goal.scope-returns-in_default
scope-returns-in_default t c =
    let a = c.args in
    let g = c.next-row.ensures in
    rw c.wrong_at.ensures
    (walked_wrong a.s.now 83 a.at c.next-row.result.line
    ∙ scope_other _ _ _ g.line_value g.s_value _ (other-than 6 c.next-row.result.line (λ f e h. grind arith)))

pub scope-returns-in_default-bindings : goal.scope-returns-in_default-bindings
scope-returns-in_default-bindings t c =
    let g = c.next-row.ensures in
    let w = c.in-Ok-Scope in
    let f = rw w.is at w.field-0-is in
    scope-inherit _ _ _ g.line_value g.s_value _ _ _ (w.is ∙ ap Ok f) c.in_default-bindings.is

pub scope-returns : goal.scope-returns
scope-returns t c =
    let g = c.next-row.ensures in
    let w = c.in-Ok-Scope in
    let f = rw w.is at w.field-0-is in
    scope-bind _ _ _ g.line_value g.s_value _ _ _ (w.is ∙ ap Ok f) _ _ c.in-Some.is c.binds.ensures

pub binding-returns : goal.binding-returns
binding-returns t c =
    let g = c.next-row.ensures in
    let w = c.in-Ok-Unbound in
    let f = rw w.is at w.field-0-is in
    binding-unbound _ _ _ g.line_value g.s_value _ (w.is ∙ ap Ok f)

pub binding-returns-in_default : goal.binding-returns-in_default
binding-returns-in_default t c =
    let a = c.args in
    let g = c.next-row.ensures in
    c.typ.ensures
    ∙ sym (binding-other _ _ _ g.line_value g.s_value _ (other-than 7 c.next-row.result.line (λ f e h. grind arith))
    ∙ end-next (λ rs. passed (read_type a.left rs)) a.s.now 85 a.at _ _ (sym c.end_at.ensures ∙ c.in_ok-at.was))

pub binding-returns-in_err-at : goal.binding-returns-in_err-at
binding-returns-in_err-at t c =
    let a = c.args in
    let g = c.next-row.ensures in
    let p = err_from_is_err_and c.from_residual.result c.from_residual.ensures.1 in
    rw (p.1, p.2)
    (sym (binding-other _ _ _ g.line_value g.s_value _ (other-than 7 c.next-row.result.line (λ f e h. grind arith))
    ∙ end-refused (λ rs. passed (read_type a.left rs)) a.s.now 85 a.at _ _ (sym c.end_at.ensures ∙ c.in_err-at.was)))
