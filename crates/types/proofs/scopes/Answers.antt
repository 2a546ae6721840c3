-- `types::scopes` meets its contract: `Passing` says what is known at each turn, for every id at once. Assumes nothing.
use mathlib.Core.Path.{◌≡◌, sym, ap, ◌∙◌}
use Prim.Native.Nat.{◌+◌, ◌-◌}
use native.Mathlib.Omega.{arith}
use Rattle.std.specs.Prelude.{Ok}
use Rattle.std.specs.Option.{unwrap_or}
use lib.ListN.{drop}
use Rattle.row.specs.Rows.{rows}
use Rattle.row.specs.Line.{Scope, bind_of, line_said, line_at}
use Rattle.types.proofs.Laws.{scope_other, scope-bad}
use Rattle.types.proofs.ScopeLaws.{pass_start, pass-none, pass-other, pass-last, pass-next}
use Rattle.types.proofs.scopes.Goals as goal
use Rattle.types.proofs.scopes.Goals.{After-note}

pub loop-k-init : goal.loop-k-init
loop-k-init c = let z : c.args.count - 0 ≡ c.args.count = omega arith in rw z (pass_start _ _ _ _)

pub returns-in_default : goal.returns-in_default
returns-in_default c =
    pass-other _ _ _ _ _ _ _ c.loop-k.invariant (λ id f. scope_other id _ _ f c.in_default.field-0
    (rw c.in_default.is at c.next-got.ensures.line_value) (λ e. grind arith))

pub returns-in_default-2 : goal.returns-in_default-2
returns-in_default-2 c =
    pass-other _ _ _ _ _ _ _ c.loop-k.invariant (λ id f. scope-bad id _ _ f c.in_default.field-0
    (rw c.in_default.is at c.next-got.ensures.line_value))

-- the scope's row, in its own line's words
here : (c : After-note)
    → line_at (rows (drop c.loop-k.at c.args.s.now))
    ≡ Scope c.in-Ok-Scope.id (bind_of c.in-Ok-Scope.bindings) (unwrap_or c.in-Ok-Scope.bindings 0)
unfolding line_said
here c =
    let w = c.in-Ok-Scope in
    sym c.next-got.ensures.line_value ∙ ap line_said (w.is ∙ ap Ok (rw w.is at w.field-0-is))

pub returns-then-k-count : goal.returns-then-k-count
returns-then-k-count c =
    pass-last _ _ _ _ _ _ _ c.loop-k.invariant (omega arith) _ _ _ (here (goal.at.returns-then-k-count c).After-note) _
    c.note.ensures (omega arith)

pub loop-k-preserved : goal.loop-k-preserved
loop-k-preserved c =
    let z : c.args.count - c.loop-k.k - 1 ≡ c.args.count - (c.loop-k.k + 1) = omega arith in
    rw (← z) (pass-next _ _ _ _ _ _ _ c.loop-k.invariant (omega arith) _ _ _ (here (goal.at.loop-k-preserved c).After-note) _
    c.note.ensures _ _ c.next-got.ensures.s_value (rw c.unwrap_or.ensures at c.past-at.ensures.rows))

pub returns : goal.returns
returns c = pass-none _ _ _ _ _ _ _ c.loop-k.invariant (omega arith)
