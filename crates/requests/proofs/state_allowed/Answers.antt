-- `requests::state_allowed` meets its contract, by its two tests. Assumes nothing.
use mathlib.Core.Path.{refl}
use borrow.Author.Tests.{lt-ltb, le-ltb}
use native.Mathlib.Omega.{arith}
use Rattle.requests.specs.Requests.{state_refusal}
use Rattle.requests.proofs.state_allowed.Goals as goal

pub returns-then-size-fill : goal.returns-then-size-fill
unfolding state_refusal
returns-then-size-fill c = rw (lt-ltb c.args.size c.args.t.at (omega (arith, c.fill.ensures, c.if-size-fill.true))) refl

pub returns-then-level-gt-LEVEL : goal.returns-then-level-gt-LEVEL
unfolding state_refusal
returns-then-level-gt-LEVEL c =
    rw (
      le-ltb c.args.size c.args.t.at (omega (arith, c.fill.ensures, c.if-size-fill.false)),
      lt-ltb 8 c.args.t.level (omega (arith, c.level.ensures, c.if-level-gt-LEVEL.true)),
    ) refl

pub returns : goal.returns
unfolding state_refusal
returns c =
    rw (
      le-ltb c.args.size c.args.t.at (omega (arith, c.fill.ensures, c.if-size-fill.false)),
      le-ltb 8 c.args.t.level (omega (arith, c.level.ensures, c.if-level-gt-LEVEL.false)),
    ) refl
