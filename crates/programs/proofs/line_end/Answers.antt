-- `programs::line_end` meets its contract: what `position` finds is where the line ends, and past the end is no line. Assumes
-- nothing.
use native.Mathlib.Omega.{arith}
use mathlib.Core.Logic.{◌≢◌}
use mathlib.Core.Path.{◌≡◌, refl}
use Prim.Native.Nat.{◌-◌}
use lib.ListN.{length, take, drop}
use borrow.Author.Rules.{rules}
use borrow.Author.Tests.{tests}
use Rattle.std.proofs.lemmas.Iterator.{IsFirst-from_position, YieldsList-from_slice}
use Rattle.std.proofs.lemmas.List.{take_rest}
use Rattle.programs.proofs.InputLaws.{line-first, line-last}
use Rattle.programs.proofs.line_end.Goals as goal

pub returns-then-s-from-clause-end : goal.returns-then-s-from-clause-end
returns-then-s-from-clause-end c = omega (arith, line-last c.args.s.now c.args.from c.if-s-from.true)

pub returns-clause-end : goal.returns-clause-end
returns-clause-end c =
    let a = c.args in
    let first = line-first (take (length a.s.now - a.from) (drop a.from a.s.now)) c.position-line.result
    (IsFirst-from_position _ _ _ (λ b. b ≡ 10) (λ b. b ≢ 10) c.position-line.ensures.ran (YieldsList-from_slice _ cc)
    (λ x q k. search (rules, tests)) (λ x q k. search (rules, tests))) in
    rw (c.unwrap_or.ensures, ← first, take_rest a.s.now a.from) refl
