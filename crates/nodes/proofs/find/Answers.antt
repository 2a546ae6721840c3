-- `nodes::find` meets its contract: what is to be found among all entries is to be found among those from here on.
-- Assumes nothing.
use mathlib.Core.Path.{◌≡◌, refl, sym, ap, ◌∙◌}
use mathlib.Core.List.{List}
use Prim.Native.Nat.{ℕ, ◌+◌, ◌*◌}
use lib.ListN.{length, take}
use lib.Seq.{drop-drop}
use native.Mathlib.Omega.{arith}
use Rattle.nodes.proofs.Laws.{lookup-empty, lookup-none, lookup_out, lookup-hit, lookup-miss}
use Rattle.nodes.proofs.find.Goals as goal

pub returns-in_err-count : goal.returns-in_err-count
returns-in_err-count c = c.from_residual.ensures ∙ lookup-empty _ _ c.in_err-count.ensures.cases

pub returns-in_err-numbers : goal.returns-in_err-numbers
returns-in_err-numbers c =
    let h = c.loop.invariant in
    c.from_residual-in_err-numbers.ensures
    ∙ sym (h.same ∙ lookup_out _ _ _ _ (omega arith) (rw h.here at c.in_err-numbers.ensures.cases))

pub returns-then-numbers-id : goal.returns-then-numbers-id
returns-then-numbers-id c =
    let h = c.loop.invariant in
    let n = c.in_ok-numbers.ensures.cases.0 ∙ ap (λ (l : List ℕ). take 12 l) h.here in
    rw (c.from_numbers.ensures, n)
    (sym (h.same ∙ lookup-hit _ _ _ _ (omega arith)
    (omega (arith, ap length h.here, c.in_ok-numbers.ensures.cases.2)) (rw n at c.if-numbers-id.true)))

pub loop-preserved : goal.loop-preserved
loop-preserved c =
    let h = c.loop.invariant in
    let n = c.in_ok-numbers.ensures.cases.0 ∙ ap (λ (l : List ℕ). take 12 l) h.here in
    let e : 1 + 12 * c.loop.counter + 12 ≡ 1 + 12 * (c.loop.counter + 1) = omega arith in
    record {
      here = c.in_ok-numbers.ensures.cases.1 ∙ rw (h.here, drop-drop 12 _ c.args.index.now, e) refl;
      same = h.same ∙ lookup-miss _ _ _ _ (omega arith)
          (omega (arith, ap length h.here, c.in_ok-numbers.ensures.cases.2)) (rw n at c.if-numbers-id.false);
    }

pub returns : goal.returns
returns c = sym (c.loop.invariant.same ∙ lookup-none _ _ _ _ (omega arith))
