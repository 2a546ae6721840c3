-- `type_parts::inherited` meets its contract: `Naming` says what is known after some names, and past the end of the buffer those
-- that are left are counted at once. Assumes nothing.
use native.Mathlib.Omega.{arith}
use mathlib.Core.Path.{◌∙◌}
use Rattle.text.proofs.Laws.{◌⨾◌, ◌⨟◌}
use Rattle.type_parts.proofs.MeasuredLaws.{names-counted, some-counted}
use Rattle.type_parts.proofs.NamesLaws as law
use Rattle.type_parts.proofs.inherited.Goals as goal

pub loop-done-init : goal.loop-done-init
loop-done-init c = law.naming-start _ _ _ _ _ _

pub returns-then-buf-fill-clause-text : goal.returns-then-buf-fill-clause-text
returns-then-buf-fill-clause-text c =
    let n = c.loop-done.invariant in
    λ w. n.rest w _ _ (names-counted c.args.s.now _ _ _ _ _ _ (omega (arith, c.if-buf-fill.true, c.fill.ensures)) (omega arith)
    (n.left w) (omega arith) (c.past-t.ensures ∙ rw c.names_size.ensures))

pub returns-then-buf-fill-clause-within : goal.returns-then-buf-fill-clause-within
returns-then-buf-fill-clause-within c =
    c.loop-done.invariant.some
    ⨟ some-counted _ _ _ _ (omega (arith, c.if-buf-fill.true, c.fill.ensures)) (omega arith)
    c.past-t.ensures

pub loop-done-preserved : goal.loop-done-preserved
loop-done-preserved c =
    let g = c.next-g.ensures in
    law.naming-on _ _ _ _ _ _ _ _ _ _ c.loop-done.invariant c.loop-done-test.true _ g.s_value _ _
    (rw (← c.text_before-name.ensures.text g.s_value) (c.byte-t.ensures ⨾ c.bytes-t.ensures))

pub returns-clause-text : goal.returns-clause-text
returns-clause-text c = law.naming-done _ _ _ _ _ _ _ _ _ _ c.loop-done.invariant c.loop-done-test.false
