-- `text::copy` meets its contract. The loop's invariant: the first i bytes are those of `s`. Assumes nothing.
use mathlib.Core.Path.{◌≡◌, refl, sym, ◌∙◌}
use Prim.Native.Nat.{suc, ◌+◌}
use native.Mathlib.Omega.{arith}
use lib.ListN.{length, take}
use Rattle.std.proofs.Math.Seq.{take-suc, take-suc-set, take-length}
use Rattle.text.proofs.copy.Goals as goal

pub loop-i-init : goal.loop-i-init
loop-i-init c = refl

pub loop-i-preserved : goal.loop-i-preserved
loop-i-preserved c =
    let i = c.loop-i.i in
    let next : i + 1 ≡ suc i = omega arith in
    rw (next, take-suc-set c.loop-i.place i _ (omega arith), take-suc c.args.s.now i 0 (omega arith), c.loop-i.invariant) refl

pub returns : goal.returns
returns c =
    let place = c.loop-i.place in
    let s = c.args.s.now in
    let all : length place ≡ c.loop-i.i = omega arith in
    let end : c.loop-i.i ≡ length s = omega arith in
    sym (take-length place) ∙ rw (all, c.loop-i.invariant, end) (take-length s)
