-- `names::snake_bytes` meets its contract. The loop's invariant: the rest of the name, written now, makes what the whole makes
-- from the start. Assumes nothing.
use mathlib.Core.Path.{◌≡◌, sym, ◌∙◌}
use mathlib.Core.List.{List, ◌++◌}
use Prim.Native.Nat.{ℕ, ◌+◌, ◌<◌}
use native.Mathlib.Numerals.{add-one}
use native.Mathlib.Omega.{arith}
use borrow.Author.Tests.{eq-eqb, ne_eqb}
use lib.Dec.{eqb, eqb-suc-zero}
use lib.ListN.{length, drop, get_or, drop_of_length-le}
use lib.Seq.{drop-cons}
use Rattle.text.proofs.Laws.{◌⨾◌, left-more, left-none}
use Rattle.names.specs.Names.{snake_byte, snake_from}
use Rattle.names.proofs.Laws.{lower_case, byte-first, byte_lower, byte_capital}
use Rattle.names.proofs.snake_bytes.Goals as goal
use Rattle.names.proofs.snake_bytes.Goals.{then-i-gt0+then-is_uppercase, else-i-gt0}
use Rattle.names.proofs.snake_bytes.Goals.{else-i-gt0-via-then-i-gt0+else-is_uppercase, else-i-gt0-via-else-i-gt0}

turn : (i : ℕ) (s : List ℕ) → i < length s
    → snake_from (eqb i 0) (drop i s)
    ≡ snake_byte (eqb i 0) (get_or s i 0) (drop (i + 1) s) ++ snake_from (eqb (i + 1) 0) (drop (i + 1) s)
unfolding snake_from
turn i s h = rw (add-one, drop-cons s i 0 h, eqb-suc-zero)

pub loop-i-preserved : goal.loop-i-preserved
loop-i-preserved c =
    let i = c.loop-i.i in
    let b = get_or c.args.name.now i 0 in
    let rest = drop (i + 1) c.args.name.now in
    let lower = c.to_ascii_lowercase.ensures.value ∙ lower_case b in
    left-more (rw (turn _ _ c.loop-i-test.true) at c.loop-i.invariant) (
    elim c.if-i-gt0.branch [
      | then-i-gt0+then-is_uppercase w ↦
          rw (
            ne_eqb i 0 (λ e. omega arith),
            byte_capital b rest (sym w.is_uppercase.ensures ∙ w.if-is_uppercase.true),
            ← lower,
          ) (w.byte-t.ensures ⨾ (rw (w.buf-is, w.t-is) at c.byte-t-in-loop-i.ensures))
      | else-i-gt0 w ↦
          let written = rw (w.buf-is, w.t-is, lower) at c.byte-t-in-loop-i.ensures in
          elim w.else-i-gt0.branch [
            | else-i-gt0-via-then-i-gt0+else-is_uppercase v ↦
                rw (byte_lower (eqb i 0) b rest (sym v.is_uppercase.ensures ∙ v.if-is_uppercase.false)) written
            | else-i-gt0-via-else-i-gt0 v ↦ rw (eq-eqb i 0 (omega arith), byte-first b rest) written
          ]
    ]
    )

pub returns : goal.returns
unfolding snake_from
returns c = left-none (rw (drop_of_length-le c.args.name.now c.loop-i-test.false) at c.loop-i.invariant)
