-- `zeroing::zero_slot` meets its contract: no line for Void, or the line by whether it is known. Assumes nothing.
use lib.ListN.{take}
use Rattle.text.proofs.Laws.{no_text}
use Rattle.zeroing.specs.Lines.{repeats}
use Rattle.zeroing.proofs.GroupLaws.{line-void}
use Rattle.zeroing.proofs.TypeLaws.{void-is}
use Rattle.zeroing.proofs.TableLaws.{kept-void}
use Rattle.zeroing.proofs.zero_slot.Goals as goal

pub returns-then-eq : goal.returns-then-eq
returns-then-eq c =
    let void = rw c.of-line.ensures.typ at (void-is c.of-line.result.typ _ c.eq.ensures c.if-eq.true) in
    record {
      lines = λ fs h k. (
        line-void c.args.slot.offset (repeats _ c.args.slot.offset (take c.args.fields.now.count fs)) void,
        kept-void (take c.args.fields.now.count fs) k _ _ void,
      );
      some = no_text;
    }

pub returns-clause-lines : goal.returns-clause-lines
returns-clause-lines c =
    λ fs h k. let line = c.of-line.ensures in
    let known = rw (line.typ, line.offset) at (c.is_known-again.ensures fs h k) in
    (rw (line.typ, line.offset, known.again) at c.next_line.ensures, known.kept)
