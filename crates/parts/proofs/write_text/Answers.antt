-- `parts::write_text` meets its contract: a text's own refusal, 22 where it is too long, or the text. Assumes nothing.
use Prim.Native.Nat.{◌^◌, ◌<◌}
use native.Mathlib.Omega.{arith}
use borrow.Author.Rules.{rules}
use lib.ListN.{length}
use Rattle.std.proofs.lemmas.Result.{err_from_is_err_and}
use Rattle.nodes.specs.Index.{sheet_of}
use Rattle.requests.specs.Requests.{accessor_text}
use Rattle.parts.specs.Program.{accessor_of}
use Rattle.parts.proofs.PartLaws.{refused-part, long-part, whole_part}
use Rattle.parts.proofs.write_text.Goals as goal
use Rattle.parts.proofs.write_text.Goals.{Start}

room : (c : Start) → length c.args.buf.now < 2 ^ 63
room c = search rules

pub returns-in_err-t-clause-under : goal.returns-in_err-t-clause-under
returns-in_err-t-clause-under c = λ ns x at tag-is is.
    let p = err_from_is_err_and c.from_residual.result c.from_residual.ensures.1 in
    let w = rw (c.asked.ensures, c.in_err-t.was) at (c.field_accessor.ensures.text ns x at tag-is is) in
    rw (p.1, p.2)
    (refused-part c.at.ensures (accessor_text (sheet_of c.args.source.now.root.now ns) at (accessor_of c.args.part)) _ w)

pub returns-then-fill-gt-TEXT_SIZE-clause-under : goal.returns-then-fill-gt-TEXT_SIZE-clause-under
returns-then-fill-gt-TEXT_SIZE-clause-under c = λ ns x at tag-is is.
    let w = rw (c.asked.ensures, c.in_ok-t.was) at (c.field_accessor.ensures.text ns x at tag-is is) in
    long-part c.at.ensures (accessor_text (sheet_of c.args.source.now.root.now ns) at (accessor_of c.args.part)) _ w
    (omega (arith, c.fill.ensures, c.if-fill-gt-TEXT_SIZE.true))

pub returns-clause-under : goal.returns-clause-under
returns-clause-under c = λ ns x at tag-is is.
    let w = rw (c.asked.ensures, c.in_ok-t.was) at (c.field_accessor.ensures.text ns x at tag-is is) in
    whole_part c.at.ensures (accessor_text (sheet_of c.args.source.now.root.now ns) at (accessor_of c.args.part)) _ w
    (omega (arith, c.fill.ensures, c.if-fill-gt-TEXT_SIZE.false)) (room (goal.at.returns-clause-under c).Start)
