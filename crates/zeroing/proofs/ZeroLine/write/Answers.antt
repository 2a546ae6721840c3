-- `zeroing::ZeroLine::write` meets its contract: a number's line is that of the kind with its type's number. Assumes nothing.
use Rattle.zeroing.proofs.TypeLaws.{number-text}
use Rattle.zeroing.proofs.ZeroLine.write.Goals as goal

pub returns-in_default : goal.returns-in_default
returns-in_default c =
    let line = c.args.self in
    let text = number-text line.typ line.offset c.in_default.not-Bool c.in_default.not-Pointer in
    rw (c.from.ensures, c.number.ensures, text) at c.zero_number.ensures
