use Rattle.std.proofs.Common.{drop}
use Rattle.parts.proofs.PartLaws.{PartsLeft}
use Rattle.parts.proofs.write_parts.Given as goal

abbrev pub invariant-loop-part : goal.invariant-loop-part
invariant-loop-part l =
    PartsLeft l.source l.located.tag l.located.field l.name l.parts l.initial.out l.out l.n (drop l.part-index l.parts)
