-- `keywords::one_of` meets its contract: what was found so far is to be found among the words passed, and a first chunk as long as
-- the name is the name. Assumes nothing.
use mathlib.Core.Path.{◌≡◌}
use native.Mathlib.Omega.{arith}
use lib.ListN.{length}
use Rattle.std.proofs.Math.Seq.{take-length}
use Rattle.names.proofs.KeywordLaws.{chunk_whole}
use Rattle.names.proofs.keywords.one_of.Goals as goal

pub returns : goal.returns
returns g c =
    let words = c.args.words.now in
    let all : c.loop-word.word-index ≡ length words = omega arith in
    rw (← chunk_whole c.requires c.in-Some.ensures.cases) (rw (all, take-length words) at c.loop-word.invariant)
