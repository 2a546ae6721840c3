-- `terms::kinds::KindFromU64::from` meets its contract: a number past the last kind's is an unnamed kind's. Assumes nothing.
use Rattle.terms.proofs.KindLaws.{past-named}
use Rattle.terms.proofs.kinds.KindFromU64.from.Goals as goal

pub returns-in-19-to-18446744073709551615 : goal.returns-in-19-to-18446744073709551615
returns-in-19-to-18446744073709551615 c = past-named _ _
