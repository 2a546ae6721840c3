-- `record::claims` meets its contract: each claim is a law. Assumes nothing.
use Rattle.record.proofs.ByteLaws.{bool_at_lem, number_at, section_injective}
use Rattle.record.proofs.OperationLaws.{set-bytes}
use Rattle.record.proofs.RecordLaws.{get-past, null-past}
use Rattle.record.proofs.claims.Goals as goal

pub returns : goal.returns
returns c = record {
  bytes = (bool_at_lem, number_at, set-bytes, section_injective);
  past = (get-past, null-past);
}
