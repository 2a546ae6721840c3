-- `exports::index::kitlubas_field` meets its contract: the numbers that were put are those of what was read. Assumes nothing.
use Rattle.exports.proofs.IndexLaws.{first-put}
use Rattle.exports.proofs.index.kitlubas_field.Goals as goal

pub returns-in-Slot-clause-put : goal.returns-in-Slot-clause-put
returns-in-Slot-clause-put c = first-put c.args.s.now c.args.from _ c.args.field.now _ c.read-read.ensures.first c.put.ensures

pub returns-in-Group-clause-put : goal.returns-in-Group-clause-put
returns-in-Group-clause-put c = first-put c.args.s.now c.args.from _ c.args.field.now _ c.read-read.ensures.first c.put.ensures

pub returns-in_default-clause-put : goal.returns-in_default-clause-put
returns-in_default-clause-put c = first-put c.args.s.now c.args.from _ c.args.field.now _ c.read-read.ensures.first c.put.ensures
