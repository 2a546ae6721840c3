-- `setter_code::Target::init_pointer` meets its contract: its parts, one after the other. Assumes nothing.
use Rattle.setter_code.proofs.Laws.{retext, init_call}
use Rattle.text.proofs.Laws.{◌⨾◌}
use Rattle.setter_code.proofs.Target.init_pointer.Goals as goal

pub returns : goal.returns
returns c =
    retext (init_call c.args.root.now c.args.self.now.slot.offset c.args.size.now) (c.bytes-t.ensures
    ⨾ c.bytes-t-2.ensures ⨾ c.number-t.ensures ⨾ c.bytes-t-3.ensures ⨾ c.bytes-t-4.ensures ⨾ c.bytes.ensures)
