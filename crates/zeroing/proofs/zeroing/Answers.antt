-- `zeroing::zeroing` meets its contract: the lines, or one byte 10 where there are none; or the refusal. Assumes nothing.
use Rattle.text.proofs.Laws.{some-text, ◌⨟◌}
use Rattle.codegen.specs.Zeroing.{zero_fields_of_group}
use Rattle.nodes.specs.Index.{sheet_of}
use Rattle.zeroing.proofs.GroupLaws.{text-some, text-none}
use Rattle.zeroing.proofs.PathLaws.{leads_first}
use Rattle.zeroing.proofs.zeroing.Goals as goal

pub returns-then-lines-clause-text : goal.returns-then-lines-clause-text
returns-then-lines-clause-text c =
    λ root ns x. text-some (zero_fields_of_group (sheet_of root ns) 16 c.args.id) _ _ _ _
    (c.in_ok-lines.ensures.lines root ns x (leads_first _ _ _)) c.if-lines.true

pub returns-clause-text : goal.returns-clause-text
returns-clause-text c =
    λ root ns x. text-none (zero_fields_of_group (sheet_of root ns) 16 c.args.id) _ _ _ _
    (c.in_ok-lines.ensures.lines root ns x (leads_first _ _ _)) c.if-lines.false c.no_lines.ensures

pub returns-clause-within : goal.returns-clause-within
returns-clause-within c = c.in_ok-lines.ensures.within ⨟ some-text c.no_lines.ensures.lines
