-- `setter::list_reader` meets its contract: by whether the element has several inputs. Assumes nothing.
use lib.ListN.{drop}
use Rattle.row.specs.Rows.{rows}
use Rattle.nodes.specs.Index.{sheet_of}
use Rattle.setter.proofs.ArmLaws.{on-several, on-one-input}
use Rattle.setter.proofs.list_reader.Goals as goal

pub returns-then-several_inputs-clause-text : goal.returns-then-several_inputs-clause-text
returns-then-several_inputs-clause-text c =
    let source = c.args.source.now in
    λ ns ix. on-several (rows (drop c.args.at source.bytes.now)) (sheet_of source.root.now ns) _ _ c.element_kind.ensures
    c.several_inputs.ensures _ _ _ _ c.if-several_inputs.true (c.setter_input.ensures.text ns ix)

pub returns-clause-text : goal.returns-clause-text
returns-clause-text c =
    let source = c.args.source.now in
    λ ns ix. on-one-input (rows (drop c.args.at source.bytes.now)) (sheet_of source.root.now ns) _ _ c.element_kind.ensures
    c.several_inputs.ensures _ _ _ _ c.if-several_inputs.false (c.type_string.ensures.text ns ix)
