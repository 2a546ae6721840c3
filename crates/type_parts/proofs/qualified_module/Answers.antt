-- `type_parts::qualified_module` meets its contract: the node is missing, or its module is the entry's. Assumes nothing.
use native.Mathlib.Omega.{arith}
use Rattle.std.specs.Prelude.{Ok}
use Rattle.std.proofs.lemmas.Result.{err_from_is_err_and}
use Rattle.text.specs.Bytes.{Str}
use Rattle.codegen_types.proofs.WrittenLaws.{whole, refused-text}
use Rattle.codegen_types.specs.Written.{Writes}
use Rattle.codegen_types.specs.Out.{Out}
use Rattle.nodes.specs.Index.{sheet_of}
use Rattle.type_parts.proofs.Laws.{module-none, module-at}
use Rattle.type_parts.proofs.qualified_module.Goals as goal

pub returns-in_err-node-clause-text : goal.returns-in_err-node-clause-text
returns-in_err-node-clause-text c = λ root ns x.
    let s = c.args.source.now in
    let p = err_from_is_err_and c.from_residual.result c.from_residual.ensures.1 in
    module-none s.bytes.now (sheet_of root ns) s.index.now _ _
    c.find.ensures x (λ (o : Out Str). Writes o c.args.buf.now c.args.t c.args.buf.now c.from_residual.result)
    (grind arith) (rw (p.1, p.2) (refused-text (grind arith)))

pub returns-clause-text : goal.returns-clause-text
returns-clause-text c = λ root ns x.
    let s = c.args.source.now in
    module-at s.bytes.now (sheet_of root ns) s.index.now _ _
    c.find.ensures x (λ (o : Out Str). Writes o c.args.buf.now c.args.t c.bytes.new.buf (Ok c.bytes.result))
    c.in_ok-node.node (grind arith) _ c.module.ensures.text (whole c.bytes.ensures)
