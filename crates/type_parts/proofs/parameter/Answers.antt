-- `type_parts::parameter` meets its contract: each return is a law for a node that is looked up, missing or found, with the
-- parameter's name from its P row. Assumes nothing.
use native.Mathlib.Omega.{arith}
use Rattle.std.proofs.lemmas.Result.{err_from_is_err_and}
use Rattle.text.specs.Bytes.{Str}
use Rattle.codegen_types.proofs.WrittenLaws.{refused-text}
use Rattle.codegen_types.specs.Written.{Writes}
use Rattle.codegen_types.specs.Out.{Out}
use Rattle.nodes.specs.Index.{sheet_of}
use Rattle.type_parts.proofs.Laws.{parameter-none, parameter-out, parameter-at}
use Rattle.type_parts.proofs.parameter.Goals as goal

pub returns-in_err-node-clause-text : goal.returns-in_err-node-clause-text
returns-in_err-node-clause-text c = λ ns x.
    let s = c.args.source.now in
    let p = err_from_is_err_and c.from_residual.result c.from_residual.ensures.1 in
    parameter-none s.bytes.now (sheet_of s.root.now ns) s.index.now _ _
    c.find.ensures x (λ (o : Out Str). Writes o c.args.buf.now c.args.t c.args.buf.now c.from_residual.result) c.args.leaf
    c.args.k (grind arith) (rw (p.1, p.2) (refused-text (grind arith)))

pub returns-in_err-place-clause-text : goal.returns-in_err-place-clause-text
returns-in_err-place-clause-text c = λ ns x.
    let s = c.args.source.now in
    let p = err_from_is_err_and c.from_residual-in_err-place.result c.from_residual-in_err-place.ensures.1 in
    parameter-out s.bytes.now (sheet_of s.root.now ns) s.index.now _ _
    c.find.ensures x (λ (o : Out Str). Writes o c.args.buf.now c.args.t c.args.buf.now c.from_residual-in_err-place.result)
    c.args.leaf c.args.k c.in_ok-node.node (grind arith) _ c.parameter.ensures.name (grind arith)
    (rw (p.1, p.2) (refused-text (grind arith)))

pub returns-clause-text : goal.returns-clause-text
returns-clause-text c = λ ns x.
    let s = c.args.source.now in
    parameter-at s.bytes.now (sheet_of s.root.now ns) s.index.now _ _
    c.find.ensures x (λ (o : Out Str). Writes o c.args.buf.now c.args.t c.parameter_text.new.buf c.parameter_text.result)
    c.args.leaf c.args.k c.in_ok-node.node (grind arith) _ c.parameter.ensures.name c.in_ok-place.place (grind arith)
    (rw c.text-name.ensures at c.parameter_text.ensures.text)
