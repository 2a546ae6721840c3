-- `type_string::type_string` meets its contract: the type's row is read, and its text is that of a type with 15 levels below it.
-- Assumes nothing.
use native.Mathlib.Omega.{arith}
use Rattle.types.proofs.TypeLaws.{type_row_lem}
use Rattle.nodes.specs.Index.{sheet_of}
use Rattle.codegen_types.specs.TypeString.{type_string}
use Rattle.codegen_types.specs.Written.{Writes}
use Rattle.type_string.proofs.type_string.Goals as goal

pub returns-clause-text : goal.returns-clause-text
returns-clause-text c = λ ns x.
    type_row_lem c.args.source.now.bytes.now c.args.at c.type_row-row.result 16
    (λ ty. Writes (type_string ty (sheet_of c.args.source.now.root.now ns) c.args.leaf) c.args.buf.now c.args.t
    c.write_type.new.buf c.write_type.result) c.type_row-row.ensures (λ z. omega arith) (c.write_type.ensures.text ns x)
