-- `setter::setter_input` meets its contract: the type's text between its parts. Assumes nothing.
use lib.ListN.{drop}
use Rattle.std.proofs.lemmas.Result.{err_from_is_err_and}
use Rattle.text.proofs.Laws.{◌⨾◌, some-text, ◌⨟◌}
use Rattle.row.specs.Rows.{rows}
use Rattle.tree.specs.Read.{read_type}
use Rattle.nodes.specs.Index.{sheet_of}
use Rattle.codegen_types.specs.declared.Leaf.TheVariants.{Owned}
use Rattle.codegen_types.proofs.WrittenLaws.{kept-behind}
use Rattle.codegen.specs.Setter.{setter_input}
use Rattle.setter.proofs.ArmLaws.{on-made}
use Rattle.setter.proofs.setter_input.Goals as goal

pub returns-in_err-t-clause-within : goal.returns-in_err-t-clause-within
returns-in_err-t-clause-within c =
    let e = err_from_is_err_and c.from_residual.result c.from_residual.ensures.1 in
    rw e.1 (kept-behind (some-text (c.bytes-t.ensures ⨾ c.bytes-t-2.ensures ⨾ c.bytes-t-3.ensures)) c.in_err-t.ensures.within)

pub returns : goal.returns
returns c = record {
  text = λ ns ix. on-made (read_type 16 (rows (drop c.args.at c.args.source.now.bytes.now)))
      (sheet_of c.args.source.now.root.now ns) Owned (setter_input c.args.source.now.root.now) (c.in_ok-t.ensures.text ns ix)
      (λ w x. c.bytes-t.ensures ⨾ c.bytes-t-2.ensures ⨾ c.bytes-t-3.ensures ⨾ x ⨾ c.bytes.ensures);
  within = some-text (c.bytes-t.ensures ⨾ c.bytes-t-2.ensures ⨾ c.bytes-t-3.ensures) ⨟ c.in_ok-t.ensures.within
      ⨟ some-text c.bytes.ensures;
}
