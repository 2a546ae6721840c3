-- `getter::enum_result` meets its contract: the module between its parts, its refusal handed on. Assumes nothing.
use Rattle.std.proofs.lemmas.Result.{err_from_is_err_and}
use Rattle.text.proofs.Laws.{◌⨾◌, some-text, ◌⨟◌}
use Rattle.nodes.specs.Index.{sheet_of}
use Rattle.codegen_types.specs.TypeString.{get_qualified_module}
use Rattle.text.specs.Bytes.{Str}
use Rattle.codegen_types.specs.Out.{ok}
use Rattle.codegen_types.proofs.WrittenLaws.{kept-behind, stops}
use Rattle.codegen.proofs.AroundLaws.{made}
use Rattle.getter.specs.Result.{enum_result}
use Rattle.getter.proofs.enum_result.Goals as goal

pub returns-in_err-t-clause-text : goal.returns-in_err-t-clause-text
returns-in_err-t-clause-text c =
    let root = c.args.source.now.root.now in
    let e = err_from_is_err_and c.from_residual.result c.from_residual.ensures.1 in
    λ ns ix. rw (e.1, e.2)
    (stops (get_qualified_module (sheet_of root ns) c.args.id) (λ (typ : Str). ok (enum_result root typ))
    (c.in_err-t.ensures.text root ns ix))

pub returns-in_err-t-clause-within : goal.returns-in_err-t-clause-within
returns-in_err-t-clause-within c =
    let e = err_from_is_err_and c.from_residual.result c.from_residual.ensures.1 in
    rw e.1 (kept-behind (some-text c.bytes-t.ensures) c.in_err-t.ensures.within)

pub returns : goal.returns
returns c = record {
  text = λ ns ix. made (enum_result c.args.source.now.root.now)
      (get_qualified_module (sheet_of c.args.source.now.root.now ns) c.args.id)
      (c.in_ok-t.ensures.text c.args.source.now.root.now ns ix)
      (λ w x. c.bytes-t.ensures ⨾ x ⨾ c.bytes-t-2.ensures ⨾ c.bytes-t-3.ensures ⨾ c.bytes.ensures);
  within = some-text c.bytes-t.ensures ⨟ c.in_ok-t.ensures.within
      ⨟ some-text (c.bytes-t-2.ensures ⨾ c.bytes-t-3.ensures ⨾ c.bytes.ensures);
}
