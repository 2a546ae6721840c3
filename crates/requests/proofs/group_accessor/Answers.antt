-- `requests::group_accessor` meets its contract: its zeroing, and 15 for all else. Assumes nothing.
use mathlib.Core.Path.{refl}
use Rattle.std.proofs.lemmas.Result.{err_from_is_err_and}
use Rattle.codegen_types.proofs.WrittenLaws.{refused-text, kept-all}
use Rattle.requests.specs.Requests.{accessor_text}
use Rattle.requests.proofs.FieldLaws.{group-alone, group-zeroing, zeroed-text, zeroed-refusal}
use Rattle.requests.proofs.group_accessor.Goals as goal

pub returns-in_default : goal.returns-in_default
returns-in_default c = record {
  text = λ tag nodes x at e h.
      group-alone c.args.source.now.bytes.now _ at c.args.group c.args.accessor _ c.in_default.not-Zeroing h (refused-text refl);
  within = kept-all;
}

pub returns-in_err-zeroed-clause-text : goal.returns-in_err-zeroed-clause-text
unfolding accessor_text
returns-in_err-zeroed-clause-text c = λ tag nodes x at e h.
    let p = err_from_is_err_and c.from_residual.result c.from_residual.ensures.1 in
    rw (c.in-Zeroing.is, p.1, p.2) (group-zeroing c.args.source.now.bytes.now at.1 c.args.group _ h
    (zeroed-refusal _ _ _ (rw c.in_err-zeroed.was at (c.zeroing.ensures.text c.args.source.now.root.now nodes x))))

pub returns-clause-text : goal.returns-clause-text
unfolding accessor_text
returns-clause-text c = λ tag nodes x at e h.
    rw c.in-Zeroing.is (group-zeroing c.args.source.now.bytes.now at.1 c.args.group _ h
    (zeroed-text _ _ _ (rw c.in_ok-zeroed.was at (c.zeroing.ensures.text c.args.source.now.root.now nodes x))))
