-- `getter::getter` meets its contract: the refusal of the type, of the option or of the default, by the step that ends it; and
-- else the margin, the result type, a newline, the code and the declaration. Assumes nothing.
use mathlib.Core.Path.{refl}
use Rattle.std.proofs.lemmas.Result.{err_from_is_err_and}
use Rattle.text.proofs.Laws.{◌⨾◌, some-text, ◌⨟◌}
use Rattle.nodes.specs.Index.{sheet_of}
use Rattle.codegen_types.proofs.WrittenLaws.{refused-text, text-of, refusal-is, kept-text, kept-behind}
use Rattle.getter.proofs.TextLaws.{type-refused, option-refused, default-refused, getter-here}
use Rattle.getter.proofs.getter.Goals as goal

pub returns-in_err-t-clause-text : goal.returns-in_err-t-clause-text
returns-in_err-t-clause-text c =
    let a = c.args in
    let e = err_from_is_err_and c.from_residual.result c.from_residual.ensures.1 in
    λ ns ix f h. rw (
      e.1,
      e.2,
      type-refused (sheet_of a.source.now.root.now ns) f.name f.slot a.is_reader a.is_fn a.slot h.slot _
          (refusal-is _ (c.in_err-t.ensures.text ns ix f h)) a.t.level,
    ) (refused-text refl)

pub returns-in_err-t-clause-within : goal.returns-in_err-t-clause-within
returns-in_err-t-clause-within c =
    let e = err_from_is_err_and c.from_residual.result c.from_residual.ensures.1 in
    rw e.1 (kept-behind (some-text c.margin-t.ensures.lines) c.in_err-t.ensures.within)

pub returns-in_err-option_allowed : goal.returns-in_err-option_allowed
returns-in_err-option_allowed c =
    let a = c.args in
    let e = err_from_is_err_and c.from_residual-in_err-option_allowed.result c.from_residual-in_err-option_allowed.ensures.1 in
    record {
      text = λ ns ix f h. let p = text-of _ (c.in_ok-t.ensures.text ns ix f h) in rw (
        e.1,
        e.2,
        option-refused (sheet_of a.source.now.root.now ns) f.name f.slot a.is_reader a.is_fn a.slot h.slot p.text p.is _
            (c.in_err-option_allowed.ensures f.slot h.slot) a.t.level,
      ) (refused-text refl);
      within = rw e.1 (kept-text (some-text c.margin-t.ensures.lines ⨟ c.in_ok-t.ensures.within));
    }

pub returns-in_err-default_allowed : goal.returns-in_err-default_allowed
returns-in_err-default_allowed c =
    let a = c.args in
    let e = err_from_is_err_and c.from_residual-in_err-default_allowed.result c.from_residual-in_err-default_allowed.ensures.1 in
    record {
      text = λ ns ix f h. let p = text-of _ (c.in_ok-t.ensures.text ns ix f h) in rw (
        e.1,
        e.2,
        default-refused (sheet_of a.source.now.root.now ns) f.name f.slot a.is_reader a.is_fn a.slot h.slot p.text p.is
            (c.in_ok-option_allowed.ensures f.slot h.slot) _
            (λ typ. c.in_err-default_allowed.ensures f.slot a.source.now.root.now f.name typ a.is_reader a.is_fn h.slot)
            a.t.level,
      ) (refused-text refl);
      within = rw e.1 (kept-text (some-text c.margin-t.ensures.lines ⨟ c.in_ok-t.ensures.within));
    }

pub returns : goal.returns
returns c =
    let a = c.args in
    record {
      text = λ ns ix f h. getter-here a.source.now.bytes.now a.slot f h (sheet_of a.source.now.root.now ns) _ a.is_reader a.is_fn
          (c.name-name.ensures.name f h) c.margin-t.ensures (c.in_ok-t.ensures.text ns ix f h) c.byte-t.ensures c.code-t.ensures
          c.declaration.ensures
          (c.in_ok-option_allowed.ensures f.slot h.slot)
          (λ typ. c.in_ok-default_allowed.ensures f.slot a.source.now.root.now f.name typ a.is_reader a.is_fn h.slot);
      within = some-text c.margin-t.ensures.lines ⨟ c.in_ok-t.ensures.within
          ⨟ some-text (c.byte-t.ensures ⨾ c.code-t.ensures.lines ⨾ c.declaration.ensures.lines);
    }
