-- `setter::enum_setter` meets its contract: the setter around the module, with the default's mask, or the refusal of one. Assumes
-- nothing.
use mathlib.Core.Path.{ap}
use Rattle.std.proofs.lemmas.Result.{err_from_is_err_and}
use Rattle.text.proofs.Laws.{◌⋄◌, flat, some-text, ◌⨟◌}
use Rattle.names.specs.Names.{name_of}
use Rattle.terms.specs.Kinds.{number_of}
use Rattle.nodes.specs.Index.{sheet_of}
use Rattle.codegen.specs.Profiles.{rule_of}
use Rattle.codegen_types.proofs.WrittenLaws.{kept-behind, kept-text}
use Rattle.calls.specs.Mask.{mask_text}
use Rattle.setter.proofs.ArmLaws.{enum-first, enum-later, enum-here}
use Rattle.setter.proofs.enum_setter.Goals as goal

pub returns-in_err-t : goal.returns-in_err-t
returns-in_err-t c =
    let a = c.args in
    let source = a.source.now in
    let x = a.target.now in
    let e = err_from_is_err_and c.from_residual.result c.from_residual.ensures.1 in
    record {
      text = λ ns ix f h k. rw (e.1, e.2) (enum-first source.bytes.now x.slot f h
          (rule_of x.profile) (sheet_of source.root.now ns) x.tag (name_of x.name) a.t
          c.set_open-t.new.buf c.set_open-t.result c.qualified_module.new.buf _ (ap number_of k)
          (c.in_err-t.ensures.text source.root.now ns ix));
      within = rw e.1 (kept-behind (some-text c.set_open-t.ensures.lines) c.in_err-t.ensures.within);
    }

pub returns-in_err-mask : goal.returns-in_err-mask
returns-in_err-mask c =
    let a = c.args in
    let source = a.source.now in
    let x = a.target.now in
    let e = err_from_is_err_and c.from_residual-in_err-mask.result c.from_residual-in_err-mask.ensures.1 in
    record {
      text = λ ns ix f h k. rw (e.1, e.2) (enum-later source.bytes.now x.slot f h
          (rule_of x.profile) (sheet_of source.root.now ns) x.tag (name_of x.name) a.t
          c.set_open-t.new.buf c.set_open-t.result c.qualified_module.new.buf _ _ (ap number_of k)
          (c.in_ok-t.ensures.text source.root.now ns ix)
          c.in_err-mask.ensures);
      within = rw e.1 (kept-text (some-text c.set_open-t.ensures.lines ⨟ c.in_ok-t.ensures.within));
    }

pub returns : goal.returns
returns c =
    let a = c.args in
    let source = a.source.now in
    let x = a.target.now in
    let behind = c.start-t.ensures ⋄ flat c.set_data_field-t.ensures ⋄ c.broken.ensures in
    record {
      text = λ ns ix f h k. enum-here source.bytes.now x.slot f h (rule_of x.profile)
          (sheet_of source.root.now ns) x.tag (name_of x.name) a.t
          (mask_text c.in_ok-mask.mask) (ap number_of k) c.in_ok-mask.ensures c.set_open-t.ensures
          (c.in_ok-t.ensures.text source.root.now ns ix) behind;
      within = some-text c.set_open-t.ensures.lines ⨟ c.in_ok-t.ensures.within ⨟ some-text behind.lines;
    }
