-- `setter::parameter_setter` meets its contract: the setter and the initializers around the type's texts, or the refusal of one.
-- Assumes nothing.
use mathlib.Core.Path.{ap}
use Rattle.std.proofs.lemmas.Result.{err_from_is_err_and}
use Rattle.text.proofs.Laws.{◌⋄◌, some-text, ◌⨟◌}
use Rattle.names.specs.Names.{name_of}
use Rattle.terms.specs.Kinds.{number_of}
use Rattle.nodes.specs.Index.{sheet_of}
use Rattle.codegen.specs.Profiles.{rule_of}
use Rattle.codegen_types.proofs.WrittenLaws.{kept-behind}
use Rattle.setter.proofs.ArmLaws.{parameter-first, parameter-later, parameter-here}
use Rattle.setter.proofs.parameter_setter.Goals as goal

pub returns-in_err-initn : goal.returns-in_err-initn
returns-in_err-initn c =
    let a = c.args in
    let source = a.source.now in
    let x = a.target.now in
    let e = err_from_is_err_and c.from_residual.result c.from_residual.ensures.1 in
    record {
      text = λ ns ix f h k n. rw (e.1, e.2) (parameter-first source.bytes.now x.slot f h
          (rule_of x.profile) (sheet_of source.root.now ns) x.tag (name_of x.name) a.t
          c.initn_open-t.new.buf c.initn_open-t.result c.type_string.new.buf _ (ap number_of k) n
          (c.in_err-initn.ensures.text ns ix));
      within = rw e.1 (kept-behind (some-text c.initn_open-t.ensures.lines) c.in_err-initn.ensures.within);
    }

pub returns-in_err-set : goal.returns-in_err-set
returns-in_err-set c =
    let a = c.args in
    let source = a.source.now in
    let x = a.target.now in
    let e = err_from_is_err_and c.from_residual-in_err-set.result c.from_residual-in_err-set.ensures.1 in
    record {
      text = λ ns ix f h k n. rw (e.1, e.2) (parameter-later source.bytes.now x.slot f h
          (rule_of x.profile) (sheet_of source.root.now ns) x.tag (name_of x.name) a.t
          c.initn_open-t.new.buf c.initn_open-t.result c.type_string.new.buf c.in_ok-initn.initn c.set_open-t.new.buf
          c.set_open-t.result c.setter_input.new.buf _ (ap number_of k) n (c.in_ok-initn.ensures.text ns ix)
          (c.in_err-set.ensures.text ns ix));
      within = rw e.1 (kept-behind (some-text c.initn_open-t.ensures.lines ⨟ c.in_ok-initn.ensures.within
          ⨟ some-text (c.new_end-t.ensures ⋄ c.set_open-t.ensures).lines) c.in_err-set.ensures.within);
    }

pub returns-in_err-init-clause-within : goal.returns-in_err-init-clause-within
returns-in_err-init-clause-within c =
    let e = err_from_is_err_and c.from_residual-in_err-init.result c.from_residual-in_err-init.ensures.1 in
    rw e.1 (kept-behind (some-text c.initn_open-t.ensures.lines ⨟ c.in_ok-initn.ensures.within
    ⨟ some-text (c.new_end-t.ensures ⋄ c.set_open-t.ensures).lines ⨟ c.in_ok-set.ensures.within
    ⨟ some-text (c.set_end-t.ensures ⋄ c.init_open-t.ensures).lines) c.in_err-init.ensures.within)

pub returns : goal.returns
returns c =
    let a = c.args in
    let source = a.source.now in
    let x = a.target.now in
    record {
      text = λ ns ix f h k n. parameter-here source.bytes.now x.slot f h (rule_of x.profile)
          (sheet_of source.root.now ns) x.tag (name_of x.name) a.t
          (ap number_of k) n
          c.initn_open-t.ensures (c.in_ok-initn.ensures.text ns ix) c.new_end-t.ensures
          c.set_open-t.ensures (c.in_ok-set.ensures.text ns ix) c.set_end-t.ensures
          c.init_open-t.ensures (c.in_ok-init.ensures.text ns ix) c.new_end.ensures;
      within = some-text c.initn_open-t.ensures.lines ⨟ c.in_ok-initn.ensures.within
          ⨟ some-text (c.new_end-t.ensures ⋄ c.set_open-t.ensures).lines ⨟ c.in_ok-set.ensures.within
          ⨟ some-text (c.set_end-t.ensures ⋄ c.init_open-t.ensures).lines ⨟ c.in_ok-init.ensures.within
          ⨟ some-text c.new_end.ensures.lines;
    }
