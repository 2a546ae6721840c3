-- `setter::list_setter` meets its contract: what is set, and what follows its type, or the refusal of one. Assumes
-- nothing.
use mathlib.Core.Path.{ap}
use Rattle.std.proofs.lemmas.Result.{err_from_is_err_and}
use Rattle.text.proofs.Laws.{some-text, ◌⨟◌}
use Rattle.names.specs.Names.{name_of}
use Rattle.terms.specs.Kinds.{number_of}
use Rattle.nodes.specs.Index.{sheet_of}
use Rattle.codegen.specs.Profiles.{rule_of}
use Rattle.codegen_types.proofs.WrittenLaws.{kept-behind}
use Rattle.codegen.proofs.AroundLaws.{within-behind}
use Rattle.setter.proofs.ArmLaws.{list-first, list-here}
use Rattle.setter.proofs.list_setter.Goals as goal

pub returns-in_err-set : goal.returns-in_err-set
returns-in_err-set c =
    let a = c.args in
    let source = a.source.now in
    let x = a.target.now in
    let e = err_from_is_err_and c.from_residual.result c.from_residual.ensures.1 in
    record {
      text = λ ns ix f h k. rw (e.1, e.2) (list-first source.bytes.now x.slot f h
          (rule_of x.profile) (sheet_of source.root.now ns) x.tag (name_of x.name) a.t
          c.set_open-t.new.buf c.set_open-t.result c.list_reader.new.buf _ (ap number_of k) (c.in_err-set.ensures.text ns ix));
      within = rw e.1 (kept-behind (some-text c.set_open-t.ensures.lines) c.in_err-set.ensures.within);
    }

pub returns : goal.returns
returns c =
    let a = c.args in
    let source = a.source.now in
    let x = a.target.now in
    record {
      text = λ ns ix f h k. list-here source.bytes.now x.slot f h (rule_of x.profile)
          (sheet_of source.root.now ns) x.tag (name_of x.name) a.t
          c.list_reader.new.buf c.in_ok-set.set
          (ap number_of k) c.set_open-t.ensures (c.in_ok-set.ensures.text ns ix) (c.object_end.ensures.text ns ix);
      within = within-behind _ _ (some-text c.set_open-t.ensures.lines ⨟ c.in_ok-set.ensures.within) c.object_end.ensures.within;
    }
