-- `setter::interface_setter` meets its contract: the setter around the client's text, or its refusal. Assumes nothing.
use mathlib.Core.Path.{ap}
use Rattle.std.proofs.lemmas.Result.{err_from_is_err_and}
use Rattle.text.proofs.Laws.{◌⋄◌, flat, reworded, some-text, ◌⨟◌}
use Rattle.names.specs.Names.{name_of}
use Rattle.terms.specs.Kinds.{number_of}
use Rattle.nodes.specs.Index.{sheet_of}
use Rattle.codegen.specs.Profiles.{rule_of}
use Rattle.codegen_types.proofs.WrittenLaws.{kept-behind}
use mathlib.Core.List.{◌++◌}
use Rattle.text.specs.Bytes.{ascii}
use Rattle.setter_code.specs.Parts.{tag_line}
use Rattle.setter.proofs.ArmLaws.{interface-first, interface-here, capability-line}
use Rattle.setter.proofs.interface_setter.Goals as goal

pub returns-in_err-t : goal.returns-in_err-t
returns-in_err-t c =
    let a = c.args in
    let source = a.source.now in
    let x = a.target.now in
    let e = err_from_is_err_and c.from_residual.result c.from_residual.ensures.1 in
    record {
      text = λ ns ix f h k. rw (e.1, e.2) (interface-first source.bytes.now x.slot f h
          (rule_of x.profile) (sheet_of source.root.now ns) x.tag (name_of x.name) a.t
          c.set_open-t.new.buf c.set_open-t.result c.type_string.new.buf _ (ap number_of k) (c.in_err-t.ensures.text ns ix));
      within = rw e.1 (kept-behind (some-text c.set_open-t.ensures.lines) c.in_err-t.ensures.within);
    }

pub returns : goal.returns
returns c =
    let a = c.args in
    let source = a.source.now in
    let x = a.target.now in
    let behind = reworded (λ n. capability-line (ascii ")  {\n" ++ tag_line x.tag x.slot.discriminant n) x.slot.offset n)
    (c.start-t.ensures ⋄ flat c.bytes-t.ensures ⋄ flat c.number-t.ensures ⋄ c.broken.ensures) in
    record {
      text = λ ns ix f h k. interface-here source.bytes.now x.slot f h (rule_of x.profile)
          (sheet_of source.root.now ns) x.tag (name_of x.name) a.t
          (ap number_of k)
          c.set_open-t.ensures (c.in_ok-t.ensures.text ns ix) behind;
      within = some-text c.set_open-t.ensures.lines ⨟ c.in_ok-t.ensures.within ⨟ some-text behind.lines;
    }
