-- `setter::object_end` meets its contract: the type's text between its parts. Assumes nothing.
use lib.ListN.{drop}
use Rattle.std.proofs.lemmas.Result.{err_from_is_err_and}
use Rattle.text.proofs.Laws.{◌⋄◌, flat, some-text, ◌⨟◌}
use Rattle.row.specs.Rows.{rows}
use Rattle.tree.specs.Read.{read_type}
use Rattle.names.specs.Names.{name_of}
use Rattle.nodes.specs.Index.{sheet_of}
use Rattle.codegen_types.specs.declared.Leaf.TheVariants.{Builder}
use Rattle.codegen_types.specs.declared.Lifetime.TheVariants.{A}
use Rattle.codegen_types.proofs.WrittenLaws.{kept-behind}
use Rattle.codegen.specs.Setter.{init_pointer}
use Rattle.setter.specs.Typed.{size_argument}
use Rattle.setter.proofs.Laws.{behind_set}
use Rattle.setter.proofs.ArmLaws.{on-made}
use Rattle.setter.proofs.object_end.Goals as goal

pub returns-in_err-init-clause-within : goal.returns-in_err-init-clause-within
returns-in_err-init-clause-within c =
    let e = err_from_is_err_and c.from_residual.result c.from_residual.ensures.1 in
    rw e.1 (kept-behind (some-text (c.set_end-t.ensures ⋄ c.init_open-t.ensures).lines) c.in_err-init.ensures.within)

pub returns : goal.returns
returns c =
    let source = c.args.source.now in
    let x = c.args.target.now in
    let front = c.set_end-t.ensures ⋄ c.init_open-t.ensures in
    let end = c.init_start-t.ensures ⋄ flat (rw c.size_argument.ensures at c.init_pointer-t.ensures) ⋄ c.broken.ensures in
    record {
      text = λ ns ix. on-made (read_type 16 (rows (drop x.slot.typ source.bytes.now))) (sheet_of source.root.now ns) (Builder A)
          (λ w. behind_set source.root.now x.tag (name_of x.name) x.slot.discriminant x.slot.offset c.args.sized
          (init_pointer source.root.now x.slot.offset (size_argument c.args.sized)) w c.args.t.level)
          (c.in_ok-init.ensures.text ns ix) (λ w y. (front ⋄ flat y ⋄ end).lines);
      within = some-text front.lines ⨟ c.in_ok-init.ensures.within ⨟ some-text end.lines;
    }
