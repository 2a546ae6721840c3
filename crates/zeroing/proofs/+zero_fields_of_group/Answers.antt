-- `zeroing::zero_fields_of_group`, which calls itself, meets its contract: the levels left fall, and the rows left fall in its
-- loop. Whatever the fields from here on add to the lines so far, all of them add to the start; the first refusal that is met
-- ends it. The group that the zeroing began with gives the same with no level left as with one less than here. In any case each
-- turn writes behind the one before. Assumes nothing.
use mathlib.Core.Path.{refl}
use native.Mathlib.Omega.{arith}
use Rattle.std.proofs.lemmas.Result.{err_from_is_err_and}
use Rattle.nodes.specs.Index.{sheet_of}
use Rattle.text.proofs.Laws.{some-text, no_text, ◌⨟◌}
use Rattle.codegen_types.proofs.WrittenLaws.{kept-behind}
use Rattle.zeroing.proofs.TypeLaws.{numbers-none}
use Rattle.zeroing.proofs.TurnLaws.{going_first, going_end, going-slot, going_back, going-group, going-stop}
use Rattle.zeroing.proofs.PathLaws.{inner-adds}
use Rattle.zeroing.proofs.GroupLaws.{none_left, sought, group_missing, no-struct, group-adds}
use Rattle.zeroing.proofs.FieldLaws.{count_fits, count-more}
use Rattle.zeroing.proofs.+zero_fields_of_group.Goals as goal
use Rattle.zeroing.proofs.+zero_fields_of_group.Goals.{in-Slot, in-Group+in_ok-lines-in-Group}

pub returns-then-group-eq0-clause-lines : goal.returns-then-group-eq0-clause-lines
returns-then-group-eq0-clause-lines t c =
    λ root ns x lead. rw (none_left (sheet_of root ns) c.args.group.left c.args.group.id c.if-group-eq0.true) refl

pub returns-in_default-clause-lines : goal.returns-in_default-clause-lines
returns-in_default-clause-lines t c =
    λ root ns x lead.
    rw (group_missing (sought (sheet_of root ns) c.if-group-eq0.false c.find.ensures x c.in_default.is)) refl

pub returns-then-node-ne1-clause-lines : goal.returns-then-node-ne1-clause-lines
returns-then-node-ne1-clause-lines t c =
    λ root ns x lead. let here = sought (sheet_of root ns) c.if-group-eq0.false c.find.ensures x c.in-Some.is in
    rw (no-struct here c.if-node-ne1.true) refl

pub loop-field-init : goal.loop-field-init
loop-field-init t c = record {
  passed = omega arith;
  going = λ root ns x lead tags offset. rw (numbers-none 307) (going_first 307);
  some = no_text;
}

pub overflow_add-count : goal.overflow_add-count
overflow_add-count t c =
    let s = c.args.source.now.bytes.now in
    let passed = c.loop-field.invariant.passed in
    omega (arith, count_fits s c.in-Some.node.fields c.loop-field.count passed c.in-Some-read.ensures.fewer)

pub returns-in_err-lines-in-Group-clause-lines : goal.returns-in_err-lines-in-Group-clause-lines
returns-in_err-lines-in-Group-clause-lines t c =
    let p = err_from_is_err_and c.from_residual.result c.from_residual.ensures.1 in
    λ root ns x lead. let s = c.args.source.now.bytes.now in
    let first = c.in-Some-read.ensures.first in
    let here = sought (sheet_of root ns) c.if-group-eq0.false c.find.ensures x c.in-Some.is in
    let going = c.loop-field.invariant.going root ns x lead c.in-Some.node.tag_count c.in-Some.node.tag_offset in
    let inner = rw c.inner.ensures at (c.in_err-lines-in-Group.ensures.lines root ns x) in
    rw (p.1, p.2)
    (group-adds here c.if-node-ne1.false _ _ c.tag_line-lines.ensures
    (going-stop going s _ first c.in-Group.is _ _
    (inner-adds here c.if-node-ne1.false lead (going_back going s _ first c.in-Group.is) _ _ _ _ inner)))

pub returns-in_err-lines-in-Group-clause-within : goal.returns-in_err-lines-in-Group-clause-within
returns-in_err-lines-in-Group-clause-within t c =
    let p = err_from_is_err_and c.from_residual.result c.from_residual.ensures.1 in
    rw p.1
    (kept-behind (some-text c.tag_line-lines.ensures.text ⨟ c.loop-field.invariant.some)
    c.in_err-lines-in-Group.ensures.within)

pub loop-field-preserved : goal.loop-field-preserved
loop-field-preserved t c =
    let s = c.args.source.now.bytes.now in
    let first = c.in-Some-read.ensures.first in
    let more = count-more s c.in-Some.node.fields c.loop-field.count c.loop-field.invariant.passed c.in-Some-read.ensures.fewer in
    elim c.match-field.branch [
      | in-Slot w ↦ rw (c.next-at.ensures, w.field-is, w.buf-is, w.table-is, w.lines-is) (record {
        passed = rw w.in-Slot.is at more;
        going = λ root ns x lead tags offset.
            going-slot (c.loop-field.invariant.going root ns x lead tags offset) s _ first w.in-Slot.is
            w.zero_slot-lines.ensures.lines;
        some = c.loop-field.invariant.some ⨟ w.zero_slot-lines.ensures.some;
      })
      | in-Group+in_ok-lines-in-Group w ↦ rw (c.next-at.ensures, w.field-is, w.buf-is, w.table-is, w.lines-is) (record {
        passed = rw w.in-Group.is at more;
        going = λ root ns x lead tags offset.
            let here = sought (sheet_of root ns) c.if-group-eq0.false c.find.ensures x c.in-Some.is in
            let going = c.loop-field.invariant.going root ns x lead tags offset in
            let inner = rw w.inner.ensures at (w.in_ok-lines-in-Group.ensures.lines root ns x) in
            going-group going s _ first w.in-Group.is
            (inner-adds here c.if-node-ne1.false lead (going_back going s _ first w.in-Group.is) _ _ _ _ inner);
        some = c.loop-field.invariant.some ⨟ w.in_ok-lines-in-Group.ensures.within;
      })
    ]

pub returns-clause-lines : goal.returns-clause-lines
returns-clause-lines t c =
    λ root ns x lead. let here = sought (sheet_of root ns) c.if-group-eq0.false c.find.ensures x c.in-Some.is in
    let going = c.loop-field.invariant.going root ns x lead c.in-Some.node.tag_count c.in-Some.node.tag_offset in
    group-adds here c.if-node-ne1.false _ _ c.tag_line-lines.ensures
    (going_end going c.args.source.now.bytes.now c.in_default-read.ensures.first)

pub returns-clause-within : goal.returns-clause-within
returns-clause-within t c = some-text c.tag_line-lines.ensures.text ⨟ c.loop-field.invariant.some
