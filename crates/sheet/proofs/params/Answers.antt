-- `sheet::params` meets its contract: `Passing` says what is known after some P rows, and ParamsLaws what one more makes of it.
-- Assumes nothing.
use mathlib.Core.Path.{sym, ◌∙◌}
use Rattle.std.proofs.lemmas.Result.{err_from_is_err_and}
use Rattle.sheet.proofs.FieldsLaws.{params_less}
use Rattle.sheet.proofs.ParamsLaws.{passing-refused, passing_done, passing-on}
use Rattle.sheet.proofs.params.Goals as goal

pub loop-next-smaller : goal.loop-next-smaller
loop-next-smaller c = params_less _ _ c.in-Some.ensures.says c.in-Some.ensures.rest

pub loop-next-preserved : goal.loop-next-preserved
loop-next-preserved c = (
  c.mark-place.auto.index ∙ c.loop-next.invariant.0,
  passing-on _ _ _ _ _ _ _ _ c.loop-next.invariant.1 _ c.in-Some.ensures _ _ c.mark-place.ensures.0 c.mark-place.ensures.1,
)

pub returns-in_err-next : goal.returns-in_err-next
returns-in_err-next c =
    let p = err_from_is_err_and c.from_residual.result c.from_residual.ensures.1 in
    rw (p.1, p.2)
    (passing-refused _ _ _ _ _ _ _ _ c.loop-next.invariant.1 _ c.next-row.ensures.line_value c.in_default.ensures _
    (sym c.end_at.ensures ∙ c.in_err-next.was))

pub returns : goal.returns
returns c =
    passing_done _ _ _ _ _ _ _ _ c.loop-next.invariant.1 _ c.next-row.ensures.line_value c.in_default.ensures _
    (sym c.end_at.ensures ∙ c.in_ok-next.was) c.requires
