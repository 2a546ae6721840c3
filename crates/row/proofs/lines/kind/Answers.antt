-- `row::lines::kind` meets its contract: a number is the number of its kind. Assumes nothing.
use mathlib.Core.Path.{ap, sym, ◌∙◌}
use Prim.Native.Nat.{ℕ}
use Rattle.std.specs.Prelude.{Result}
use Rattle.terms.specs.declared.kinds.Kind.{Kind}
use Rattle.terms.specs.Kinds.{number_of, kind_numbered}
use Rattle.terms.proofs.KindLaws.{number-back}
use Rattle.row.specs.Line.{Content, said_with}
use Rattle.row.specs.declared.BadLine.{BadLine}
use Rattle.row.proofs.ColumnLaws.{number-bounded}
use Rattle.row.proofs.lines.kind.Goals as goal

pub returns : goal.returns
returns c = λ f.
    let g : ℕ → Content = λ n. f (number_of (kind_numbered n)) in
    ap (λ (k : Kind). f (number_of k)) c.from.ensures
    ∙ ap (λ (r : Result ℕ BadLine). said_with r g) (sym c.in_ok-n.was)
    ∙ c.number.ensures g
    ∙ number-bounded c.args.t.now 1 18 g f (λ n h. ap f (number-back n))
