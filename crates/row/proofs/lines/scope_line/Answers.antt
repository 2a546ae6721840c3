-- `row::lines::scope_line` meets its contract: its numbers are those that its bindings say. Assumes nothing.
use mathlib.Core.Path.{◌≡◌, ◌∙◌}
use Rattle.std.specs.Prelude.{Ok}
use Prim.Native.Nat.{ℕ}
use borrow.Author.Rules.{rules}
use Rattle.row.specs.declared.Line.TheVariants as line
use Rattle.row.specs.Line.{Content, line_said, with_number, with_nothing, most_count}
use Rattle.row.proofs.ColumnLaws.{by_bindings, scope-by_bindings, went-on}
use Rattle.row.proofs.lines.scope_line.Goals as goal

pub returns : goal.returns
unfolding line_said
returns c =
    let t = c.args.t.now in
    let at₃ : ℕ → ℕ → ℕ → Content = λ i b n. with_nothing t 64 (by_bindings i b n) in
    let at₂ : ℕ → ℕ → Content = λ i b. with_number t 43 0 (most_count b) (at₃ i b) in
    let at₁ : ℕ → Content = λ i. with_number t 22 0 1 (at₂ i) in
    let i = c.in_ok-id.id in
    let b = c.in_ok-bind.bind in
    let n = c.in_ok-count.count in
    let is : by_bindings i b n ≡ at₃ i b n = search rules in
    let said : line_said (Ok (line.Scope i c.then_some.result)) ≡ by_bindings i b n = search rules in
    said ∙ is ∙ went-on (at₃ i b) (rw c.most_count.ensures at c.number-3.ensures (at₃ i b)) c.in_ok-count.was
    ∙ went-on (at₂ i) (c.number-2.ensures (at₂ i)) c.in_ok-bind.was ∙ went-on at₁ (c.number.ensures at₁) c.in_ok-id.was
    ∙ scope-by_bindings t
