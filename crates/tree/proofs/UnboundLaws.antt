-- U rows in front of other bindings: each reads as one `unbound`, so that a walk may pass over a run of them at once.
-- Assumes nothing.
use mathlib.Core.Path.{◌≡◌, refl, ap, ◌∙◌}
use mathlib.Core.List.{◌++◌}
use Prim.Native.Nat.{ℕ, zero, suc, ◌-◌, ◌≤◌}
use native.Mathlib.Nat.{sub-zero, suc-sub-suc}
use native.Mathlib.Omega.{arith}
use Rattle.row.specs.Rows.{unbound_rows}
use Rattle.row.proofs.UnboundLaws.{line_at-unbound, rest_of-unbound}
use Rattle.tree.specs.Tree.{Ty, Binds, stop, unbound}
use Rattle.tree.specs.Reader.{Rows, Reading, got, no, Reader, ◌then◌, map_r, times}
use Rattle.tree.specs.Read.{read_binding}
use Rattle.tree.specs.Walked.{passed}
use Rattle.tree.proofs.WalkLaws.{passed-map}

-- so many unbound bindings in front of others
unfoldable pub unbounds : ℕ → Binds → Binds
unbounds zero bs = bs
unbounds (suc n) bs = unbound (unbounds n bs)

then_got : {A : Type 0} (g : Reading A) → g ≡ (g then λ a. got a)
then_got (got a rs) = refl
then_got (no k rs) = refl

then_both :
    {A B C : Type 0} (f : A → B) (h : B → C) (g : Reading A)
    → ((g then λ a. got (f a)) then λ b. got (h b)) ≡ (g then λ a. got (h (f a)))
then_both f h (got a rs) = refl
then_both f h (no k rs) = refl

module _ (ty : Reader Ty) where
  binding-unbound : (n : ℕ) (rs : Rows) → read_binding ty (unbound_rows (suc n) ++ rs) ≡ got (λ bs. unbound bs)
      (unbound_rows n ++ rs)
  unfolding read_binding
  binding-unbound n rs = rw (line_at-unbound n rs, rest_of-unbound n rs)

  -- n bindings of which the first u are U rows
  pub times-unbound :
      (u n : ℕ) (rs : Rows) → u ≤ n
      → times (read_binding ty) stop n (unbound_rows u ++ rs) ≡ (times (read_binding ty) stop (n - u) rs then λ bs. got
      (unbounds u bs))
  unfolding times unbounds unbound_rows
  times-unbound zero n rs h = rw (sub-zero n) (then_got (times (read_binding ty) stop n rs))
  times-unbound (suc u) zero rs h = let z : ⊥ = omega arith in absurd z
  times-unbound (suc u) (suc n) rs h =
      ap (λ (g : Reading (Binds → Binds)). g then λ f. map_r f (times (read_binding ty) stop n)) (binding-unbound u rs)
      ∙ ap (λ (g : Reading Binds). g then λ bs. got (unbound bs)) (times-unbound u n rs (omega arith))
      ∙ then_both (unbounds u) (λ bs. unbound bs) (times (read_binding ty) stop (n - u) rs)
      ∙ rw (suc-sub-suc n u)

  pub passed-unbound :
      (u n : ℕ) (rs rest : Rows) → u ≤ n → rs ≡ unbound_rows u ++ rest
      → passed (times (read_binding ty) stop n rs) ≡ passed (times (read_binding ty) stop (n - u) rest)
  passed-unbound u n rs rest h e =
      rw e (ap passed (times-unbound u n rest h) ∙ passed-map (unbounds u) (times (read_binding ty) stop (n - u) rest))
