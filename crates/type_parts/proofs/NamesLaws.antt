-- Laws of `inherited`: what is known after some names of a node's parameters, and what one more makes of it. Assumes nothing.
use mathlib.Core.Path.{◌≡◌, refl, ap, ◌∙◌}
use mathlib.Core.List.{List, [], ◌∷◌, ◌++◌}
use Prim.Native.Nat.{ℕ, ◌+◌, ◌-◌, ◌<◌, ◌≤◌}
use native.Mathlib.Omega.{arith}
use lib.ListN.{length, drop}
use Rattle.text.specs.Bytes.{Str, unit}
use Rattle.text.specs.Text.{Wrote, WroteSome}
use Rattle.text.specs.declared.Text.{Text}
use Rattle.text.proofs.Laws.{some-text, no_text, ◌⨟◌}
use Rattle.row.specs.Rows.{rows, rest_of}
use Rattle.row.specs.Line.{text_at}
use Rattle.nodes.specs.Index.{names_of}
use Rattle.nodes.proofs.NameLaws.{names-first, after-turn}
use Rattle.types.specs.Find.{ParamsAt}
use Rattle.type_parts.specs.Parts.{Listed}
use Rattle.type_parts.specs.declared.Arguments.{Arguments}
use Rattle.type_parts.proofs.Laws.{listed-none, listed_cons}

module _ (s : Str) (from count end : ℕ) (l₀ : List ℕ) (p₀ : Arguments) where
  -- some text is written, and if so many P rows stand between the positions, those from `at` on are left: whatever their names
  -- make of what is written, the names of all make of the start
  pub record Naming (done at : ℕ) (l : List ℕ) (p : Arguments) : Type 0 where
    pub some : WroteSome l₀ p₀.text l p.text
    pub left : ParamsAt s from count end → ParamsAt s at (count - done) end
    pub rest : ParamsAt s from count end → (l' : List ℕ) (p' : Arguments) → Listed l p (names_of (rows (drop at s))) l' p'
        → Listed l₀ p₀ (names_of (rows (drop from s))) l' p'

  pub naming-start : Naming 0 from l₀ p₀
  naming-start =
      let z : count - 0 ≡ count = omega arith in record { some = no_text; left = λ w. rw z w; rest = λ w l' p' h. h }

  module _ (done at : ℕ) (l : List ℕ) (p : Arguments) (n : Naming done at l p) where
    pub naming-on : done < count → (next : ℕ) → rows (drop next s) ≡ rest_of (rows (drop at s)) → (l₁ : List ℕ) (t : Text)
        → Wrote l p.text (unit p.sep ++ text_at (rows (drop at s))) l₁ t
        → Naming (done + 1) next l₁ (record { text = t; sep = 44 })
    naming-on m next is l₁ t a = record {
      some = n.some ⨟ some-text a;
      left = λ w.
          let v = n.left w in record {
            names = omega (arith, v.names, ap length (first v), ap (λ rs. length (names_of rs)) is);
            after = v.after ∙ after-turn count done (rows (drop at s)) m ∙ rw is refl;
          };
      rest = λ w l' p' h. n.rest w l' p' (rw (first (n.left w), ← is) (listed_cons a h));
    }
      where
        first : ParamsAt s at (count - done) end
            → names_of (rows (drop at s)) ≡ text_at (rows (drop at s)) ∷ names_of (rest_of (rows (drop at s)))
        first v = names-first (rows (drop at s)) (omega (arith, v.names))

    pub naming-done : count ≤ done → ParamsAt s from count end → Listed l₀ p₀ (names_of (rows (drop from s))) l p
    naming-done m w = n.rest w l p (rw (none (names_of (rows (drop at s))) (omega (arith, (n.left w).names))) (listed-none l p))
      where
        none : (ws : List Str) → length ws ≡ 0 → ws ≡ []
        none [] h = refl
        none (v ∷ ws) h = let z : ⊥ = omega arith in absurd z
