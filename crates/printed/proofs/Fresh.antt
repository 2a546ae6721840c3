-- Ids in the order in which the reader meets them: each is new to those before it. All together are then distinct, which is
-- what a well-formed tree asks. Assumes nothing.
use mathlib.Core.Path.{◌≡◌, refl, sym, ap, ◌∙◌}
use mathlib.Core.Bool.{Bool, true, false}
use mathlib.Core.List.{List, [], ◌∷◌, ◌++◌, append_assoc, append-nil}
use Prim.Native.Nat.{ℕ}
use lib.Dec.{eqb}
use borrow.Author.Tests.{eqb-true, eqb-false, eq-eqb, ne_eqb}
use Rattle.text.specs.Bytes.{cond, both, either, unit}
use Rattle.tree.specs.Tree.{Arm, slot, group}
use Rattle.tree.specs.Read.{among, overlap, group_id}
use Rattle.tree.specs.WellFormed.{distinct}
use Rattle.tree.proofs.AmongLaws.{among_append}

-- whether each number is new to those seen and to those in front of it
unfoldable pub fresh : List ℕ → List ℕ → Bool
fresh seen [] = true
fresh seen (i ∷ is) = both (cond (among i seen) false true) (fresh (seen ++ unit i) is)

both_assoc : (a b c : Bool) → both a (both b c) ≡ both (both a b) c
both_assoc true b c = refl
both_assoc false b c = refl

both-both : (a : Bool) → both a true ≡ a
both-both true = refl
both-both false = refl

pub fresh_append : (seen a b : List ℕ) → fresh seen (a ++ b) ≡ both (fresh seen a) (fresh (seen ++ a) b)
unfolding fresh
fresh_append seen [] b = rw (append-nil seen)
fresh_append seen (i ∷ a) b =
    ap (both (cond (among i seen) false true)) (fresh_append (seen ++ unit i) a b)
    ∙ rw (append_assoc seen (unit i) a)
    (both_assoc (cond (among i seen) false true) (fresh (seen ++ unit i) a) (fresh (seen ++ (i ∷ a)) b))

-- the id of a group, if there is one
pub fresh-arm : (seen : List ℕ) (arm : Arm) → fresh seen (group_id arm) ≡ cond (overlap (group_id arm) seen) false true
unfolding fresh overlap
fresh-arm seen (slot s) = refl
fresh-arm seen (group i) = go (among i seen)
  where
    go : (t : Bool) → both (cond t false true) true ≡ cond (either t false) false true
    go true = refl
    go false = refl

eqb-sym : (i x : ℕ) → eqb i x ≡ eqb x i
eqb-sym i x = go (eqb x i) refl
  where
    go : (t : Bool) → eqb x i ≡ t → eqb i x ≡ t
    go true e = eq-eqb i x (sym (eqb-true x i e))
    go false e = ne_eqb i x (λ z. eqb-false x i e (sym z))

distinct-one : (seen : List ℕ) (i : ℕ) → distinct (seen ++ unit i) ≡ both (distinct seen) (cond (among i seen) false true)
unfolding distinct among
distinct-one [] i = refl
distinct-one (x ∷ s) i =
    rw (among_append x s (unit i), distinct-one s i, eqb-sym i x) (go (among x s) (eqb x i) (distinct s) (among i s))
  where
    go :
        (a e d m : Bool)
        → both (cond (either a (either e false)) false true) (both d (cond m false true))
        ≡ both (both (cond a false true) d) (cond (either e m) false true)
    go true e d m = refl
    go false true true m = refl
    go _ _ _ _ = refl

distinct_append : (seen new : List ℕ) → distinct (seen ++ new) ≡ both (distinct seen) (fresh seen new)
unfolding fresh
distinct_append seen [] = rw (append-nil seen) (sym (both-both (distinct seen)))
distinct_append seen (i ∷ is) =
    sym (ap distinct (append_assoc seen (unit i) is)) ∙ distinct_append (seen ++ unit i) is
    ∙ rw (distinct-one seen i)
    (sym (both_assoc (distinct seen) (cond (among i seen) false true) (fresh (seen ++ unit i) is)))

-- new one after the other is distinct
pub fresh-distinct : (is : List ℕ) → fresh [] is ≡ distinct is
unfolding distinct
fresh-distinct is = sym (distinct_append [] is)
