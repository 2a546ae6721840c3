-- Lines written one after the other, each with its byte 10, are `stringify` of their tree where there is a line at all; no
-- lines are one byte 10. By induction on the lines. Assumes nothing.
use mathlib.Core.Path.{◌≡◌, refl, sym, ap, ◌∙◌}
use mathlib.Core.Bool.{Bool, true, false, ◌&&◌}
use mathlib.Core.List.{List, [], ◌∷◌, ◌++◌, append_assoc}
use Prim.Native.Nat.{ℕ, suc, ◌+◌, ◌-◌, ◌*◌, ◌<◌}
use native.Mathlib.Numerals.{add-one}
use native.Mathlib.Omega.{arith}
use borrow.Author.Tests.{ltb-true, ltb-false}
use lib.Dec.{eqb, ltb}
use lib.ListN.{length, drop, get_or, drop_of_length-le, replicate-append-replicate}
use lib.Seq.{drop-cons}
use Rattle.text.specs.Bytes.{Str, unit, cond}
use Rattle.text.specs.Lines.{FormattedText, Line, spaces, to_lines, join, stringify, ended, margin, broken}

-- one line after another, where there is one
pub join-ended : (l : Str) (ls : List Str) → join (unit 10) (l ∷ ls) ++ unit 10 ≡ ended (l ∷ ls)
unfolding join ended
join-ended l [] = refl
join-ended l (m ∷ ls) =
    append_assoc (l ++ unit 10) (join (unit 10) (m ∷ ls)) (unit 10)
    ∙ append_assoc l (unit 10) (join (unit 10) (m ∷ ls) ++ unit 10)
    ∙ ap (λ (s : Str). l ++ 10 ∷ s) (join-ended m ls)

pub ended_append : (a b : List Str) → ended (a ++ b) ≡ ended a ++ ended b
unfolding ended
ended_append [] b = refl
ended_append (l ∷ a) b = ap (λ (s : Str). l ++ 10 ∷ s) (ended_append a b) ∙ sym (append_assoc l (10 ∷ ended a) (ended b))

-- `stringify` where there is a line
pub stringify-lines : (ft : FormattedText) (level : ℕ) → (to_lines ft level ≡ [] → ⊥)
    → stringify ft level ≡ ended (to_lines ft level)
unfolding stringify
stringify-lines ft level h = go (to_lines ft level) h
  where
    go : (ls : List Str) → (ls ≡ [] → ⊥) → join (unit 10) ls ++ unit 10 ≡ ended ls
    go [] h = absurd (h refl)
    go (l ∷ ls) h = join-ended l ls

-- and where there is none
pub stringify-none : (ft : FormattedText) (level : ℕ) → to_lines ft level ≡ [] → stringify ft level ≡ unit 10
unfolding stringify join
stringify-none ft level e = rw e

-- an indent is a step, and what is left of it after that
pub spaces-step : (n done : ℕ) → done < n → spaces ((n - done) * 4) ≡ spaces 4 ++ spaces ((n - (done + 1)) * 4)
spaces-step n done h =
    let e : (n - done) * 4 ≡ 4 + (n - (done + 1)) * 4 = omega arith in
    ap spaces e ∙ sym (replicate-append-replicate 4 ((n - (done + 1)) * 4) 32)

pub margin-none : margin 0 ≡ []
unfolding margin
margin-none = refl

-- a line's spaces are those of its level and those of its indent
pub spaces-more : (level indent : ℕ) → spaces ((level + indent) * 4) ≡ margin level ++ spaces (indent * 4)
unfolding margin
spaces-more level indent =
    let e : (level + indent) * 4 ≡ level * 4 + indent * 4 = omega arith in
    ap spaces e ∙ sym (replicate-append-replicate (level * 4) (indent * 4) 32)

pub margin-more : (level : ℕ) → margin (level + 1) ≡ margin level ++ spaces 4
unfolding margin
margin-more level = spaces-more level 1

pub line-parts : (s : Str) (indent level : ℕ)
    → margin level ++ spaces (indent * 4) ++ s ++ unit 10 ≡ ended (to_lines (Line s) (level + indent))
unfolding to_lines ended
line-parts s indent level =
    rw (spaces-more level indent) refl

-- ---- a part of a text in which lines end

-- at level 0 it is as it stands
pub broken-flat : (s : Str) → broken s 0 ≡ s
unfolding broken margin
broken-flat [] = refl
broken-flat (x ∷ []) = refl
broken-flat (x ∷ (y ∷ s)) = rw (none (eqb x 10)) (ap (λ (z : Str). x ∷ z) (broken-flat (y ∷ s)))
  where
    none : (b : Bool) → cond b (margin 0) [] ≡ []
    none true = refl
    none false = refl

-- from a place on it is the byte there, a margin where a line begins behind it, and what is left
pub broken-step : (s : Str) (level i : ℕ) → i < length s
    → broken (drop i s) level
    ≡ unit (get_or s i 0) ++ cond (eqb (get_or s i 0) 10 && ltb (i + 1) (length s)) (margin level) []
    ++ broken (drop (i + 1) s) level
unfolding broken
broken-step s level i h = go (ltb (i + 1) (length s)) refl
  where
    go : (b : Bool) → ltb (i + 1) (length s) ≡ b
        → broken (drop i s) level
        ≡ unit (get_or s i 0) ++ cond (eqb (get_or s i 0) 10 && b) (margin level) [] ++ broken (drop (i + 1) s) level
    go true e =
        let g = ltb-true _ _ e in
        rw (add-one, drop-cons s i 0 h, drop-cons s (suc i) 0 (omega arith)) (both (eqb (get_or s i 0) 10))
      where
        both : (b : Bool) → get_or s i 0 ∷ cond b (margin level) [] ++ broken (get_or s (suc i) 0 ∷ drop (suc (suc i)) s) level
            ≡ unit (get_or s i 0) ++ cond (b && true) (margin level) []
            ++ broken (get_or s (suc i) 0 ∷ drop (suc (suc i)) s) level
        both true = refl
        both false = refl
    go false e =
        let g = ltb-false _ _ e in
        rw (add-one, drop-cons s i 0 h, drop_of_length-le s {i = suc i} (omega arith)) (none (eqb (get_or s i 0) 10))
      where
        none : (b : Bool) → unit (get_or s i 0) ≡ unit (get_or s i 0) ++ cond (b && false) (margin level) [] ++ []
        none true = refl
        none false = refl
