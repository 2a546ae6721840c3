-- Laws of a name that ends in byte 10: its end is the first byte that is no letter, underscore or digit. Assumes nothing.
use mathlib.Core.Path.{◌≡◌, refl, sym, ap, ◌∙◌}
use mathlib.Core.Bool.{Bool, true, false}
use mathlib.Core.List.{[], ◌∷◌}
use Rattle.std.proofs.lemmas.List.Folds.{list_all_more}
use Prim.Native.Nat.{ℕ, zero, suc, ◌+◌, ◌-◌, ◌≤◌, ◌<◌}
use native.Mathlib.Decide.{dec_lt}
use native.Mathlib.Omega.{arith}
use lib.ListN.{length, get_or, take, drop, length-drop, length-take, get_or-eq_default}
use lib.Seq.{get_or-drop}
use Rattle.text.specs.Bytes.{Str}
use Rattle.column.specs.Texts.{is_word, all, may_be_name, is_name, NameTo}
use Rattle.column.proofs.Laws.{all_same, passed, may_length, name-all, name_may}

-- each of the bytes in front that pass a test
each-passes :
    (ok : ℕ → Bool) (t : Str) (n k : ℕ) → all ok (take n t) ≡ true → k < n → k < length t → ok (get_or t k 0) ≡ true
unfolding all
each-passes ok t zero k e l h = let z : ⊥ = omega arith in absurd z
each-passes ok [] (suc n) k e l h = let z : ⊥ = omega arith in absurd z
each-passes ok (b ∷ t) (suc n) zero e l h = (passed (ok b) (all ok (take n t)) e).0
each-passes ok (b ∷ t) (suc n) (suc k) e l h =
    each-passes ok t n k (passed (ok b) (all ok (take n t)) e).1 (omega arith) (omega arith)

-- byte 10 is no byte of a name
no-newline : (b : ℕ) → is_word b ≡ true → b ≡ 10 → ⊥
unfolding is_word
no-newline b w e = let z = rw e at w in cc

-- a byte that is not 0 stands inside
inside : (t : Str) (i b : ℕ) → get_or t i 0 ≡ b → 0 < b → i < length t
inside t i b e h = go (dec_lt i (length t))
  where
    go : Dec (i < length t) → i < length t
    go (yes l) = l
    go (no l) = let none = get_or-eq_default t 0 {n = i} (omega arith) in omega (arith, none, e)

-- the byte at k, as it stands among those from f on
byte-at : (t : Str) (f k : ℕ) → f ≤ k → get_or (drop f t) (k - f) 0 ≡ get_or t k 0
byte-at t f k l = let there : f + (k - f) ≡ k = omega arith in get_or-drop f t (k - f) 0 ∙ ap (λ (i : ℕ). get_or t i 0) there

-- letters, underscores and digits from f up to e, each of them
each-word :
    (t : Str) (f e k : ℕ) → all is_word (take (e - f) (drop f t)) ≡ true → f ≤ k → k < e → k < length t
    → is_word (get_or t k 0) ≡ true
each-word t f e k words l m h =
    rw (← byte-at t f k l)
    (each-passes is_word (drop f t) (e - f) (k - f) words (omega arith) (omega (arith, length-drop f t)))

module _ (t : Str) (a : ℕ) where
  -- a name has a byte, and ends inside
  pub bounds : (e : ℕ) → NameTo t a e → (a + 1 < e) × (e < length t)
  bounds e f =
      let n = take (e - (a + 1)) (drop (a + 1) t) in
      let some = may_length n (name_may n f.name) in
      (omega (arith, some, length-take (e - (a + 1)) (drop (a + 1) t)), inside t e 10 f.ends (omega arith))

  -- letters, underscores and digits stand after it up to e
  module _ (e : ℕ) (after : a + 1 ≤ e) (words : all is_word (take (e - (a + 1)) (drop (a + 1) t)) ≡ true) where
    -- no name ends before e
    ends-later : (n : ℕ) → NameTo t a n → n < e → ⊥
    ends-later n f l =
        let b = bounds n f in
        no-newline _ (each-word t (a + 1) e n words (omega (arith, b)) l b.1) f.ends

    pub name-none : length t ≤ e → (n : ℕ) → NameTo t a n → ⊥
    name-none l n f = let b = bounds n f in ends-later n f (omega (arith, b))

    -- at e stands none of them: there a name ends, if one does
    pub name-not :
        is_word (get_or t e 0) ≡ false
        → (get_or t e 0 ≡ 10 → may_be_name (take (e - (a + 1)) (drop (a + 1) t)) ≡ true → ⊥) → (n : ℕ) → NameTo t a n → ⊥
    name-not other g n f = go (dec_lt n e) (dec_lt e n)
      where
        go : Dec (n < e) → Dec (e < n) → ⊥
        go (yes l) r = ends-later n f l
        go (no l) (yes r) =
            let b = bounds n f in
            let z = sym other ∙ each-word t (a + 1) n e (name-all _ f.name) after r (omega (arith, b)) in
            cc
        go (no l) (no r) =
            let same : e ≡ n = omega arith in
            g (rw same f.ends) (rw same (name_may _ f.name))

    pub name-to :
        get_or t a 0 ≡ 32 → get_or t e 0 ≡ 10 → may_be_name (take (e - (a + 1)) (drop (a + 1) t)) ≡ true → NameTo t a e
    unfolding is_name
    name-to space ten may = record { space = space; name = rw (may, words) refl; ends = ten }

    pub words-more :
        e < length t → is_word (get_or t e 0) ≡ true → all is_word (take (e + 1 - (a + 1)) (drop (a + 1) t)) ≡ true
    words-more l w =
        let one : e + 1 - (a + 1) ≡ e - (a + 1) + 1 = omega arith in
        rw (
          one,
          all_same,
          list_all_more is_word (drop (a + 1) t) (e - (a + 1)) 0 (omega (arith, length-drop (a + 1) t)),
          ← all_same,
          words,
          byte-at t (a + 1) e after,
          w,
        ) refl
