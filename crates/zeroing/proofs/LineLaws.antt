-- Two lines are equal exactly where their types and offsets are, and no slot's line is a tag's: the type and the offset can be
-- read again from a line (`key`). A decimal number goes by its last digit; closed text computes. Assumes nothing.
use mathlib.Core.Path.{◌≡◌, refl, sym, ap, ◌∙◌}
use mathlib.Core.Bool.{Bool, true, false}
use mathlib.Core.List.{[], ◌∷◌, ◌++◌, append_assoc}
use Prim.Native.Nat.{ℕ, zero, suc, ◌+◌, ◌-◌, ◌*◌, ◌/◌, ◌%◌, ◌≤◌, ◌<◌}
use native.Mathlib.Nat.{mod-lt, zero-lt-suc, div-add-mod'}
use native.Mathlib.Omega.{arith}
use borrow.Author.Tests.{eq-eqb, ltb-true, ltb-false, eqb-true, eqb-false}
use lib.Dec.{eqb, leb, ltb}
use lib.ListN.{get_or, drop}
use Rattle.std.proofs.lemmas.Bool.Decides.{nat_tests}
use Rattle.text.specs.Bytes.{Str, ascii, cond, both, same}
use Rattle.text.specs.Decimal.{decimal}
use Rattle.text.proofs.BytesLaws.{both_true}
use Rattle.text.proofs.DecimalLaws.{decimal-low, decimal-high}
use Rattle.calls.specs.Calls.{zero_bool, zero_data, zero_tag, clear_pointer}
use Rattle.calls.proofs.Laws.{zero-bool, zero_tag_lem, zero-data}
use Rattle.codegen_types.specs.Primitive.{primitive_text}
use Rattle.zeroing.specs.Lines.{zero_text}

-- ---- equal byte strings

same_refl : (a : Str) → same a a ≡ true
unfolding same
same_refl [] = refl
same_refl (x ∷ a) = rw (eq-eqb x x refl) (same_refl a)

pub same_true : (a b : Str) → same a b ≡ true → a ≡ b
unfolding same
same_true [] [] e = refl
same_true [] (y ∷ b) e = cc
same_true (x ∷ a) [] e = cc
same_true (x ∷ a) (y ∷ b) e =
    let h = both_true (eqb x y) (same a b) e in
    let p = eqb-true x y h.0 in
    let q = same_true a b h.1 in
    cc

-- strings that are read differently differ
differ : {A : Type 0} (f : Str → A) (a b : Str) → (f a ≡ f b → ⊥) → same a b ≡ false
differ f a b h = grind (arith, nat_tests, λ (e : same a b ≡ true). h (ap f (same_true a b e)))

-- ---- a number, read again

abbrev is_digit : ℕ → Bool
is_digit b = both (leb 48 b) (leb b 57)

-- the digits after a number so far, and what follows them
abbrev number : ℕ → Str → ℕ × Str
number v [] = (v, [])
number v (b ∷ s) = cond (is_digit b) (number (v * 10 + (b - 48)) s) (v, b ∷ s)

number-one : (v x : ℕ) (s : Str) → x < 10 → number v ((48 + x) ∷ s) ≡ number (v * 10 + x) s
number-one v x s h = grind (arith, nat_tests)

number-first : (x : ℕ) (s : Str) → x < 10 → number 0 ((48 + x) ∷ s) ≡ number x s
number-first x s h = let e : 0 * 10 + x ≡ x = omega arith in number-one 0 x s h ∙ ap (λ (y : ℕ). number y s) e

number-decimal : (n : ℕ) (s : Str) → number 0 (decimal n ++ s) ≡ number n s
number-decimal n s = go n n (omega arith) s
  where
    go : (f n : ℕ) → n ≤ f → (s : Str) → number 0 (decimal n ++ s) ≡ number n s
    go zero n h s = rw (decimal-low n (omega arith)) (number-first n s (omega arith))
    go (suc f) n h s = pick (ltb n 10) refl (λ k. go f (n / 10) k ((48 + n % 10) ∷ s))
      where
        pick : (b : Bool) → ltb n 10 ≡ b
            → (n / 10 ≤ f → number 0 (decimal (n / 10) ++ (48 + n % 10) ∷ s) ≡ number (n / 10) ((48 + n % 10) ∷ s))
            → number 0 (decimal n ++ s) ≡ number n s
        pick true e ih = rw (decimal-low n (ltb-true n 10 e)) (number-first n s (ltb-true n 10 e))
        pick false e ih =
            let big = ltb-false n 10 e in
            rw (decimal-high n big, append_assoc)
            (ih (omega arith)
            ∙ number-one (n / 10) (n % 10) s (mod-lt n (zero-lt-suc 9)) ∙ ap (λ (y : ℕ). number y s) (div-add-mod' n 10))

-- ---- a line, read again

-- what follows the first opening parenthesis
abbrev opened : Str → Str
opened [] = []
opened (b ∷ s) = cond (eqb b 40) s (opened s)

-- the byte that tells a Bool's line (b), a number's (d) and a pointer's (r)
abbrev letter : Str → ℕ
letter s = get_or s 17 0

-- the type of a number's line, by the letter and the first digit of its name
abbrev number_type : ℕ → ℕ → ℕ
number_type c d =
    cond (eqb c 105) 2 (cond (eqb c 117) 6 8)
    + cond (eqb d 56) 0 (cond (eqb d 49) 1 (cond (eqb d 51) 2 3))

-- where the offset begins
abbrev argument : Str → Str
argument s = cond (eqb (letter s) 114) (drop 42 s) (opened s)

-- the type, where 13 stands for a tag, and the offset
abbrev key_from : Str → ℕ × Str → ℕ × ℕ
key_from s n = (
  cond (eqb (get_or n.1 3 0) 41) 13 (cond (eqb (letter s) 98) 1 (cond (eqb (letter s) 114) 12
      (number_type (get_or s 30 0) (get_or s 31 0)))),
  n.0,
)

abbrev key : Str → ℕ × ℕ
key s = key_from s (number 0 (argument s))

-- a line before its offset, and after it
abbrev before : ℕ → Str
before type =
    cond (eqb type 1) (ascii "self.builder.set_bool_field(")
    (cond (leb type 11) (ascii "self.builder.set_data_field::<" ++ primitive_text type ++ ascii ">(")
    (ascii "self.builder.reborrow().get_pointer_field("))

abbrev behind : ℕ → Str
behind type =
    cond (eqb type 1) (ascii ", false);")
    (cond (leb type 11) (ascii ", 0" ++ primitive_text type ++ ascii ");")
    (ascii ").clear();"))

joined : (h d a b c : Str) → h ++ d ++ a ++ b ++ c ≡ h ++ (d ++ (a ++ b ++ c))
joined h d a b c = simp append_assoc

parts : (type offset : ℕ) → zero_text type offset ≡ before type ++ (decimal offset ++ behind type)
unfolding zero_text clear_pointer
parts type offset = go (eqb type 1) (leb type 11)
  where
    go : (x y : Bool)
        → cond x (zero_bool offset) (cond y (zero_data (primitive_text type) offset) (clear_pointer offset))
        ≡ cond x (ascii "self.builder.set_bool_field(")
        (cond y (ascii "self.builder.set_data_field::<" ++ primitive_text type ++ ascii ">(")
        (ascii "self.builder.reborrow().get_pointer_field("))
        ++ (decimal offset ++ cond x (ascii ", false);")
        (cond y (ascii ", 0" ++ primitive_text type ++ ascii ");") (ascii ").clear();")))
    go true y = sym (zero-bool offset) ∙ append_assoc (ascii "self.builder.set_bool_field(") (decimal offset) (ascii ", false);")
    go false true =
        sym (zero-data (primitive_text type) offset)
        ∙ joined (ascii "self.builder.set_data_field::<" ++ primitive_text type ++ ascii ">(") (decimal offset) (ascii ", 0")
        (primitive_text type) (ascii ");")
    go false false = append_assoc (ascii "self.builder.reborrow().get_pointer_field(") (decimal offset) (ascii ").clear();")

-- what holds of each number below n
abbrev Each : (ℕ → Type 0) → ℕ → Type 0
Each P zero = Unit {0}
Each P (suc n) = P zero × Each (λ k. P (suc k)) n

each : (n : ℕ) (P : ℕ → Type 0) → Each P n → (k : ℕ) → k < n → P k
each zero P h k lt = let z : ⊥ = omega arith in absurd z
each (suc n) P h zero lt = h.0
each (suc n) P h (suc k) lt = each n (λ k. P (suc k)) h.1 k (omega arith)

-- what holds of each type of a line
by_type : (P : ℕ → Type 0) → P 1 → P 2 → P 3 → P 4 → P 5 → P 6 → P 7 → P 8 → P 9 → P 10 → P 11 → P 12
    → (type : ℕ) → (type ≡ 0 → ⊥) → type ≤ 12 → P type
by_type P a b c d e f g h i j k l zero z m = absurd (z refl)
by_type P a b c d e f g h i j k l (suc n) z m =
    each 12 (λ k. P (suc k)) (a, (b, (c, (d, (e, (f, (g, (h, (i, (j, (k, (l, tt)))))))))))) n (omega arith)

key-line : (offset type : ℕ) → (type ≡ 0 → ⊥) → type ≤ 12 → key (zero_text type offset) ≡ (type, offset)
key-line offset type z m =
    let read = number-decimal offset in
    rw (parts type offset)
    (by_type (λ type. key (before type ++ (decimal offset ++ behind type)) ≡ (type, offset))
    (rw (read (behind 1))) (rw (read (behind 2))) (rw (read (behind 3))) (rw (read (behind 4))) (rw (read (behind 5)))
    (rw (read (behind 6))) (rw (read (behind 7))) (rw (read (behind 8))) (rw (read (behind 9))) (rw (read (behind 10)))
    (rw (read (behind 11))) (rw (read (behind 12))) type z m)

key_tag : (offset : ℕ) → key (zero_tag offset) ≡ (13, offset)
key_tag offset = rw (← zero_tag_lem offset, number-decimal offset (ascii ", 0);"))

-- ---- the laws

-- equal lines are equal type and offset
pub same_line : (c d o p : ℕ) → (c ≡ 0 → ⊥) → c ≤ 12 → (d ≡ 0 → ⊥) → d ≤ 12
    → same (zero_text c o) (zero_text d p) ≡ both (eqb o p) (eqb c d)
same_line c d o p c0 c12 d0 d12 = go (eqb o p) (eqb c d) refl refl
  where
    keys : key (zero_text c o) ≡ key (zero_text d p) → (c ≡ d) × (o ≡ p)
    keys e =
        let h : ◌≡◌ {A = ℕ × ℕ} (c, o) (d, p) = sym (key-line o c c0 c12) ∙ e ∙ key-line p d d0 d12 in
        (ap (λ (x : ℕ × ℕ). x.0) h, ap (λ (x : ℕ × ℕ). x.1) h)

    go : (x y : Bool) → eqb o p ≡ x → eqb c d ≡ y → same (zero_text c o) (zero_text d p) ≡ both x y
    go true true e f = rw (eqb-true o p e, eqb-true c d f) (same_refl (zero_text d p))
    go true false e f = differ key (zero_text c o) (zero_text d p) (λ k. eqb-false c d f (keys k).0)
    go false y e f = differ key (zero_text c o) (zero_text d p) (λ k. eqb-false o p e (keys k).1)

-- no slot's line is a tag's
pub tag_unlike : (d o p : ℕ) → (d ≡ 0 → ⊥) → d ≤ 12 → same (zero_tag o) (zero_text d p) ≡ false
tag_unlike d o p d0 d12 =
    differ key (zero_tag o) (zero_text d p) (λ e.
    let h : ◌≡◌ {A = ℕ × ℕ} (13, o) (d, p) = sym (key_tag o) ∙ e ∙ key-line p d d0 d12 in
    let z = ap (λ (x : ℕ × ℕ). x.0) h in
    omega arith)
