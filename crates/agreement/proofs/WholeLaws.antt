-- The names, roots and modules of an admitted sheet have no byte 10, so that each stands within one line. Assumes nothing.
use Rattle.std.specs.Prelude.{◌≡◌, ℕ, ◌+◌, Bool, true, false, not, eqb, [], ◌∷◌, ◌++◌}
use mathlib.Core.Path.{refl, ap₂, ◌∙◌}
use Prim.Native.String.{String}
use native.Mathlib.Omega.{arith}
use borrow.Author.Tests.{eqb-false, ne_eqb}
use Rattle.text.specs.Bytes.{Str, ascii, unit, cond, both}
use Rattle.column.specs.Texts.{between, is_word, is_graphic, all, sized, is_field_name, is_graphic_text}
use Rattle.column.proofs.Laws.{passed, field-name_chars}
use Rattle.column.proofs.CharLaws.{or_high, chars_all}
use Rattle.names.specs.Names.{is_uppercase, snake_byte, snake_from, taken, camel_to_snake_case}
use Rattle.meaning.specs.Meaning.{whole}
use Rattle.meaning.proofs.LineLaws.{whole_append}

-- a text within one line; a nominal record, so that its parts are found
pub record Whole (s : Str) : Type 0 where
  pub is : whole s ≡ true

infixl 50 ◌⊹◌
-- one after the other
pub ◌⊹◌ : {a b : Str} → Whole a → Whole b → Whole (a ++ b)
◌⊹◌ {a} {b} v w = record { is = whole_append a b ∙ ap₂ both v.is w.is }

-- fixed bytes
pub fixed : (t : String) → whole (ascii t) ≡ true → Whole (ascii t)
fixed t e = record { is = e }

-- one byte that is not 10, in front of a text
whole_cons : (c : ℕ) (s : Str) → (c ≡ 10 → ⊥) → whole s ≡ true → whole (c ∷ s) ≡ true
whole_cons c s h w = rw (ne_eqb c 10 h) w

-- bytes that all pass a test which byte 10 fails
whole-all : (ok : ℕ → Bool) → ok 10 ≡ false → (t : Str) → all ok t ≡ true → whole t ≡ true
unfolding all
whole-all ok h [] e = refl
whole-all ok h (c ∷ t) e =
    let (passes, rest) = passed (ok c) (all ok t) e in
    whole_cons c t (λ z. cc)
    (whole-all ok h t rest)

pub whole_graphic : (most : ℕ) (t : Str) → is_graphic_text most t ≡ true → Whole t
unfolding is_graphic_text is_graphic
whole_graphic most t e = record { is = whole-all is_graphic refl t (passed (sized most t) (all is_graphic t) e).1 }

pub whole-name : (t : Str) → is_field_name t ≡ true → Whole t
unfolding is_word
whole-name t e =
    record { is = whole-all (or_high is_word) refl t (chars_all is_word false t (field-name_chars t e)) }

-- ---- snake names

whole-byte : (first : Bool) (b : ℕ) (t : Str) → (b ≡ 10 → ⊥) → whole (snake_byte first b t) ≡ true
whole-byte first b t h = go (is_uppercase b t) first (between 65 90 b)
  where
    go :
        (capital first lowered : Bool)
        → whole (cond (both capital (not first)) (unit 95) [] ++ unit (cond lowered (b + 32) b)) ≡ true
    go true true true = whole_cons (b + 32) [] (λ e. omega arith) refl
    go true true false = whole_cons b [] h refl
    go _ _ true = whole_cons (b + 32) [] (λ e. omega arith) refl
    go _ _ false = whole_cons b [] h refl

whole-snake : (first : Bool) (t : Str) → whole t ≡ true → whole (snake_from first t) ≡ true
unfolding snake_from
whole-snake first [] w = refl
whole-snake first (c ∷ t) w =
    let (h, rest) = parts (eqb c 10) refl w in
    rw (whole_append, whole-byte first c t h) (whole-snake false t rest)
  where
    parts : (b : Bool) → eqb c 10 ≡ b → cond b false (whole t) ≡ true → (c ≡ 10 → ⊥) × (whole t ≡ true)
    parts true e w = cc
    parts false e w = (eqb-false c 10 e, w)

pub whole_camel : (t : Str) → Whole t → Whole (camel_to_snake_case t)
unfolding camel_to_snake_case
whole_camel t w = record { is = go (taken t) }
  where
    go : (b : Bool) → whole (cond b (snake_from true t) []) ≡ true
    go true = whole-snake true t w.is
    go false = refl
