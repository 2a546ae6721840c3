-- Laws of writing: one text after another, lengths, and what is left of a loop's text. By induction on the text. Assumes
-- nothing.
use mathlib.Core.Path.{◌≡◌, refl, sym, ap, subst, ◌∙◌}
use mathlib.Core.List.{List, [], ◌∷◌, ◌++◌}
use Prim.Native.Nat.{ℕ, ◌+◌, ◌<◌}
use native.Mathlib.Numerals.{add-one}
use lib.ListN.{set, length, drop, get_or, length-set}
use lib.Seq.{drop-cons}
use Rattle.text.specs.Bytes.{unit}
use Rattle.text.specs.Text.{next, adv, put, Wrote, WroteLines, WroteSome}
use Rattle.text.specs.declared.Text.{Text}

infixl 50 ◌⨾◌ ◌⋄◌
pub adv_append : (t : Text) (a b : List ℕ) → adv t (a ++ b) ≡ adv (adv t a) b
unfolding adv
adv_append t [] b = refl
adv_append t (x ∷ a) b = adv_append (next t) a b

pub put_append : (l : List ℕ) (t : Text) (a b : List ℕ) → put l t (a ++ b) ≡ put (put l t a) (adv t a) b
unfolding put adv
put_append l t [] b = refl
put_append l t (x ∷ a) b = put_append (set l t.at x) (next t) a b

pub length-put : (l : List ℕ) (t : Text) (a : List ℕ) → length (put l t a) ≡ length l
unfolding put
length-put l t [] = refl
length-put l t (x ∷ a) = length-put (set l t.at x) (next t) a ∙ length-set l t.at x

-- one text after another
pub ◌⨾◌ : {l : List ℕ} {t : Text} {a l₁ : List ℕ} {t₁ : Text} {b l₂ : List ℕ} {t₂ : Text} → Wrote l t a l₁ t₁
    → Wrote l₁ t₁ b l₂ t₂ → Wrote l t (a ++ b) l₂ t₂
e ⨾ f = record {
  bytes = rw put_append (rw (← e.bytes, ← e.state) f.bytes);
  state = rw adv_append (rw (← e.state) f.state);
}

-- no text changes the level
pub adv-level : (t : Text) (a : List ℕ) → (adv t a).level ≡ t.level
unfolding adv next
adv-level t [] = refl
adv-level t (x ∷ a) = adv-level (next t) a

pub level : {l : List ℕ} {t : Text} {a l₁ : List ℕ} {t₁ : Text} → Wrote l t a l₁ t₁ → t₁.level ≡ t.level
level {t = t} {a = a} e = rw e.state (adv-level t a)

-- lines: those of a text that has no level, those of a text at a known one, and one after another
pub flat : {l : List ℕ} {t : Text} {a l₁ : List ℕ} {t₁ : Text} → Wrote l t a l₁ t₁ → WroteLines l t (λ n. a) l₁ t₁
flat e = record { lines = e }

pub at : {l : List ℕ} {t : Text} {f : ℕ → List ℕ} {l₁ : List ℕ} {t₁ : Text} {n : ℕ} → t.level ≡ n → WroteLines l t f l₁ t₁
    → Wrote l t (f n) l₁ t₁
at h e = rw (← h) e.lines

-- lines that are known by what they are at the level of the state; and none
pub at-once : {l : List ℕ} {t : Text} {f : ℕ → List ℕ} {l₁ : List ℕ} {t₁ : Text} → Wrote l t (f t.level) l₁ t₁
    → WroteLines l t f l₁ t₁
at-once e = record { lines = e }

pub known-at : {l : List ℕ} {t : Text} {f : ℕ → List ℕ} {a l₁ : List ℕ} {t₁ : Text} {n : ℕ} → t.level ≡ n → f n ≡ a
    → Wrote l t a l₁ t₁ → WroteLines l t f l₁ t₁
known-at {l} {t} {f} {a} {l₁} {t₁} h g e = record { lines = subst (λ (s : List ℕ). Wrote l t s l₁ t₁) (sym (ap f h ∙ g)) e }

pub nothing-at : {l : List ℕ} {t : Text} {f : ℕ → List ℕ} → f t.level ≡ [] → WroteLines l t f l t
unfolding put adv
nothing-at h = record { lines = rw h (record { bytes = refl; state = refl }) }

pub ◌⋄◌ : {l : List ℕ} {t : Text} {f : ℕ → List ℕ} {l₁ : List ℕ} {t₁ : Text} {g : ℕ → List ℕ} {l₂ : List ℕ} {t₂ : Text}
    → WroteLines l t f l₁ t₁ → WroteLines l₁ t₁ g l₂ t₂ → WroteLines l t (λ n. f n ++ g n) l₂ t₂
e ⋄ f = record { lines = e.lines ⨾ at (level e.lines) f }

-- the same text in other words
pub reworded : {l : List ℕ} {t : Text} {f g : ℕ → List ℕ} {l₁ : List ℕ} {t₁ : Text} → ((n : ℕ) → f n ≡ g n)
    → WroteLines l t f l₁ t₁ → WroteLines l t g l₁ t₁
reworded {t = t} h e = record { lines = rw (← h t.level) e.lines }

-- the buffer keeps its length
pub kept : {l : List ℕ} {t : Text} {a l₁ : List ℕ} {t₁ : Text} → Wrote l t a l₁ t₁ → length l₁ ≡ length l
kept {l} {t} {a} e = rw e.bytes (length-put l t a)

-- some text: a text that is known, none, and one after another
pub some-text : {l : List ℕ} {t : Text} {a l₁ : List ℕ} {t₁ : Text} → Wrote l t a l₁ t₁ → WroteSome l t l₁ t₁
some-text {a = a} e = record { text = a; wrote = e }

pub no_text : {l : List ℕ} {t : Text} → WroteSome l t l t
unfolding put adv
no_text = record { text = []; wrote = record { bytes = refl; state = refl } }

infixl 50 ◌⨟◌
pub ◌⨟◌ : {l : List ℕ} {t : Text} {l₁ : List ℕ} {t₁ : Text} {l₂ : List ℕ} {t₂ : Text} → WroteSome l t l₁ t₁
    → WroteSome l₁ t₁ l₂ t₂ → WroteSome l t l₂ t₂
e ⨟ f = some-text (e.wrote ⨾ f.wrote)

-- for loops: what is left, s at t into l, makes what the whole, s₀ at t₀ into l₀, makes
pub record Left (l : List ℕ) (t : Text) (s l₀ : List ℕ) (t₀ : Text) (s₀ : List ℕ) : Type 0 where
  pub bytes : put l t s ≡ put l₀ t₀ s₀
  pub state : adv t s ≡ adv t₀ s₀

pub left-all : {l : List ℕ} {t : Text} {s : List ℕ} → Left l t s l t s
left-all = record { bytes = refl; state = refl }

pub left-more : {l : List ℕ} {t : Text} {a b l₀ : List ℕ} {t₀ : Text} {s₀ l₁ : List ℕ} {t₁ : Text} → Left l t (a ++ b) l₀ t₀ s₀
    → Wrote l t a l₁ t₁ → Left l₁ t₁ b l₀ t₀ s₀
left-more {l} {t} {a} {b} f e = record {
  bytes = rw (e.bytes, e.state) (sym (put_append l t a b) ∙ f.bytes);
  state = rw e.state (sym (adv_append t a b) ∙ f.state);
}

-- a loop's turn: what is left of s from i on is its byte at i and what is left from i + 1 on
pub drop-unit : (i : ℕ) (s : List ℕ) → i < length s → drop i s ≡ unit (get_or s i 0) ++ drop (i + 1) s
drop-unit i s h = rw (add-one, drop-cons s i 0)

pub left-none : {l : List ℕ} {t : Text} {l₀ : List ℕ} {t₀ : Text} {s₀ : List ℕ} → Left l t [] l₀ t₀ s₀ → Wrote l₀ t₀ s₀ l t
unfolding put adv
left-none f = record { bytes = f.bytes; state = f.state }

-- a loop over lines
pub left-lines : {l : List ℕ} {t : Text} {f : ℕ → List ℕ} {b l₀ : List ℕ} {t₀ : Text} {s₀ l₁ : List ℕ} {t₁ : Text} {n : ℕ}
    → t.level ≡ n → Left l t (f n ++ b) l₀ t₀ s₀ → WroteLines l t f l₁ t₁ → Left l₁ t₁ b l₀ t₀ s₀
left-lines h e w = left-more e (at h w)
