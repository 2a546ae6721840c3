-- Laws of texts that the Rust may refuse: what an answer tells of an outcome, and what a writer that stops at a refusal leaves.
-- Assumes nothing.
use mathlib.Core.Path.{◌≡◌, refl, sym, ◌∙◌, ap, subst}
use mathlib.Core.List.{List, [], ◌∷◌, ◌++◌}
use Rattle.std.specs.Prelude.{Option, None, Some, Result, Ok, Err}
use Prim.Native.Nat.{ℕ, ◌-◌, ◌^◌, ◌≤◌, min}
use native.Mathlib.Omega.{arith}
use lib.ListN.{take, set}
use Rattle.std.proofs.lemmas.List.{take-set-le, take-take}
use Rattle.text.specs.Bytes.{Str}
use Rattle.text.specs.Text.{next, adv, put, Wrote, WroteSome}
use Rattle.text.specs.declared.Text.{Text}
use Rattle.text.proofs.Laws.{length-put, ◌⨾◌}
use Rattle.tree.proofs.OtherLines.{never}
use Rattle.terms.specs.Refusals.{number}
use Rattle.terms.specs.declared.refusals.Refusal.{Refusal}
use Rattle.codegen_types.specs.Out.{Out, ok, refused, ◌then◌}
use Rattle.codegen_types.specs.Written.{Writes, Kept}

-- ---- outcomes

-- a refusal is no text
pub not-ok : {A : Type 0} {k : ℕ} {w : A} → refused k ≡ ok w → ⊥
not-ok {A} {k} {w} e = subst go e tt
  where
    go : Out A → Type 0
    go (ok a) = ⊥
    go (refused j) = Unit {0}

-- what an outcome gives is one text
pub ok-one : {A : Type 0} {v w : A} → ok v ≡ ok w → v ≡ w
ok-one {A} {v} {w} e = ap go e
  where
    go : Out A → A
    go (ok a) = a
    go (refused j) = v

ok-same : {A : Type 0} {v w : A} → ◌≡◌ {A = Result A Refusal} (Ok v) (Ok w) → v ≡ w
ok-same {A} {v} {w} e = ap go e
  where
    go : Result A Refusal → A
    go (Ok a) = a
    go (Err j) = v

-- ---- what a writer answers for an outcome

-- a whole text
pub whole : {l : List ℕ} {t : Text} {w : Str} {l' : List ℕ} {u : Text} → Wrote l t w l' u → Writes (ok w) l t l' (Ok u)
whole {l} {t} {w} {l'} {u} h = record {
  refusal = refl;
  text = λ v x e f. subst (λ (y : Text). Wrote l t v l' y) (ok-same f)
      (subst (λ (y : Str). Wrote l t y l' u) (ok-one e) h);
}

-- a refusal
pub refused-text : {l : List ℕ} {t : Text} {k : ℕ} {l' : List ℕ} {e : Refusal} → number e ≡ k
    → Writes (refused k) l t l' (Err e)
refused-text n = record { refusal = ap Some n; text = λ w u e f. absurd (not-ok e) }

-- ---- what an answer tells of the outcome

-- the outcome is a text, and it is written
pub record Text-of (o : Out Str) (l : List ℕ) (t : Text) (l' : List ℕ) (u : Text) : Type 0 where
  pub text : Str
  pub is : o ≡ ok text
  pub wrote : Wrote l t text l' u

pub text-of : {l : List ℕ} {t : Text} {l' : List ℕ} {u : Text} (o : Out Str) → Writes o l t l' (Ok u) → Text-of o l t l' u
text-of (ok w) h = record { text = w; is = refl; wrote = h.text w _ refl refl }
text-of (refused k) h = let e = h.refusal in never cc

-- the outcome is the refusal
pub refusal-is : {l : List ℕ} {t : Text} {l' : List ℕ} {e : Refusal} (o : Out Str) → Writes o l t l' (Err e)
    → o ≡ refused (number e)
refusal-is (ok w) h = let e = h.refusal in never cc
refusal-is (refused k) h = ap go (sym h.refusal)
  where
    go : Option ℕ → Out Str
    go None = refused 0
    go (Some j) = refused j

-- a refusal is that of whatever goes on after it, wherever it is written
pub stops : {l l₀ l₁ : List ℕ} {t t₀ : Text} {l' : List ℕ} {e : Refusal} (o : Out Str) (f : Str → Out Str)
    → Writes o l t l' (Err e) → Writes (o then f) l₀ t₀ l₁ (Err e)
stops o f h = rw (refusal-is o h) (refused-text refl)

-- bytes in front of a text and behind it, in front of one, and behind one: q is what the writer of all of it answers
pub around :
    {a b : Str} {l l₁ l₂ l₃ : List ℕ} {t t₁ t₃ : Text} {r : Result Text Refusal} (o : Out Str) (q : Result Text Refusal)
    → Wrote l t a l₁ t₁ → Writes o l₁ t₁ l₂ r → ((u : Text) → r ≡ Ok u → Wrote l₂ u b l₃ t₃ × (q ≡ Ok t₃))
    → ((e : Refusal) → r ≡ Err e → q ≡ Err e) → Writes (o then λ w. ok (a ++ w ++ b)) l t l₃ q
around {r = Ok u} o q front h f g =
    let s = text-of o h in
    let p = f u refl in
    rw (p.1, s.is) (whole (front ⨾ s.wrote ⨾ p.0))
around {r = Err e} o q front h f g = rw (g e refl) (stops o _ h)

pub in_front :
    {a : Str} {l l₁ l₂ : List ℕ} {t t₁ : Text} {r : Result Text Refusal} (o : Out Str) → Wrote l t a l₁ t₁
    → Writes o l₁ t₁ l₂ r → Writes (o then λ w. ok (a ++ w)) l t l₂ r
in_front {r = Ok u} o front h = let s = text-of o h in rw s.is (whole (front ⨾ s.wrote))
in_front {r = Err e} o front h = stops o _ h

pub behind :
    {b : Str} {l l₁ l₂ : List ℕ} {t t₂ : Text} {r : Result Text Refusal} (o : Out Str) (q : Result Text Refusal)
    → Writes o l t l₁ r → ((u : Text) → r ≡ Ok u → Wrote l₁ u b l₂ t₂ × (q ≡ Ok t₂))
    → ((e : Refusal) → r ≡ Err e → q ≡ Err e) → Writes (o then λ w. ok (w ++ b)) l t l₂ q
behind {r = Ok u} o q h f g =
    let s = text-of o h in
    let p = f u refl in
    rw (p.1, s.is) (whole (s.wrote ⨾ p.0))
behind {r = Err e} o q h f g = rw (g e refl) (stops o _ h)

-- a text after another, either of which may be refused: the first refusal counts
pub both :
    {l l₁ l₂ : List ℕ} {t : Text} {r : Result Text Refusal} (o₁ o₂ : Out Str) (q : Result Text Refusal) → Writes o₁ l t l₁ r
    → ((u : Text) → r ≡ Ok u → Writes o₂ l₁ u l₂ q) → ((e : Refusal) → r ≡ Err e → q ≡ Err e)
    → Writes (o₁ then λ a. o₂ then λ b. ok (a ++ b)) l t l₂ q
both {r = Ok u} o₁ o₂ q h f g = let s = text-of o₁ h in rw s.is (in_front o₂ s.wrote (f u refl))
both {r = Err e} o₁ o₂ q h f g = rw (g e refl) (stops o₁ _ h)

-- ---- the buffer

within-next : (t : Text) → min t.at (2 ^ 64 - 1) ≤ min (next t).at (2 ^ 64 - 1)
unfolding next
within-next t = omega arith

grows : (t : Text) (s : List ℕ) → min t.at (2 ^ 64 - 1) ≤ min (adv t s).at (2 ^ 64 - 1)
unfolding adv
grows t [] = omega arith
grows t (x ∷ s) = let a = within-next t in let b = grows (next t) s in omega arith

put-before : (l : List ℕ) (t : Text) (s : List ℕ) (n : ℕ) → n ≤ min t.at (2 ^ 64 - 1) → take n (put l t s) ≡ take n l
unfolding put
put-before l t [] n h = refl
put-before l t (x ∷ s) n h =
    let a = within-next t in
    put-before (set l t.at x) (next t) s n (omega arith) ∙ take-set-le n l t.at x (omega arith)

take-less : (n m : ℕ) (a b : List ℕ) → n ≤ m → take m a ≡ take m b → take n a ≡ take n b
take-less n m a b h e = sym (take-take n m a h) ∙ ap (take n) e ∙ take-take n m b h

-- a buffer that nothing was written into; one with a text; one where more was written at a count that did not fall, as behind
-- a text
pub kept-all : {l : List ℕ} {t : Text} → Kept l t l
kept-all = record { size = refl; before = refl }

pub kept-text : {l : List ℕ} {t : Text} {l' : List ℕ} {u : Text} → WroteSome l t l' u → Kept l t l'
kept-text {l} {t} h = record {
  size = rw h.wrote.bytes (length-put l t h.text);
  before = rw h.wrote.bytes (put-before l t h.text (min t.at (2 ^ 64 - 1)) (omega arith));
}

-- the fill count, up to where it stops, does not fall
pub further : {l : List ℕ} {t : Text} {l' : List ℕ} {u : Text} → WroteSome l t l' u
    → min t.at (2 ^ 64 - 1) ≤ min u.at (2 ^ 64 - 1)
further {t = t} h = rw h.wrote.state (grows t h.text)

pub kept-further : {l : List ℕ} {t : Text} {l₁ : List ℕ} {u : Text} {l₂ : List ℕ} → Kept l t l₁
    → min t.at (2 ^ 64 - 1) ≤ min u.at (2 ^ 64 - 1) → Kept l₁ u l₂ → Kept l t l₂
kept-further {l} {t} {l₁} {u} {l₂} a b k = record {
  size = k.size ∙ a.size;
  before = take-less (min t.at (2 ^ 64 - 1)) (min u.at (2 ^ 64 - 1)) l₂ l₁ b k.before ∙ a.before;
}

pub kept-behind : {l : List ℕ} {t : Text} {l₁ : List ℕ} {u : Text} {l₂ : List ℕ} → WroteSome l t l₁ u → Kept l₁ u l₂
    → Kept l t l₂
kept-behind h k = kept-further (kept-text h) (further h) k
