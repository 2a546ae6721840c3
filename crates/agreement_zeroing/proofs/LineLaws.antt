-- The line of a slot's zeroing by the number of its type's kind: a slot's with bits, a pointer's, or none for Void. Each is a
-- zero's line. By cases on the kind. Assumes nothing.
use Rattle.std.specs.Option.{option_map}
use Rattle.std.specs.Prelude.{◌≡◌, ℕ, suc, ◌-◌, ◌≤◌, Bool, true, false, eqb, leb, List, [], ◌∷◌}
use mathlib.Core.Path.{refl, sym, ◌∙◌}
use mathlib.Core.Logic.{inl, inr}
use Rattle.std.specs.Prelude.{Option, None, Some}
use native.Mathlib.Omega.{arith}
use native.Mathlib.Decide.{ℕ_discrete}
use borrow.Author.Tests.{eqb-true, eq-eqb, ne_eqb, leb-true, lt-leb}
use Rattle.text.specs.Bytes.{Str, ascii, cond, either, same}
use Rattle.text.proofs.BytesLaws.{both_true}
use Rattle.tree.specs.Tree.{kind, Slot}
use Rattle.codegen_types.specs.TypeString.{is_pointer}
use Rattle.calls.specs.Calls.{zero_bool, zero_data, clear_pointer}
use Rattle.codegen_types.specs.Primitive.{primitive_text}
use Rattle.codegen.specs.Zeroing as codegen
use Rattle.codegen.specs.Zeroing.{contains}
use Rattle.record.specs.Lines.{Zero, of_slot, of_pointer, zero_call, zeroing_line}
use Rattle.record.specs.Types.{Kind, kind_of}
use Rattle.meaning.specs.Claims.{In}

-- the zero of a slot with bits, of a pointer, or none for Void
abbrev zero_at : ℕ → ℕ → Option Kind → Option Zero
zero_at n o (Some k) = Some (of_slot k o)
zero_at n o None = cond (eqb n 0) None (Some (of_pointer o))

-- codegen's line of a slot, by the number of its type's kind
abbrev line_at : ℕ → ℕ → Option Str
line_at n o =
    cond (eqb n 0) None
    (cond (eqb n 1) (Some (zero_bool o))
    (cond (leb n 11) (Some (zero_data (primitive_text n) o))
    (cond (eqb n 15) (Some (zero_data (ascii "u16") o))
    (Some (clear_pointer o)))))

-- P holds of the numbers from a on: of a and of those after it, or of all of them by one law
infixr 50 ◌⊹◌
data Each (P : ℕ → Type 0) : ℕ → Type 0 where
  ◌⊹◌ : {a : ℕ} → P a → Each P (suc a) → Each P a
  rest : {a : ℕ} → ((k : ℕ) → a ≤ k → P k) → Each P a

each : (P : ℕ → Type 0) {a : ℕ} → Each P a → (k : ℕ) → a ≤ k → P k
each P (rest f) k h = f k h
each P {a = a} (p ⊹ e) k h = go (ℕ_discrete k a) (each P e k)
  where
    go : Dec (k ≡ a) → (suc a ≤ k → P k) → P k
    go (yes d) more = rw d p
    go (no d) more = more (omega arith)

-- above 15 all are pointers
abbrev above : ℕ → ℕ
above k = suc (suc (suc (suc (suc (suc (suc (suc (suc (suc (suc (suc (suc (suc (suc (suc k)))))))))))))))

no_kind : (n : ℕ) → 16 ≤ n → kind_of n ≡ None
unfolding kind_of
no_kind n h = let e : n ≡ above (n - 16) = omega arith in rw e refl

line_clear : (n o : ℕ) → 12 ≤ n → (n ≡ 15 → ⊥) → line_at n o ≡ Some (clear_pointer o)
line_clear n o h ne =
    rw (ne_eqb n 0 (λ e. omega arith), ne_eqb n 1 (λ e. omega arith), lt-leb n 11 (omega arith), ne_eqb n 15 ne)

line-high : (n o : ℕ) → 16 ≤ n → line_at n o ≡ option_map zeroing_line (zero_at n o (kind_of n))
line-high n o h = line_clear n o (omega arith) (λ e. omega arith) ∙ sym (rw (no_kind n h, ne_eqb n 0 (λ e. omega arith)))

line-zero : (n o : ℕ) → line_at n o ≡ option_map zeroing_line (zero_at n o (kind_of n))
unfolding kind_of
line-zero n o = each (λ n. line_at n o ≡ option_map zeroing_line (zero_at n o (kind_of n))) all n (omega arith)
  where
    all : Each (λ n. line_at n o ≡ option_map zeroing_line (zero_at n o (kind_of n))) 0
    all =
        refl ⊹ refl ⊹ refl ⊹ refl ⊹ refl ⊹ refl ⊹ refl ⊹ refl ⊹ refl ⊹ refl ⊹ refl ⊹ refl ⊹ refl ⊹ refl ⊹ refl ⊹ refl
        ⊹ rest (λ n h. line-high n o h)

-- a slot with bits
pub slot-line : (s : Slot) (k : Kind) → kind_of (kind s.ty) ≡ Some k → codegen.zero_line s ≡ Some (zero_call k s.offset)
unfolding codegen.zero_line
slot-line s k e = line-zero (kind s.ty) s.offset ∙ rw e

pub pointer-line : (s : Slot) → is_pointer s.ty ≡ true → codegen.zero_line s ≡ Some (clear_pointer s.offset)
unfolding codegen.zero_line
pointer-line s e =
    let n = kind s.ty in
    let h = both_true (leb 12 n) (cond (eqb n 15) false true) e in
    line_clear n s.offset (leb-true 12 n h.0) (λ z. let e = rw (eq-eqb n 15 z) at h.1 in cc)

-- the line of any slot is a zero's
pub zero_of : (s : Slot) (l : Str) → codegen.zero_line s ≡ Some l → (z : Zero) × (zeroing_line z ≡ l)
unfolding codegen.zero_line
zero_of s l e = go (zero_at (kind s.ty) s.offset (kind_of (kind s.ty))) (sym (line-zero (kind s.ty) s.offset) ∙ e)
  where
    go : (z : Option Zero) → option_map zeroing_line z ≡ Some l → (z : Zero) × (zeroing_line z ≡ l)
    go None e = cc
    go (Some z) e = (z, cc)

-- ---- lines that were seen before

same-equal : (a b : Str) → same a b ≡ true → a ≡ b
unfolding same
same-equal [] [] e = refl
same-equal (x ∷ a) (y ∷ b) e =
    let h = both_true (eqb x y) (same a b) e in
    let f : x ≡ y = eqb-true x y h.0 in
    let g : a ≡ b = same-equal a b h.1 in
    cc
same-equal _ _ e = cc

pub contains_in : (seen : List Str) (l : Str) → contains seen l ≡ true → In l seen
unfolding contains
contains_in [] l e = cc
contains_in (m ∷ seen) l e = go (same m l) refl e (contains_in seen l)
  where
    go : (b : Bool) → same m l ≡ b → either b (contains seen l) ≡ true → (contains seen l ≡ true → In l seen) → In l (m ∷ seen)
    go true h e more = inl (sym (same-equal m l h))
    go false h e more = inr (more e)
