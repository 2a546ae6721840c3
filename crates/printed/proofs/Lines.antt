-- What is told of a reading by the first row: for each letter, a row that says such a line is that line printed, in its bounds.
-- Assumes nothing.
use mathlib.Core.Path.{◌≡◌, refl, sym, ap, subst}
use mathlib.Core.List.{[], ◌∷◌}
use Prim.Native.Nat.{ℕ}
use Rattle.text.specs.Bytes.{Str}
use Rattle.row.specs.Rows.{rest_of}
use Rattle.row.specs.Line.{Content, line_at, text_at, fault_of}
use Rattle.row.specs.Line.{as_root, as_node, as_parameter, as_field, as_group, as_type, as_scope, as_unbound, as_value, as_word}
use Rattle.row.specs.Print.{print_line, Fits}
use Rattle.row.specs.Line.{Root, Node, Parameter, Field, Group, Typ, Scope, Unbound, Value, Word}
use Rattle.row.proofs.ReadLaws.{Good, printed-line}
use Rattle.tree.specs.Reader.{Rows, Reader, or_fault, on_root, on_node, on_parameter, on_field, on_group}
use Rattle.tree.specs.Reader.{on_type, on_scope, on_unbound, on_value, on_word}
use Rattle.tree.proofs.WalkLaws.{by_told}
use Rattle.printed.proofs.Reading.{Tells, nothing}

-- the first row is the line l printed, in its bounds
pub record Says (rs : Rows) (l : Content) : Type 0 where
  pub row : rs ≡ print_line l (text_at rs) ∷ rest_of rs
  pub fits : Fits l (text_at rs)

-- a row that says a line
says : (rs : Rows) (l : Content) → Good l → line_at rs ≡ l → Says rs l
unfolding line_at text_at rest_of
says [] l g e = absurd (subst Good (sym e) g)
says (r ∷ rs) l g e =
    let p = printed-line r l g e in
    record { row = ap (λ (r : Str). r ∷ rs) p.whole; fits = p.fits }

-- A reader that goes on after a line of its letter, and another for every other line, but for a bad one with that letter: what
-- holds of what each of them reads.
module _ {A : Type 0} {P : A → Rows → Type 0} (rs : Rows) (other : Reader A) (told-other : Tells P (other rs)) where
  or-fault : (letter : ℕ) → Tells P (or_fault letter other rs)
  or-fault letter = by_told (Tells P) (fault_of letter (line_at rs)) other rs (λ k. nothing) told-other

  pub tells-root :
      (f : Str → Reader A) → (Says rs Root → Tells P (f (text_at rs) (rest_of rs))) → Tells P (on_root f other rs)
  tells-root f h = go (line_at rs) refl
    where
      go :
          (l : Content) → line_at rs ≡ l
          → Tells P (as_root {A = Reader A} l (λ rs. f (text_at rs) (rest_of rs)) (or_fault 82 other) rs)
      go Root e = h (says rs _ tt e)
      go _ e = or-fault 82

  pub tells-node :
      (f : ℕ → ℕ → ℕ → ℕ → ℕ → ℕ → ℕ → Str → Reader A)
      → ((i q k x y c o : ℕ) → Says rs (Node i q k x y c o) → Tells P (f i q k x y c o (text_at rs) (rest_of rs)))
      → Tells P (on_node f other rs)
  tells-node f h = go (line_at rs) refl
    where
      go :
          (l : Content) → line_at rs ≡ l
          → Tells P (as_node {A = Reader A} l (λ i q k x y c o rs. f i q k x y c o (text_at rs) (rest_of rs))
          (or_fault 78 other) rs)
      go (Node i q k x y c o) e = h i q k x y c o (says rs _ tt e)
      go _ e = or-fault 78

  pub tells-parameter :
      (f : Str → Reader A)
      → (Says rs Parameter → Tells P (f (text_at rs) (rest_of rs))) → Tells P (on_parameter f other rs)
  tells-parameter f h = go (line_at rs) refl
    where
      go :
          (l : Content) → line_at rs ≡ l
          → Tells P (as_parameter {A = Reader A} l (λ rs. f (text_at rs) (rest_of rs)) (or_fault 80 other) rs)
      go Parameter e = h (says rs _ tt e)
      go _ e = or-fault 80

  pub tells-field :
      (f : ℕ → ℕ → ℕ → ℕ → Str → Reader A)
      → ((o d e q : ℕ) → Says rs (Field o d e q) → Tells P (f o d e q (text_at rs) (rest_of rs)))
      → Tells P (on_field f other rs)
  tells-field f h = go (line_at rs) refl
    where
      go :
          (l : Content) → line_at rs ≡ l
          → Tells P (as_field {A = Reader A} l (λ o d e q rs. f o d e q (text_at rs) (rest_of rs)) (or_fault 70 other) rs)
      go (Field o d e q) j = h o d e q (says rs _ tt j)
      go _ e = or-fault 70

  pub tells-group :
      (f : ℕ → ℕ → Str → Reader A)
      → ((i d : ℕ) → Says rs (Group i d) → Tells P (f i d (text_at rs) (rest_of rs))) → Tells P (on_group f other rs)
  tells-group f h = go (line_at rs) refl
    where
      go :
          (l : Content) → line_at rs ≡ l
          → Tells P (as_group {A = Reader A} l (λ i d rs. f i d (text_at rs) (rest_of rs)) (or_fault 71 other) rs)
      go (Group i d) e = h i d (says rs _ tt e)
      go _ e = or-fault 71

  pub tells-type :
      (f : ℕ → ℕ → ℕ → ℕ → Reader A)
      → ((k a b c : ℕ) → Says rs (Typ k a b c) → Tells P (f k a b c (rest_of rs))) → Tells P (on_type f other rs)
  tells-type f h = go (line_at rs) refl
    where
      go :
          (l : Content) → line_at rs ≡ l
          → Tells P (as_type {A = Reader A} l (λ k a b c rs. f k a b c (rest_of rs)) (or_fault 84 other) rs)
      go (Typ k a b c) e = h k a b c (says rs _ tt e)
      go _ e = or-fault 84

  pub tells-scope :
      (f : ℕ → ℕ → ℕ → Reader A)
      → ((i b n : ℕ) → Says rs (Scope i b n) → Tells P (f i b n (rest_of rs))) → Tells P (on_scope f other rs)
  tells-scope f h = go (line_at rs) refl
    where
      go :
          (l : Content) → line_at rs ≡ l
          → Tells P (as_scope {A = Reader A} l (λ i b n rs. f i b n (rest_of rs)) (or_fault 83 other) rs)
      go (Scope i b n) e = h i b n (says rs _ tt e)
      go _ e = or-fault 83

  pub tells-unbound :
      (f : Reader A) → (Says rs Unbound → Tells P (f (rest_of rs))) → Tells P (on_unbound f other rs)
  tells-unbound f h = go (line_at rs) refl
    where
      go :
          (l : Content) → line_at rs ≡ l
          → Tells P (as_unbound {A = Reader A} l (λ rs. f (rest_of rs)) (or_fault 85 other) rs)
      go Unbound e = h (says rs _ tt e)
      go _ e = or-fault 85

  pub tells-value :
      (f : ℕ → ℕ → Reader A)
      → ((k b : ℕ) → Says rs (Value k b) → Tells P (f k b (rest_of rs))) → Tells P (on_value f other rs)
  tells-value f h = go (line_at rs) refl
    where
      go :
          (l : Content) → line_at rs ≡ l
          → Tells P (as_value {A = Reader A} l (λ k b rs. f k b (rest_of rs)) (or_fault 86 other) rs)
      go (Value k b) e = h k b (says rs _ tt e)
      go _ e = or-fault 86

  pub tells-word :
      (f : ℕ → Reader A) → ((w : ℕ) → Says rs (Word w) → Tells P (f w (rest_of rs))) → Tells P (on_word f other rs)
  tells-word f h = go (line_at rs) refl
    where
      go :
          (l : Content) → line_at rs ≡ l
          → Tells P (as_word {A = Reader A} l (λ w rs. f w (rest_of rs)) (or_fault 87 other) rs)
      go (Word w) e = h w (says rs _ tt e)
      go _ e = or-fault 87
