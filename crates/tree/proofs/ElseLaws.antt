-- The other way of a `let Ok(..) = line else` of the code: what stands there is a bad line, or one of another letter, and that
-- letter's reader takes the other way too. Assumes nothing.
use mathlib.Core.Path.{◌≡◌, refl, ap}
use Rattle.std.specs.Prelude.{Option, None, Result, Ok, Err}
use Prim.Native.Nat.{ℕ}
use denote.Enum.Declared.{tag_of}
use Rattle.row.specs.contracts.Line.{the_type}
use Rattle.row.specs.Line.{Fault, good_said, line_said, as_root, as_node, as_parameter, as_type, as_scope, as_unbound, as_value}
use Rattle.row.specs.Line.{as_word, fault_of}
use Rattle.row.specs.declared.BadLine.{BadLine}
use Rattle.row.specs.declared.Line.{Line}
use Rattle.row.specs.declared.Line.TheVariants.{Root, Node, Parameter, Field, Group, Typ, Scope, Unbound, Value, Word}
use Rattle.tree.proofs.OtherLines.{not_root, not_root-tag, not-node, not_node-tag, not-parameter, not_parameter-tag, not-type}
use Rattle.tree.proofs.OtherLines.{not_type-tag, not-scope, not_scope-tag, not-unbound, not_unbound-tag, not-value, not_value-tag}
use Rattle.tree.proofs.OtherLines.{not-word, not_word-tag}

-- a line that is none with a tag
abbrev pub OtherThan : ℕ → Result Line BadLine → Type 0
OtherThan k (Ok l) = tag_of the_type l ≡ k → ⊥
OtherThan k (Err b) = Unit {0}

-- a line that is none with a tag, by what it would be
pub other-than : (k : ℕ) (l : Result Line BadLine) → ((f : Line) → l ≡ Ok f → tag_of the_type f ≡ k → ⊥) → OtherThan k l
other-than k (Ok l) h = h l refl
other-than k (Err b) h = tt

-- a good line has no fault
pub good-fault : (letter : ℕ) (l : Line) → ◌≡◌ {A = Option Fault} (fault_of letter (good_said l)) None
good-fault letter Root = refl
good-fault letter (Node a b c d e f g) = refl
good-fault letter Parameter = refl
good-fault letter (Field a b c d) = refl
good-fault letter (Group a b) = refl
good-fault letter (Typ a b c d) = refl
good-fault letter (Scope a b) = refl
good-fault letter Unbound = refl
good-fault letter (Value a b) = refl
good-fault letter (Word a) = refl

module _ {A : Type 0} where
  pub else-root : (l : Result Line BadLine) (y z : A) → OtherThan 0 l → as_root (line_said l) y z ≡ z
  unfolding line_said
  else-root (Ok l) y z h = not_root l y z (not_root-tag l (λ i. h (ap (tag_of the_type) i)))
  else-root (Err b) y z h = refl

  pub else-node : (l : Result Line BadLine) (y : ℕ → ℕ → ℕ → ℕ → ℕ → ℕ → ℕ → A) (z : A) → OtherThan 1 l
      → as_node (line_said l) y z ≡ z
  unfolding line_said
  else-node (Ok l) y z h = not-node l y z (not_node-tag l (λ a b c d e f g i. h (ap (tag_of the_type) i)))
  else-node (Err b) y z h = refl

  pub else-parameter : (l : Result Line BadLine) (y z : A) → OtherThan 2 l → as_parameter (line_said l) y z ≡ z
  unfolding line_said
  else-parameter (Ok l) y z h = not-parameter l y z (not_parameter-tag l (λ i. h (ap (tag_of the_type) i)))
  else-parameter (Err b) y z h = refl

  pub else-type : (l : Result Line BadLine) (y : ℕ → ℕ → ℕ → ℕ → A) (z : A) → OtherThan 5 l → as_type (line_said l) y z ≡ z
  unfolding line_said
  else-type (Ok l) y z h = not-type l y z (not_type-tag l (λ a b c d i. h (ap (tag_of the_type) i)))
  else-type (Err b) y z h = refl

  pub else-scope : (l : Result Line BadLine) (y : ℕ → ℕ → ℕ → A) (z : A) → OtherThan 6 l → as_scope (line_said l) y z ≡ z
  unfolding line_said
  else-scope (Ok l) y z h = not-scope l y z (not_scope-tag l (λ a b i. h (ap (tag_of the_type) i)))
  else-scope (Err b) y z h = refl

  pub else-unbound : (l : Result Line BadLine) (y z : A) → OtherThan 7 l → as_unbound (line_said l) y z ≡ z
  unfolding line_said
  else-unbound (Ok l) y z h = not-unbound l y z (not_unbound-tag l (λ i. h (ap (tag_of the_type) i)))
  else-unbound (Err b) y z h = refl

  pub else-value : (l : Result Line BadLine) (y : ℕ → ℕ → A) (z : A) → OtherThan 8 l → as_value (line_said l) y z ≡ z
  unfolding line_said
  else-value (Ok l) y z h = not-value l y z (not_value-tag l (λ a b i. h (ap (tag_of the_type) i)))
  else-value (Err b) y z h = refl

  pub else-word : (l : Result Line BadLine) (y : ℕ → A) (z : A) → OtherThan 9 l → as_word (line_said l) y z ≡ z
  unfolding line_said
  else-word (Ok l) y z h = not-word l y z (not_word-tag l (λ a i. h (ap (tag_of the_type) i)))
  else-word (Err b) y z h = refl
