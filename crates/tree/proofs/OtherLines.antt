-- A line of one letter is no line of another: where a `match` on what the code says of a row leaves a letter out, that letter's
-- reader takes the other way. Assumes nothing.
use mathlib.Core.Path.{◌≡◌, refl}
use mathlib.Core.List.{List, [], ◌∷◌}
use Prim.Native.Nat.{ℕ}
use native.Mathlib.Omega.{arith}
use types.Run.{OneOf, hit, miss}
use denote.Enum.Declared.{tag_of}
use Rattle.row.specs.contracts.Line.{the_type}
use Rattle.terms.specs.declared.kinds.Kind.{Kind}
use Rattle.text.specs.Bytes.{either}
use Rattle.row.specs.Line.{good_said, as_root, as_node, as_parameter, as_field, as_type, as_scope, as_unbound, as_value, as_word}
use Rattle.row.specs.Line.{fault_of}
use Rattle.std.specs.Prelude.{Option, is_some}
use Rattle.tree.specs.Read.{is_field}
use Rattle.row.specs.declared.Line.{Line}
use Rattle.row.specs.declared.Line.TheVariants.{Root, Node, Parameter, Field, Group, Typ, Scope, Unbound, Value, Word}

pub not_root : {A : Type 0} (l : Line) (y : A) (z : A) → OneOf (1 ∷ 2 ∷ 3 ∷ 4 ∷ 5 ∷ 6 ∷ 7 ∷ 8 ∷ 9 ∷ [])
    (tag_of the_type l) → as_root (good_said l) y z ≡ z
not_root Root y z h = absurd (miss (1 ∷ 2 ∷ 3 ∷ 4 ∷ 5 ∷ 6 ∷ 7 ∷ 8 ∷ 9 ∷ []) 0 tt h)
not_root (Node a b c d e f g) y z h = refl
not_root Parameter y z h = refl
not_root (Field a b c d) y z h = refl
not_root (Group a b) y z h = refl
not_root (Typ a b c d) y z h = refl
not_root (Scope a b) y z h = refl
not_root Unbound y z h = refl
not_root (Value a b) y z h = refl
not_root (Word a) y z h = refl

pub not-node : {A : Type 0} (l : Line) (y : (ℕ → ℕ → ℕ → ℕ → ℕ → ℕ → ℕ → A)) (z : A) → OneOf
    (0 ∷ 2 ∷ 3 ∷ 4 ∷ 5 ∷ 6 ∷ 7 ∷ 8 ∷ 9 ∷ []) (tag_of the_type l) → as_node (good_said l) y z ≡ z
not-node Root y z h = refl
not-node (Node a b c d e f g) y z h = absurd (miss (0 ∷ 2 ∷ 3 ∷ 4 ∷ 5 ∷ 6 ∷ 7 ∷ 8 ∷ 9 ∷ []) 1 tt h)
not-node Parameter y z h = refl
not-node (Field a b c d) y z h = refl
not-node (Group a b) y z h = refl
not-node (Typ a b c d) y z h = refl
not-node (Scope a b) y z h = refl
not-node Unbound y z h = refl
not-node (Value a b) y z h = refl
not-node (Word a) y z h = refl

pub not-parameter : {A : Type 0} (l : Line) (y : A) (z : A) → OneOf (0 ∷ 1 ∷ 3 ∷ 4 ∷ 5 ∷ 6 ∷ 7 ∷ 8 ∷ 9 ∷ [])
    (tag_of the_type l) → as_parameter (good_said l) y z ≡ z
not-parameter Root y z h = refl
not-parameter (Node a b c d e f g) y z h = refl
not-parameter Parameter y z h = absurd (miss (0 ∷ 1 ∷ 3 ∷ 4 ∷ 5 ∷ 6 ∷ 7 ∷ 8 ∷ 9 ∷ []) 2 tt h)
not-parameter (Field a b c d) y z h = refl
not-parameter (Group a b) y z h = refl
not-parameter (Typ a b c d) y z h = refl
not-parameter (Scope a b) y z h = refl
not-parameter Unbound y z h = refl
not-parameter (Value a b) y z h = refl
not-parameter (Word a) y z h = refl

pub not-field : {A : Type 0} (l : Line) (y : (ℕ → ℕ → ℕ → ℕ → A)) (z : A) → OneOf
    (0 ∷ 1 ∷ 2 ∷ 4 ∷ 5 ∷ 6 ∷ 7 ∷ 8 ∷ 9 ∷ []) (tag_of the_type l) → as_field (good_said l) y z ≡ z
not-field Root y z h = refl
not-field (Node a b c d e f g) y z h = refl
not-field Parameter y z h = refl
not-field (Field a b c d) y z h = absurd (miss (0 ∷ 1 ∷ 2 ∷ 4 ∷ 5 ∷ 6 ∷ 7 ∷ 8 ∷ 9 ∷ []) 3 tt h)
not-field (Group a b) y z h = refl
not-field (Typ a b c d) y z h = refl
not-field (Scope a b) y z h = refl
not-field Unbound y z h = refl
not-field (Value a b) y z h = refl
not-field (Word a) y z h = refl

pub not-type : {A : Type 0} (l : Line) (y : (ℕ → ℕ → ℕ → ℕ → A)) (z : A) → OneOf (0 ∷ 1 ∷ 2 ∷ 3 ∷ 4 ∷ 6 ∷ 7 ∷ 8 ∷ 9 ∷ [])
    (tag_of the_type l) → as_type (good_said l) y z ≡ z
not-type Root y z h = refl
not-type (Node a b c d e f g) y z h = refl
not-type Parameter y z h = refl
not-type (Field a b c d) y z h = refl
not-type (Group a b) y z h = refl
not-type (Typ a b c d) y z h = absurd (miss (0 ∷ 1 ∷ 2 ∷ 3 ∷ 4 ∷ 6 ∷ 7 ∷ 8 ∷ 9 ∷ []) 5 tt h)
not-type (Scope a b) y z h = refl
not-type Unbound y z h = refl
not-type (Value a b) y z h = refl
not-type (Word a) y z h = refl

pub not-scope : {A : Type 0} (l : Line) (y : (ℕ → ℕ → ℕ → A)) (z : A) → OneOf (0 ∷ 1 ∷ 2 ∷ 3 ∷ 4 ∷ 5 ∷ 7 ∷ 8 ∷ 9 ∷ [])
    (tag_of the_type l) → as_scope (good_said l) y z ≡ z
not-scope Root y z h = refl
not-scope (Node a b c d e f g) y z h = refl
not-scope Parameter y z h = refl
not-scope (Field a b c d) y z h = refl
not-scope (Group a b) y z h = refl
not-scope (Typ a b c d) y z h = refl
not-scope (Scope a b) y z h = absurd (miss (0 ∷ 1 ∷ 2 ∷ 3 ∷ 4 ∷ 5 ∷ 7 ∷ 8 ∷ 9 ∷ []) 6 tt h)
not-scope Unbound y z h = refl
not-scope (Value a b) y z h = refl
not-scope (Word a) y z h = refl

pub not-unbound : {A : Type 0} (l : Line) (y : A) (z : A) → OneOf (0 ∷ 1 ∷ 2 ∷ 3 ∷ 4 ∷ 5 ∷ 6 ∷ 8 ∷ 9 ∷ [])
    (tag_of the_type l) → as_unbound (good_said l) y z ≡ z
not-unbound Root y z h = refl
not-unbound (Node a b c d e f g) y z h = refl
not-unbound Parameter y z h = refl
not-unbound (Field a b c d) y z h = refl
not-unbound (Group a b) y z h = refl
not-unbound (Typ a b c d) y z h = refl
not-unbound (Scope a b) y z h = refl
not-unbound Unbound y z h = absurd (miss (0 ∷ 1 ∷ 2 ∷ 3 ∷ 4 ∷ 5 ∷ 6 ∷ 8 ∷ 9 ∷ []) 7 tt h)
not-unbound (Value a b) y z h = refl
not-unbound (Word a) y z h = refl

pub not-value : {A : Type 0} (l : Line) (y : (ℕ → ℕ → A)) (z : A) → OneOf (0 ∷ 1 ∷ 2 ∷ 3 ∷ 4 ∷ 5 ∷ 6 ∷ 7 ∷ 9 ∷ [])
    (tag_of the_type l) → as_value (good_said l) y z ≡ z
not-value Root y z h = refl
not-value (Node a b c d e f g) y z h = refl
not-value Parameter y z h = refl
not-value (Field a b c d) y z h = refl
not-value (Group a b) y z h = refl
not-value (Typ a b c d) y z h = refl
not-value (Scope a b) y z h = refl
not-value Unbound y z h = refl
not-value (Value a b) y z h = absurd (miss (0 ∷ 1 ∷ 2 ∷ 3 ∷ 4 ∷ 5 ∷ 6 ∷ 7 ∷ 9 ∷ []) 8 tt h)
not-value (Word a) y z h = refl

pub not-word : {A : Type 0} (l : Line) (y : (ℕ → A)) (z : A) → OneOf (0 ∷ 1 ∷ 2 ∷ 3 ∷ 4 ∷ 5 ∷ 6 ∷ 7 ∷ 8 ∷ [])
    (tag_of the_type l) → as_word (good_said l) y z ≡ z
not-word Root y z h = refl
not-word (Node a b c d e f g) y z h = refl
not-word Parameter y z h = refl
not-word (Field a b c d) y z h = refl
not-word (Group a b) y z h = refl
not-word (Typ a b c d) y z h = refl
not-word (Scope a b) y z h = refl
not-word Unbound y z h = refl
not-word (Value a b) y z h = refl
not-word (Word a) y z h = absurd (miss (0 ∷ 1 ∷ 2 ∷ 3 ∷ 4 ∷ 5 ∷ 6 ∷ 7 ∷ 8 ∷ []) 9 tt h)

-- a line that is neither F nor G is no field, but for a bad one with such a letter
pub not_a_field : (l : Line) → OneOf (0 ∷ 1 ∷ 2 ∷ 5 ∷ 6 ∷ 7 ∷ 8 ∷ 9 ∷ []) (tag_of the_type l)
    → is_field (good_said l) ≡ either (is_some (fault_of 70 (good_said l))) (is_some (fault_of 71 (good_said l)))
not_a_field Root h = refl
not_a_field (Node a b c d e f g) h = refl
not_a_field Parameter h = refl
not_a_field (Field a b c d) h = absurd (miss (0 ∷ 1 ∷ 2 ∷ 5 ∷ 6 ∷ 7 ∷ 8 ∷ 9 ∷ []) 3 tt h)
not_a_field (Group a b) h = absurd (miss (0 ∷ 1 ∷ 2 ∷ 5 ∷ 6 ∷ 7 ∷ 8 ∷ 9 ∷ []) 4 tt h)
not_a_field (Typ a b c d) h = refl
not_a_field (Scope a b) h = refl
not_a_field Unbound h = refl
not_a_field (Value a b) h = refl
not_a_field (Word a) h = refl

-- the tag of a line that is not of one letter, or neither F nor G, or not bad, as the `match`es tell it
abbrev but_Root : List ℕ
but_Root = 1 ∷ 2 ∷ 3 ∷ 4 ∷ 5 ∷ 6 ∷ 7 ∷ 8 ∷ 9 ∷ []

pub not_root-tag : (l : Line) → (l ≡ Root → ⊥) → OneOf but_Root (tag_of the_type l)
not_root-tag Root h = absurd (h refl)
not_root-tag (Node a b c d e f g) h = hit but_Root 1 tt
not_root-tag Parameter h = hit but_Root 2 tt
not_root-tag (Field a b c d) h = hit but_Root 3 tt
not_root-tag (Group a b) h = hit but_Root 4 tt
not_root-tag (Typ a b c d) h = hit but_Root 5 tt
not_root-tag (Scope a b) h = hit but_Root 6 tt
not_root-tag Unbound h = hit but_Root 7 tt
not_root-tag (Value a b) h = hit but_Root 8 tt
not_root-tag (Word a) h = hit but_Root 9 tt

abbrev but_Node : List ℕ
but_Node = 0 ∷ 2 ∷ 3 ∷ 4 ∷ 5 ∷ 6 ∷ 7 ∷ 8 ∷ 9 ∷ []

pub not_node-tag : (l : Line) → ((a b c d e f g : ℕ) → l ≡ Node a b c d e f g → ⊥) → OneOf but_Node (tag_of the_type l)
not_node-tag Root h = hit but_Node 0 tt
not_node-tag (Node a b c d e f g) h = absurd (h a b c d e f g refl)
not_node-tag Parameter h = hit but_Node 2 tt
not_node-tag (Field a b c d) h = hit but_Node 3 tt
not_node-tag (Group a b) h = hit but_Node 4 tt
not_node-tag (Typ a b c d) h = hit but_Node 5 tt
not_node-tag (Scope a b) h = hit but_Node 6 tt
not_node-tag Unbound h = hit but_Node 7 tt
not_node-tag (Value a b) h = hit but_Node 8 tt
not_node-tag (Word a) h = hit but_Node 9 tt

abbrev but_Parameter : List ℕ
but_Parameter = 0 ∷ 1 ∷ 3 ∷ 4 ∷ 5 ∷ 6 ∷ 7 ∷ 8 ∷ 9 ∷ []

pub not_parameter-tag : (l : Line) → (l ≡ Parameter → ⊥) → OneOf but_Parameter (tag_of the_type l)
not_parameter-tag Root h = hit but_Parameter 0 tt
not_parameter-tag (Node a b c d e f g) h = hit but_Parameter 1 tt
not_parameter-tag Parameter h = absurd (h refl)
not_parameter-tag (Field a b c d) h = hit but_Parameter 3 tt
not_parameter-tag (Group a b) h = hit but_Parameter 4 tt
not_parameter-tag (Typ a b c d) h = hit but_Parameter 5 tt
not_parameter-tag (Scope a b) h = hit but_Parameter 6 tt
not_parameter-tag Unbound h = hit but_Parameter 7 tt
not_parameter-tag (Value a b) h = hit but_Parameter 8 tt
not_parameter-tag (Word a) h = hit but_Parameter 9 tt

abbrev but_Field_and_Group : List ℕ
but_Field_and_Group = 0 ∷ 1 ∷ 2 ∷ 5 ∷ 6 ∷ 7 ∷ 8 ∷ 9 ∷ []

pub not_a_field-tag : (l : Line) → ((a b c d : ℕ) → l ≡ Field a b c d → ⊥) → ((a b : ℕ) → l ≡ Group a b → ⊥)
    → OneOf but_Field_and_Group (tag_of the_type l)
not_a_field-tag Root u v = hit but_Field_and_Group 0 tt
not_a_field-tag (Node a b c d e f g) u v = hit but_Field_and_Group 1 tt
not_a_field-tag Parameter u v = hit but_Field_and_Group 2 tt
not_a_field-tag (Field a b c d) u v = absurd (u a b c d refl)
not_a_field-tag (Group a b) u v = absurd (v a b refl)
not_a_field-tag (Typ a b c d) u v = hit but_Field_and_Group 5 tt
not_a_field-tag (Scope a b) u v = hit but_Field_and_Group 6 tt
not_a_field-tag Unbound u v = hit but_Field_and_Group 7 tt
not_a_field-tag (Value a b) u v = hit but_Field_and_Group 8 tt
not_a_field-tag (Word a) u v = hit but_Field_and_Group 9 tt

abbrev but_Typ : List ℕ
but_Typ = 0 ∷ 1 ∷ 2 ∷ 3 ∷ 4 ∷ 6 ∷ 7 ∷ 8 ∷ 9 ∷ []

pub not_type-tag : (l : Line) → ((k : Kind) (a b c : ℕ) → l ≡ Typ k a b c → ⊥) → OneOf but_Typ (tag_of the_type l)
not_type-tag Root h = hit but_Typ 0 tt
not_type-tag (Node a b c d e f g) h = hit but_Typ 1 tt
not_type-tag Parameter h = hit but_Typ 2 tt
not_type-tag (Field a b c d) h = hit but_Typ 3 tt
not_type-tag (Group a b) h = hit but_Typ 4 tt
not_type-tag (Typ a b c d) h = absurd (h a b c d refl)
not_type-tag (Scope a b) h = hit but_Typ 6 tt
not_type-tag Unbound h = hit but_Typ 7 tt
not_type-tag (Value a b) h = hit but_Typ 8 tt
not_type-tag (Word a) h = hit but_Typ 9 tt

abbrev but_Scope : List ℕ
but_Scope = 0 ∷ 1 ∷ 2 ∷ 3 ∷ 4 ∷ 5 ∷ 7 ∷ 8 ∷ 9 ∷ []

pub not_scope-tag : (l : Line) → ((a : ℕ) (b : Option ℕ) → l ≡ Scope a b → ⊥) → OneOf but_Scope (tag_of the_type l)
not_scope-tag Root h = hit but_Scope 0 tt
not_scope-tag (Node a b c d e f g) h = hit but_Scope 1 tt
not_scope-tag Parameter h = hit but_Scope 2 tt
not_scope-tag (Field a b c d) h = hit but_Scope 3 tt
not_scope-tag (Group a b) h = hit but_Scope 4 tt
not_scope-tag (Typ a b c d) h = hit but_Scope 5 tt
not_scope-tag (Scope a b) h = absurd (h a b refl)
not_scope-tag Unbound h = hit but_Scope 7 tt
not_scope-tag (Value a b) h = hit but_Scope 8 tt
not_scope-tag (Word a) h = hit but_Scope 9 tt

abbrev but_Unbound : List ℕ
but_Unbound = 0 ∷ 1 ∷ 2 ∷ 3 ∷ 4 ∷ 5 ∷ 6 ∷ 8 ∷ 9 ∷ []

pub not_unbound-tag : (l : Line) → (l ≡ Unbound → ⊥) → OneOf but_Unbound (tag_of the_type l)
not_unbound-tag Root h = hit but_Unbound 0 tt
not_unbound-tag (Node a b c d e f g) h = hit but_Unbound 1 tt
not_unbound-tag Parameter h = hit but_Unbound 2 tt
not_unbound-tag (Field a b c d) h = hit but_Unbound 3 tt
not_unbound-tag (Group a b) h = hit but_Unbound 4 tt
not_unbound-tag (Typ a b c d) h = hit but_Unbound 5 tt
not_unbound-tag (Scope a b) h = hit but_Unbound 6 tt
not_unbound-tag Unbound h = absurd (h refl)
not_unbound-tag (Value a b) h = hit but_Unbound 8 tt
not_unbound-tag (Word a) h = hit but_Unbound 9 tt

abbrev but_Value : List ℕ
but_Value = 0 ∷ 1 ∷ 2 ∷ 3 ∷ 4 ∷ 5 ∷ 6 ∷ 7 ∷ 9 ∷ []

pub not_value-tag : (l : Line) → ((k : Kind) (b : ℕ) → l ≡ Value k b → ⊥) → OneOf but_Value (tag_of the_type l)
not_value-tag Root h = hit but_Value 0 tt
not_value-tag (Node a b c d e f g) h = hit but_Value 1 tt
not_value-tag Parameter h = hit but_Value 2 tt
not_value-tag (Field a b c d) h = hit but_Value 3 tt
not_value-tag (Group a b) h = hit but_Value 4 tt
not_value-tag (Typ a b c d) h = hit but_Value 5 tt
not_value-tag (Scope a b) h = hit but_Value 6 tt
not_value-tag Unbound h = hit but_Value 7 tt
not_value-tag (Value a b) h = absurd (h a b refl)
not_value-tag (Word a) h = hit but_Value 9 tt

abbrev pub but_Word : List ℕ
but_Word = 0 ∷ 1 ∷ 2 ∷ 3 ∷ 4 ∷ 5 ∷ 6 ∷ 7 ∷ 8 ∷ []

pub not_word-tag : (l : Line) → ((a : ℕ) → l ≡ Word a → ⊥) → OneOf but_Word (tag_of the_type l)
not_word-tag Root h = hit but_Word 0 tt
not_word-tag (Node a b c d e f g) h = hit but_Word 1 tt
not_word-tag Parameter h = hit but_Word 2 tt
not_word-tag (Field a b c d) h = hit but_Word 3 tt
not_word-tag (Group a b) h = hit but_Word 4 tt
not_word-tag (Typ a b c d) h = hit but_Word 5 tt
not_word-tag (Scope a b) h = hit but_Word 6 tt
not_word-tag Unbound h = hit but_Word 7 tt
not_word-tag (Value a b) h = hit but_Word 8 tt
not_word-tag (Word a) h = absurd (h a refl)

-- from two numbers that are not equal, anything
pub never : {A : Type 0} → ◌≡◌ {A = ℕ} 0 1 → A
never e = let z : ⊥ = omega arith in absurd z
