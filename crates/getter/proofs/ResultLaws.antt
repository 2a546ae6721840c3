-- The result type of a getter, by the kind of its slot: one equation of outcomes for each arm of the code, then the arm's text
-- behind the arrow. Assumes nothing.
use Rattle.std.specs.Prelude.{◌≡◌, ℕ, zero, suc, ◌<◌, ◌≤◌, Bool, true, false, not, eqb, List, [], ◌∷◌, ◌++◌, get_or, drop}
use mathlib.Core.Path.{refl, sym, ap, ◌∙◌}
use mathlib.Core.List.{append_assoc}
use Rattle.std.specs.Prelude.{Result, Ok}
use native.Mathlib.Omega.{arith}
use borrow.Author.Tests.{ne_eqb, le-leb, lt-leb}
use Rattle.terms.specs.Kinds.{number_of}
use Rattle.text.specs.Bytes.{Str, ascii, cond, both, same}
use Rattle.text.specs.Text.{Wrote}
use Rattle.text.specs.declared.Text.{Text}
use Rattle.tree.specs.Tree as tree
use Rattle.tree.specs.Tree.{Ty, plain, list, enum, struct, interface, any_pointer, parameter, kind, Scopes, Sheet}
use Rattle.row.specs.Rows.{rows}
use Rattle.tree.specs.Read.{read_type}
use Rattle.tree.specs.Reader.{Reading, On}
use Rattle.codegen_types.specs.Out.{Out, ok, refused, ◌then◌, refusal_of}
use Rattle.codegen_types.specs.Leaf.{display}
use Rattle.codegen_types.specs.TypeString.{type_string, get_qualified_module, primitives, is_pointer}
use Rattle.codegen_types.specs.Primitive.{primitive_text}
use Rattle.codegen_types.specs.Written.{Writes}
use Rattle.terms.specs.declared.refusals.Refusal.{Refusal}
use Rattle.codegen_types.specs.declared.Leaf.{Leaf}
use Rattle.codegen_types.specs.declared.Leaf.TheVariants.{Client}
use Rattle.codegen_types.proofs.Laws.{refusal_then}
use Rattle.codegen_types.proofs.WrittenLaws.{whole}
use Rattle.codegen.proofs.AroundLaws.{made, made_of, front}
use Rattle.types.proofs.Laws.{on_one, on-has}
use Rattle.field.specs.Slot.{HasId, SlotIs, SlotField, SlotHere}
use Rattle.field.specs.declared.Slot.{Slot}
use Rattle.codegen.specs.Getter.{module_leaf, is_option_field, optional, result_type, as_function}
use Rattle.getter.specs.Result.{arrow, enum_result, fallible_result, yes, result_out}
use Rattle.getter.proofs.RefusalLaws.{client_same, refused-is}

-- ---- texts that may be refused

-- outcomes of which the same is made
then_same : (o : Out Str) (f g : Str → Out Str) → ((w : Str) → f w ≡ g w) → (o then f) ≡ (o then g)
then_same (ok w) f g e = e w
then_same (refused k) f g e = refl

then_twice : (o : Out Str) (f g h : Str → Str) → ((w : Str) → g (f w) ≡ h w)
    → ((o then λ w. ok (f w)) then λ v. ok (g v)) ≡ (o then λ w. ok (h w))
then_twice (ok w) f g h e = ap ok (e w)
then_twice (refused k) f g h e = refl

-- an outcome after one that is refused alike
after-alike : (o p : Out Str) → refusal_of o ≡ refusal_of p → (o then λ w. p) ≡ p
after-alike (ok w) p e = refl
after-alike (refused k) p e = sym (refused-is p k (sym e))

-- what is made of the text of whatever type is read, and of what was made of it
module _ (g : Reading Ty) (sheet : Sheet) (leaf : Leaf) (f : Str → Str) {l₁ l₂ : List ℕ} {t₁ u : Text} {l l' : List ℕ}
    {t t' : Text} where
  pub on_made : On g (λ ty. Writes (type_string ty sheet leaf) l₁ t₁ l₂ (Ok u))
      → ((w : Str) → Wrote l₁ t₁ w l₂ u → Wrote l t (f w) l' t')
      → On g (λ ty. Writes (type_string ty sheet leaf then λ w. ok (f w)) l t l' (Ok t'))
  on_made x h =
      on_one (λ ty. Writes (type_string ty sheet leaf) l₁ t₁ l₂ (Ok u))
      (λ ty. Writes (type_string ty sheet leaf then λ w. ok (f w)) l t l' (Ok t')) g
      (λ ty y. made f (type_string ty sheet leaf) y h) x

  pub on_made_of : (p : Str → Str) → On g (λ ty. Writes (type_string ty sheet leaf then λ w. ok (p w)) l₁ t₁ l₂ (Ok u))
      → ((w : Str) → Wrote l₁ t₁ w l₂ u → Wrote l t (f w) l' t')
      → On g (λ ty. Writes (type_string ty sheet leaf then λ w. ok (f (p w))) l t l' (Ok t'))
  on_made_of p x h =
      on_one (λ ty. Writes (type_string ty sheet leaf then λ w. ok (p w)) l₁ t₁ l₂ (Ok u))
      (λ ty. Writes (type_string ty sheet leaf then λ w. ok (f (p w))) l t l' (Ok t')) g
      (λ ty y. made_of f p (type_string ty sheet leaf) y h) x

-- ---- functions

-- no text that goes on with a colon after some bytes is ()
not-unit : (x y : Str) → same (x ++ 58 ∷ y) (ascii "()") ≡ false
unfolding same
not-unit [] y = refl
not-unit (a ∷ []) y = go (eqb a 40)
  where
    go : (b : Bool) → both b false ≡ false
    go true = refl
    go false = refl
not-unit (a ∷ b ∷ []) y = go (eqb a 40) (eqb b 41)
  where
    go : (p q : Bool) → both p (both q false) ≡ false
    go true true = refl
    go true false = refl
    go false q = refl
not-unit (a ∷ b ∷ c ∷ x) y = go (eqb a 40) (eqb b 41)
  where
    go : (p q : Bool) → both p (both q false) ≡ false
    go true true = refl
    go true false = refl
    go false q = refl

fn_arrow : (is_fn : Bool) (x : Str) → same x (ascii "()") ≡ false → arrow is_fn ++ x ≡ as_function is_fn x
fn_arrow true x e = rw e refl
fn_arrow false x e = refl

-- the primitive types but Void
unfoldable apart : List Str → Bool
apart [] = true
apart (x ∷ xs) = both (not (same x (ascii "()"))) (apart xs)

prim_apart : (xs : List Str) → apart xs ≡ true → (k : ℕ) → same (get_or xs k []) (ascii "()") ≡ false
unfolding apart same
prim_apart [] e k = refl
prim_apart (x ∷ xs) e zero = go (same x (ascii "()")) (apart xs) e
  where
    go : (p q : Bool) → both (not p) q ≡ true → p ≡ false
    go true q f = sym f
    go false q f = refl
prim_apart (x ∷ xs) e (suc k) = prim_apart xs (go (not (same x (ascii "()"))) (apart xs) e) k
  where
    go : (p q : Bool) → both p q ≡ true → q ≡ true
    go true q f = f
    go false q f = let z : ◌≡◌ {A = ℕ} 0 1 = cc in let w : ⊥ = omega arith in absurd w

pub prim_arrow : (is_fn : Bool) (k : ℕ) → (k ≡ 0 → ⊥) → arrow is_fn ++ primitive_text k ≡ as_function is_fn (primitive_text k)
unfolding apart same
prim_arrow is_fn zero h = absurd (h refl)
prim_arrow is_fn (suc k) h = fn_arrow is_fn (primitive_text (suc k)) (prim_apart (drop 1 primitives) refl k)

-- no result type of a pointer is ()
fallible_arrow : (is_fn : Bool) (root typ : Str) → arrow is_fn ++ fallible_result root typ
    ≡ as_function is_fn (fallible_result root typ)
fallible_arrow is_fn root typ =
    fn_arrow is_fn (fallible_result root typ)
    (rw (append_assoc (root ++ ascii "::Result<") typ (ascii ">"), append_assoc root (ascii "::Result<") (typ ++ ascii ">"))
    (not-unit root (ascii ":Result<" ++ (typ ++ ascii ">"))))

optional-arrow : (is_fn option : Bool) (typ : Str) → same typ (ascii "()") ≡ false
    → arrow is_fn ++ optional option typ ≡ as_function is_fn (optional option typ)
unfolding same
optional-arrow is_fn true typ e = fn_arrow is_fn (optional true typ) refl
optional-arrow is_fn false typ e = fn_arrow is_fn typ e

-- ---- the slot's option

-- whether a slot of this type may have one
abbrev may_have : Ty → Bool
may_have t = both (is_pointer t) (cond (eqb (kind t) 17) false true)

-- an option that cannot be is not there
no-option : (s : tree.Slot) → may_have s.ty ≡ false → yes (is_option_field s) ≡ false
no-option s e = go (eqb s.option 0) (may_have s.ty) e
  where
    go : (absent fits : Bool) → fits ≡ false → yes (cond absent (ok false) (cond fits (ok true) (refused 9))) ≡ false
    go true fits f = refl
    go false true f = f
    go false false f = refl

-- one that can be is as the slot says
has-option : (s : tree.Slot) (r : Slot) → SlotIs r s → may_have s.ty ≡ true
    → yes (is_option_field s) ≡ not (eqb r.option 0)
has-option s r is e = rw is.option (go (eqb r.option 0) (may_have s.ty) e)
  where
    go : (absent fits : Bool) → fits ≡ true → yes (cond absent (ok false) (cond fits (ok true) (refused 9))) ≡ not absent
    go true fits f = refl
    go false true f = refl
    go false false f = f

-- ---- the type of a slot by its kind

plain-is : (t : Ty) (a k : ℕ) → HasId t a → kind t ≡ k → k ≤ 11 → t ≡ plain k
plain-is (plain j) a k h e le = ap plain e
plain-is (list t) a k h e le = let z : ⊥ = omega arith in absurd z
plain-is (enum i ss) a k h e le = let z : ⊥ = omega arith in absurd z
plain-is (struct i ss) a k h e le = let z : ⊥ = omega arith in absurd z
plain-is (interface i ss) a k h e le = let z : ⊥ = omega arith in absurd z
plain-is any_pointer a k h e le = let z : ⊥ = omega arith in absurd z
plain-is (parameter i j) a k h e le = let z : ⊥ = omega arith in absurd z

-- what holds of the type that a slot's kind says
pub at_plain : (P : Ty → Type 0) (t : Ty) (a k : ℕ) → HasId t a → kind t ≡ k → k ≤ 11 → P (plain k) → P t
at_plain P t a k h e le p = rw (plain-is t a k h e le) p

pub prim_text : (sheet : Sheet) (leaf : Leaf) (k : ℕ) → k ≤ 11 → type_string (plain k) sheet leaf ≡ ok (primitive_text k)
unfolding type_string
prim_text sheet leaf k le =
    rw (ne_eqb k 12 (λ e. let z : ⊥ = omega arith in absurd z), ne_eqb k 13 (λ e. let z : ⊥ = omega arith in absurd z)) refl

pub at_enum : (P : Ty → Type 0) (t : Ty) (a : ℕ) → HasId t a → kind t ≡ 15 → ((ss : Scopes) → P (enum a ss)) → P t
at_enum P (plain k) a h e p = let z : ⊥ = omega arith in absurd z
at_enum P (list t) a h e p = let z : ⊥ = omega arith in absurd z
at_enum P (enum i ss) a h e p = rw h (p ss)
at_enum P (struct i ss) a h e p = let z : ⊥ = omega arith in absurd z
at_enum P (interface i ss) a h e p = let z : ⊥ = omega arith in absurd z
at_enum P any_pointer a h e p = let z : ⊥ = omega arith in absurd z
at_enum P (parameter i k) a h e p = let z : ⊥ = omega arith in absurd z

pub at-interface : (P : Ty → Type 0) (t : Ty) (a : ℕ) → HasId t a → kind t ≡ 17
    → ((i : ℕ) (ss : Scopes) → P (interface i ss)) → P t
at-interface P (plain k) a h e p = let z : ⊥ = omega arith in absurd z
at-interface P (list t) a h e p = let z : ⊥ = omega arith in absurd z
at-interface P (enum i ss) a h e p = let z : ⊥ = omega arith in absurd z
at-interface P (struct i ss) a h e p = let z : ⊥ = omega arith in absurd z
at-interface P (interface i ss) a h e p = p i ss
at-interface P any_pointer a h e p = let z : ⊥ = omega arith in absurd z
at-interface P (parameter i k) a h e p = let z : ⊥ = omega arith in absurd z

pub at-any : (P : Ty → Type 0) (t : Ty) (a : ℕ) → HasId t a → kind t ≡ 18 → a ≡ 0 → P any_pointer → P t
at-any P (plain k) a h e z p = let w : ⊥ = omega arith in absurd w
at-any P (list t) a h e z p = let w : ⊥ = omega arith in absurd w
at-any P (enum i ss) a h e z p = let w : ⊥ = omega arith in absurd w
at-any P (struct i ss) a h e z p = let w : ⊥ = omega arith in absurd w
at-any P (interface i ss) a h e z p = let w : ⊥ = omega arith in absurd w
at-any P any_pointer a h e z p = p
at-any P (parameter i k) a h e z p = absurd (h z)

-- the result type of every pointer that can fail but an interface
fails_result : (sheet : Sheet) (t : Ty) (a : ℕ) (typ : Str) → HasId t a → 11 < kind t → (kind t ≡ 15 → ⊥) → (kind t ≡ 17 → ⊥)
    → (kind t ≡ 18 → a ≡ 0 → ⊥)
    → result_type sheet t typ ≡ ok (fallible_result sheet.root typ)
fails_result sheet (plain k) a typ h lo n15 n17 any =
    rw (ne_eqb k 15 n15, ne_eqb k 17 n17, ne_eqb k 18 (λ e. let z : ⊥ = omega arith in absurd z), lt-leb k 11 lo) refl
fails_result sheet (list t) a typ h lo n15 n17 any = refl
fails_result sheet (enum i ss) a typ h lo n15 n17 any = absurd (n15 refl)
fails_result sheet (struct i ss) a typ h lo n15 n17 any = refl
fails_result sheet (interface i ss) a typ h lo n15 n17 any = absurd (n17 refl)
fails_result sheet any_pointer a typ h lo n15 n17 any = absurd (any refl h)
fails_result sheet (parameter i k) a typ h lo n15 n17 any = refl

-- ---- the arms

-- the result type of a type, in an option or not
result_of : Sheet → Ty → Leaf → Bool → Bool → Out Str
result_of sheet t leaf option is_fn =
    type_string t sheet leaf then λ inner. result_type sheet t (optional option inner) then λ result.
    ok (as_function is_fn result)

module _ (sheet : Sheet) (s : tree.Slot) (is_reader is_fn : Bool) (r : Slot) (is : SlotIs r s) where
  with-option : (option : Bool) → yes (is_option_field s) ≡ option
      → result_out sheet s is_reader is_fn ≡ result_of sheet s.ty (module_leaf is_reader) option is_fn
  unfolding result_of
  with-option option e = rw e refl

  prim-out : number_of r.kind ≤ 11
      → result_out sheet s is_reader is_fn ≡ ok (as_function is_fn (primitive_text (number_of r.kind)))
  unfolding result_of
  prim-out le =
      with-option false (no-option s (rw (is.kind, lt-leb 12 (number_of r.kind) (omega arith)) refl))
      ∙ at_plain (λ ty. result_of sheet ty (module_leaf is_reader) false is_fn
      ≡ ok (as_function is_fn (primitive_text (number_of r.kind))))
      s.ty r.id (number_of r.kind) is.id is.kind le
      (rw (
        prim_text sheet (module_leaf is_reader) (number_of r.kind) le,
        ne_eqb (number_of r.kind) 15 (λ z. let q : ⊥ = omega arith in absurd q),
        ne_eqb (number_of r.kind) 17 (λ z. let q : ⊥ = omega arith in absurd q),
        ne_eqb (number_of r.kind) 18 (λ z. let q : ⊥ = omega arith in absurd q),
        le-leb (number_of r.kind) 11 le,
      ) refl)

  enum-out : number_of r.kind ≡ 15 → result_out sheet s is_reader is_fn
      ≡ (get_qualified_module sheet r.id then λ m. ok (arrow is_fn ++ enum_result sheet.root m))
  unfolding result_of type_string same
  enum-out k =
      with-option false (no-option s (rw (is.kind ∙ k) refl))
      ∙ at_enum (λ ty. result_of sheet ty (module_leaf is_reader) false is_fn
      ≡ (get_qualified_module sheet r.id then λ m. ok (arrow is_fn ++ enum_result sheet.root m)))
      s.ty r.id is.id (is.kind ∙ k)
      (λ ss. then_same (get_qualified_module sheet r.id) (λ m. ok (as_function is_fn (enum_result sheet.root m)))
      (λ m. ok (arrow is_fn ++ enum_result sheet.root m))
      (λ m. ap ok (sym (fn_arrow is_fn (enum_result sheet.root m) refl))))

  client-out : number_of r.kind ≡ 17 → result_out sheet s is_reader is_fn
      ≡ (type_string s.ty sheet Client then λ c. ok (arrow is_fn ++ fallible_result sheet.root c))
  unfolding result_of
  client-out k =
      with-option false (no-option s (rw (is.kind ∙ k) refl))
      ∙ at-interface (λ ty. result_of sheet ty (module_leaf is_reader) false is_fn
      ≡ (type_string ty sheet Client then λ c. ok (arrow is_fn ++ fallible_result sheet.root c)))
      s.ty r.id is.id (is.kind ∙ k)
      (λ i ss. then_same (type_string (interface i ss) sheet (module_leaf is_reader))
      (λ inner. (client i ss then λ c. ok (fallible_result sheet.root c)) then λ result. ok (as_function is_fn result))
      (λ inner. result i ss)
      (λ inner. then_twice (client i ss) (fallible_result sheet.root) (as_function is_fn)
      (λ c. arrow is_fn ++ fallible_result sheet.root c) (λ c. sym (fallible_arrow is_fn sheet.root c)))
      ∙ after-alike (type_string (interface i ss) sheet (module_leaf is_reader)) (result i ss)
      (client_same sheet i ss (module_leaf is_reader)
      ∙ sym (refusal_then (client i ss) (λ c. arrow is_fn ++ fallible_result sheet.root c))))
    where
      client : ℕ → Scopes → Out Str
      client i ss = type_string (interface i ss) sheet Client

      result : ℕ → Scopes → Out Str
      result i ss = client i ss then λ c. ok (arrow is_fn ++ fallible_result sheet.root c)

  any_out : number_of r.kind ≡ 18 → r.id ≡ 0 → result_out sheet s is_reader is_fn
      ≡ (type_string s.ty sheet (module_leaf is_reader) then λ w. ok (arrow is_fn ++ optional (not (eqb r.option 0)) w))
  unfolding result_of type_string
  any_out k i =
      with-option option (has-option s r is (rw (is.kind ∙ k) refl))
      ∙ at-any (λ ty. result_of sheet ty (module_leaf is_reader) option is_fn
      ≡ (type_string ty sheet (module_leaf is_reader) then λ w. ok (arrow is_fn ++ optional option w)))
      s.ty r.id is.id (is.kind ∙ k) i
      (ap ok (sym (optional-arrow is_fn option text other)))
    where
      option : Bool
      option = not (eqb r.option 0)

      text : Str
      text = sheet.root ++ ascii "::any_pointer::" ++ display (module_leaf is_reader)

      other : same text (ascii "()") ≡ false
      other =
          rw (append_assoc sheet.root (ascii "::any_pointer::") (display (module_leaf is_reader)))
          (not-unit sheet.root (ascii ":any_pointer::" ++ display (module_leaf is_reader)))

  fails-out : 11 < number_of r.kind → (number_of r.kind ≡ 15 → ⊥) → (number_of r.kind ≡ 17 → ⊥)
      → (number_of r.kind ≡ 18 → r.id ≡ 0 → ⊥)
      → result_out sheet s is_reader is_fn ≡ (type_string s.ty sheet (module_leaf is_reader) then λ w. ok
      (arrow is_fn ++ fallible_result sheet.root (optional (not (eqb r.option 0)) w)))
  unfolding result_of
  fails-out lo n15 n17 any =
      with-option option
      (has-option s r is (rw (is.kind, le-leb 12 (number_of r.kind) (omega arith), ne_eqb _ _ n15, ne_eqb _ _ n17) refl))
      ∙ then_same (type_string s.ty sheet (module_leaf is_reader))
      (λ w. result_type sheet s.ty (optional option w) then λ result. ok (as_function is_fn result))
      (λ w. ok (arrow is_fn ++ fallible_result sheet.root (optional option w)))
      (λ w. rw (result (optional option w)) (ap ok (sym (fallible_arrow is_fn sheet.root (optional option w)))))
    where
      option : Bool
      option = not (eqb r.option 0)

      result : (typ : Str) → result_type sheet s.ty typ ≡ ok (fallible_result sheet.root typ)
      result typ =
          fails_result sheet s.ty r.id typ is.id (rw is.kind lo) (λ e. n15 (sym is.kind ∙ e))
          (λ e. n17 (sym is.kind ∙ e))
          (λ e. any (sym is.kind ∙ e))

-- ---- the arms' texts: behind the arrow, of the type that is read in the sheet

module _ (sheet : Sheet) (is_reader is_fn : Bool) (bytes : Str) (r : Slot) (f : SlotField) (h : SlotHere bytes r f) where
  abbrev out : Out Str
  out = result_out sheet f.slot is_reader is_fn

  -- what holds of whatever type is read holds of the slot's
  typed : (P : Ty → Type 0) → On (read_type 16 (rows (drop r.typ bytes))) P → P f.slot.ty
  typed P x = on-has P (read_type 16 (rows (drop r.typ bytes))) f.slot.ty x h.typ

  pub prim_here : {l l' : List ℕ} {t t₁ : Text} → number_of r.kind ≤ 11
      → Wrote l t (as_function is_fn (primitive_text (number_of r.kind))) l' t₁
      → Writes out l t l' (Ok t₁)
  prim_here le w = rw (prim-out sheet f.slot is_reader is_fn r h.slot le) (whole w)

  module _ {l l₁ : List ℕ} {t t₁ : Text} (arrowed : Wrote l t (arrow is_fn) l₁ t₁) (l' : List ℕ) (q : Result Text Refusal) where
    pub enum-here : number_of r.kind ≡ 15
        → Writes (get_qualified_module sheet r.id then λ typ. ok (enum_result sheet.root typ)) l₁ t₁ l' q
        → Writes out l t l' q
    enum-here k x =
        rw (enum-out sheet f.slot is_reader is_fn r h.slot k)
        (front (enum_result sheet.root) (get_qualified_module sheet r.id) arrowed x)

    -- the text that is made of the slot's type
    abbrev Typed : Leaf → (Str → Str) → Type 0
    Typed leaf f =
        On (read_type 16 (rows (drop r.typ bytes))) (λ ty. Writes (type_string ty sheet leaf then λ typ. ok (f typ)) l₁ t₁ l' q)

    arrow_typed : (leaf : Leaf) (g : Str → Str) → Typed leaf g
        → Writes (type_string f.slot.ty sheet leaf then λ typ. ok (arrow is_fn ++ g typ)) l t l' q
    arrow_typed leaf g x =
        front g (type_string f.slot.ty sheet leaf) arrowed
        (typed (λ ty. Writes (type_string ty sheet leaf then λ typ. ok (g typ)) l₁ t₁ l' q) x)

    pub client-here : number_of r.kind ≡ 17 → Typed Client (fallible_result sheet.root) → Writes out l t l' q
    client-here k x =
        rw (client-out sheet f.slot is_reader is_fn r h.slot k) (arrow_typed Client (fallible_result sheet.root) x)

    module _ (leaf : Leaf) (leaf-is : leaf ≡ module_leaf is_reader) where
      pub any_here : number_of r.kind ≡ 18 → r.id ≡ 0 → Typed leaf (optional (not (eqb r.option 0))) → Writes out l t l' q
      any_here k i x =
          rw (any_out sheet f.slot is_reader is_fn r h.slot k i, ← leaf-is)
          (arrow_typed leaf (optional (not (eqb r.option 0))) x)

      pub fails-here : 11 < number_of r.kind → (number_of r.kind ≡ 15 → ⊥) → (number_of r.kind ≡ 17 → ⊥)
          → (number_of r.kind ≡ 18 → r.id ≡ 0 → ⊥)
          → Typed leaf (λ w. fallible_result sheet.root (optional (not (eqb r.option 0)) w)) → Writes out l t l' q
      fails-here lo n15 n17 any x =
          rw (fails-out sheet f.slot is_reader is_fn r h.slot lo n15 n17 any, ← leaf-is)
          (arrow_typed leaf (λ w. fallible_result sheet.root (optional (not (eqb r.option 0)) w)) x)
