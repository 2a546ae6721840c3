-- Where a slot's type has a text for a getter, and its default is of its kind, its paired setter has its parts: a type is refused
-- for each leaf that getters and setters ask it for, or for none, since what may be refused of it does not hang on the leaf.
-- Assumes nothing.
use Rattle.std.specs.Prelude.{◌≡◌, ℕ, Bool, true, false, eqb, List}
use mathlib.Core.Path.{refl, sym}
use borrow.Author.Tests.{eq-eqb}
use Rattle.text.specs.Bytes.{Str, cond}
use Rattle.tree.specs.Tree.{Ty, plain, list, enum, struct, interface, any_pointer, parameter, kind, Scopes, Slot, Node, Sheet}
use Rattle.codegen_types.specs.Out.{Out, ok, refused, ◌then◌}
use Rattle.codegen_types.specs.TypeString.{type_string, list_string, parameter_string, parameter_name, do_branding, accumulate}
use Rattle.codegen_types.specs.TypeString.{node_of, get_qualified_module, scopes_of}
use Rattle.codegen_types.specs.declared.Leaf.{Leaf}
use Rattle.codegen_types.specs.declared.Leaf.TheVariants.{Reader, Builder, Owned, Client}
use Rattle.codegen_types.specs.declared.Lifetime.TheVariants.{A, Anonymous}
use Rattle.codegen.specs.Getter.{module_leaf}
use Rattle.codegen.specs.Profiles.{paired_mask}
use Rattle.codegen.specs.Setter.{mask_by, several_inputs, setter_parts}

-- something is given
abbrev pub Is : {A : Type 0} → Out A → Type 0
Is {A} o = (a : A) × (o ≡ ok a)

-- ---- a type's text does not hang on the leaf

-- the leaves that a parameter has a text for, of those that accessors ask
abbrev Asked : Leaf → Type 0
Asked (Reader lt) = Unit {0}
Asked (Builder lt) = Unit {0}
Asked Owned = Unit {0}
Asked _ = ⊥

-- a brand's
module _ (sheet : Sheet) (id : ℕ) (ss : Scopes) (a b : Leaf) where
  pub branded : Is (get_qualified_module sheet id then do_branding sheet id (scopes_of ss sheet) a)
      → Is (get_qualified_module sheet id then do_branding sheet id (scopes_of ss sheet) b)
  unfolding do_branding
  branded = go _ _ (get_qualified_module sheet id) (accumulate sheet (scopes_of ss sheet) 16 id)
    where
      go : (f g : Str → List (List Str) → Str) (o : Out Str) (p : Out (List (List Str)))
          → Is (o then λ m. p then λ x. ok (f m x)) → Is (o then λ m. p then λ x. ok (g m x))
      go f g (ok m) (ok x) e = (_, refl)
      go f g (ok m) (refused k) e = e
      go f g (refused k) p e = let z = e.1 in cc

module _ (sheet : Sheet) (a b : Leaf) (h : Asked b) where
  pub any-leaf : (t : Ty) → Is (type_string t sheet a) → Is (type_string t sheet b)
  unfolding type_string list_string parameter_string
  any-leaf (plain k) e = (_, refl)
  any-leaf (list t) e = by _ _ _ _ _ _ (eqb (kind t) 12) (eqb (kind t) 13) (eqb (kind t) 18) _ e
    where
      by : (u v u' v' : Str) (f g : Str → Str) (texts blobs any : Bool) (inner : Out Str)
          → Is (cond texts (ok u) (cond blobs (ok v) (cond any (refused 6) (inner then λ t. ok (f t)))))
          → Is (cond texts (ok u') (cond blobs (ok v') (cond any (refused 6) (inner then λ t. ok (g t)))))
      by u v u' v' f g true blobs any inner e = (_, refl)
      by u v u' v' f g false true any inner e = (_, refl)
      by u v u' v' f g false false true inner e = let z = e.1 in cc
      by u v u' v' f g false false false (ok t) e = (_, refl)
      by u v u' v' f g false false false (refused k) e = let z = e.1 in cc
  any-leaf (enum id ss) e = e
  any-leaf (struct id ss) e = branded sheet id ss a b e
  any-leaf (interface id ss) e = branded sheet id ss a b e
  any-leaf any_pointer e = (_, refl)
  any-leaf (parameter id k) e = by (node_of sheet.nodes id) e
    where
      named : (c : Leaf) → Asked c → (p : Str) → Is (parameter_string sheet.root c p)
      named (Reader lt) c p = (_, refl)
      named (Builder lt) c p = (_, refl)
      named Owned c p = (_, refl)
      named _ c p = absurd c

      by-name : (o : Out Str) → Is (o then λ p. parameter_string sheet.root a p)
          → Is (o then λ p. parameter_string sheet.root b p)
      by-name (ok p) e = named b h p
      by-name (refused j) e = let z = e.1 in cc

      by : (o : Out Node) → Is (o then λ n. parameter_name n.params k then λ p. parameter_string sheet.root a p)
          → Is (o then λ n. parameter_name n.params k then λ p. parameter_string sheet.root b p)
      by (ok n) e = by-name (parameter_name n.params k) e
      by (refused j) e = let z = e.1 in cc

-- ---- the parts

-- a default of the slot's kind has a mask by the paired rule, or none, and is not refused
own_mask : (s : Slot) → s.default.kind ≡ kind s.ty → Is (mask_by paired_mask s)
unfolding paired_mask
own_mask s own = rw (eq-eqb (kind s.ty) s.default.kind (sym own)) (_, refl)

-- by a test, each way
either-way : {A : Type 0} (b : Bool) {x y : Out A} → Is x → Is y → Is (cond b x y)
either-way true e h = e
either-way false e h = h

-- what is made of one step, or of two, that are given
one-step : {A B : Type 0} (f : A → B) (o : Out A) → Is o → Is (o then λ a. ok (f a))
one-step f o e = rw e.1 (_, refl)

two-steps : {A B C : Type 0} (f : A → B → C) (o : Out A) (p : Out B) → Is o → Is p → Is (o then λ a. p then λ b. ok (f a b))
two-steps f o p e h = rw (e.1, h.1) (_, refl)

module _ (sheet : Sheet) (s : Slot) (own : s.default.kind ≡ kind s.ty) (is_reader : Bool) where
  abbrev known : Ty → Type 0
  known t = Is (type_string t sheet (module_leaf is_reader))

  asked : (leaf : Leaf) → Asked leaf → known s.ty → Is (type_string s.ty sheet leaf)
  asked leaf h e = any-leaf sheet (module_leaf is_reader) leaf h s.ty e

  -- by the kind of its type
  by-type : known s.ty → (t : Ty) → s.ty ≡ t → Is (setter_parts paired_mask sheet s t)
  unfolding type_string
  by-type e (plain k) f =
      either-way (eqb k 0) (_, refl)
      (either-way (eqb k 12) (_, refl)
      (either-way (eqb k 13) (_, refl)
      (either-way (eqb (kind s.ty) 1) (one-step _ _ (own_mask s own))
      (two-steps _ _ _ (asked (Reader A) tt e) (own_mask s own)))))
  by-type e (list t) f =
      two-steps _ _ _
      (either-way (several_inputs t) (one-step _ _ (asked Owned tt e)) (asked (Reader Anonymous) tt e))
      (asked (Builder A) tt e)
  by-type e (enum id ss) f = two-steps _ _ _ (rw f at e) (own_mask s own)
  by-type e (struct id ss) f = two-steps _ _ _ (asked (Reader Anonymous) tt e) (asked (Builder A) tt e)
  by-type e (interface id ss) f =
      let client : Is (type_string s.ty sheet Client) = rw f (branded sheet id ss (module_leaf is_reader) Client (rw f at e)) in
      one-step _ _ client
  by-type e any_pointer f = (_, refl)
  by-type e (parameter id k) f = two-steps _ _ _ (asked (Builder A) tt e) (asked Owned tt e)

  pub parts-given : known s.ty → Is (setter_parts paired_mask sheet s s.ty)
  parts-given e = by-type e s.ty refl
