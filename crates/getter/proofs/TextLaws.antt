-- A getter's outcome by those of its steps: the type's refusal, then the option's, then the default's, in the Rust's order; and
-- where there is none, the margin, the result type, a newline, the code and the declaration. Assumes nothing.
use Rattle.std.specs.Prelude.{◌≡◌, ℕ, ◌≤◌, Bool, true, false, eqb, leb, List, [], ◌++◌, drop}
use mathlib.Core.Path.{refl, sym, ap, ◌∙◌}
use Rattle.std.specs.Prelude.{None, Some, Ok}
use Rattle.codegen_types.specs.Written.{Writes}
use borrow.Author.Tests.{eqb-true, leb-true}
use Rattle.terms.specs.Kinds.{number_of}
use Rattle.text.specs.Bytes.{Str, unit, cond}
use Rattle.text.specs.Lines.{margin, stringify}
use Rattle.text.specs.Text.{Wrote, WroteLines}
use Rattle.text.specs.declared.Text.{Text}
use Rattle.text.proofs.Laws.{◌⋄◌, flat}
use Rattle.names.specs.Names.{default_name}
use Rattle.row.specs.Rows.{rows}
use Rattle.tree.specs.Tree as tree
use Rattle.tree.specs.Tree.{kind, Sheet}
use Rattle.tree.specs.Read.{has_words}
use Rattle.tree.specs.Reader.{Rows}
use Rattle.codegen_types.specs.Out.{Out, ok, refused, refusal_of}
use Rattle.codegen_types.specs.TypeString.{type_string}
use Rattle.codegen_types.specs.Primitive.{primitive_text}
use Rattle.codegen_types.specs.declared.Leaf.{Leaf}
use Rattle.codegen_types.proofs.WrittenLaws.{whole, text-of, not-ok, ok-one}
use Rattle.tree.proofs.OtherLines.{never}
use Rattle.field.specs.Slot.{SlotIs, SlotField, SlotHere}
use Rattle.field.specs.declared.Slot.{Slot}
use Rattle.codegen.specs.WordArray.{word_array_declaration}
use Rattle.codegen.specs.Getter.{module_leaf, is_option_field, optional, result_type, as_function, fragment_of, getter_fragment}
use Rattle.codegen.specs.Getter.{getter_code, default_declaration, declared, getter_text, getter_request}
use Rattle.getter_code.specs.Parts.{code_by}
use Rattle.getter_code.proofs.Laws.{code_of}
use Rattle.pointer_constants.specs.Words.{words_at, declaration_text}
use Rattle.pointer_constants.proofs.Laws.{declaration_of}
use Rattle.getter.specs.Result.{yes, result_out, declared_by}
use Rattle.getter.proofs.RefusalLaws.{Given, ok-is, refused-is, result_ok, option_is}
use Rattle.getter.proofs.ResultLaws.{at_plain, prim_text}

-- ---- the declaration

-- a declaration by a slot's numbers is that of the tree's slot, where the default is of the slot's type
pub declared-here : {l : List ℕ} {t : Text} {l' : List ℕ} {t' : Text} (root name bytes : Str) (r : Slot) (f : SlotField)
    → SlotHere bytes r f → number_of r.kind ≡ number_of r.default → WroteLines l t (declared_by root name bytes r) l' t'
    → WroteLines l t (declared (default_declaration root name f.slot)) l' t'
declared-here {l} {t} {l'} {t'} root name bytes r f h k w =
    rw (h.slot.explicit, h.slot.kind) (go (has_words r.explicit (number_of r.kind)) refl w)
  where
    there : Rows
    there = rows (drop r.words bytes)

    go : (b : Bool) → has_words r.explicit (number_of r.kind) ≡ b
        → WroteLines l t (λ n. cond b (declaration_text root (default_name name) r.count (words_at r.count there) n) []) l' t'
        → WroteLines l t (declared (cond b (Some (word_array_declaration root (default_name name) f.slot.words true)) None))
        l' t'
    go true e x =
        declaration_of root (default_name name) there r.count x f.slot.words (rw (← k, e) at h.words) h.count
    go false e x = x

-- ---- the whole

-- only a primitive type's text stands in a fragment
fragment-typ : (sheet : Sheet) (root name : Str) (s : tree.Slot) (is_reader is_fn : Bool) (r : Slot) → SlotIs r s
    → (leaf : Leaf) (w : Str)
    → type_string s.ty sheet leaf ≡ ok w
    → fragment_of root name s is_reader is_fn (primitive_text (number_of r.kind)) ≡ fragment_of root name s is_reader is_fn w
fragment-typ sheet root name s is_reader is_fn r is leaf w e = go (leb (kind s.ty) 11) refl
  where
    plain-text : kind s.ty ≤ 11 → type_string s.ty sheet leaf ≡ ok (primitive_text (number_of r.kind))
    plain-text le =
        at_plain (λ ty. type_string ty sheet leaf
        ≡ ok (primitive_text (number_of r.kind))) s.ty r.id (number_of r.kind) is.id is.kind (rw is.kind at le)
        (prim_text sheet leaf (number_of r.kind) (rw is.kind at le))

    go : (b : Bool) → leb (kind s.ty) 11 ≡ b
        → fragment_of root name s is_reader is_fn (primitive_text (number_of r.kind)) ≡ fragment_of root name s is_reader is_fn w
    go true f =
        let p = plain-text (leb-true (kind s.ty) 11 f) in
        let q : primitive_text (number_of r.kind) ≡ w = cc in
        ap (fragment_of root name s is_reader is_fn) q
    go false f = rw f refl

-- the code, by the text of a primitive type
abbrev code_text : Str → Str → tree.Slot → Bool → Bool → Slot → ℕ → Str
code_text root name s is_reader is_fn r =
    stringify (getter_code s is_reader (cond (eqb s.option 0) false true)
    (fragment_of root name s is_reader is_fn (primitive_text (number_of r.kind))))

-- the outcome of a slot r of the tree's s, by those of its result type, its option and its default
module _ (sheet : Sheet) (name : Str) (s : tree.Slot) (is_reader is_fn : Bool) (r : Slot) (is : SlotIs r s) where
  abbrev leaf : Leaf
  leaf = module_leaf is_reader

  abbrev request : ℕ → Out Str
  request = getter_request sheet name s is_reader is_fn

  -- a type that is not refused, its result type with it, and what that says
  record Typed (result : Str) : Type 0 where
    inner : Str
    typ : Str
    inner-is : type_string s.ty sheet leaf ≡ ok inner
    typ-is : result_type sheet s.ty (optional (yes (is_option_field s)) inner) ≡ ok typ
    result-is : result ≡ as_function is_fn typ

  -- the result type is refused or not as the type is
  result-given : (inner : Str) → type_string s.ty sheet leaf ≡ ok inner
      → Given (result_type sheet s.ty (optional (yes (is_option_field s)) inner))
  result-given inner e =
      ok-is (result_type sheet s.ty (optional (yes (is_option_field s)) inner))
      (result_ok sheet s.ty r.id leaf (optional (yes (is_option_field s)) inner) is.id (ap refusal_of e))

  pub type-refused : (k : ℕ) → result_out sheet s is_reader is_fn ≡ refused k → (level : ℕ) → request level ≡ refused k
  unfolding getter_request getter_text
  type-refused k h level = go (type_string s.ty sheet leaf) refl
    where
      go : (o : Out Str) → type_string s.ty sheet leaf ≡ o → request level ≡ refused k
      go (refused j) e = rw e (rw e at h)
      go (ok inner) e = let typ = result-given inner e in absurd (not-ok (sym (rw (e, typ.is) at h)))

  module _ (result : Str) (h : result_out sheet s is_reader is_fn ≡ ok result) where
    given : Typed result
    given = go (type_string s.ty sheet leaf) refl
      where
        go : (o : Out Str) → type_string s.ty sheet leaf ≡ o → Typed result
        go (refused j) e = absurd (not-ok (rw e at h))
        go (ok inner) e =
            let typ = result-given inner e in
            record {
              inner = inner;
              typ = typ.given;
              inner-is = e;
              typ-is = typ.is;
              result-is = sym (ok-one (rw (e, typ.is) at h));
            }

    pub option-refused : (k : ℕ) → Some k ≡ refusal_of (is_option_field s) → (level : ℕ) → request level ≡ refused k
    unfolding getter_request getter_text
    option-refused k o level = rw (given.inner-is, refused-is (is_option_field s) k (sym o)) refl

    module _ (allowed : None ≡ refusal_of (is_option_field s)) where
      option : Given (is_option_field s)
      option = ok-is (is_option_field s) (sym allowed)

      typ-is : result_type sheet s.ty (optional option.given given.inner) ≡ ok given.typ
      typ-is = rw option.is at given.typ-is

      pub default-refused : (k : ℕ)
          → ((typ : Str) → Some k ≡ refusal_of (getter_fragment sheet.root name s is_reader is_fn typ))
          → (level : ℕ) → request level ≡ refused k
      unfolding getter_request getter_text
      default-refused k d level =
          rw (
            given.inner-is,
            option.is,
            typ-is,
            refused-is (getter_fragment sheet.root name s is_reader is_fn given.inner) k (sym (d given.inner)),
          ) refl

      pub all-allowed : ((typ : Str) → None ≡ refusal_of (getter_fragment sheet.root name s is_reader is_fn typ))
          → (level : ℕ) → (s.default.kind ≡ kind s.ty)
          × (request level ≡ ok (margin level ++ result ++ unit 10 ++ code_text sheet.root name s is_reader is_fn r level
          ++ declared (default_declaration sheet.root name s) level))
      unfolding getter_request getter_text
      all-allowed d level = go (eqb (kind s.ty) s.default.kind) refl
        where
          go : (b : Bool) → eqb (kind s.ty) s.default.kind ≡ b → (s.default.kind ≡ kind s.ty)
              × (request level ≡ ok (margin level ++ result ++ unit 10 ++ code_text sheet.root name s is_reader is_fn r level
              ++ declared (default_declaration sheet.root name s) level))
          go true n = (
            sym (eqb-true (kind s.ty) s.default.kind n),
            rw (
              given.inner-is,
              option.is,
              typ-is,
              n,
              option_is s option.given option.is,
              ← fragment-typ sheet sheet.root name s is_reader is_fn r is leaf given.inner given.inner-is,
            )
                (ap (λ (x : Str). ok (margin level ++ x ++ unit 10 ++ code_text sheet.root name s is_reader is_fn r level
                ++ declared (default_declaration sheet.root name s) level)) (sym given.result-is)),
          )
          go false n = let e = rw n at (d given.inner) in never cc

-- the slot that was read, by its name's bytes, where nothing is refused
pub getter-here : {l l₁ l₂ l₃ l₄ l₅ : List ℕ} {t t₁ t₂ t₃ t₄ t₅ : Text} (bytes : Str) (r : Slot) (f : SlotField)
    → SlotHere bytes r f → (sheet : Sheet) (name : Str) (is_reader is_fn : Bool) → name ≡ f.name
    → WroteLines l t margin l₁ t₁
    → Writes (result_out sheet f.slot is_reader is_fn) l₁ t₁ l₂ (Ok t₂)
    → Wrote l₂ t₂ (unit 10) l₃ t₃
    → WroteLines l₃ t₃ (stringify (code_by sheet.root name r is_reader is_fn)) l₄ t₄
    → WroteLines l₄ t₄ (declared_by sheet.root name bytes r) l₅ t₅
    → None ≡ refusal_of (is_option_field f.slot)
    → ((typ : Str) → None ≡ refusal_of (getter_fragment sheet.root f.name f.slot is_reader is_fn typ))
    → Writes (getter_request sheet f.name f.slot is_reader is_fn t.level) l t l₅ (Ok t₅)
getter-here {t = t} bytes r f h sheet name is_reader is_fn named begun x newline code decl o d =
    let p = text-of (result_out sheet f.slot is_reader is_fn) x in
    let q = all-allowed sheet f.name f.slot is_reader is_fn r h.slot p.text p.is o d t.level in
    let coded = code_of r f.slot h.slot q.0 sheet.root f.name is_reader is_fn (rw named at code) in
    let declared = declared-here sheet.root f.name bytes r f h (sym h.slot.kind ∙ sym q.0 ∙ h.slot.default) (rw named at decl) in
    rw q.1 (whole (begun ⋄ flat p.wrote ⋄ flat newline ⋄ coded ⋄ declared).lines)
