-- The text of a getter's request, for a slot with bits: its default is of its type, and the text is a result type and one line
-- with the get of the slot's kind, offset and mask. The steps of `getter_text` are taken apart once for every slot; what they
-- come to for each kind is computed. Assumes nothing.
use Rattle.std.specs.Option.{option_map}
use Rattle.std.specs.Prelude.{◌≡◌, ℕ, Bool, true, false, eqb, List, [], ◌++◌}
use mathlib.Core.Path.{refl, sym, ap, ◌∙◌}
use Rattle.std.specs.Prelude.{Option, Some}
use mathlib.Core.List.{append-nil}
use Prim.Native.String.{String}
use borrow.Author.Tests.{eqb-true}
use Rattle.text.specs.Bytes.{Str, ascii, unit, cond, same}
use Rattle.text.specs.Lines.{Line, margin, stringify}
use Rattle.tree.specs.Tree.{Ty, plain, enum, kind, Value, Slot, Sheet}
use Rattle.tree.specs.Read.{has_words}
use Rattle.codegen_types.specs.Out.{Out, ok, refused, ◌then◌}
use Rattle.codegen_types.specs.TypeString.{type_string, plain_string, is_pointer}
use Rattle.codegen_types.specs.declared.Leaf.{Leaf}
use Rattle.codegen.specs.Getter as codegen
use Rattle.codegen.specs.Getter.{is_option_field, module_leaf, optional, result_type, as_function, fragment_of, getter_fragment}
use Rattle.codegen.specs.Getter.{getter_code, default_declaration, declared, getter_request}
use Rattle.codegen.specs.Default.{getter_mask}
use Rattle.record.specs.Lines.{get_line, getter_lines}
use Rattle.record.specs.Masks.{get_mask, get_mask_text}
use Rattle.record.specs.Types as types
use Rattle.record.specs.Types.{Kind, kind_of}
use Rattle.meaning.specs.Meaning.{whole}
use Rattle.agreement.proofs.KindLaws.{by_kind, no_pointer, no_words, getter_mask_lem}
use Rattle.agreement.proofs.SheetLaws.{Clean}
use Rattle.agreement.proofs.WholeLaws.{Whole, ◌⊹◌, fixed}
use Rattle.agreement.proofs.OutLaws.{ok-is, then_ok, cond-ok}

-- ---- the steps of getter_text

-- the text of what getter_text returns, at level 0
abbrev text_of : codegen.Getter → Str
text_of g = g.result_type ++ unit 10 ++ stringify g.code 0 ++ declared g.declaration 0

module _ (sheet : Sheet) (name : Str) (s : Slot) (is_reader is_fn : Bool) (g : Str) where
  -- what it returns, from what its steps gave
  abbrev getter_of : Bool → Str → Str → codegen.Getter
  getter_of option result fragment = record {
    result_type = as_function is_fn result;
    code = getter_code s is_reader option fragment;
    declaration = default_declaration sheet.root name s;
  }

  -- what follows a step
  abbrev after_fragment : Bool → Str → Str → Out codegen.Getter
  after_fragment option result fragment = ok (getter_of option result fragment)

  abbrev after_result : Str → Bool → Str → Out codegen.Getter
  after_result inner option result = getter_fragment sheet.root name s is_reader is_fn inner then after_fragment option result

  abbrev after_option : Str → Bool → Out codegen.Getter
  after_option inner option = result_type sheet s.ty (optional option inner) then after_result inner option

  abbrev after_inner : Str → Out codegen.Getter
  after_inner inner = is_option_field s then after_option inner

  -- where there is a text, each step gave something
  record Steps : Type 0 where
    inner : Str
    option : Bool
    result : Str
    fragment : Str
    is-inner : type_string s.ty sheet (module_leaf is_reader) ≡ ok inner
    is-option : is_option_field s ≡ ok option
    is-result : result_type sheet s.ty (optional option inner) ≡ ok result
    is-fragment : getter_fragment sheet.root name s is_reader is_fn inner ≡ ok fragment
    text : text_of (getter_of option result fragment) ≡ g

  text-is : (x y : codegen.Getter) → ok x ≡ ok y → ok (text_of y) ≡ ok g → text_of x ≡ g
  text-is x y e f = ap (λ (z : codegen.Getter). text_of z) (ok-is e) ∙ ok-is f

  steps : getter_request sheet name s is_reader is_fn 0 ≡ ok g → Steps
  unfolding getter_request codegen.getter_text margin
  steps e =
      let all = then_ok (type_string s.ty sheet (module_leaf is_reader) then after_inner) (λ x. ok (text_of x)) g e in
      let x = all.value in
      let i = then_ok (type_string s.ty sheet (module_leaf is_reader)) after_inner x all.first in
      let o = then_ok (is_option_field s) (after_option i.value) x i.rest in
      let r =
      then_ok (result_type sheet s.ty (optional o.value i.value)) (after_result i.value o.value) x o.rest in
      let f =
      then_ok (getter_fragment sheet.root name s is_reader is_fn i.value) (after_fragment o.value r.value) x r.rest in
      record {
        inner = i.value;
        option = o.value;
        result = r.value;
        fragment = f.value;
        is-inner = i.first;
        is-option = o.first;
        is-result = r.first;
        is-fragment = f.first;
        text = text-is (getter_of o.value r.value f.value) x f.rest all.rest;
      }

  -- the default is of the slot's type: any other is refused
  own : (st : Steps)
      → (kind s.ty ≡ s.default.kind) × (fragment_of sheet.root name s is_reader is_fn st.inner ≡ st.fragment)
  own st =
      let t =
      cond-ok (eqb (kind s.ty) s.default.kind) (fragment_of sheet.root name s is_reader is_fn st.inner) 10
      st.fragment st.is-fragment in
      (eqb-true (kind s.ty) s.default.kind t.0, t.1)

  pub own_default : getter_request sheet name s is_reader is_fn 0 ≡ ok g → kind s.ty ≡ s.default.kind
  own_default e = (own (steps e)).0

  -- and its type has a text
  pub type-given : getter_request sheet name s is_reader is_fn 0 ≡ ok g
      → (inner : Str) × (type_string s.ty sheet (module_leaf is_reader) ≡ ok inner)
  type-given e = let st = steps e in (st.inner, st.is-inner)

-- ---- slots with bits

-- an option is none: it would be refused
no-option : (s : Slot) (b : Bool) → is_pointer s.ty ≡ false → is_option_field s ≡ ok b → b ≡ false
no-option s b h e = go (eqb s.option 0) (rw h at e)
  where
    go : (t : Bool) → cond t (ok false) (refused 9) ≡ ok b → b ≡ false
    go true e = sym (ok-is e)
    go false e = sym (cond-ok false false 9 b e).1

-- a slot by its type
abbrev slot_of : ℕ → ℕ → ℕ → Value → List ℕ → Ty → Slot
slot_of o e p d ws t = record { offset = o; explicit = e; option = p; ty = t; default = d; words = ws }

-- the get of a type that is a kind alone
module _ (root name : Str) (o e p : ℕ) (d : Value) (ws : List ℕ) (is_reader is_fn : Bool) (leaf : Leaf) where
  plain-line : (n : ℕ) (k : Kind) → kind_of n ≡ Some k
      → fragment_of root name (slot_of o e p d ws (plain n)) is_reader is_fn (plain_string root leaf n)
      ≡ get_line is_reader k o (getter_mask d)
  plain-line =
      by_kind
      (λ n k.
      fragment_of root name (slot_of o e p d ws (plain n)) is_reader is_fn (plain_string root leaf n)
      ≡ get_line is_reader k o (getter_mask d))
      refl refl refl refl refl refl refl refl refl refl refl refl

-- ---- the result type stands within a line

-- as function too
whole-function : (is_fn : Bool) (t : Str) → Whole t → Whole (as_function is_fn t)
whole-function false t w = w
whole-function true t w = go (same t (ascii "()"))
  where
    go : (b : Bool) → Whole (cond b [] (ascii "-> " ++ t))
    go true = record { is = refl }
    go false = fixed "-> " refl ⊹ w

module _ (sheet : Sheet) (clean : Clean sheet) where
  -- an enum's
  enum-result : (the_mod : Str) → Whole the_mod
      → Whole (ascii "::core::result::Result<" ++ the_mod ++ ascii "," ++ sheet.root ++ ascii "::NotInSchema>")
  enum-result the_mod w =
      fixed "::core::result::Result<" refl ⊹ w ⊹ fixed "," refl ⊹ clean.root ⊹ fixed "::NotInSchema>" refl

  -- a text that is known
  said : (t r : Str) → Whole t → ok t ≡ ok r → Whole r
  said t r w e = rw (← ok-is e) w

  -- that of a type that is a kind alone
  plain-result : (leaf : Leaf) (n : ℕ) (k : Kind) → kind_of n ≡ Some k
      → (r : Str) → result_type sheet (plain n) (plain_string sheet.root leaf n) ≡ ok r → Whole r
  plain-result leaf =
      let at : (t : String) → whole (ascii t) ≡ true → (r : Str) → ok (ascii t) ≡ ok r → Whole r =
      λ t w r. said (ascii t) r (fixed t w) in
      by_kind (λ n k. (r : Str) → result_type sheet (plain n) (plain_string sheet.root leaf n) ≡ ok r → Whole r)
      (at "bool" refl) (at "i8" refl) (at "i16" refl) (at "i32" refl) (at "i64" refl)
      (at "u8" refl) (at "u16" refl) (at "u32" refl) (at "u64" refl) (at "f32" refl) (at "f64" refl)
      (λ r. said _ r (enum-result [] (record { is = refl })))

-- ---- the text

-- a getter's text for a slot of kind k: a result type, then the get
pub record GivenGetter (s : Slot) (k : Kind) (explicit is_reader : Bool) (g : Str) : Type 0 where
  pub typ : Str
  pub one_line : Whole typ
  pub same_kind : kind s.ty ≡ s.default.kind
  pub text : g ≡ getter_lines typ (get_line is_reader k s.offset (option_map (get_mask_text k)
      (get_mask k s.default.bits explicit)))

-- the code is one line and there is no declaration
line-text : (root name : Str) (s : Slot) (is_reader : Bool) (typ : Str) (option : Bool) (fragment : Str) → option ≡ false
    → has_words s.explicit (kind s.ty) ≡ false
    → typ ++ unit 10 ++ stringify (getter_code s is_reader option fragment) 0 ++ declared (default_declaration root name s) 0
    ≡ getter_lines typ fragment
unfolding getter_lines
line-text root name s is_reader typ option fragment o w = rw (o, w) (append-nil (typ ++ unit 10 ++ stringify (Line fragment) 0))

module _ (sheet : Sheet) (clean : Clean sheet) (name : Str) (is_reader is_fn : Bool) (k : Kind) where
  -- the get, and a result type within a line, for a type with this text
  record Typed (s : Slot) (inner : Str) : Type 0 where
    line : fragment_of sheet.root name s is_reader is_fn inner ≡ get_line is_reader k s.offset (getter_mask s.default)
    result : (r : Str) → result_type sheet s.ty inner ≡ ok r → Whole r

  typed : (o e p : ℕ) (d : Value) (ws : List ℕ) (t : Ty) (inner : Str) → kind_of (kind t) ≡ Some k
      → type_string t sheet (module_leaf is_reader) ≡ ok inner → Typed (slot_of o e p d ws t) inner
  unfolding type_string kind_of
  typed o e p d ws (plain n) inner h i =
      rw (← ok-is i)
      (record {
        line = plain-line sheet.root name o e p d ws is_reader is_fn (module_leaf is_reader) n k h;
        result = plain-result sheet clean (module_leaf is_reader) n k h;
      })
  typed o e p d ws (enum id ss) inner h i =
      let w = clean.modules id inner i in
      let z : types.enum ≡ k = cc in
      rw (← z) (record { line = refl; result = λ r. said sheet clean _ r (enum-result sheet clean inner w) })
  typed o e p d ws _ inner h i = cc

  -- the text of a getter that is given
  pub getter-given : (s : Slot) (explicit : Bool) (g : Str) → kind_of (kind s.ty) ≡ Some k
      → getter_request sheet name s is_reader is_fn 0 ≡ ok g → GivenGetter s k explicit is_reader g
  getter-given s explicit g h e =
      let st = steps sheet name s is_reader is_fn g e in
      let absent = no-option s st.option (no_pointer (kind s.ty) k h) st.is-option in
      let t = typed s.offset s.explicit s.option s.default s.words s.ty st.inner h st.is-inner in
      let (same_kind, fragment) = own sheet name s is_reader is_fn g st in
      record {
        typ = as_function is_fn st.result;
        one_line = whole-function is_fn st.result (t.result st.result (rw absent at st.is-result));
        same_kind = same_kind;
        text =
            sym st.text
            ∙ line-text sheet.root name s is_reader (as_function is_fn st.result) st.option st.fragment absent
            (no_words s.explicit (kind s.ty) k h)
            ∙ ap (λ (l : Str). getter_lines (as_function is_fn st.result) l)
            (sym fragment ∙ t.line ∙ ap (λ (m : Option Str). get_line is_reader k s.offset m)
            (getter_mask_lem s.default.bits explicit s.default.kind k (rw same_kind at h)));
      }
