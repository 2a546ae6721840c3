-- The arms of a setter, by the kind of its slot: what the match of `generate_setter` gives for that kind's types, and what the
-- code leaves at each of its ends, at the level of the state that the arm begins in. Assumes nothing.
use mathlib.Core.Path.{◌≡◌, refl, sym, ap, ◌∙◌}
use mathlib.Core.Bool.{Bool, true, false}
use mathlib.Core.List.{List, ◌++◌, append_assoc}
use Rattle.std.specs.Prelude.{Option, Some, Result, Ok, Err}
use Prim.Native.Nat.{ℕ, ◌+◌, ◌≤◌}
use native.Mathlib.Omega.{arith}
use borrow.Author.Tests.{ne_eqb, eqb-true, eqb-false}
use lib.Dec.{eqb, leb}
use lib.ListN.{drop}
use Rattle.terms.specs.Kinds.{number_of}
use Rattle.text.specs.Bytes.{Str, ascii, either}
use Rattle.text.specs.Decimal.{decimal}
use Rattle.text.specs.Lines as lines
use Rattle.text.specs.Lines.{margin, broken, stringify}
use Rattle.text.specs.Text.{Wrote, WroteLines}
use Rattle.text.specs.declared.Text.{Text}
use Rattle.row.specs.Rows.{rows, rest_of}
use Rattle.names.specs.Names.{held, camel_to_snake_case, name_of}
use Rattle.names.specs.declared.Snake.{Snake}
use Rattle.names.proofs.Laws.{name_of_lem}
use Rattle.tree.specs.Tree as tree
use Rattle.tree.specs.Tree.{Ty, plain, list, kind, Sheet}
use Rattle.tree.specs.Reader.{Rows, Reading, On}
use Rattle.tree.specs.Read.{read_type}
use Rattle.terms.specs.Refusals.{number}
use Rattle.terms.specs.declared.refusals.Refusal.{Refusal}
use Rattle.types.specs.Find.{kind_at}
use Rattle.types.proofs.Laws.{on_one, on-two, on-has}
use Rattle.codegen_types.specs.Out.{Out, ok, refused, ◌then◌}
use Rattle.codegen_types.specs.TypeString.{type_string, get_qualified_module}
use Rattle.codegen_types.specs.Primitive.{primitive_text}
use Rattle.codegen_types.specs.Written.{Writes}
use Rattle.codegen_types.specs.declared.Leaf.{Leaf}
use Rattle.codegen_types.specs.declared.Leaf.TheVariants.{Reader, Builder, Owned, Client}
use Rattle.codegen_types.specs.declared.Lifetime.TheVariants.{A, Anonymous}
use Rattle.codegen_types.proofs.WrittenLaws.{whole, refused-text, text-of, refusal-is}
use Rattle.tree.proofs.OtherLines.{never}
use Rattle.setter_code.specs.Parts.{set_open, init_open, initn_open}
use Rattle.field.specs.Slot.{SlotIs, SlotField, SlotHere}
use Rattle.field.specs.declared.Slot.{Slot}
use Rattle.calls.specs.Calls.{set_bool_field, set_data_field}
use Rattle.codegen.specs.Default.{value}
use Rattle.codegen.specs.Mask.{mask_of}
use Rattle.codegen.specs.Profiles.{MaskRule}
use Rattle.codegen.specs.Setter.{Parts, setter_functions, setter_only, line_alone, init_pointer, new_pointer, reborrowed}
use Rattle.codegen.specs.Setter.{setter_parts, prim_parts, text_parts, data_parts, pointer_parts, list_reader_type, setter_input}
use Rattle.codegen.specs.Setter.{generate_setter, setter_request}
use Rattle.codegen.proofs.AroundLaws as around
use Rattle.setter.specs.Typed.{input_type, set_end, init_end, setter_text_of}
use Rattle.setter.proofs.TypeLaws.{ElementIs, of_list, element_at}
use Rattle.setter.proofs.TypeLaws.{at-list, at_enum, at-struct, at-interface, at-any, at-parameter, plain-is}
use Rattle.setter.proofs.Laws.{made, both_parts, behind_set, three_parts, only_end, only-writes, both-writes, three_writes}

-- the default of a slot of the tree, by its numbers
default-here : (s : tree.Slot) (r : Slot) → SlotIs r s → s.default ≡ value (number_of r.default) r.bits
default-here s r is = rw (← is.default, ← is.bits) refl

-- what is made of the text of whatever type is read
pub on-made : {l l₁ l₂ l₃ : List ℕ} {t t₁ u t₃ : Text} (g : Reading Ty) (sheet : Sheet) (leaf : Leaf) (f : Str → Str)
    → On g (λ ty. Writes (type_string ty sheet leaf) l₁ t₁ l₂ (Ok u))
    → ((w : Str) → Wrote l₁ t₁ w l₂ u → Wrote l t (f w) l₃ t₃)
    → On g (λ ty. Writes (type_string ty sheet leaf then λ w. ok (f w)) l t l₃ (Ok t₃))
on-made {l} {l₁} {l₂} {l₃} {t} {t₁} {u} {t₃} g sheet leaf f x h =
    on_one (λ ty. Writes (type_string ty sheet leaf) l₁ t₁ l₂ (Ok u))
    (λ ty. Writes (type_string ty sheet leaf then λ w. ok (f w)) l t l₃ (Ok t₃)) g
    (λ ty y. around.made f (type_string ty sheet leaf) y h) x

-- a refusal of document 01, by its number
ok-some : {j k : ℕ} → ◌≡◌ {A = Option ℕ} (Some j) (Some k) → j ≡ k
ok-some e = cc

-- ---- the arms whose type is read in the sheet

-- a slot r that stands in the sheet's bytes, as the field f of its tree
module _ (bytes : Str) (r : Slot) (f : SlotField) (here : SlotHere bytes r f) where
  -- what holds of whatever type is read holds of the slot's
  pub typed : (P : Ty → Type 0) → On (read_type 16 (rows (drop r.typ bytes))) P → P f.slot.ty
  typed P x = on-has P (read_type 16 (rows (drop r.typ bytes))) f.slot.ty x here.typ

  -- a setter that begins in the state t, with the mask that a rule gives
  module _ (rule : MaskRule) (sheet : Sheet) (tag : ℕ) (name : Str) (t : Text) where
    abbrev is : SlotIs r f.slot
    is = here.slot

    abbrev text : Out Str
    text = setter_text_of rule sheet tag name r.discriminant f.slot t.level

    abbrev from : Out Parts → Out Str
    from o = made sheet.root tag name r.discriminant o t.level

    abbrev typ : Leaf → Out Str
    typ leaf = type_string f.slot.ty sheet leaf

    abbrev both : Bool → Str → Str → Str → Parts
    both sized size a b =
        both_parts sheet.root tag name r.discriminant r.offset sized (init_pointer sheet.root r.offset size) a b

    pub struct-is : number_of r.kind ≡ 16
        → text ≡ from (typ (Reader Anonymous) then λ a. typ (Builder A) then λ b. ok (both false (ascii "0") a b))
    unfolding generate_setter
    struct-is k =
        at-struct (λ ty. from (setter_parts rule sheet f.slot ty)
        ≡ from (typ (Reader Anonymous) then λ a. typ (Builder A) then λ b. ok (both false (ascii "0") a b)))
        f.slot.ty r.id is.id (is.kind ∙ k) (λ j ss. rw is.offset refl)

    pub list-is : number_of r.kind ≡ 14 → (el : Ty) × (f.slot.ty ≡ list el)
        × (text ≡ from (list_reader_type sheet el f.slot.ty then λ a. typ (Builder A) then λ b.
        ok (both true (ascii "size") a b)))
    unfolding generate_setter
    list-is k =
        at-list (λ ty. f.slot.ty ≡ ty → (el : Ty) × (f.slot.ty ≡ list el)
        × (from (setter_parts rule sheet f.slot ty)
        ≡ from (list_reader_type sheet el f.slot.ty then λ a. typ (Builder A) then λ b. ok (both true (ascii "size") a b))))
        f.slot.ty r.id is.id (is.kind ∙ k) (λ el z. (el, z, rw is.offset refl)) refl

    pub interface-is : number_of r.kind ≡ 17 → text ≡ from (typ Client then λ c.
        ok (setter_only (ascii "value") (line_alone (reborrowed r.offset ++ ascii ".set_capability(value.client.hook);")) c))
    unfolding generate_setter
    interface-is k =
        at-interface (λ ty. from (setter_parts rule sheet f.slot ty) ≡ from (typ Client then λ c.
        ok (setter_only (ascii "value") (line_alone (reborrowed r.offset ++ ascii ".set_capability(value.client.hook);")) c)))
        f.slot.ty r.id is.id (is.kind ∙ k) (λ j ss. rw is.offset refl)

    abbrev line : Option Str → Str
    line mask = set_data_field (ascii "u16") r.offset (ascii "value as u16") mask

    pub enum-is : number_of r.kind ≡ 15 → text ≡ from (get_qualified_module sheet r.id then λ m.
        mask_of rule r then λ x.
        ok (setter_only (ascii "value") (line_alone (line x)) m))
    unfolding generate_setter
    enum-is k =
        at_enum (λ ty. from (setter_parts rule sheet f.slot ty) ≡ from (get_qualified_module sheet r.id then λ m.
        mask_of rule r then λ x.
        ok (setter_only (ascii "value") (line_alone (line x)) m)))
        f.slot.ty r.id is.id (is.kind ∙ k)
        (λ ss. rw (is.offset, is.explicit, is.kind, default-here f.slot r is) refl)

    abbrev new : Str → Str
    new call = new_pointer sheet.root r.offset ++ call

    pub parameter-is : number_of r.kind ≡ 18 → (r.id ≡ 0 → ⊥) → text ≡ from (typ (Builder A) then λ b. typ Owned then λ w.
        ok (three_parts sheet.root tag name r.discriminant r.offset (new (ascii ".initn_as(length)"))
        (new (ascii ".init_as()")) b w))
    unfolding generate_setter
    parameter-is k j =
        at-parameter (λ ty. from (setter_parts rule sheet f.slot ty) ≡ from (typ (Builder A) then λ b. typ Owned then λ w.
        ok (three_parts sheet.root tag name r.discriminant r.offset (new (ascii ".initn_as(length)")) (new (ascii ".init_as()"))
        b w)))
        f.slot.ty r.id is.id (is.kind ∙ k) j (λ id at. rw is.offset refl)

    -- ---- what the code leaves at each end of an arm

    -- what is written of whatever type is read at the slot's
    abbrev There : (Ty → Out Str) → List ℕ → Text → List ℕ → Result Text Refusal → Type 0
    There o l u l' q = On (read_type 16 (rows (drop r.typ bytes))) (λ ty. Writes (o ty) l u l' q)

    there : (o : Ty → Out Str) (l : List ℕ) (u : Text) (l' : List ℕ) (q : Result Text Refusal) → There o l u l' q
        → Writes (o f.slot.ty) l u l' q
    there o l u l' q x = typed (λ ty. Writes (o ty) l u l' q) x

    abbrev read : Leaf → Ty → Out Str
    read leaf ty = type_string ty sheet leaf

    -- a list's setter takes what is chosen by its element
    abbrev ListReader : List ℕ → Text → List ℕ → Result Text Refusal → Type 0
    ListReader l u l' q =
        On (read_type 16 (rows (drop r.typ bytes))) (λ ty. (el : Ty) → ty ≡ list el
        → Writes (list_reader_type sheet el ty) l u l' q)

    list_reader : (l : List ℕ) (u : Text) (l' : List ℕ) (q : Result Text Refusal) → ListReader l u l' q → (el : Ty)
        → f.slot.ty ≡ list el
        → Writes (list_reader_type sheet el f.slot.ty) l u l' q
    list_reader l u l' q x el z = typed (λ ty. (el : Ty) → ty ≡ list el → Writes (list_reader_type sheet el ty) l u l' q) x el z

    module _ {l l' : List ℕ} (l₁ : List ℕ) (t₁ : Text) (l₂ : List ℕ) where
      -- the first type is refused
      module _ (e : Refusal) where
        pub struct-first : number_of r.kind ≡ 16 → There (read (Reader Anonymous)) l₁ t₁ l₂ (Err e) → Writes text l t l' (Err e)
        struct-first k x =
            rw (struct-is k, refusal-is (typ (Reader Anonymous)) (there (read (Reader Anonymous)) l₁ t₁ l₂ (Err e) x))
            (refused-text refl)

        pub list-first : number_of r.kind ≡ 14 → ListReader l₁ t₁ l₂ (Err e) → Writes text l t l' (Err e)
        list-first k x =
            let arm = list-is k in
            rw (arm.2, refusal-is (list_reader_type sheet arm.0 f.slot.ty) (list_reader l₁ t₁ l₂ (Err e) x arm.0 arm.1))
            (refused-text refl)

        pub interface-first : number_of r.kind ≡ 17 → There (read Client) l₁ t₁ l₂ (Err e) → Writes text l t l' (Err e)
        interface-first k x =
            rw (interface-is k, refusal-is (typ Client) (there (read Client) l₁ t₁ l₂ (Err e) x)) (refused-text refl)

        pub enum-first : number_of r.kind ≡ 15 → Writes (get_qualified_module sheet r.id) l₁ t₁ l₂ (Err e)
            → Writes text l t l' (Err e)
        enum-first k x = rw (enum-is k, refusal-is (get_qualified_module sheet r.id) x) (refused-text refl)

        pub parameter-first : number_of r.kind ≡ 18 → (r.id ≡ 0 → ⊥) → There (read (Builder A)) l₁ t₁ l₂ (Err e)
            → Writes text l t l' (Err e)
        parameter-first k n x =
            rw (parameter-is k n, refusal-is (typ (Builder A)) (there (read (Builder A)) l₁ t₁ l₂ (Err e) x)) (refused-text refl)

      -- it is not, and what comes after it is
      module _ (u : Text) (l₄ : List ℕ) (t₄ : Text) (l₅ : List ℕ) (e : Refusal) where
        pub parameter-later : number_of r.kind ≡ 18 → (r.id ≡ 0 → ⊥) → There (read (Builder A)) l₁ t₁ l₂ (Ok u)
            → There (input_type sheet) l₄ t₄ l₅ (Err e) → Writes text l t l' (Err e)
        parameter-later k n x y =
            let p = text-of (typ (Builder A)) (there (read (Builder A)) l₁ t₁ l₂ (Ok u) x) in
            rw (parameter-is k n, p.is) (go p.text (typ Owned) (there (input_type sheet) l₄ t₄ l₅ (Err e) y))
          where
            go : (b : Str) (o : Out Str) → Writes (o then λ owned. ok (setter_input sheet.root owned)) l₄ t₄ l₅ (Err e)
                → Writes (from (o then λ w. ok (three_parts sheet.root tag name r.discriminant r.offset
                (new (ascii ".initn_as(length)")) (new (ascii ".init_as()")) b w))) l t l' (Err e)
            go b (ok w) z = let q = z.refusal in never cc
            go b (refused k) z = refused-text (ok-some z.refusal)

      pub enum-later : (u : Text) (e : Refusal) → number_of r.kind ≡ 15 → Writes (get_qualified_module sheet r.id) l₁ t₁ l₂ (Ok u)
          → refused (number e) ≡ mask_of rule r → Writes text l t l' (Err e)
      enum-later u e k x m =
          let p = text-of (get_qualified_module sheet r.id) x in rw (enum-is k, p.is, ← m) (refused-text refl)

    -- the first type is not refused, and what follows it may be
    abbrev follow : Bool → Str → ℕ → Ty → Out Str
    follow sized size level ty =
        read (Builder A) ty then λ b.
        ok (behind_set sheet.root tag name r.discriminant r.offset sized (init_pointer sheet.root r.offset size) b level)

    module _ {l l₁ l₃ : List ℕ} {t₁ : Text} {q : Result Text Refusal} (l₂ : List ℕ) (v : Text) where
      followed : (sized : Bool) (size : Str) (o : Out Str) → WroteLines l t (set_open name) l₁ t₁ → Writes o l₁ t₁ l₂ (Ok v)
          → There (follow sized size v.level) l₂ v l₃ q
          → Writes (from (o then λ a. typ (Builder A) then λ b. ok (both sized size a b))) l t l₃ q
      followed sized size o a x y =
          both-writes sheet.root tag name r.discriminant r.offset sized (init_pointer sheet.root r.offset size)
          o (typ (Builder A)) a x (there (follow sized size v.level) l₂ v l₃ q y)

      pub struct-here : number_of r.kind ≡ 16 → WroteLines l t (set_open name) l₁ t₁
          → There (read (Reader Anonymous)) l₁ t₁ l₂ (Ok v) → There (follow false (ascii "0") v.level) l₂ v l₃ q
          → Writes text l t l₃ q
      struct-here k a x y =
          rw (struct-is k)
          (followed false (ascii "0") (typ (Reader Anonymous)) a (there (read (Reader Anonymous)) l₁ t₁ l₂ (Ok v) x) y)

      pub list-here : number_of r.kind ≡ 14 → WroteLines l t (set_open name) l₁ t₁ → ListReader l₁ t₁ l₂ (Ok v)
          → There (follow true (ascii "size") v.level) l₂ v l₃ q → Writes text l t l₃ q
      list-here k a x y =
          let arm = list-is k in
          rw arm.2
          (followed true (ascii "size") (list_reader_type sheet arm.0 f.slot.ty) a (list_reader l₁ t₁ l₂ (Ok v) x arm.0 arm.1) y)

    -- nothing is refused
    pub interface-here : {l l₁ l₂ l₃ : List ℕ} {t₁ u t₃ : Text} → number_of r.kind ≡ 17 → WroteLines l t (set_open name) l₁ t₁
        → There (read Client) l₁ t₁ l₂ (Ok u)
        → WroteLines l₂ u (only_end tag r.discriminant (reborrowed r.offset ++ ascii ".set_capability(value.client.hook);")) l₃ t₃
        → Writes text l t l₃ (Ok t₃)
    interface-here {l} {l₁} {l₂} {l₃} {t₁} {u} {t₃} k a x b =
        rw (interface-is k)
        (only-writes sheet.root tag name r.discriminant (ok tt) tt
        (λ (z : Unit {0}). reborrowed r.offset ++ ascii ".set_capability(value.client.hook);") (typ Client) refl a
        (there (read Client) l₁ t₁ l₂ (Ok u) x) b)

    pub enum-here : {l l₁ l₂ l₃ : List ℕ} {t₁ u t₃ : Text} (mask : Option Str) → number_of r.kind ≡ 15
        → ok mask ≡ mask_of rule r → WroteLines l t (set_open name) l₁ t₁
        → Writes (get_qualified_module sheet r.id) l₁ t₁ l₂ (Ok u)
        → WroteLines l₂ u (only_end tag r.discriminant (line mask)) l₃ t₃ → Writes text l t l₃ (Ok t₃)
    enum-here mask k m a x b =
        rw (enum-is k)
        (only-writes sheet.root tag name r.discriminant (mask_of rule r) mask line
        (get_qualified_module sheet r.id) (sym m) a x b)

    pub parameter-here : {l l₁ l₂ l₃ l₄ l₅ l₆ l₇ l₈ l₉ : List ℕ} {t₁ t₃ t₄ t₆ t₇ t₉ u v w : Text}
        → number_of r.kind ≡ 18 → (r.id ≡ 0 → ⊥)
        → WroteLines l t (initn_open name) l₁ t₁ → There (read (Builder A)) l₁ t₁ l₂ (Ok u)
        → WroteLines l₂ u (init_end tag r.discriminant (new (ascii ".initn_as(length)"))) l₃ t₃
        → WroteLines l₃ t₃ (set_open name) l₄ t₄ → There (input_type sheet) l₄ t₄ l₅ (Ok v)
        → WroteLines l₅ v (set_end sheet.root tag r.discriminant r.offset) l₆ t₆
        → WroteLines l₆ t₆ (init_open name false) l₇ t₇ → There (read (Builder A)) l₇ t₇ l₈ (Ok w)
        → WroteLines l₈ w (init_end tag r.discriminant (new (ascii ".init_as()"))) l₉ t₉ → Writes text l t l₉ (Ok t₉)
    parameter-here {l} {l₁} {l₂} {l₃} {l₄} {l₅} {l₆} {l₇} {l₈} {l₉} {t₁} {t₃} {t₄} {t₆} {t₇} {t₉} {u} {v} {w}
        k n a x b c y e g z h =
        rw (parameter-is k n)
        (three_writes sheet.root tag name r.discriminant r.offset (new (ascii ".initn_as(length)")) (new (ascii ".init_as()"))
        (typ (Builder A)) (typ Owned) a (there (read (Builder A)) l₁ t₁ l₂ (Ok u) x) b
        c (there (input_type sheet) l₄ t₄ l₅ (Ok v) y) e
        g (there (read (Builder A)) l₇ t₇ l₈ (Ok w) z) h)

-- the line of an interface's setter, its constants merged
pub capability-line : (x : Str) (offset level : ℕ)
    → x ++ margin (level + 1) ++ ascii "self.builder.reborrow().get_pointer_field(" ++ decimal offset
    ++ broken (ascii ").set_capability(value.client.hook);\n}\n") level
    ≡ x ++ margin (level + 1) ++ (reborrowed offset ++ ascii ".set_capability(value.client.hook);")
    ++ broken (ascii "\n}\n") level
unfolding broken
capability-line x offset level =
    joined x (margin (level + 1)) (ascii "self.builder.reborrow().get_pointer_field(") (decimal offset) (ascii ")")
    (ascii ".set_capability(value.client.hook);") (broken (ascii "\n}\n") level)
  where
    joined : (x sp p o q u z : Str) → x ++ sp ++ p ++ o ++ (q ++ u ++ z) ≡ x ++ sp ++ (p ++ o ++ q ++ u) ++ z
    joined x sp p o q u z = simp append_assoc

-- what a list's setter takes, by whether its element has several SetterInput impls
module _ (rs : Rows) (sheet : Sheet) (j : ℕ) (several : Bool) (e : j ≡ kind_at (rest_of rs))
    (is : several ≡ either (leb j 12) (eqb j 15)) where
  -- the test of the element's kind
  chosen : (ty el : Ty) (b : Bool) → several ≡ b → ElementIs ty (kind_at (rest_of rs)) → ty ≡ list el
      → either (leb (kind el) 12) (eqb (kind el) 15) ≡ b
  chosen ty el b h i z = rw (of_list ty el (kind_at (rest_of rs)) i z, ← e, ← is) h

  module _ (l : List ℕ) (t : Text) (l' : List ℕ) (q : Result Text Refusal) where
    abbrev Takes : Ty → Type 0
    Takes ty = (el : Ty) → ty ≡ list el → Writes (list_reader_type sheet el ty) l t l' q

    pub on-several : several ≡ true → On (read_type 16 rs) (λ ty. Writes (input_type sheet ty) l t l' q)
        → On (read_type 16 rs) Takes
    on-several h x =
        on-two (λ ty. ElementIs ty (kind_at (rest_of rs))) (λ ty. Writes (input_type sheet ty) l t l' q) Takes
        (read_type 16 rs) (λ ty i w el z. rw (chosen ty el true h i z) w) (element_at 16 rs) x

    pub on-one-input : several ≡ false → On (read_type 16 rs) (λ ty. Writes (type_string ty sheet (Reader Anonymous)) l t l' q)
        → On (read_type 16 rs) Takes
    on-one-input h x =
        on-two (λ ty. ElementIs ty (kind_at (rest_of rs)))
        (λ ty. Writes (type_string ty sheet (Reader Anonymous)) l t l' q) Takes
        (read_type 16 rs) (λ ty i w el z. rw (chosen ty el false h i z) w) (element_at 16 rs) x

-- ---- the arms whose type has one row

prim_text : (sheet : Sheet) (k : ℕ) → k ≤ 11 → type_string (plain k) sheet (Reader A) ≡ ok (primitive_text k)
unfolding type_string
prim_text sheet k le =
    rw (ne_eqb k 12 (λ e. let z : ⊥ = omega arith in absurd z), ne_eqb k 13 (λ e. let z : ⊥ = omega arith in absurd z)) refl

module _ (rule : MaskRule) (sheet : Sheet) (s : tree.Slot) (r : Slot) (is : SlotIs r s) (tag : ℕ) (name : Str) (d : ℕ) where
  parts_at : (k : ℕ) → number_of r.kind ≡ k → k ≤ 13 → setter_parts rule sheet s s.ty ≡ setter_parts rule sheet s (plain k)
  parts_at k e le = ap (setter_parts rule sheet s) (plain-is s.ty r.id k is.id (is.kind ∙ e) le)

  typ-at : number_of r.kind ≤ 11 → type_string s.ty sheet (Reader A) ≡ ok (primitive_text (number_of r.kind))
  typ-at le = rw (plain-is s.ty r.id (number_of r.kind) is.id is.kind (omega arith)) (prim_text sheet (number_of r.kind) le)

  prim-at : (k : ℕ) → number_of r.kind ≡ k → (k ≡ 0 → ⊥) → k ≤ 11 → setter_parts rule sheet s s.ty ≡ prim_parts rule sheet s
  prim-at k e n0 le =
      parts_at k e (omega arith)
      ∙ rw (
        ne_eqb k 0 n0,
        ne_eqb k 12 (λ z. let w : ⊥ = omega arith in absurd w),
        ne_eqb k 13 (λ z. let w : ⊥ = omega arith in absurd w),
      ) refl

  abbrev bool_parts : Option Str → Parts
  bool_parts mask = setter_only (ascii "value") (line_alone (set_bool_field r.offset (ascii "value") mask)) (ascii "bool")

  abbrev number_parts : Option Str → Parts
  number_parts mask =
      setter_only (ascii "value") (line_alone (set_data_field (primitive_text (number_of r.kind)) r.offset (ascii "value") mask))
      (primitive_text (number_of r.kind))

  abbrev out : ℕ → Out Str
  out = setter_text_of rule sheet tag name d s

  -- these parts are written whole, from the level of the state on
  abbrev Whole : List ℕ → Text → List ℕ → Text → Parts → Type 0
  Whole l t l' t' p = WroteLines l t (stringify (setter_functions sheet.root tag name d p)) l' t'

  whole_here : {l l' : List ℕ} {t t' : Text} (p : Parts) → setter_parts rule sheet s s.ty ≡ ok p → Whole l t l' t' p
      → Writes (out t.level) l t l' (Ok t')
  unfolding generate_setter
  whole_here p e w = rw e (whole w.lines)

  module _ {l l' : List ℕ} {t t' : Text} where
    pub void-here : number_of r.kind ≡ 0 → Whole l t l' t' (setter_only (ascii "_value") lines.none (ascii "()"))
        → Writes (out t.level) l t l' (Ok t')
    void-here e w = whole_here _ (parts_at 0 e (omega arith)) w

    pub text-here : number_of r.kind ≡ 12 → Whole l t l' t' (text_parts sheet.root r.offset) → Writes (out t.level) l t l' (Ok t')
    text-here e w = whole_here (text_parts sheet.root r.offset) (parts_at 12 e (omega arith) ∙ rw is.offset refl) w

    pub data-here : number_of r.kind ≡ 13 → Whole l t l' t' (data_parts sheet.root r.offset) → Writes (out t.level) l t l' (Ok t')
    data-here e w = whole_here (data_parts sheet.root r.offset) (parts_at 13 e (omega arith) ∙ rw is.offset refl) w

    pub any_here : number_of r.kind ≡ 18 → r.id ≡ 0 → Whole l t l' t' (pointer_parts sheet.root r.offset)
        → Writes (out t.level) l t l' (Ok t')
    any_here e i w =
        whole_here (pointer_parts sheet.root r.offset)
        (at-any (λ ty. setter_parts rule sheet s ty ≡ ok (pointer_parts sheet.root r.offset)) s.ty r.id is.id
        (is.kind ∙ e) i
        (rw is.offset refl)) w

  -- those of a Bool or a number have the rule's mask, which may be refused
  bool-is : number_of r.kind ≡ 1 → setter_parts rule sheet s s.ty ≡ (mask_of rule r then λ mask. ok (bool_parts mask))
  bool-is e =
      prim-at 1 e (λ z. let w : ⊥ = omega arith in absurd w) (omega arith)
      ∙ rw (is.kind ∙ e, e, is.offset, is.explicit, default-here s r is) refl

  number-is : (number_of r.kind ≡ 0 → ⊥) → (number_of r.kind ≡ 1 → ⊥) → number_of r.kind ≤ 11
      → setter_parts rule sheet s s.ty ≡ (mask_of rule r then λ mask. ok (number_parts mask))
  number-is n0 n1 le =
      prim-at (number_of r.kind) refl n0 le
      ∙ rw (is.kind, ne_eqb (number_of r.kind) 1 n1, typ-at le, is.offset, is.explicit, default-here s r is) refl

  module _ {l l' : List ℕ} {t : Text} where
    pub prim-refused : {e : Refusal} → (number_of r.kind ≡ 0 → ⊥) → number_of r.kind ≤ 11 → refused (number e) ≡ mask_of rule r
        → Writes (out t.level) l t l' (Err e)
    unfolding generate_setter
    prim-refused {e} n0 le h = go (eqb (number_of r.kind) 1) refl
      where
        go : (b : Bool) → eqb (number_of r.kind) 1 ≡ b → Writes (out t.level) l t l' (Err e)
        go true k = rw (bool-is (eqb-true (number_of r.kind) 1 k), ← h) (refused-text refl)
        go false k = rw (number-is n0 (eqb-false (number_of r.kind) 1 k) le, ← h) (refused-text refl)

    module _ {t' : Text} (mask : Option Str) (h : ok mask ≡ mask_of rule r) where
      pub bool-here : number_of r.kind ≡ 1 → Whole l t l' t' (bool_parts mask) → Writes (out t.level) l t l' (Ok t')
      bool-here e w = whole_here (bool_parts mask) (bool-is e ∙ rw (← h) refl) w

      pub number-here : (number_of r.kind ≡ 0 → ⊥) → (number_of r.kind ≡ 1 → ⊥) → number_of r.kind ≤ 11
          → Whole l t l' t' (number_parts mask)
          → Writes (out t.level) l t l' (Ok t')
      number-here n0 n1 le w = whole_here (number_parts mask) (number-is n0 n1 le ∙ rw (← h) refl) w

-- ---- the request

pub setter-here : {l l' : List ℕ} {t : Text} {q : Result Text Refusal} (bytes : Str) (r : Slot) (f : SlotField)
    → SlotHere bytes r f
    → (rule : MaskRule) (sheet : Sheet) (tag : ℕ) (name : Str) (snake : Snake) → name ≡ f.name
    → snake ≡ held (camel_to_snake_case name)
    → Writes (setter_text_of rule sheet tag (name_of snake) r.discriminant f.slot t.level) l t l' q
    → Writes (setter_request rule sheet tag f.name f.discriminant f.slot t.level) l t l' q
unfolding setter_request
setter-here bytes r f here rule sheet tag name snake text held-is x =
    rw (← text, ← name_of_lem snake (camel_to_snake_case name) held-is, here.discriminant) x
