-- The text of a setter's request, for a slot with bits whose default is of its type, and for a Void slot: an opening line, the
-- tag's line if there is a tag, and the set of the slot's kind, offset and the mask that a rule gives, whichever rule it is. What
-- `generate_setter` gives for each kind is computed. Assumes nothing.
use Rattle.std.specs.Option.{option_map}
use Rattle.std.specs.Prelude.{◌≡◌, ℕ, ◌<◌, Bool, true, false, eqb, List, [], ◌++◌}
use mathlib.Core.Path.{refl, sym, ap, ◌∙◌}
use Rattle.std.specs.Prelude.{Option, None, Some}
use Prim.Native.String.{String}
use native.Mathlib.Omega.{arith}
use Rattle.text.specs.Bytes.{Str, ascii, cond}
use Rattle.text.specs.Lines.{FormattedText, FormattedTexts, Branch, Line, none as no_more, ◌&◌, stringify}
use Rattle.names.specs.Names.{camel_to_snake_case}
use Rattle.tree.specs.Tree.{Ty, plain, enum, kind, Slot, Sheet}
use Rattle.codegen_types.specs.Out.{Out, ok, ◌then◌}
use Rattle.codegen_types.specs.TypeString.{type_string, get_qualified_module}
use Rattle.codegen.specs.Function.{function}
use Rattle.codegen.specs.Default.{value}
use Rattle.codegen.specs.Profiles.{MaskRule}
use Rattle.codegen.specs.Setter.{Parts, setter_only, line_alone, mask_by, setter_parts, enum_setter}
use Rattle.codegen.specs.Setter.{setter_functions, generate_setter}
use Rattle.codegen.specs.Setter.{setter_request}
use Rattle.calls.specs.Calls.{set_tag}
use Rattle.record.specs.Lines.{Tag, set_line, tag_then, function_text, setter_text, void_setter_text}
use Rattle.record.specs.Masks.{set_mask_text}
use Rattle.record.specs.Types as types
use Rattle.record.specs.Types.{int, uint, float32, float64, Kind, bool, num, kind_of}
use Rattle.record.specs.declared.Width.TheVariants.{One, Two, Four, Eight}
use Rattle.meaning.specs.Meaning.{whole}
use Rattle.agreement.specs.Slots.{tag_of}
use Rattle.agreement.proofs.KindLaws.{by_kind}
use Rattle.agreement.proofs.OutLaws.{ok-is, then_ok}
use Rattle.agreement.proofs.SheetLaws.{Clean}
use Rattle.agreement.proofs.WholeLaws.{Whole, ◌⊹◌, fixed, whole_camel}

-- ---- the parts

-- a setter with the set of a slot of kind k and a mask, if there is one, and a type within a line
record Sets (k : Kind) (o : ℕ) (ms : Option ℕ) (p : Parts) : Type 0 where
  typ : Str
  one_line : Whole typ
  parts : setter_only (ascii "value") (line_alone (set_line k o (option_map (set_mask_text k) ms))) typ ≡ p

-- a slot with bits whose default is of its type, and a rule that gives it a mask
module _ (rule : MaskRule) (sheet : Sheet) (o e q b : ℕ) (ws : List ℕ) (ms : Option ℕ) where
  abbrev slot_of : Ty → ℕ → Slot
  slot_of t n = record { offset = o; explicit = e; option = q; ty = t; default = value n b; words = ws }

  abbrev Masks : ℕ → Kind → Type 0
  Masks n k = rule n e (value n b) ≡ ok (option_map (set_mask_text k) ms)

  prim-sets : (n : ℕ) (k : Kind) → kind_of n ≡ Some k → n < 14 → Masks n k → (p : Parts)
      → setter_parts rule sheet (slot_of (plain n) n) (plain n) ≡ ok p → Sets k o ms p
  unfolding type_string
  prim-sets =
      by_kind (λ n k. n < 14 → Masks n k → (p : Parts) → setter_parts rule sheet (slot_of (plain n) n) (plain n) ≡ ok p
      → Sets k o ms p)
      (at bool "bool" refl)
      (at (num (int One)) "i8" refl) (at (num (int Two)) "i16" refl) (at (num (int Four)) "i32" refl)
      (at (num (int Eight)) "i64" refl)
      (at (num (uint One)) "u8" refl) (at (num (uint Two)) "u16" refl) (at (num (uint Four)) "u32" refl)
      (at (num (uint Eight)) "u64" refl) (at (num float32) "f32" refl) (at (num float64) "f64" refl)
      (λ below m p f. absurd (omega arith))
    where
      at : (k : Kind) (t : String) → whole (ascii t) ≡ true → {o' : Out (Option Str)} → {n : ℕ} → n < 14
          → o' ≡ ok (option_map (set_mask_text k) ms) → (p : Parts)
          → (o' then λ mask. ok (setter_only (ascii "value") (line_alone (set_line k o mask)) (ascii t))) ≡ ok p
          → Sets k o ms p
      at k t w below m p f = record { typ = ascii t; one_line = fixed t w; parts = ok-is (rw m at f) }

  enum-sets : (n : ℕ) (the_mod : Str) → Whole the_mod → rule 15 e (value n b) ≡ ok (option_map (set_mask_text types.enum) ms)
      → (p : Parts) → (rule 15 e (value n b) then λ mask. ok (enum_setter o mask the_mod)) ≡ ok p → Sets types.enum o ms p
  enum-sets n the_mod w m p f = record { typ = the_mod; one_line = w; parts = ok-is (rw m at f) }

  sets : Clean sheet → (n : ℕ) (k : Kind) (p : Parts) (t : Ty) → ((m : ℕ) → t ≡ plain m → m < 14)
      → kind_of (kind t) ≡ Some k → kind t ≡ n
      → rule (kind t) e (value n b) ≡ ok (option_map (set_mask_text k) ms)
      → setter_parts rule sheet (slot_of t n) t ≡ ok p → Sets k o ms p
  unfolding kind_of
  sets clean n k p (plain m) below h d z f = prim-sets m k h (below m refl) (rw (← d) at z) p (rw (← d) at f)
  sets clean n k p (enum id ss) below h d z f =
      let rest : Str → Out Parts = λ the_mod. rule 15 e (value n b) then λ mask. ok (enum_setter o mask the_mod) in
      let a = then_ok (get_qualified_module sheet id) rest p f in
      let w = clean.modules id a.value a.first in
      let y : types.enum ≡ k = cc in
      rw (← y) (enum-sets n a.value w (rw (← y) at z) p a.rest)
  sets clean n k p _ below h d z f = cc

-- a type of kind 0 is Void
void-parts : (rule : MaskRule) (sheet : Sheet) (s : Slot) (t : Ty) (p : Parts) → kind t ≡ 0 → setter_parts rule sheet s t ≡ ok p
    → setter_only (ascii "_value") no_more (ascii "()") ≡ p
void-parts rule sheet s (plain n) p h e = ok-is (rw h at e)
void-parts rule sheet s _ p h e = absurd (omega arith)

-- ---- the text

-- a setter's text for a slot of kind k, with a mask, if there is one
pub record GivenSetter (s : Slot) (k : Kind) (ms : Option ℕ) (tag : Option Tag) (w : Str) : Type 0 where
  pub opening : Str
  pub one_line : Whole opening
  pub text : w ≡ setter_text opening tag k s.offset (option_map (set_mask_text k) ms)

-- and for a Void slot
pub record GivenVoid (tag : Option Tag) (w : Str) : Type 0 where
  pub opening : Str
  pub one_line : Whole opening
  pub text : w ≡ void_setter_text opening tag

-- the opening line of a setter alone
abbrev opening_of : Str → Str → Str → Str
opening_of name param typ =
    ascii "pub fn set_" ++ name ++ ascii "(&mut self, " ++ param ++ ascii ": " ++ typ ++ ascii ") " ++ [] ++ ascii " {"

whole-opening : {name param typ : Str} → Whole name → Whole param → Whole typ → Whole (opening_of name param typ)
whole-opening n p t =
    fixed "pub fn set_" refl ⊹ n ⊹ fixed "(&mut self, " refl ⊹ p ⊹ fixed ": " refl ⊹ t ⊹ fixed ") " refl ⊹ fixed "" refl
    ⊹ fixed " {" refl

-- its lines
function-lines : (root : Str) (to d : ℕ) (name param typ : Str) (interior : FormattedTexts)
    → stringify (setter_functions root to name d (setter_only param interior typ)) 0
    ≡ function_text (opening_of name param typ) (tag_then (tag_of to d) interior)
unfolding function_text
function-lines root to d name param typ interior = go (eqb d 65535)
  where
    go : (b : Bool)
        → stringify (Branch (function (opening_of name param typ) (cond b interior (Line (set_tag to d) & interior)) no_more)) 0
        ≡ function_text (opening_of name param typ) (tag_then (cond b None (Some (to, d))) interior)
    go true = refl
    go false = refl

module _ (rule : MaskRule) (sheet : Sheet) (to : ℕ) (name : Str) (d : ℕ) (s : Slot) (w : Str) where
  -- where there is a text, the match over the slot's type gave its parts
  parts-given : setter_request rule sheet to name d s 0 ≡ ok w
      → (p : Parts) × (setter_parts rule sheet s s.ty ≡ ok p) × (stringify (setter_functions sheet.root to
      (camel_to_snake_case name) d p) 0 ≡ w)
  unfolding setter_request generate_setter
  parts-given e =
      let lines : Parts → Out FormattedText = λ p. ok (setter_functions sheet.root to (camel_to_snake_case name) d p) in
      let all = then_ok (setter_parts rule sheet s s.ty then lines) (λ ft. ok (stringify ft 0)) w e in
      let p = then_ok (setter_parts rule sheet s s.ty) lines all.value all.first in
      (p.value, p.first, ap (λ (ft : FormattedText). stringify ft 0) (ok-is p.rest) ∙ ok-is all.rest)

  -- the text of a setter that is given, with the mask that the rule gives
  pub setter-given : Clean sheet → ((m : ℕ) → s.ty ≡ plain m → m < 14) → (k : Kind) (ms : Option ℕ) → Whole name
      → kind_of (kind s.ty) ≡ Some k
      → kind s.ty ≡ s.default.kind → mask_by rule s ≡ ok (option_map (set_mask_text k) ms)
      → setter_request rule sheet to name d s 0 ≡ ok w → GivenSetter s k ms (tag_of to d) w
  setter-given clean below k ms named h same m e =
      let (p, is, text) = parts-given e in
      let x =
      sets rule sheet s.offset s.explicit s.option s.default.bits s.words ms clean s.default.kind k p s.ty below h same m is in
      let snake = camel_to_snake_case name in
      let line : Str = set_line k s.offset (option_map (set_mask_text k) ms) in
      record {
        opening = opening_of snake (ascii "value") x.typ;
        one_line = whole-opening (whole_camel name named) (fixed "value" refl) x.one_line;
        text =
            sym text
            ∙ ap (λ (p : Parts). stringify (setter_functions sheet.root to snake d p) 0) (sym x.parts)
            ∙ function-lines sheet.root to d snake (ascii "value") x.typ (line_alone line);
      }

  -- and of a Void slot's
  pub void-given : Whole name → kind s.ty ≡ 0 → setter_request rule sheet to name d s 0 ≡ ok w → GivenVoid (tag_of to d) w
  void-given named h e =
      let (p, is, text) = parts-given e in
      let snake = camel_to_snake_case name in
      record {
        opening = opening_of snake (ascii "_value") (ascii "()");
        one_line = whole-opening (whole_camel name named) (fixed "_value" refl) (fixed "()" refl);
        text =
            sym text
            ∙ ap (λ (p : Parts). stringify (setter_functions sheet.root to snake d p) 0)
            (sym (void-parts rule sheet s s.ty p h is))
            ∙ function-lines sheet.root to d snake (ascii "_value") (ascii "()") no_more;
      }
