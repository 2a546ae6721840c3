-- The functions that `generate_setter` makes of what its match gave are, at each level, the texts of their parts, one after the
-- other. Assumes nothing.
use mathlib.Core.Path.{◌≡◌, refl, sym, ap, ◌∙◌}
use mathlib.Core.Bool.{Bool, true, false}
use mathlib.Core.List.{List, [], ◌++◌, append_assoc, append-nil}
use Rattle.std.specs.Prelude.{None, Some}
use Prim.Native.Nat.{ℕ, ◌+◌}
use native.Mathlib.Omega.{arith}
use lib.Dec.{eqb}
use Rattle.text.specs.Bytes.{Str, ascii, unit, cond}
use Rattle.text.specs.Decimal.{decimal}
use Rattle.text.specs.Lines.{FormattedTexts, Indent, Branch, Line, none, ◌&◌, margin, broken, to_lines, flat_map, stringify}
use Rattle.text.specs.Lines.{ended}
use Rattle.text.proofs.LinesLaws.{stringify-lines, margin-more}
use Rattle.text.specs.Text.{Wrote, WroteLines}
use Rattle.text.specs.declared.Text.{Text}
use Rattle.calls.specs.Calls.{set_tag}
use Rattle.codegen.specs.Function.{function}
use Rattle.codegen.specs.Setter.{setter_only, setter_and_initter, line_alone, tagged, return_type, setter_functions}
use Rattle.codegen.specs.Setter.{pointer_parts, new_pointer, init_pointer}
use Rattle.codegen.proofs.Laws.{line-or-none, function-lines, function-text}
use Rattle.text.proofs.Laws.{◌⋄◌, reworded}
use Rattle.setter_code.specs.declared.Target.{Target}
use Rattle.setter_code.specs.Parts.{tag_line, start, named, set_open, set_close, set_text}
use Rattle.setter_code.specs.Parts.{size_param, init_open, init_text, initn_text}

-- `) `, the return type and ` {`
set-close : (root : Str) (result : Bool)
    → ascii ") " ++ return_type root result ++ (ascii " {" ++ unit 10) ≡ set_close root result
set-close root true = ap (λ (x : Str). ascii ") -> " ++ x) (append_assoc root (ascii "::Result<()>") (ascii " {\n"))
set-close root false = refl

-- the head lines of the functions
abbrev set_head : Str → Str → Str → Bool → Str
set_head root name typ result =
    ascii "pub fn set_" ++ name ++ ascii "(&mut self, " ++ ascii "value" ++ ascii ": " ++ typ ++ ascii ") "
    ++ return_type root result
    ++ ascii " {"

abbrev init_head : Str → Bool → Str → Str
init_head name sized typ =
    ascii "pub fn init_" ++ name ++ ascii "(self, " ++ size_param sized ++ ascii ") -> " ++ typ ++ ascii " {"

abbrev initn_head : Str → Str → Str
initn_head name typ = ascii "pub fn initn_" ++ name ++ ascii "(self, length: u32) -> " ++ typ ++ ascii " {"

-- ---- the functions at a level

module _ (level : ℕ) where
  -- the lines of a function: those of its tag, and another
  interior : (o d : ℕ) (line : Str) → ended (flat_map (tagged o d (line_alone line)) (level + 1)) ≡ tag_line o d level ++
      (margin (level + 1) ++ line ++ unit 10)
  unfolding to_lines flat_map ended margin
  interior o d line = line-or-none (eqb d 65535) (level + 1) (set_tag o d) (line_alone line)

  -- a function of one line, and more
  one_line : (head : Str) (o d : ℕ) (line : Str) (more : FormattedTexts)
      → ended (flat_map (function head (tagged o d (line_alone line)) more) level)
      ≡ margin level ++ ascii "#[inline]\n" ++ (margin level ++ head ++ unit 10
      ++ (tag_line o d level ++ (margin (level + 1) ++ line ++ unit 10))
      ++ (margin level ++ ascii "}\n" ++ ended (flat_map more level)))
  one_line head o d line more =
      function-lines head (tagged o d (line_alone line)) more level
      ∙ ap (λ (x : Str). margin level ++ ascii "#[inline]\n" ++ (margin level ++ head ++ unit 10 ++ x
      ++ (margin level ++ ascii "}\n" ++ ended (flat_map more level))))
      (interior o d line)

  -- a setter of one line, and more
  set_lines : (root name typ : Str) (result : Bool) (o d : ℕ) (line : Str) (more : FormattedTexts)
      → ended (flat_map (function (set_head root name typ result) (tagged o d (line_alone line)) more) level)
      ≡ set_text root name typ result (tag_line o d) line level ++ ended (flat_map more level)
  unfolding broken
  set_lines root name typ result o d line more =
      one_line (set_head root name typ result) o d line more
      ∙ joined (margin level) (ascii "#[inline]\n") (ascii "pub fn set_") name (ascii "(&mut self, ") (ascii "value") (ascii ": ")
      typ (ascii ") ") (return_type root result) (ascii " {") (unit 10) (tag_line o d level)
      (margin (level + 1)) line (ascii "}\n") (ended (flat_map more level))
      ∙ ap (λ (x : Str). set_open name level ++ typ ++ x ++ tag_line o d level ++ margin (level + 1) ++ line
      ++ broken (ascii "\n}\n") level ++ ended (flat_map more level))
      (set-close root result)
    where
      joined : (m i p name q v c typ a ret b n tag sp line e more : Str)
          → m ++ i ++ (m ++ (p ++ name ++ q ++ v ++ c ++ typ ++ a ++ ret ++ b) ++ n ++ (tag ++ (sp ++ line ++ n))
          ++ (m ++ e ++ more))
          ≡ (m ++ (i ++ (m ++ p)) ++ name ++ (q ++ v ++ c)) ++ typ ++ (a ++ ret ++ (b ++ n)) ++ tag ++ sp ++ line
          ++ (n ++ (m ++ e)) ++ more
      joined m i p name q v c typ a ret b n tag sp line e more = simp append_assoc

  -- an initializer of one line, and more
  init_lines : (name : Str) (sized : Bool) (typ : Str) (o d : ℕ) (line : Str) (more : FormattedTexts)
      → ended (flat_map (function (init_head name sized typ) (tagged o d (line_alone line)) more) level)
      ≡ init_text name sized typ (tag_line o d) line level ++ ended (flat_map more level)
  unfolding broken
  init_lines name sized typ o d line more =
      one_line (init_head name sized typ) o d line more
      ∙ joined (margin level) (ascii "#[inline]\n") (ascii "pub fn init_") name (ascii "(self, ") (size_param sized)
      (ascii ") -> ") typ (ascii " {") (unit 10)
      (tag_line o d level) (margin (level + 1)) line (ascii "}\n") (ended (flat_map more level))
    where
      joined : (m i p name q v c typ b n tag sp line e more : Str)
          → m ++ i ++ (m ++ (p ++ name ++ q ++ v ++ c ++ typ ++ b) ++ n ++ (tag ++ (sp ++ line ++ n)) ++ (m ++ e ++ more))
          ≡ (m ++ (i ++ (m ++ p)) ++ name ++ q ++ v ++ c) ++ typ ++ (b ++ n) ++ tag ++ sp ++ line ++ (n ++ (m ++ e)) ++ more
      joined m i p name q v c typ b n tag sp line e more = simp append_assoc

  -- the initializer of a list of a parameter's type, and more: the tag's line and the other in two steps
  initn-lines : (name typ : Str) (o d : ℕ) (line : Str) (more : FormattedTexts)
      → ended (flat_map (Line (ascii "#[inline]") & Line (initn_head name typ)
      & Indent (Branch (tagged o d none)) & Indent (Line line) & Line (ascii "}") & more) level)
      ≡ initn_text name typ (tag_line o d) line level ++ ended (flat_map more level)
  unfolding to_lines flat_map ended broken
  initn-lines name typ o d line more =
      same (eqb d 65535) ∙ one_line (initn_head name typ) o d line more
      ∙ joined (margin level) (ascii "#[inline]\n") (ascii "pub fn initn_") name (ascii "(self, length: u32) -> ") typ
      (ascii " {") (unit 10)
      (tag_line o d level) (margin (level + 1)) line (ascii "}\n") (ended (flat_map more level))
    where
      same : (absent : Bool)
          → ended (flat_map (Line (ascii "#[inline]") & Line (initn_head name typ)
          & Indent (Branch (cond absent none (Line (set_tag o d) & none))) & Indent (Line line) & Line (ascii "}") & more) level)
          ≡ ended (flat_map (function (initn_head name typ)
          (cond absent (line_alone line) (Line (set_tag o d) & line_alone line)) more) level)
      same true = refl
      same false = refl

      joined : (m i p name q typ b n tag sp line e more : Str)
          → m ++ i ++ (m ++ (p ++ name ++ q ++ typ ++ b) ++ n ++ (tag ++ (sp ++ line ++ n)) ++ (m ++ e ++ more))
          ≡ (m ++ (i ++ (m ++ p)) ++ name ++ q) ++ typ ++ (b ++ n) ++ tag ++ sp ++ line ++ (n ++ (m ++ e)) ++ more
      joined m i p name q typ b n tag sp line e more = simp append_assoc

  -- ---- what the match gave, as text

  module _ (root : Str) (o : ℕ) (name : Str) (d : ℕ) where
    abbrev init_fn : Bool → Str → Str → FormattedTexts
    init_fn sized initter builder_type = function (init_head name sized builder_type) (tagged o d (line_alone initter)) none

    pub only-text : (line typ : Str)
        → set_text root name typ false (tag_line o d) line level
        ≡ stringify (setter_functions root o name d (setter_only (ascii "value") (line_alone line) typ)) level
    unfolding to_lines flat_map ended
    only-text line typ =
        sym (function-text _ (tagged o d (line_alone line)) none level ∙ set_lines root name typ false o d line none
        ∙ append-nil (set_text root name typ false (tag_line o d) line level))

    pub both-text : (line reader_type : Str) (result sized : Bool) (initter builder_type : Str)
        → set_text root name reader_type result (tag_line o d) line level
        ++ init_text name sized builder_type (tag_line o d) initter level
        ≡ stringify (setter_functions root o name d
        (setter_and_initter (line_alone line) reader_type result (size_param sized) (line_alone initter) builder_type None)) level
    unfolding to_lines flat_map ended
    both-text line reader_type result sized initter builder_type =
        sym (function-text (set_head root name reader_type result) (tagged o d (line_alone line))
        (init_fn sized initter builder_type) level
        ∙ set_lines root name reader_type result o d line (init_fn sized initter builder_type)
        ∙ ap (λ (x : Str). set_text root name reader_type result (tag_line o d) line level ++ x)
        (init_lines name sized builder_type o d initter none
        ∙ append-nil (init_text name sized builder_type (tag_line o d) initter level)))

    pub parameter-text : (line reader_type initter builder_type initn : Str)
        → initn_text name builder_type (tag_line o d) initn level
        ++ (set_text root name reader_type true (tag_line o d) line level
        ++ init_text name false builder_type (tag_line o d) initter level)
        ≡ stringify (setter_functions root o name d
        (setter_and_initter (line_alone line) reader_type true [] (line_alone initter) builder_type (Some (builder_type, initn))))
        level
    unfolding to_lines flat_map ended
    parameter-text line reader_type initter builder_type initn =
        sym (stringify-lines _ level (λ e. let z : ◌≡◌ {A = ℕ} 0 1 = cc in omega arith)
        ∙ initn-lines name builder_type o d initn
        (function (set_head root name reader_type true) (tagged o d (line_alone line)) (init_fn false initter builder_type))
        ∙ ap (λ (x : Str). initn_text name builder_type (tag_line o d) initn level ++ x)
        (set_lines root name reader_type true o d line (init_fn false initter builder_type)
        ∙ ap (λ (x : Str). set_text root name reader_type true (tag_line o d) line level ++ x)
        (init_lines name false builder_type o d initter none
        ∙ append-nil (init_text name false builder_type (tag_line o d) initter level))))

    pub void-text :
        named (ascii "#[inline]\npub fn set_") name (ascii "(&mut self, _value: ())  {\n") level ++ tag_line o d level
        ++ margin level ++ ascii "}\n"
        ≡ stringify (setter_functions root o name d (setter_only (ascii "_value") none (ascii "()"))) level
    unfolding to_lines flat_map ended margin broken
    void-text =
        sym (function-text head (tagged o d none) none level ∙ function-lines head (tagged o d none) none level
        ∙ ap (λ (x : Str). margin level ++ ascii "#[inline]\n" ++ (margin level ++ head ++ unit 10 ++ x
        ++ (margin level ++ ascii "}\n" ++ [])))
        (line-or-none (eqb d 65535) (level + 1) (set_tag o d) none ∙ append-nil (tag_line o d level))
        ∙ joined (margin level) (ascii "#[inline]\n") (ascii "pub fn set_") name (ascii "(&mut self, ") (ascii "_value")
        (ascii ": ") (ascii "()") (ascii ") ") [] (ascii " {") (unit 10) (tag_line o d level) (ascii "}\n"))
      where
        head : Str
        head = ascii "pub fn set_" ++ name ++ ascii "(&mut self, " ++ ascii "_value" ++ ascii ": " ++ ascii "()" ++ ascii ") "
            ++ [] ++ ascii " {"

        joined : (m i p name q v c t a r b n tag e : Str)
            → m ++ i ++ (m ++ (p ++ name ++ q ++ v ++ c ++ t ++ a ++ r ++ b) ++ n ++ tag ++ (m ++ e ++ []))
            ≡ m ++ (i ++ (m ++ p)) ++ name ++ (q ++ v ++ c ++ t ++ a ++ r ++ b ++ n) ++ tag ++ m ++ e
        joined m i p name q v c t a r b n tag e = simp (append_assoc, append-nil)

    pub pointer-text : (offset : ℕ)
        → init_open name false level ++ root ++ ascii "::any_pointer::Builder<'a> {\n" ++ tag_line o d level ++ margin (level + 1)
        ++ ascii "let mut result = "
        ++ new_pointer root offset ++ broken (ascii ";\n    result.clear();\n    result\n}\n") level
        ≡ stringify (setter_functions root o name d (pointer_parts root offset)) level
    unfolding to_lines flat_map ended margin broken
    pointer-text offset =
        sym (function-text head (tagged o d lines) none level ∙ function-lines head (tagged o d lines) none level
        ∙ ap (λ (x : Str). margin level ++ ascii "#[inline]\n" ++ (margin level ++ head ++ unit 10 ++ x
        ++ (margin level ++ ascii "}\n" ++ [])))
        (line-or-none (eqb d 65535) (level + 1) (set_tag o d) lines)
        ∙ joined (margin level) (ascii "#[inline]\n") (ascii "pub fn init_") name (ascii "(self, ") [] (ascii ") -> ") root
        (ascii "::any_pointer::Builder<'a>")
        (ascii " {") (unit 10) (tag_line o d level) (margin (level + 1)) (ascii "    ") (ascii "let mut result = ")
        (new_pointer root offset) (ascii ";") (ascii "result.clear();") (ascii "result") (ascii "}\n") (margin-more level))
      where
        head : Str
        head = init_head name false (root ++ ascii "::any_pointer::Builder<'a>")

        lines : FormattedTexts
        lines =
            Line (ascii "let mut result = " ++ new_pointer root offset ++ ascii ";")
            & Line (ascii "result.clear();")
            & Line (ascii "result")
            & none

        joined : (m i p name q v c root t b n tag sp four l np semi clear last e : Str) → sp ≡ m ++ four
            → m ++ i ++ (m ++ (p ++ name ++ q ++ v ++ c ++ (root ++ t) ++ b) ++ n
            ++ (tag ++ ((sp ++ (l ++ np ++ semi)) ++ (n ++ ((sp ++ clear) ++ (n ++ ((sp ++ last) ++ n)))))) ++ (m ++ e ++ []))
            ≡ (m ++ (i ++ (m ++ p)) ++ name ++ q ++ v ++ c) ++ root ++ (t ++ b ++ n) ++ tag ++ sp ++ l ++ np
            ++ (semi ++ n ++ (m ++ (four ++ clear ++ n ++ (m ++ (four ++ last ++ n ++ (m ++ e))))))
        joined m i p name q v c root t b n tag sp four l np semi clear last e h = rw h (simp (append_assoc, append-nil))

-- ---- the writers' parts: constants merged

pub in_call : (root a b o c d : Str) → root ++ (a ++ b) ++ o ++ (c ++ d) ≡ root ++ a ++ (b ++ o ++ c) ++ d
in_call root a b o c d = simp append_assoc

-- what was written, as an equal text
pub retext : {l : List ℕ} {t : Text} {l' : List ℕ} {t' : Text} {a b : Str} → a ≡ b → Wrote l t a l' t' → Wrote l t b l' t'
retext e w = rw e at w

merged : (x a b c : Str) → x ++ (a ++ b ++ c) ≡ x ++ a ++ b ++ c
merged x a b c = simp append_assoc

pub init_opened : (name : Str) (sized : Bool) (level : ℕ)
    → named (ascii "#[inline]\npub fn init_") name (ascii "(self, " ++ size_param sized ++ ascii ") -> ") level
    ≡ init_open name sized level
init_opened name sized level =
    merged (margin level ++ broken (ascii "#[inline]\npub fn init_") level ++ name) (ascii "(self, ") (size_param sized)
    (ascii ") -> ")

-- a start behind a text, in its parts
pub begun : {l l₁ l₂ : List ℕ} {t t₁ t₂ : Text} {x : ℕ → Str} (target : Target) (head_end : Str) → WroteLines l t x l₁ t₁
    → WroteLines l₁ t₁ (start head_end target.tag target.slot.discriminant) l₂ t₂
    → WroteLines l t (λ n. x n ++ head_end ++ tag_line target.tag target.slot.discriminant n ++ margin (n + 1)) l₂ t₂
begun {x = x} target head_end a b =
    reworded (λ n. merged (x n) head_end (tag_line target.tag target.slot.discriminant n) (margin (n + 1))) (a ⋄ b)

pub init_call : (root : Str) (offset : ℕ) (size : Str)
    → root ++ ascii "::traits::FromPointerBuilder::init_pointer(self.builder.get_pointer_field(" ++ decimal offset
    ++ ascii "), " ++ size
    ++ ascii ")" ≡ init_pointer root offset size
init_call root offset size =
    ap (λ (x : Str). x ++ size ++ ascii ")")
    (in_call root (ascii "::traits::FromPointerBuilder::init_pointer(") (ascii "self.builder.get_pointer_field(")
    (decimal offset) (ascii ")") (ascii ", "))

-- a function whose type begins with the root and whose line is a call on a pointer field
pub field-line : (x root b c tag sp p o q u e : Str)
    → x ++ root ++ (b ++ c) ++ tag ++ sp ++ p ++ o ++ (q ++ u ++ e)
    ≡ x ++ (root ++ b) ++ c ++ tag ++ sp ++ (p ++ o ++ q ++ u) ++ e
field-line x root b c tag sp p o q u e = simp append_assoc

pub sized-line : (x root b c tag sp p o q u e : Str)
    → x ++ root ++ b ++ c ++ tag ++ sp ++ p ++ o ++ q ++ u ++ e
    ≡ x ++ (root ++ b) ++ c ++ tag ++ sp ++ (p ++ o ++ q ++ u) ++ e
sized-line x root b c tag sp p o q u e = simp append_assoc

pub text-line : (x a root b c g e tag sp p u z : Str)
    → x ++ a ++ root ++ b ++ root ++ (c ++ g ++ e) ++ tag ++ sp ++ p ++ (u ++ z)
    ≡ x ++ (a ++ root ++ b ++ (root ++ c) ++ g) ++ e ++ tag ++ sp ++ (p ++ u) ++ z
text-line x a root b c g e tag sp p u z = simp append_assoc

-- a Bool's setter up to its line
pub bool_open : (head tag start : Str) → head ++ ascii "bool)  {\n" ++ tag ++ start
    ≡ head ++ ascii "bool" ++ ascii ")  {\n" ++ tag ++ start
bool_open head tag start = ap (λ (x : Str). x ++ tag ++ start) (sym (append_assoc head (ascii "bool") (ascii ")  {\n")))
