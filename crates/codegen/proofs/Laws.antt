-- Laws of masks and of a haser's lines. Assumes nothing.
use Rattle.std.specs.Prelude.{◌≡◌, ℕ, ◌+◌, ◌<◌, ◌≤◌, Bool, true, false, eqb, leb, [], ◌++◌}
use mathlib.Core.Path.{refl, sym, ap, ◌∙◌}
use Rattle.std.specs.Prelude.{Option}
use mathlib.Core.List.{append_assoc, append-nil}
use native.Mathlib.Omega.{arith}
use borrow.Author.Tests.{ne_eqb, eqb-false, le-leb, lt-leb, leb-false}
use Rattle.text.specs.Bytes.{Str, ascii, unit, cond, both}
use Rattle.text.specs.Lines.{FormattedTexts, Branch, Line, none, ◌&◌, margin, broken, to_lines, flat_map, stringify, ended}
use Rattle.text.proofs.LinesLaws.{ended_append, stringify-lines}
use Rattle.names.specs.Names.{camel_to_snake_case}
use Rattle.codegen_types.specs.Out.{Out, ok, refused}
use Rattle.codegen_types.specs.TypeString.{is_pointer_kind}
use Rattle.calls.specs.Calls.{not_null, tag_test}
use Rattle.codegen.specs.Default.{value, integer, unless, prim_default, getter_mask}
use Rattle.codegen.specs.Function.{function}
use Rattle.codegen.specs.Haser.{haser_of, generate_haser, tag_tests}
use Rattle.codegen.specs.TagLine.{tag_test_line}

-- ---- masks

module _ (k b : ℕ) where
  -- from kind 1 to 9 a setter's mask is a getter's
  pub same_mask : 1 ≤ k → k < 10 → ok (getter_mask (value k b)) ≡ prim_default (value k b)
  unfolding prim_default getter_mask
  same_mask lo hi = go (eqb k 1) (leb 2 k) (leb k 9) refl refl refl _
    where
      go : (one low high : Bool) → eqb k 1 ≡ one → leb 2 k ≡ low → leb k 9 ≡ high → (rest : Out (Option Str))
          → ok (unless (eqb b 0) (cond one (ascii "true") (integer (value k b))))
          ≡ cond one (ok (unless (eqb b 0) (ascii "true")))
          (cond (both low high) (ok (unless (eqb b 0) (integer (value k b)))) rest)
      go true low high e f g rest = refl
      go false true true e f g rest = refl
      go false true false e f g rest = let high = leb-false k 9 g in let z : ⊥ = omega arith in absurd z
      go false false high e f g rest =
          let n1 = eqb-false k 1 e in let low = leb-false 2 k f in let z : ⊥ = omega arith in absurd z

  -- those from 12 on are refused
  pub refused-above : 12 ≤ k → prim_default (value k b) ≡ refused 11
  unfolding prim_default
  refused-above hi =
      rw (
        ne_eqb k 1 (λ e. let z : ⊥ = omega arith in absurd z),
        lt-leb k 9 (omega arith),
        le-leb 2 k (omega arith),
        ne_eqb k 10 (λ e. let z : ⊥ = omega arith in absurd z),
        ne_eqb k 11 (λ e. let z : ⊥ = omega arith in absurd z),
      ) refl

-- ---- lines

-- a line, or none, in front of more lines
pub line-or-none : (absent : Bool) (indent : ℕ) (l : Str) (more : FormattedTexts)
    → ended (flat_map (cond absent more (Line l & more)) indent)
    ≡ cond absent [] (margin indent ++ l ++ unit 10) ++ ended (flat_map more indent)
unfolding to_lines flat_map ended margin
line-or-none true indent l more = refl
line-or-none false indent l more = sym (append_assoc (margin indent ++ l) (unit 10) (ended (flat_map more indent)))

-- a function and more lines
pub function-lines : (head : Str) (interior more : FormattedTexts) (level : ℕ)
    → ended (flat_map (function head interior more) level)
    ≡ margin level ++ ascii "#[inline]\n" ++ (margin level ++ head ++ unit 10 ++ ended (flat_map interior (level + 1))
    ++ (margin level ++ ascii "}\n" ++ ended (flat_map more level)))
unfolding to_lines flat_map ended margin
function-lines head interior more level =
    ap (λ (x : Str). (margin level ++ ascii "#[inline]") ++ (unit 10 ++ ((margin level ++ head) ++ (unit 10 ++ x))))
    (ended_append (flat_map interior (level + 1)) (to_lines (Line (ascii "}")) level ++ flat_map more level))
    ∙ joined (margin level) (ascii "#[inline]") (unit 10) head (ended (flat_map interior (level + 1))) (ascii "}")
    (ended (flat_map more level))
  where
    joined : (m i n a b c d : Str)
        → (m ++ i) ++ (n ++ ((m ++ a) ++ (n ++ (b ++ ((m ++ c) ++ (n ++ d))))))
        ≡ m ++ (i ++ n) ++ (m ++ a ++ n ++ b ++ (m ++ (c ++ n) ++ d))
    joined m i n a b c d = simp append_assoc

-- `stringify` of a branch that begins with a function
pub function-text : (head : Str) (interior more : FormattedTexts) (level : ℕ)
    → stringify (Branch (function head interior more)) level ≡ ended (flat_map (function head interior more) level)
unfolding to_lines flat_map
function-text head interior more level =
    stringify-lines (Branch (function head interior more)) level (λ e. let z : ◌≡◌ {A = ℕ} 0 1 = cc in omega arith)

-- ---- a haser

pub haser-none : (tag : ℕ) (name : Str) (d k offset : ℕ) (is_reader : Bool) → is_pointer_kind k ≡ false
    → haser_of tag name d k offset is_reader ≡ stringify (Branch none)
unfolding generate_haser
haser-none tag name d k offset is_reader h = rw h refl

haser-join : (m i p name q n line sp last e : Str)
    → m ++ i ++ (m ++ (p ++ name ++ q) ++ n ++ (line ++ (sp ++ last ++ n)) ++ (m ++ e ++ []))
    ≡ m ++ (i ++ (m ++ p)) ++ name ++ (q ++ n) ++ line ++ sp ++ last ++ (n ++ (m ++ e))
haser-join m i p name q n line sp last e = simp (append_assoc, append-nil)

pub haser-lines : (tag : ℕ) (name : Str) (d k offset : ℕ) (is_reader : Bool) → is_pointer_kind k ≡ true → (level : ℕ)
    → margin level ++ broken (ascii "#[inline]\npub fn has_") level ++ camel_to_snake_case name ++ ascii "(&self) -> bool {\n"
    ++ tag_test_line is_reader tag d level ++ margin (level + 1) ++ not_null is_reader offset ++ broken (ascii "\n}\n") level
    ≡ haser_of tag name d k offset is_reader level
unfolding generate_haser broken ended to_lines flat_map margin
haser-lines tag name d k offset is_reader h level =
    let last : FormattedTexts = Line (not_null is_reader offset) & none in
    let head : Str = ascii "pub fn has_" ++ camel_to_snake_case name ++ ascii "(&self) -> bool {" in
    rw h
    (sym (function-text head (tag_tests is_reader tag d last) none level
    ∙ function-lines head (tag_tests is_reader tag d last) none level
    ∙ ap (λ (x : Str). margin level ++ ascii "#[inline]\n" ++ (margin level ++ head ++ unit 10 ++ x
    ++ (margin level ++ ascii "}\n" ++ [])))
    (line-or-none (eqb d 65535) (level + 1) (tag_test is_reader tag d) last)
    ∙ haser-join (margin level) (ascii "#[inline]\n") (ascii "pub fn has_") (camel_to_snake_case name)
    (ascii "(&self) -> bool {") (unit 10)
    (tag_test_line is_reader tag d level) (margin (level + 1)) (not_null is_reader offset) (ascii "}\n")))
