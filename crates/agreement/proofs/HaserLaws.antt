-- The text of a haser's request: for a pointer slot an opening line, the test of the tag if there is a tag and that the pointer
-- is not null; for any other slot one newline. Assumes nothing.
use Rattle.std.specs.Prelude.{◌≡◌, ℕ, Bool, true, false, eqb, ◌++◌}
use mathlib.Core.Path.{refl}
use Rattle.std.specs.Prelude.{None, Some}
use Rattle.text.specs.Bytes.{Str, ascii, unit, cond}
use Rattle.text.specs.Lines.{Branch, Line, none as no_more, ◌&◌, to_lines, flat_map, stringify}
use Rattle.text.proofs.LinesLaws.{stringify-none}
use Rattle.names.specs.Names.{camel_to_snake_case}
use Rattle.tree.specs.Tree.{Slot}
use Rattle.codegen_types.specs.TypeString.{is_pointer}
use Rattle.calls.specs.Calls.{not_null, tag_test}
use Rattle.codegen.specs.Function.{function}
use Rattle.codegen.specs.Haser.{generate_haser, haser_request}
use Rattle.record.specs.Lines.{function_text, haser_body, haser_text}
use Rattle.agreement.specs.Slots.{tag_of}
use Rattle.agreement.proofs.WholeLaws.{Whole, ◌⊹◌, fixed, whole_camel}

module _ (to : ℕ) (name : Str) (d : ℕ) (s : Slot) (is_reader : Bool) where
  abbrev pub opening_of : Str
  opening_of = ascii "pub fn has_" ++ camel_to_snake_case name ++ ascii "(&self) -> bool {"

  pub whole-opening : Whole name → Whole opening_of
  whole-opening w = fixed "pub fn has_" refl ⊹ whole_camel name w ⊹ fixed "(&self) -> bool {" refl

  pub haser-given : is_pointer s.ty ≡ true
      → haser_request to name d s is_reader 0 ≡ haser_text opening_of is_reader (tag_of to d) s.offset
  unfolding haser_request generate_haser function_text
  haser-given h = rw h (go (eqb d 65535))
    where
      go : (b : Bool)
          → stringify (Branch (function opening_of
          (cond b (Line (not_null is_reader s.offset) & no_more)
          (Line (tag_test is_reader to d) & Line (not_null is_reader s.offset) & no_more)) no_more)) 0
          ≡ function_text opening_of (haser_body is_reader (cond b None (Some (to, d))) s.offset)
      go true = refl
      go false = refl

  pub no-haser : is_pointer s.ty ≡ false → (level : ℕ) → haser_request to name d s is_reader level ≡ unit 10
  unfolding haser_request generate_haser to_lines flat_map
  no-haser h level = rw h (stringify-none (Branch no_more) level refl)
