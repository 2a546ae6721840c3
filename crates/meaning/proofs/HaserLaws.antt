-- A haser's text, run, is its tests; where the pointer is null they say false. Assumes nothing.
use Rattle.std.specs.Prelude.{◌≡◌, ℕ, Bool, true, false, eqb, List, [], ◌∷◌, ◌++◌}
use mathlib.Core.Path.{ap, ◌∙◌}
use Rattle.std.specs.Prelude.{Option, None, Some}
use Rattle.text.specs.Bytes.{Str}
use Rattle.text.specs.Lines.{spaces}
use Rattle.text.proofs.BytesLaws.{both_false}
use Rattle.calls.specs.Calls.{not_null, tag_test}
use Rattle.record.specs.Lines.{Tag, haser_text}
use Rattle.record.specs.Record.{Record, get, null}
use Rattle.record.specs.Types.{tag_place}
use Rattle.record.specs.declared.PointerOffset.{PointerOffset}
use Rattle.meaning.specs.Claims.{TextHaserHolds, has_answer}
use Rattle.meaning.specs.Meaning as meaning
use Rattle.meaning.specs.Meaning.{Test, null_test, whole, tests_of, run_tests, run_haser}
use Rattle.meaning.proofs.CallLaws.{tests_null, tests_tag}
use Rattle.meaning.proofs.LineLaws.{Wholes, whole-null, whole_tag, indented}
use Rattle.meaning.proofs.SetLaws.{function-inner}

-- the lines of a haser's body, and their tests
abbrev haser_lines : Bool → Option Tag → ℕ → List Str
haser_lines is_reader None i = not_null is_reader i ∷ []
haser_lines is_reader (Some t) i = tag_test is_reader t.0 t.1 ∷ not_null is_reader i ∷ []

abbrev tests_for : Option Tag → ℕ → List Test
tests_for None i = null_test (record { 0 = i }) ∷ []
tests_for (Some t) i = meaning.tag_test t.0 t.1 ∷ null_test (record { 0 = i }) ∷ []

wholes_haser : (is_reader : Bool) (tag : Option Tag) (i : ℕ) → Wholes (haser_lines is_reader tag i)
wholes_haser is_reader None i = Wholes.add (not_null is_reader i) (whole-null is_reader i) Wholes.nil
wholes_haser is_reader (Some t) i =
    Wholes.add (tag_test is_reader t.0 t.1) (whole_tag is_reader t.0 t.1)
    (Wholes.add (not_null is_reader i) (whole-null is_reader i) Wholes.nil)

tests_of_null : (is_reader : Bool) (i : ℕ)
    → tests_of (indented 4 (not_null is_reader i ∷ [])) ≡ Some (null_test (record { 0 = i }) ∷ [])
unfolding tests_of not_null
tests_of_null true i = rw (tests_null true i)
tests_of_null false i = rw (tests_null false i)

tests_of_tag : (is_reader : Bool) (o n : ℕ) (more : List Str) (ts : List Test) → tests_of more ≡ Some ts
    → tests_of ((spaces 4 ++ tag_test is_reader o n) ∷ more) ≡ Some (meaning.tag_test o n ∷ ts)
unfolding tests_of tag_test
tests_of_tag true o n more ts e = rw (tests_tag true o n, e)
tests_of_tag false o n more ts e = rw (tests_tag false o n, e)

tests_of_lem : (is_reader : Bool) (tag : Option Tag) (i : ℕ)
    → tests_of (indented 4 (haser_lines is_reader tag i)) ≡ Some (tests_for tag i)
tests_of_lem is_reader None i = tests_of_null is_reader i
tests_of_lem is_reader (Some t) i =
    tests_of_tag is_reader t.0 t.1 (indented 4 (not_null is_reader i ∷ [])) (tests_for None i) (tests_of_null is_reader i)

pub haser-holds : TextHaserHolds
unfolding run_haser run_tests
haser-holds opening is_reader None i r h =
    rw (function-inner opening (haser_lines is_reader None i) h (wholes_haser is_reader None i), tests_of_lem is_reader None i)
haser-holds opening is_reader (Some t) i r h =
    let w = wholes_haser is_reader (Some t) i in
    rw (function-inner opening (haser_lines is_reader (Some t) i) h w, tests_of_lem is_reader (Some t) i)

-- a pointer that is null: false, whatever the tag
pub has-absent : (tag : Option Tag) (i : PointerOffset) (r : Record) → null i r ≡ true → has_answer tag i r ≡ false
has-absent None i r e = rw e
has-absent (Some t) i r e = rw e (both_false (eqb (get (tag_place t.0) 0 r) t.1))

pub haser-null : (opening : Str) → whole opening ≡ true → (is_reader : Bool) (tag : Option Tag) (i : ℕ) (r : Record)
    → null (record { 0 = i }) r ≡ true → run_haser (haser_text opening is_reader tag i) r ≡ Some false
haser-null opening h is_reader tag i r e =
    haser-holds opening is_reader tag i r h ∙ ap Some (has-absent tag (record { 0 = i }) r e)
