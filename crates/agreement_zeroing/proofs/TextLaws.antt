-- From the text of a zeroing at level 0 to its zeros: each of its lines is read as the zero's write, so a record that is long
-- enough for the text holds what each zero touches. By the laws of lines in crate meaning. Assumes nothing.
use Rattle.std.specs.Prelude.{◌≡◌, ℕ, List, [], ◌∷◌, map}
use mathlib.Core.Path.{subst}
use mathlib.Core.Logic.{inl, inr}
use Rattle.std.specs.Prelude.{Some}
use Rattle.text.specs.Bytes.{Str}
use Rattle.text.specs.Lines.{FormattedText, to_lines, stringify}
use Rattle.record.specs.Lines.{Zero, of_pointer, zeroing_line, zero_texts}
use Rattle.record.specs.Record.{Record}
use Rattle.meaning.specs.Claims.{In, HoldsZero, ZeroHas, ZeroClears}
use Rattle.meaning.specs.Meaning.{Op, lines, trim}
use Rattle.meaning.proofs.LevelLaws.{Trimmed, trim-trim}
use Rattle.meaning.proofs.LineLaws.{says-zero, zero_op, Wholes, lines-stringify}
use Rattle.agreement_zeroing.specs.Zeroing.{OfRead, EachLine, EachWrite, HoldsOp, LongEnough, SparesBit, SparesPointer}

wholes_zeros : (zs : List Zero) → Wholes (zero_texts zs)
wholes_zeros [] = Wholes.nil
wholes_zeros (z ∷ zs) = Wholes.add (zeroing_line z) (says-zero z).one (wholes_zeros zs)

-- what holds of each line's write holds of each of the same lines with other spaces in front
module _ (P : Op → Type 0) where
  trimmed : (ls : List Str) → EachLine P ls → EachLine P (map trim ls)
  trimmed [] e = tt
  trimmed (l ∷ ls) e = (rw (trim-trim l) e.0, trimmed ls e.1)

  untrimmed : (ls : List Str) → EachLine P (map trim ls) → EachLine P ls
  untrimmed [] e = tt
  untrimmed (l ∷ ls) e = (rw (trim-trim l) at e.0, untrimmed ls e.1)

  pub each-alike : {a b : Str} → Trimmed a b → EachWrite P a → EachWrite P b
  each-alike {a} {b} t e = untrimmed (lines b) (subst (EachLine P) t.same (trimmed (lines a) e))

module _ (P : Op → Type 0) where
  -- what holds of each line's write holds of each zero's
  each-zero : (zs : List Zero) → EachLine P (zero_texts zs) → (z : Zero) → In z zs → P (zero_op z)
  each-zero [] e z i = absurd i
  each-zero (y ∷ zs) e z (inl h) =
      let p : OfRead P (Some (zero_op y, [])) = rw ((says-zero y).tight, (says-zero y).reads) at e.0 in
      rw h p
  each-zero (y ∷ zs) e z (inr i) = each-zero zs e.1 z i

  each_write : (zs : List Zero) (ft : FormattedText) → to_lines ft 0 ≡ zero_texts zs → EachWrite P (stringify ft 0)
      → (z : Zero) → In z zs → P (zero_op z)
  each_write [] ft e h z i = absurd i
  each_write (y ∷ zs) ft e h z i =
      each-zero (y ∷ zs) (rw (lines-stringify ft (zeroing_line y) (zero_texts zs) e (wholes_zeros (y ∷ zs))) at h) z i

module _ (zs : List Zero) (ft : FormattedText) (is : to_lines ft 0 ≡ zero_texts zs) where
  pub holds-zeros : (r : Record) → LongEnough (stringify ft 0) r → (z : Zero) → In z zs → HoldsZero z r
  holds-zeros r long z i = go z (each_write (HoldsOp r) zs ft is long z i)
    where
      go : (z : Zero) → HoldsOp r (zero_op z) → HoldsZero z r
      go (of_pointer j) h = h
      go _ h = h

  -- a bit that no line touches is no zero's, and so for a pointer
  pub spares_bit : (b : ℕ) → EachWrite (SparesBit b) (stringify ft 0) → (z : Zero) → In z zs → ZeroHas z b → ⊥
  spares_bit b spared z i = go z (each_write (SparesBit b) zs ft is spared z i)
    where
      go : (z : Zero) → SparesBit b (zero_op z) → ZeroHas z b → ⊥
      go (of_pointer j) f h = h
      go _ f h = f h

  pub spares_pointer : (j : ℕ) → EachWrite (SparesPointer j) (stringify ft 0) → (z : Zero) → In z zs → ZeroClears z j → ⊥
  spares_pointer j spared z i = go z (each_write (SparesPointer j) zs ft is spared z i)
    where
      go : (z : Zero) → SparesPointer j (zero_op z) → ZeroClears z j → ⊥
      go (of_pointer i) f h = f h
      go _ f h = h
