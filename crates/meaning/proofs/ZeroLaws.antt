-- Zeroing: whatever the order and the repeats of its lines, all that they touch is zero afterwards, and nothing else has changed.
-- A bit that is zero stays zero under a zeroing operation, and so does a null pointer. Assumes nothing.
use Rattle.std.specs.Prelude.{◌≡◌, ℕ, zero, suc, ◌+◌, ◌-◌, ◌^◌, ◌<◌, ◌≤◌}
use Rattle.std.specs.Prelude.{Bool, true, false, ◌⊎◌, List, [], ◌∷◌, length, get_or, replicate}
use mathlib.Core.Path.{refl, sym, ap, ◌∙◌, subst}
use mathlib.Core.Logic.{inl, inr}
use Rattle.std.specs.Prelude.{None, Some}
use native.Mathlib.Omega.{arith}
use native.Mathlib.Decide.{dec_lt, ℕ_discrete}
use lib.Bits.{xor_zero_l}
use lib.Pow.{pow_pos}
use Rattle.text.specs.Bytes.{Str}
use Rattle.text.specs.Lines.{FormattedText, to_lines, stringify}
use Rattle.text.proofs.LinesLaws.{stringify-none}
use Rattle.calls.specs.Calls.{clear_pointer}
use Rattle.record.specs.Lines.{Zero, of_slot, of_tag, of_pointer, zero_call, zeroing_line, zero_texts}
use Rattle.record.specs.Masks.{mask_bits}
use Rattle.record.specs.Offsets.{Place, from, bit_count}
use Rattle.record.specs.Record.{Record, coded, get, null, Covers, Holds}
use Rattle.record.specs.Types.{Kind, place_of, tag_place}
use Rattle.record.proofs.BitLaws.{xors_xor, to_bits-zero}
use Rattle.record.proofs.RecordLaws.{after, cleared, put-inside, after-length, after-at, after_out, get-past, get_ext, get_after}
use Rattle.record.proofs.RecordLaws.{clear-inside, cleared-bits, cleared-length, cleared_at, cleared_other, null-flag}
use Rattle.record.proofs.SectionLaws.{where?}
use Rattle.meaning.specs.Claims.{In, HoldsZero, ZeroHas, ZeroClears, TextZeroed, TextZeroingHolds}
use Rattle.meaning.specs.Meaning.{Op, set_op, clear_op, writes, run_op, run_line, run_lines, run_zeroing}
use Rattle.meaning.proofs.HaserLaws.{haser-null}
use Rattle.meaning.proofs.LineLaws.{Says, says-zero, zero_op, Saying, wholes_saying, lines-stringify, indented, run_ops}
use Rattle.meaning.proofs.LineLaws.{run_lines_lem}
use Rattle.meaning.proofs.MaskLaws.{slot-size, mask_below}
use Rattle.meaning.proofs.SetLaws.{get_holds}

-- ---- one operation

-- a zero written anywhere
abbrev step : Zero → Record → Record
step (of_slot k o) r = after (place_of k o) 0 0 r
step (of_tag o) r = after (tag_place o) 0 0 r
step (of_pointer i) r = cleared (record { 0 = i }) r

step-runs : (z : Zero) (r : Record) → HoldsZero z r → run_op None (zero_op z) r ≡ Some (step z r)
unfolding run_op
step-runs (of_pointer i) r h = clear-inside (record { 0 = i }) r h
step-runs _ r h = put-inside _ 0 0 r h

step-length : (z : Zero) (r : Record) → HoldsZero z r → length (step z r).bits ≡ length r.bits
step-length (of_pointer i) r h = ap length (cleared-bits (record { 0 = i }) r h)
step-length _ r h = after-length _ 0 0 r h

step-pointers : (z : Zero) (r : Record) → HoldsZero z r → length (step z r).pointers ≡ length r.pointers
unfolding after
step-pointers (of_pointer i) r h = cleared-length (record { 0 = i }) r h
step-pointers _ r h = refl

step-holds : (z y : Zero) (r : Record) → HoldsZero z r → HoldsZero y r → HoldsZero y (step z r)
step-holds z (of_pointer i) r h g = rw (step-pointers z r h) g
step-holds z _ r h g = rw (step-length z r h) g

-- the bits of a zero
zero_off : (p : Place) (i : ℕ) → get_or (coded p 0 0) i false ≡ false
zero_off p i = rw (xors_xor (bit_count p) 0 0, to_bits-zero (bit_count p)) (off (bit_count p) i)
  where
    off : (n i : ℕ) → get_or (replicate n false) i false ≡ false
    off zero i = refl
    off (suc n) zero = refl
    off (suc n) (suc i) = off n i

-- a bit of the section, or a pointer's flag, is off
abbrev Off : Record → ℕ → Type 0
Off r b = get_or r.bits b false ≡ false

abbrev Null : Record → ℕ → Type 0
Null r j = get_or r.pointers j false ≡ false

put_makes : (p : Place) (r : Record) → Holds p r → (b : ℕ) → Covers p b → Off (after p 0 0 r) b
put_makes p r h b x = after-at p 0 0 r h b x ∙ zero_off p (b - from p)

put_keeps : (p : Place) (r : Record) → Holds p r → (b : ℕ) → Off r b → Off (after p 0 0 r) b
put_keeps p r h b e = go (where? (from p) (bit_count p) b)
  where
    go : Covers p b ⊎ ((b < from p) ⊎ (from p + bit_count p ≤ b)) → Off (after p 0 0 r) b
    go (inl x) = put_makes p r h b x
    go (inr (inl x)) = after_out p 0 0 r h b (λ y. omega arith) ∙ e
    go (inr (inr x)) = after_out p 0 0 r h b (λ y. omega arith) ∙ e

step_makes : (z : Zero) (r : Record) → HoldsZero z r → (b : ℕ) → ZeroHas z b → Off (step z r) b
step_makes (of_pointer i) r h b x = absurd x
step_makes _ r h b x = put_makes _ r h b x

step_keeps : (z : Zero) (r : Record) → HoldsZero z r → (b : ℕ) → Off r b → Off (step z r) b
step_keeps (of_pointer i) r h b e = ap (λ (l : List Bool). get_or l b false) (cleared-bits (record { 0 = i }) r h) ∙ e
step_keeps _ r h b e = put_keeps _ r h b e

step_other : (z : Zero) (r : Record) → HoldsZero z r → (b : ℕ) → (ZeroHas z b → ⊥)
    → get_or (step z r).bits b false ≡ get_or r.bits b false
step_other (of_pointer i) r h b x = ap (λ (l : List Bool). get_or l b false) (cleared-bits (record { 0 = i }) r h)
step_other _ r h b x = after_out _ 0 0 r h b x

step-null : (z : Zero) (r : Record) → HoldsZero z r → (j : ℕ) → Null r j → Null (step z r) j
unfolding after
step-null (of_pointer i) r h j e = go (ℕ_discrete j i)
  where
    go : Dec (j ≡ i) → Null (cleared (record { 0 = i }) r) j
    go (yes d) = rw d (cleared_at (record { 0 = i }) r h)
    go (no d) = cleared_other (record { 0 = i }) r h j d ∙ e
step-null _ r h j e = e

step-clears : (z : Zero) (r : Record) → HoldsZero z r → (j : ℕ) → ZeroClears z j → Null (step z r) j
step-clears (of_pointer i) r h j x = rw x (cleared_at (record { 0 = i }) r h)
step-clears _ r h j x = absurd x

step-flag : (z : Zero) (r : Record) → HoldsZero z r → (j : ℕ) → (ZeroClears z j → ⊥)
    → get_or (step z r).pointers j false ≡ get_or r.pointers j false
unfolding after
step-flag (of_pointer i) r h j x = cleared_other (record { 0 = i }) r h j x
step-flag _ r h j x = refl

-- ---- one after another

steps : List Zero → Record → Record
steps [] r = r
steps (z ∷ zs) r = steps zs (step z r)

abbrev ops : List Zero → List Op
ops [] = []
ops (z ∷ zs) = zero_op z ∷ ops zs

abbrev Holding : List Zero → Record → Type 0
Holding zs r = (z : Zero) → In z zs → HoldsZero z r

here : (z : Zero) (zs : List Zero) (r : Record) → Holding (z ∷ zs) r → HoldsZero z r
here z zs r h = h z (inl refl)

rest : (z : Zero) (zs : List Zero) (r : Record) → Holding (z ∷ zs) r → Holding zs (step z r)
rest z zs r h y i = step-holds z y r (h z (inl refl)) (h y (inr i))

steps_run : (zs : List Zero) (r : Record) → Holding zs r → run_ops None (ops zs) r ≡ Some (steps zs r)
unfolding run_ops steps
steps_run [] r h = refl
steps_run (z ∷ zs) r h = rw (step-runs z r (here z zs r h)) (steps_run zs (step z r) (rest z zs r h))

-- what holds of a record and is kept by each step holds at the end
steps-keep : (P : Record → Type 0) → ((z : Zero) (r : Record) → HoldsZero z r → P r → P (step z r))
    → (zs : List Zero) (r : Record) → Holding zs r → P r → P (steps zs r)
unfolding steps
steps-keep P f [] r h p = p
steps-keep P f (z ∷ zs) r h p = steps-keep P f zs (step z r) (rest z zs r h) (f z r (here z zs r h) p)

-- what one of them makes, and each keeps, holds at the end
steps_make : (P : Record → Type 0) (y : Zero) → ((z : Zero) (r : Record) → HoldsZero z r → P r → P (step z r))
    → ((r : Record) → HoldsZero y r → P (step y r)) → (zs : List Zero) (r : Record) → Holding zs r → In y zs → P (steps zs r)
unfolding steps
steps_make P y f g [] r h i = absurd i
steps_make P y f g (z ∷ zs) r h (inl e) =
    steps-keep P f zs (step z r) (rest z zs r h) (subst (λ (x : Zero). P (step x r)) e (g r (h y (inl e))))
steps_make P y f g (z ∷ zs) r h (inr i) = steps_make P y f g zs (step z r) (rest z zs r h) i

-- what none of them changes is the same at the end
steps-same : {A : Type 0} (F : Record → A) (Q : Zero → Type 0)
    → ((z : Zero) (r : Record) → HoldsZero z r → Q z → F (step z r) ≡ F r)
    → (zs : List Zero) (r : Record) → Holding zs r → ((z : Zero) → In z zs → Q z) → F (steps zs r) ≡ F r
unfolding steps
steps-same F Q f [] r h q = refl
steps-same F Q f (z ∷ zs) r h q =
    steps-same F Q f zs (step z r) (rest z zs r h) (λ y i. q y (inr i)) ∙ f z r (here z zs r h) (q z (inl refl))

-- ---- from the text

saying_zeros : (zs : List Zero) → Saying (zero_texts zs) (ops zs)
saying_zeros [] = Saying.nil
saying_zeros (z ∷ zs) = Saying.add (says-zero z) (saying_zeros zs)

indented-none : (ls : List Str) → indented 0 ls ≡ ls
indented-none [] = refl
indented-none (l ∷ ls) = ap (λ (x : List Str). l ∷ x) (indented-none ls)

zeroing-runs : (zs : List Zero) (ft : FormattedText) (r : Record) → to_lines ft 0 ≡ zero_texts zs
    → run_zeroing (stringify ft 0) r ≡ run_ops None (ops zs) r
unfolding run_zeroing run_lines run_line run_ops
zeroing-runs [] ft r e = rw (stringify-none ft 0 e)
zeroing-runs (z ∷ zs) ft r e =
    ap (λ (x : List Str). run_lines None x r)
    (lines-stringify ft (zeroing_line z) (zero_texts zs) e (wholes_saying (saying_zeros (z ∷ zs)))
    ∙ sym (indented-none (zero_texts (z ∷ zs))))
    ∙ run_lines_lem None 0 (saying_zeros (z ∷ zs)) r

-- a line that is among the lines is one of their zeros', with the same operation
line_of : (l : Str) (o : Op) → Says l o → (zs : List Zero) → In l (zero_texts zs) → (z : Zero) × (In z zs) × (zero_op z ≡ o)
line_of l o s [] i = absurd i
line_of l o s (z ∷ zs) (inl e) =
    let f = sym (says-zero z).reads ∙ ap (λ (x : Str). writes x) (sym e) ∙ s.reads in
    let g : ◌≡◌ {A = Op × Str} (zero_op z, []) (o, []) = cc in
    (z, inl refl, ap (λ (x : Op × Str). x.0) g)
line_of l o s (z ∷ zs) (inr i) = let x = line_of l o s zs i in (x.0, inr x.1, x.2)

abbrev OpHas : Op → ℕ → Type 0
OpHas (set_op p a m) b = Covers p b
OpHas (clear_op i) b = ⊥

has_op : (z : Zero) (b : ℕ) → OpHas (zero_op z) b → ZeroHas z b
has_op (of_pointer i) b x = absurd x
has_op _ b x = x

abbrev OpClears : Op → ℕ → Type 0
OpClears (set_op p a m) j = ⊥
OpClears (clear_op i) j = j ≡ i.0

clears_op : (z : Zero) (j : ℕ) → OpClears (zero_op z) j → ZeroClears z j
clears_op (of_pointer i) j x = x
clears_op _ j x = absurd x

-- a get of bits that are off is its mask: inside the section it is that of a zero put there
get_off : (p : Place) (k : ℕ) (r : Record) → k < 2 ^ bit_count p → ((b : ℕ) → Covers p b → Off r b) → get p k r ≡ k
get_off p k r l o = go (dec_lt (length r.bits) (from p + bit_count p))
  where
    go : Dec (length r.bits < from p + bit_count p) → get p k r ≡ k
    go (yes n) = get-past p k r l (λ h. omega arith)
    go (no n) =
        let h : Holds p r = omega arith in
        sym (get_ext p k r (after p 0 0 r) (after-length p 0 0 r h) (λ b x. put_makes p r h b x ∙ sym (o b x)))
        ∙ get_after p 0 0 r h k (pow_pos (bit_count p)) (pow_pos (bit_count p)) l
        ∙ xor_zero_l k

module _ (zs : List Zero) (r : Record) (h : Holding zs r) where
  left : Record
  left = steps zs r

  lengths : (length left.bits ≡ length r.bits) × (length left.pointers ≡ length r.pointers)
  unfolding left
  lengths = (
    steps-same (λ x. length x.bits) (λ z. Unit {0}) (λ z x g _. step-length z x g) zs r h (λ z i. tt),
    steps-same (λ x. length x.pointers) (λ z. Unit {0}) (λ z x g _. step-pointers z x g) zs r h (λ z i. tt),
  )

  -- a slot whose line is among the lines has all its bits off
  slot-off : (k : Kind) (o : ℕ) → In (zero_call k o) (zero_texts zs) → (b : ℕ) → Covers (place_of k o) b → Off left b
  unfolding left
  slot-off k o i b x =
      let y = line_of (zero_call k o) (zero_op (of_slot k o)) (says-zero (of_slot k o)) zs i in
      let m : ZeroHas y.0 b = has_op y.0 b (rw y.2 x) in
      steps_make (λ s. Off s b) y.0 (λ z s g. step_keeps z s g b) (λ s g. step_makes y.0 s g b m) zs r h y.1

  pointer-null : (i : ℕ) → In (clear_pointer i) (zero_texts zs) → null (record { 0 = i }) left ≡ true
  unfolding left
  pointer-null i n =
      let y = line_of (clear_pointer i) (zero_op (of_pointer i)) (says-zero (of_pointer i)) zs n in
      let m : ZeroClears y.0 i = clears_op y.0 i (subst (λ (x : Op). OpClears x i) (sym y.2) refl) in
      let s : Null left i =
      steps_make (λ x. Null x i) y.0 (λ z x g. step-null z x g i) (λ x g. step-clears y.0 x g i m) zs r h y.1 in
      null-flag (record { 0 = i }) left ∙ rw s

  pub zeroed : (ft : FormattedText) → to_lines ft 0 ≡ zero_texts zs → TextZeroed zs ft r
  unfolding left
  zeroed ft e = record {
    left = left;
    runs = zeroing-runs zs ft r e ∙ steps_run zs r h;
    defaults = λ k o i mg f typ w is_reader.
        get_holds typ is_reader k o mg left w f
        ∙ ap Some
        (get_off (place_of k o) (mask_bits mg) left (rw (slot-size k o) (mask_below k mg f)) (slot-off k o i));
    absent = pointer-null;
    hasers = λ i n opening w is_reader tag. haser-null opening w is_reader tag i left (pointer-null i n);
    lengths = lengths;
    bits-same = λ b f. steps-same (λ x. get_or x.bits b false) (λ z. ZeroHas z b → ⊥) (λ z x g q. step_other z x g b q) zs r h f;
    pointers-same =
        λ j f. steps-same (λ x. get_or x.pointers j false) (λ z. ZeroClears z j → ⊥) (λ z x g q. step-flag z x g j q) zs r h f;
  }

pub zeroing_holds : TextZeroingHolds
zeroing_holds zs ft r e h = zeroed zs r h ft e
