-- Records: a set and then a get, a get past the section, what a set leaves alone, clears. Every law is over a place, whatever its
-- width. A bit of the section lies in a place or not, and the laws of writes settle both. Assumes nothing.
use mathlib.Core.Path.{◌≡◌, refl, sym, ap, ◌∙◌, subst}
use mathlib.Core.Bool.{Bool, true, false, not}
use Rattle.std.specs.Prelude.{Option, None, Some}
use mathlib.Core.Logic.{◌≢◌}
use mathlib.Core.List.{[], ◌∷◌}
use Prim.Native.Nat.{ℕ, ◌+◌, ◌-◌, ◌*◌, ◌^◌, ◌≤◌, ◌<◌}
use native.Mathlib.Nat.{mod-eq_of_lt}
use native.Mathlib.Omega.{arith}
use native.Mathlib.Decide.{dec_lt}
use lib.Bits.{bit_xor, xor_lt}
use lib.Dec.{eqb}
use lib.ListN.{length, get_or, get_or-eq_default}
use lib.Seq.{drop-cons}
use Rattle.record.specs.Bits.{bit}
use Rattle.record.specs.Offsets.{Place, from, bit_count, pointer_address}
use Rattle.record.specs.Record.{Record, read, write, masked, coded, get_bits, put_bits, null_flag, clear_flag, get, put_value}
use Rattle.record.specs.Record.{null, clear, Covers, Clear, Holds, HoldsPointer, Same}
use Rattle.record.specs.Past.{DefaultGetHolds, AbsentHolds}
use Rattle.record.specs.declared.PointerOffset.{PointerOffset}
use Rattle.record.proofs.BitLaws.{length-xors, of_to, xors_twice, xors_xor, mask_alone}
use Rattle.record.proofs.SectionLaws.{length-write, read-write, write-at, write_out, found_ext, found_inside}
use Rattle.record.proofs.SectionLaws.{found-past, stored-inside, stored_past}

-- the record with the value v, under mask m, put at p
unfoldable pub after : Place → ℕ → ℕ → Record → Record
after p v m r = record { bits = write (from p) (coded p v m) r.bits; pointers = r.pointers }

pub coded-size : (p : Place) (v m : ℕ) → length (coded p v m) ≡ bit_count p
coded-size p v m = length-xors (bit_count p) v m

pub get-inside : (p : Place) (k : ℕ) (r : Record) → Holds p r
    → get p k r ≡ masked p k (read (from p) (bit_count p) r.bits)
unfolding get_bits
get-inside p k r h = rw (found_inside (from p) (bit_count p) r.bits h)

-- a place that the section does not hold whole: the mask alone
pub get-past : DefaultGetHolds
unfolding get_bits
get-past p k r l h =
    rw (found-past (from p) (bit_count p) r.bits (omega arith)) (mask_alone (bit_count p) k ∙ mod-eq_of_lt l)

-- ---- one set

module _ (p : Place) (v m : ℕ) (r : Record) (h : Holds p r) where
  fits : from p + length (coded p v m) ≤ length r.bits
  fits = rw (coded-size p v m) h

  pub put-inside : put_value p v m r ≡ Some (after p v m r)
  unfolding after put_bits
  put-inside = rw (stored-inside (from p) (coded p v m) r.bits fits)

  pub after-length : length (after p v m r).bits ≡ length r.bits
  unfolding after
  after-length = length-write (from p) (coded p v m) r.bits fits

  -- a bit of the place: the same whatever stood in the record
  pub after-at : (b : ℕ) → Covers p b → get_or (after p v m r).bits b false ≡ get_or (coded p v m) (b - from p) false
  unfolding after
  after-at b x = write-at (from p) (coded p v m) r.bits fits b x.0 (rw (coded-size p v m) x.1)

  -- a bit outside the place stays
  pub after_out : (b : ℕ) → (Covers p b → ⊥) → get_or (after p v m r).bits b false ≡ get_or r.bits b false
  unfolding after
  after_out b k = write_out (from p) (coded p v m) r.bits fits b (λ x. k (x.0, rw (coded-size p v m) at x.1))

  -- nothing but the place changes: lengths, pointers and every other bit stay
  pub after_same : Same (Covers p) r (after p v m r)
  unfolding after
  after_same = record { length-same = after-length; bits-same = after_out; pointers-same = refl }

  after_read : read (from p) (bit_count p) (after p v m r).bits ≡ coded p v m
  unfolding after
  after_read =
      subst (λ (n : ℕ). read (from p) n (write (from p) (coded p v m) r.bits) ≡ coded p v m) (coded-size p v m)
      (read-write (from p) (coded p v m) r.bits fits)

  get-coded : (k : ℕ) → get p k (after p v m r) ≡ masked p k (coded p v m)
  get-coded k = get-inside p k (after p v m r) (rw after-length h) ∙ ap (masked p k) after_read

  -- A SET AND THEN A GET: the value, exclusive or both masks
  pub get_after : (k : ℕ) → v < 2 ^ bit_count p → m < 2 ^ bit_count p → k < 2 ^ bit_count p
      → get p k (after p v m r) ≡ bit_xor (bit_xor v m) k
  get_after k hv hm hk =
      let n : ℕ = bit_count p in
      get-coded k
      ∙ rw (xors_xor n v m, xors_xor n (bit_xor v m) k)
      (of_to n (bit_xor (bit_xor v m) k) (xor_lt n (bit_xor v m) k (xor_lt n v m hv hm) hk))

  -- the masks agree: the value
  pub get_set : v < 2 ^ bit_count p → get p m (after p v m r) ≡ v
  get_set l = get-coded m ∙ rw (xors_twice (bit_count p) v m) (of_to (bit_count p) v l)

-- past the section a set has no meaning
pub put-past : (p : Place) (v m : ℕ) (r : Record) → length r.bits < from p + bit_count p → put_value p v m r ≡ None
unfolding put_bits
put-past p v m r h = rw (stored_past (from p) (coded p v m) r.bits (rw (coded-size p v m) h))

-- where a set has a meaning, the section holds its place whole
pub put-held : (p : Place) (v m : ℕ) (r s : Record) → put_value p v m r ≡ Some s → Holds p r
put-held p v m r s e = go (dec_lt (length r.bits) (from p + bit_count p))
  where
    go : Dec (length r.bits < from p + bit_count p) → Holds p r
    go (yes h) =
        let d : ◌≡◌ {A = Option Record} None (Some s) = sym (put-past p v m r h) ∙ e in
        cc
    go (no h) = omega arith

-- and it leaves as many bits as there were
pub put-length : (p : Place) (v m : ℕ) (r s : Record) → put_value p v m r ≡ Some s → length s.bits ≡ length r.bits
put-length p v m r s e =
    let h = put-held p v m r s e in
    let d : Some (after p v m r) ≡ Some s = sym (put-inside p v m r h) ∙ e in
    let f : s ≡ after p v m r = cc in
    ap (λ (x : Record). length x.bits) f ∙ after-length p v m r h

-- two sections of one length that agree on a place's bits give it the same value
pub get_ext : (p : Place) (k : ℕ) (r s : Record) → length s.bits ≡ length r.bits
    → ((b : ℕ) → Covers p b → get_or s.bits b false ≡ get_or r.bits b false) → get p k s ≡ get p k r
unfolding get_bits
get_ext p k r s e f = rw (found_ext (from p) (bit_count p) r.bits s.bits e f)

-- a set does not disturb the get of a place with no bit in common
pub get_other : (p : Place) (v m : ℕ) (r : Record) → Holds p r → (q : Place) (k : ℕ) → Clear p q
    → get q k (after p v m r) ≡ get q k r
get_other p v m r h q k c = get_ext q k r (after p v m r) (after-length p v m r h) (λ b x. after_out p v m r h b (λ y. c b y x))

-- ---- clears

-- the record with pointer i null
unfoldable pub cleared : PointerOffset → Record → Record
cleared i r = record { bits = r.bits; pointers = write (pointer_address i) (false ∷ []) r.pointers }

module _ (i : PointerOffset) (r : Record) (h : HoldsPointer i r) where
  one_inside : pointer_address i + 1 ≤ length r.pointers
  one_inside = omega arith

  pub clear-inside : clear i r ≡ Some (cleared i r)
  unfolding clear_flag cleared
  clear-inside = rw (stored-inside (pointer_address i) (false ∷ []) r.pointers one_inside)

  -- a clear changes no data bit and no number of pointers
  pub cleared-bits : (cleared i r).bits ≡ r.bits
  unfolding cleared
  cleared-bits = refl

  pub cleared-length : length (cleared i r).pointers ≡ length r.pointers
  unfolding cleared
  cleared-length = length-write (pointer_address i) (false ∷ []) r.pointers one_inside

  -- what it clears is null, every other pointer is as before
  pub cleared_at : get_or (cleared i r).pointers (pointer_address i) false ≡ false
  unfolding cleared
  cleared_at =
      let z : pointer_address i - pointer_address i ≡ 0 = omega arith in
      write-at (pointer_address i) (false ∷ []) r.pointers one_inside (pointer_address i) (omega arith) (omega arith)
      ∙ ap (λ (j : ℕ). get_or (false ∷ []) j false) z

  pub cleared_other : (j : ℕ) → j ≢ pointer_address i → get_or (cleared i r).pointers j false ≡ get_or r.pointers j false
  unfolding cleared
  cleared_other j n = write_out (pointer_address i) (false ∷ []) r.pointers one_inside j (λ x. n (omega arith))

-- past the pointers every pointer is null
pub null-past : AbsentHolds
unfolding null_flag
null-past i r h = rw (found-past (pointer_address i) 1 r.pointers (omega arith))

-- a null test says whether the flag is down; past the pointers it is
pub null-flag : (i : PointerOffset) (r : Record) → null i r ≡ not (get_or r.pointers (pointer_address i) false)
unfolding null_flag
null-flag i r = go (dec_lt (pointer_address i) (length r.pointers))
  where
    down : (b : Bool) → eqb (bit b + 2 * 0) 0 ≡ not b
    down true = refl
    down false = refl

    inside : HoldsPointer i r → null i r ≡ not (get_or r.pointers (pointer_address i) false)
    inside h =
        rw (found_inside (pointer_address i) 1 r.pointers (omega arith), drop-cons r.pointers (pointer_address i) false h)
        (down (get_or r.pointers (pointer_address i) false))

    go : Dec (HoldsPointer i r) → null i r ≡ not (get_or r.pointers (pointer_address i) false)
    go (yes h) = inside h
    go (no h) = null-past i r h ∙ rw (get_or-eq_default r.pointers false {n = pointer_address i} (omega arith))
