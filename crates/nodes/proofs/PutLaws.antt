-- Laws of what is put into an index: an entry's twelve numbers, and what stands where afterwards. Assumes nothing.
use mathlib.Core.Path.{◌≡◌, refl, sym, ap, ◌∙◌}
use mathlib.Core.List.{List, ◌++◌, append_assoc}
use Prim.Native.Nat.{ℕ, ◌+◌, ◌-◌, ◌<◌, ◌≤◌}
use native.Mathlib.Nat.{add-zero}
use native.Mathlib.Decide.{dec_lt}
use native.Mathlib.Omega.{arith}
use borrow.Author.Tests.{lt-ltb, le-ltb}
use lib.ListN.{length, take, drop, get_or, length-append, length-drop, get_or-append}
use borrow.Rule.Slice.PartMut.{put_mid}
use lib.Seq.{drop-drop, length-take-le, get_or-append-add, get_or-drop, get_or-take}
use Rattle.nodes.specs.Index.{entry_at, numbers_of, with_entry}
use Rattle.nodes.specs.declared.Entry.{Entry}

module _ (l : List ℕ) (p : ℕ) (e : Entry) where
  pub put-none : length l < p + 12 → l ≡ with_entry l p e
  unfolding with_entry
  put-none h = rw (lt-ltb (length l) (p + 12) h)

  module _ (fits : p + 12 ≤ length l) where
    with-entry : with_entry l p e ≡ take p l ++ numbers_of e ++ drop (p + 12) l
    unfolding with_entry
    with-entry = rw (le-ltb (length l) (p + 12) fits)

    -- as a write to this part of the index
    pub put_all : put_mid p (p + 12 - p) l (numbers_of e) ≡ with_entry l p e
    put_all =
        let z : p + 12 - p ≡ 12 = omega arith in
        rw (z, drop-drop 12 p l, with-entry, append_assoc (take p l) (numbers_of e) (drop (p + 12) l))

    head-length : length (take p l) ≡ p
    head-length = length-take-le p l (omega arith)

    -- the number k places after the first
    number_put : (k : ℕ) → get_or (with_entry l p e) (p + k) 0 ≡ get_or (numbers_of e ++ drop (p + 12) l) k 0
    number_put k =
        rw (with-entry, append_assoc (take p l) (numbers_of e) (drop (p + 12) l))
        (rw head-length at (get_or-append-add (take p l) (numbers_of e ++ drop (p + 12) l) k 0))

    -- the entry is read back
    pub entry-put : entry_at (with_entry l p e) p ≡ e
    entry-put =
        rw (
          rw (add-zero p) at (number_put 0),
          number_put 1,
          number_put 2,
          number_put 3,
          number_put 4,
          number_put 5,
          number_put 6,
          number_put 7,
          number_put 8,
          number_put 9,
          number_put 10,
          number_put 11,
        ) refl

  -- the index keeps its length, and every number before the entry and after it
  pub length-put : length (with_entry l p e) ≡ length l
  length-put = go (dec_lt (length l) (p + 12))
    where
      go : Dec (length l < p + 12) → length (with_entry l p e) ≡ length l
      go (yes h) = rw (← put-none h)
      go (no h) =
          let f : p + 12 ≤ length l = omega arith in
          rw (with-entry f)
          (omega (
            arith,
            length-append (take p l ++ numbers_of e) (drop (p + 12) l),
            length-append (take p l) (numbers_of e),
            head-length f,
            length-drop (p + 12) l,
          ))

  pub before-put : (q : ℕ) → q < p → get_or (with_entry l p e) q 0 ≡ get_or l q 0
  before-put q b = go (dec_lt (length l) (p + 12))
    where
      go : Dec (length l < p + 12) → get_or (with_entry l p e) q 0 ≡ get_or l q 0
      go (yes h) = rw (← put-none h)
      go (no h) =
          let f : p + 12 ≤ length l = omega arith in
          rw (with-entry f, append_assoc (take p l) (numbers_of e) (drop (p + 12) l))
          (get_or-append (take p l) (numbers_of e ++ drop (p + 12) l) 0 q (omega (arith, head-length f)) ∙ get_or-take p l q 0 b)

  pub after-put : (q : ℕ) → p + 12 ≤ q → get_or (with_entry l p e) q 0 ≡ get_or l q 0
  after-put q b = go (dec_lt (length l) (p + 12))
    where
      go : Dec (length l < p + 12) → get_or (with_entry l p e) q 0 ≡ get_or l q 0
      go (yes h) = rw (← put-none h)
      go (no h) =
          let f : p + 12 ≤ length l = omega arith in
          let m : length (take p l ++ numbers_of e) ≡ p + 12 = length-append (take p l) (numbers_of e) ∙ rw (head-length f) in
          let z : p + 12 + (q - (p + 12)) ≡ q = omega arith in
          rw (with-entry f)
          (ap (λ (k : ℕ). get_or (take p l ++ numbers_of e ++ drop (p + 12) l) k 0) (sym z)
          ∙ rw m at (get_or-append-add (take p l ++ numbers_of e) (drop (p + 12) l) (q - (p + 12)) 0)
          ∙ get_or-drop (p + 12) l (q - (p + 12)) 0 ∙ rw z)
