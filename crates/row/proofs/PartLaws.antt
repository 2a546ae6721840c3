-- Rows of a type that are passed over unread: a T, S or U line is printed in its row, so that its letter, its length and its
-- columns say what is asked of it. Assumes nothing.
use mathlib.Core.Path.{◌≡◌, refl, sym, ap, ◌∙◌}
use mathlib.Core.Bool.{Bool, true, false}
use mathlib.Core.Logic.{◌⊎◌, inl, inr}
use mathlib.Core.List.{List, [], ◌∷◌}
use Rattle.std.specs.Prelude.{Some}
use Prim.Native.Nat.{ℕ, suc, ◌+◌, ◌-◌, ◌*◌, ◌<◌, ◌≤◌}
use native.Mathlib.Omega.{arith}
use native.Mathlib.Nat.{add-zero, add-sub_cancel_left}
use lib.Dec.{eqb}
use lib.ListN.{length, get_or, take, drop, length-append, length-drop, take-append-drop}
use lib.Seq.{drop-cons, drop-drop, get_or-drop, length-take-le, take-take}
use borrow.Author.Tests.{eqb-false, ne_eqb, le-ltb}
use Rattle.terms.specs.Kinds.{number_of, kind_numbered}
use Rattle.terms.specs.declared.kinds.Kind.{Kind}
use Rattle.terms.specs.declared.kinds.Kind.TheVariants as kind
use Rattle.terms.proofs.KindLaws.{number-back}
use Rattle.text.specs.Bytes.{Str, cond, unit}
use Rattle.column.specs.Number.{column_of, most}
use Rattle.column.proofs.PaddedLaws.{column-printed}
use Rattle.row.specs.Rows.{row_len, rows, rest_of}
use Rattle.row.specs.Line.{line_of, line_at, most_count}
use Rattle.row.specs.Line.{Content, Root, Node, Parameter, Field, Group, Typ, Scope, Unbound, Value, Word, Bad}
use Rattle.row.specs.Print.{columns, row_text}
use Rattle.row.specs.Part.{owed, is_part, PartAt}
use Rattle.row.proofs.Laws.{row_len_le, rows_at, rows_out, drop-take}
use Rattle.row.proofs.PrintLaws.{Narrow, narrow_at, columns_append, drop-columns, columns-length}
use Rattle.row.proofs.PrintLaws.{most_a-fits, most_b-fits, most_c-fits, most_count-fits}
use Rattle.row.proofs.ReadLaws.{printed-line}

-- false is not true
false-true : {A : Type 0} → false ≡ true → A
false-true e = let z : ◌≡◌ {A = ℕ} 0 1 = cc in let y : ⊥ = omega arith in absurd y

-- ---- an S line announces what its count says

scope_counts : (i b n : ℕ) → n ≤ most_count b → owed (Scope i b n) ≡ n
unfolding owed most_count
scope_counts i b n h = go (eqb b 0) h
  where
    go : (t : Bool) → n ≤ cond t 0 (most 64) → cond t 0 n ≡ n
    go true h = omega arith
    go false h = refl

pub scope-owed : (rs : List Str) (i b n : ℕ) → line_at rs ≡ Scope i b n → owed (Scope i b n) ≡ n
unfolding line_at
scope-owed [] i b n e = false-true (ap is_part e)
scope-owed (r ∷ rs) i b n e = scope_counts i b n (printed-line r (Scope i b n) tt e).fits.2

-- ---- a T line announces by its kind, which has a name

pub named-kind : (rs : List Str) (k a b c : ℕ) → line_at rs ≡ Typ k a b c → k ≤ 18
unfolding line_at
named-kind [] k a b c e = false-true (ap is_part e)
named-kind (r ∷ rs) k a b c e = (printed-line r (Typ k a b c) tt e).fits.0

module _ (a b c : ℕ) where
  pub owed-none :
      (k : Kind) → (k ≡ kind.List → ⊥) → (k ≡ kind.Enum → ⊥) → (k ≡ kind.Struct → ⊥) → (k ≡ kind.Interface → ⊥)
      → 0 ≡ owed (Typ (number_of k) a b c)
  unfolding owed
  owed-none kind.List l e s i = absurd (l refl)
  owed-none kind.Enum l e s i = absurd (e refl)
  owed-none kind.Struct l e s i = absurd (s refl)
  owed-none kind.Interface l e s i = absurd (i refl)
  owed-none (kind.Unnamed u) l e s i =
      let n = u.number in
      let past = u.past in
      rw (le-ltb n 14 (omega arith), ne_eqb n 14 (λ z. omega arith), le-ltb n 18 (omega arith)) refl
  owed-none k l e s i = refl

  pub owed-branded :
      (k : Kind) → (k ≡ kind.Enum) ⊎ ((k ≡ kind.Struct) ⊎ (k ≡ kind.Interface)) → b ≡ owed (Typ (number_of k) a b c)
  unfolding owed
  owed-branded k (inl e) = rw e refl
  owed-branded k (inr (inl e)) = rw e refl
  owed-branded k (inr (inr e)) = rw e refl

-- ---- a line printed from a position on

-- a letter and numbers stand from `at` on as a row of so many bytes, and the next row begins after them
record Here (s : Str) (at letter : ℕ) (ns : List ℕ) (size : ℕ) : Type 0 where
  text : drop at s ≡ letter ∷ columns ns (10 ∷ drop (at + size) s)
  next : rows (drop (at + size) s) ≡ rest_of (rows (drop at s))
  inside : at + size ≤ length s
  narrow : Narrow ns

module _ (s : Str) (at : ℕ) (h : at < length s) (l : Content) (is : line_at (rows (drop at s)) ≡ l) where
  size : ℕ
  size = row_len (drop at s)

  first : rows (drop at s) ≡ take size (drop at s) ∷ rows (drop (at + size) s)
  unfolding size
  first = rw add-sub_cancel_left at (rows_at s at (at + row_len (drop at s)) h refl)

  line : line_of (take size (drop at s)) ≡ l
  unfolding line_at
  line = rw first at is

  module _ (letter : ℕ) (ns : List ℕ) (row : take size (drop at s) ≡ row_text letter ns []) (narrow : Narrow ns) where
    fits : size ≤ length s - at
    unfolding size
    fits = omega (arith, row_len_le (drop at s), length-drop at s)

    size_is : size ≡ 2 + length ns * 21
    unfolding row_text
    size_is =
        let a = length-take-le size (drop at s) (rw (length-drop at s) fits) in
        let b = columns-length ns narrow in
        let c = length-append (columns ns []) (unit 10) in
        let d = ap length (row ∙ ap (λ (u : Str). letter ∷ u) (columns_append ns [] (unit 10))) in
        omega arith

    as-it-stands : Here s at letter ns size
    unfolding rest_of row_text
    as-it-stands = record {
      text = sym (take-append-drop size (drop at s)) ∙ rw (row, drop-drop size at s)
          (ap (λ (u : Str). letter ∷ u) (sym (columns_append ns (unit 10) (drop (at + size) s))));
      next = rw first refl;
      inside = omega (arith, fits);
      narrow = narrow;
    }

    here : Here s at letter ns (2 + length ns * 21)
    here = rw size_is at as-it-stands

-- the number in the j-th columns
column-at :
    (s : Str) (at letter : ℕ) (ns : List ℕ) (size j : ℕ) → Here s at letter ns size → j < length ns
    → column_of s (at + suc (j * 21)) 0 (most 64) ≡ Some (get_or ns j 0)
unfolding columns
column-at s at letter ns size j w l =
    let n = narrow_at ns j w.narrow l in
    column-printed s (columns (drop (suc j) ns) (10 ∷ drop (at + size) s)) (at + suc (j * 21)) 0 (most 64) (get_or ns j 0)
    (sym (drop-drop (suc (j * 21)) at s) ∙ rw w.text
    (drop-columns j ns (10 ∷ drop (at + size) s) w.narrow (omega arith) ∙ rw (drop-cons ns j 0 l)))
    n (omega arith) (omega arith)

-- ---- the rows of a type

-- a line that is part of a type, by its letter
by_part :
    {A : Type 0} (l : Content) → is_part l ≡ true → ((k a b c : ℕ) → l ≡ Typ k a b c → A) → ((i b n : ℕ) → l ≡ Scope i b n → A)
    → (l ≡ Unbound → A) → A
by_part (Typ k a b c) e f g u = f k a b c refl
by_part (Scope i b n) e f g u = g i b n refl
by_part Unbound e f g u = u refl
by_part Root e f g u = false-true e
by_part (Node i p s x y c o) e f g u = false-true e
by_part Parameter e f g u = false-true e
by_part (Field o d x p) e f g u = false-true e
by_part (Group i d) e f g u = false-true e
by_part (Value k b) e f g u = false-true e
by_part (Word v) e f g u = false-true e
by_part (Bad x k) e f g u = false-true e

-- a number in the columns of a part of the sheet stands in the sheet
module _ (s : Str) (at k m : ℕ) (small : k + 21 ≤ m) (inside : at + m ≤ length s) where
  piece : Str
  piece = take (at + m - at) (drop at s)

  column-piece : column_of piece k 0 (most 64) ≡ column_of s (at + k) 0 (most 64)
  unfolding column_of piece
  column-piece =
      let long : at + m - at ≡ m = omega arith in
      let size : length (take m (drop at s)) ≡ m = length-take-le m (drop at s) (rw (length-drop at s) (omega arith)) in
      let few : 21 ≤ m - k = omega arith in
      let same : take 21 (drop k (take m (drop at s))) ≡ take 21 (drop (at + k) s) =
      ap (take 21) (drop-take k m (drop at s)) ∙ take-take 21 (m - k) (drop k (drop at s)) few
      ∙ ap (take 21) (drop-drop k at s) in
      rw (long, size, le-ltb m (k + 21) small, le-ltb (length s) (at + k + 21) (omega arith), same) refl

  pub part-known :
      (n : ℕ) → ((v : ℕ) → column_of (take (at + m - at) (drop at s)) k 0 (most 64) ≡ Some v → n ≡ v) → (v : ℕ)
      → column_of s (at + k) 0 (most 64) ≡ Some v → n ≡ v
  unfolding piece
  part-known n known v e = known v (column-piece ∙ e)

-- past the end there is none
pub part_none : (s : Str) (at : ℕ) → length s ≤ at → PartAt s at (record { owed = 0; next = at })
unfolding line_at
part_none s at h = record {
  owes = λ p. none p;
  rest = λ p. none p;
  after = omega arith;
  further = λ l. omega arith;
}
  where
    none : {A : Type 0} → is_part (line_at (rows (drop at s))) ≡ true → A
    none p = false-true (rw (rows_out s at h) at p)

module _ (s : Str) (at : ℕ) (h : at < length s) where
  type-here : (k a b c : ℕ) → line_at (rows (drop at s)) ≡ Typ k a b c → Here s at 84 (k ∷ a ∷ b ∷ c ∷ []) 86
  type-here k a b c is =
      let p = printed-line _ (Typ k a b c) tt (line s at h _ is) in
      let f = p.fits in
      let m0 = most_a-fits k in
      let m1 = most_b-fits k a in
      let m2 = most_c-fits k a in
      here s at h _ is 84 (k ∷ a ∷ b ∷ c ∷ []) p.whole (omega arith, (omega arith, (omega arith, (omega arith, tt))))

  scope-here : (i b n : ℕ) → line_at (rows (drop at s)) ≡ Scope i b n → Here s at 83 (i ∷ b ∷ n ∷ []) 65
  scope-here i b n is =
      let p = printed-line _ (Scope i b n) tt (line s at h _ is) in
      let f = p.fits in
      let m0 = most_count-fits b in
      here s at h _ is 83 (i ∷ b ∷ n ∷ []) p.whole (omega arith, (omega arith, (omega arith, tt)))

  unbound-here : line_at (rows (drop at s)) ≡ Unbound → Here s at 85 [] 2
  unbound-here is = here s at h _ is 85 [] (printed-line _ Unbound tt (line s at h _ is)).whole tt

  letter-is : {letter : ℕ} {ns : List ℕ} {size : ℕ} → Here s at letter ns size → get_or s at 0 ≡ letter
  letter-is w = sym (get_or-drop at s 0 0 ∙ rw (add-zero at)) ∙ ap (λ (u : Str). get_or u 0 0) w.text

  -- another letter, and no room
  module _ {A : Type 0} {letter : ℕ} {ns : List ℕ} {size : ℕ} (w : Here s at letter ns size) where
    other : (x : ℕ) → get_or s at 0 ≡ x → eqb letter x ≡ false → A
    other x e f = absurd (eqb-false letter x f (sym (letter-is w) ∙ e))

    no_room : length s - at < size → A
    no_room l = let z : ⊥ = omega (arith, w.inside) in absurd z

  -- the numbers of a T row that count
  pub type-kind : (k a b c : ℕ) → line_at (rows (drop at s)) ≡ Typ k a b c → column_of s (at + 1) 0 (most 64) ≡ Some k
  type-kind k a b c is = column-at s at 84 _ 86 0 (type-here k a b c is) (omega arith)

  pub type-scopes : (k a b c : ℕ) → line_at (rows (drop at s)) ≡ Typ k a b c → column_of s (at + 43) 0 (most 64) ≡ Some b
  type-scopes k a b c is = column-at s at 84 _ 86 2 (type-here k a b c is) (omega arith)

  -- what the kind with the number in its column announces, a T row does
  pub type_owes :
      (n : ℕ) → ((v : ℕ) → column_of s (at + 1) 0 (most 64) ≡ Some v → n ≡ v) → (m k a b c : ℕ)
      → line_at (rows (drop at s)) ≡ Typ k a b c → m ≡ owed (Typ (number_of (kind_numbered n)) a b c) → m ≡ owed (Typ k a b c)
  type_owes n known m k a b c is e = e ∙ rw (number-back n, known k (type-kind k a b c is)) refl

  -- what is said of each letter's line is said of the row
  abbrev Told : ℕ → ℕ → Content → Type 0
  Told m next l = (m ≡ owed l) × (rows (drop next s) ≡ rest_of (rows (drop at s)))

  part-is :
      (m next : ℕ) → at < next → ((k a b c : ℕ) → line_at (rows (drop at s)) ≡ Typ k a b c → Told m next (Typ k a b c))
      → ((i b n : ℕ) → line_at (rows (drop at s)) ≡ Scope i b n → Told m next (Scope i b n))
      → (line_at (rows (drop at s)) ≡ Unbound → Told m next Unbound) → PartAt s at (record { owed = m; next = next })
  part-is m next l f g u = record {
    owes = λ p. (told p).0;
    rest = λ p. (told p).1;
    after = omega arith;
    further = λ _. l;
  }
    where
      told : is_part (line_at (rows (drop at s))) ≡ true → Told m next (line_at (rows (drop at s)))
      told p = by_part (line_at (rows (drop at s))) p
          (λ k a b c e. rw e (f k a b c e)) (λ i b n e. rw e (g i b n e)) (λ e. rw e (u e))

  module _ (x : get_or s at 0 ≡ 84) where
    pub part_type :
        (m : ℕ) → ((k a b c : ℕ) → line_at (rows (drop at s)) ≡ Typ k a b c → m ≡ owed (Typ k a b c))
        → PartAt s at (record { owed = m; next = at + 86 })
    part_type m own =
        part-is m (at + 86) (omega arith) (λ k a b c e. (own k a b c e, (type-here k a b c e).next))
        (λ i b n e. other (scope-here i b n e) 84 x refl) (λ e. other (unbound-here e) 84 x refl)

    pub type-out : length s - at < 86 → PartAt s at (record { owed = 0; next = length s })
    type-out l =
        part-is 0 (length s) h (λ k a b c e. no_room (type-here k a b c e) l)
        (λ i b n e. other (scope-here i b n e) 84 x refl) (λ e. other (unbound-here e) 84 x refl)

  module _ (x : get_or s at 0 ≡ 83) where
    pub part-scope :
        (m : ℕ) → ((n : ℕ) → column_of s (at + 43) 0 (most 64) ≡ Some n → m ≡ n)
        → PartAt s at (record { owed = m; next = at + 65 })
    part-scope m own =
        part-is m (at + 65) (omega arith) (λ k a b c e. other (type-here k a b c e) 83 x refl)
        (λ i b n e. let w = scope-here i b n e in
        (own n (column-at s at 83 _ 65 2 w (omega arith)) ∙ sym (scope-owed (rows (drop at s)) i b n e), w.next))
        (λ e. other (unbound-here e) 83 x refl)

    pub scope-out : length s - at < 65 → PartAt s at (record { owed = 0; next = length s })
    scope-out l =
        part-is 0 (length s) h (λ k a b c e. other (type-here k a b c e) 83 x refl)
        (λ i b n e. no_room (scope-here i b n e) l) (λ e. other (unbound-here e) 83 x refl)

  module _ (x : get_or s at 0 ≡ 84 → ⊥) (y : get_or s at 0 ≡ 83 → ⊥) where
    pub part-unbound : PartAt s at (record { owed = 0; next = at + 2 })
    unfolding owed
    part-unbound =
        part-is 0 (at + 2) (omega arith) (λ k a b c e. absurd (x (letter-is (type-here k a b c e))))
        (λ i b n e. absurd (y (letter-is (scope-here i b n e)))) (λ e. (refl, (unbound-here e).next))

    pub unbound-out : length s - at < 2 → PartAt s at (record { owed = 0; next = length s })
    unbound-out l =
        part-is 0 (length s) h (λ k a b c e. absurd (x (letter-is (type-here k a b c e))))
        (λ i b n e. absurd (y (letter-is (scope-here i b n e)))) (λ e. no_room (unbound-here e) l)

-- what is promised of a part, by its letter and by how much is left
pub ruleset parts = (part_none, part_type, type-out, part-scope, scope-out, part-unbound, unbound-out)
