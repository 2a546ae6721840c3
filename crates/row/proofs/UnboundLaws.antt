-- U rows in front of others: their bytes, their rows, and what one of them says. Assumes nothing.
use mathlib.Core.Path.{◌≡◌, refl, sym, ap, ap₂, ◌∙◌}
use mathlib.Core.Bool.{Bool, true, false}
use mathlib.Core.Bool as bool
use mathlib.Core.List.{List, [], ◌∷◌, ◌++◌, append_assoc}
use Rattle.std.specs.Bool.{Decides}
use Rattle.std.specs.List.{prefix_len}
use Rattle.std.specs.Simd.{first_chunks}
use Rattle.std.specs.Str.{bytes_eq}
use Rattle.std.proofs.lemmas.List.Sums.{prefix_len-le-length}
use Rattle.std.proofs.lemmas.Slice.Eq.{bytes_eq-Decides}
use Prim.Native.Nat.{ℕ, zero, suc, ◌+◌, ◌-◌, ◌*◌, ◌/◌, ◌<◌, ◌≤◌}
use native.Mathlib.Omega.{arith}
use native.Mathlib.Nat.{add-zero}
use native.Mathlib.Numerals.{add-one}
use lib.ListN.{length, get_or, drop, take, take-append-drop, length-append, length-take, length-drop}
use lib.Seq.{drop-drop, get_or-drop, take-suc, take-take, take-append_seam}
use Rattle.text.specs.Bytes.{Str, unit}
use Rattle.column.proofs.Laws.{rest-is}
use Rattle.row.specs.Fours.{fours}
use Rattle.row.specs.Rows.{onto, rows, joined, rest_of, unbound_rows}
use Rattle.row.specs.Line.{unbound_line, reader, line_of, line_at}
use Rattle.row.specs.Line.{Unbound}

-- a U row says so
pub line-unbound : line_of (85 ∷ 10 ∷ []) ≡ Unbound
unfolding line_of reader unbound_line
line-unbound = refl

-- the first of some U rows, and the rows after it
pub line_at-unbound : (n : ℕ) (rs : List Str) → line_at (unbound_rows (suc n) ++ rs) ≡ Unbound
unfolding line_at unbound_rows
line_at-unbound n rs = line-unbound

pub rest_of-unbound : (n : ℕ) (rs : List Str) → rest_of (unbound_rows (suc n) ++ rs) ≡ unbound_rows n ++ rs
unfolding rest_of unbound_rows
rest_of-unbound n rs = refl

-- the bytes of one row more
joined-more : (n : ℕ) → joined (unbound_rows (suc n)) ≡ joined (unbound_rows n) ++ unit 85 ++ unit 10
unfolding joined unbound_rows
joined-more zero = refl
joined-more (suc n) = ap (λ (s : Str). 85 ∷ 10 ∷ s) (joined-more n)

-- one U row after so many
pub front-more :
    (t : Str) (n : ℕ) → take (2 * n) t ≡ joined (unbound_rows n) → 2 * n + 2 ≤ length t → get_or t (2 * n) 0 ≡ 85
    → get_or t (2 * n + 1) 0 ≡ 10 → take (2 * (n + 1)) t ≡ joined (unbound_rows (n + 1))
front-more t n e h a b =
    let k : 2 * (n + 1) ≡ suc (suc (2 * n)) = omega arith in
    let m : suc (2 * n) ≡ 2 * n + 1 = omega arith in
    rw (k, take-suc t (suc (2 * n)) 0 (omega arith), take-suc t (2 * n) 0 (omega arith), m, b, a, e, add-one)
    (sym (joined-more n))

-- the same by the bytes that are left
pub front-rest :
    (t : Str) (n : ℕ) → take (2 * n) t ≡ joined (unbound_rows n) → 2 ≤ length (take (length t - 2 * n) (drop (2 * n) t))
    → get_or (take (length t - 2 * n) (drop (2 * n) t)) 0 0 ≡ 85
    → get_or (take (length t - 2 * n) (drop (2 * n) t)) 1 0 ≡ 10
    → take (2 * (n + 1)) t ≡ joined (unbound_rows (n + 1))
front-rest t n e h a b =
    let l = length-drop (2 * n) t in
    let two = rw (rest-is t (2 * n)) at h in
    let first = rw (rest-is t (2 * n), get_or-drop (2 * n) t 0 0, add-zero (2 * n)) at a in
    let second = rw (rest-is t (2 * n), get_or-drop (2 * n) t 1 0) at b in
    front-more t n e (omega arith) first second

-- four bytes, so many times
unfoldable pub repeated : Str → ℕ → Str
repeated four zero = []
repeated four (suc n) = four ++ repeated four n

repeated-more : (four : Str) (n : ℕ) → repeated four (1 + n) ≡ four ++ repeated four n
unfolding repeated
repeated-more four n = let e : 1 + n ≡ suc n = omega arith in ap (repeated four) e

-- what stands in front of the first chunk that is another, and after it
front-chunks :
    (four : Str) (k : ℕ) (t : Str)
    → repeated four (prefix_len (λ chunk. bytes_eq chunk four) (first_chunks 4 k t))
    ++ drop (4 * prefix_len (λ chunk. bytes_eq chunk four) (first_chunks 4 k t)) t
    ≡ t
unfolding repeated
front-chunks four zero t = refl
front-chunks four (suc k) t = go (bytes_eq (take 4 t) four) (bytes_eq-Decides (take 4 t) four) (front-chunks four k (drop 4 t))
  where
    n : ℕ
    n = prefix_len (λ chunk. bytes_eq chunk four) (first_chunks 4 k (drop 4 t))

    go :
        (p : Bool) → Decides p (take 4 t ≡ four) → repeated four n ++ drop (4 * n) (drop 4 t) ≡ drop 4 t
        → repeated four (bool.cond p (1 + n) 0) ++ drop (4 * bool.cond p (1 + n) 0) t ≡ t
    go true d i =
        let e : 4 * (1 + n) ≡ 4 + 4 * n = omega arith in
        let l = append_assoc four (repeated four n) (drop (4 * n) (drop 4 t)) in
        rw (repeated-more four n, e, ← drop-drop (4 * n) 4 t, l, i, ← d.0 refl) (take-append-drop 4 t)
    go false d i = refl

pub fours-front : (four t : Str) → repeated four (fours four t) ++ drop (4 * fours four t) t ≡ t
unfolding fours
fours-front four t = front-chunks four (length t / 4) t

repeated-length : (four : Str) (n : ℕ) → length four ≡ 4 → length (repeated four n) ≡ 4 * n
unfolding repeated
repeated-length four zero e = refl
repeated-length four (suc n) e = omega (arith, length-append four (repeated four n), repeated-length four n e, e)

pub fours-taken : (four t : Str) → length four ≡ 4 → take (4 * fours four t) t ≡ repeated four (fours four t)
fours-taken four t e =
    let n = fours four t in
    ap₂ take (sym (repeated-length four n e)) (sym (fours-front four t)) ∙ take-append_seam (repeated four n) (drop (4 * n) t)

-- there is room for them
pub fours_within :
    (four : Str) (chunks : List Str) (t : Str) → length chunks ≡ length t / 4
    → 4 * prefix_len (λ chunk. bytes_eq chunk four) chunks ≤ length t
fours_within four chunks t e = omega (arith, prefix_len-le-length (λ chunk. bytes_eq chunk four) chunks)

-- the bytes of two U rows, so many times
two-rows : (n : ℕ) → repeated (85 ∷ 10 ∷ 85 ∷ 10 ∷ []) n ≡ joined (unbound_rows (2 * n))
unfolding repeated joined unbound_rows
two-rows zero = refl
two-rows (suc n) =
    let e : 2 * suc n ≡ suc (suc (2 * n)) = omega arith in
    ap (λ (s : Str). 85 ∷ 10 ∷ 85 ∷ 10 ∷ s) (two-rows n) ∙ sym (ap (λ (k : ℕ). joined (unbound_rows k)) e)

-- so many twos in front
pub front_twos :
    (t : Str) (n : ℕ) → n ≡ fours (85 ∷ 10 ∷ 85 ∷ 10 ∷ []) t → take (2 * (2 * n)) t ≡ joined (unbound_rows (2 * n))
front_twos t n e =
    let m : 2 * (2 * n) ≡ 4 * n = omega arith in
    ap (λ (k : ℕ). take k t) m
    ∙ ap (λ (k : ℕ). take (4 * k) t) e ∙ fours-taken (85 ∷ 10 ∷ 85 ∷ 10 ∷ []) t refl
    ∙ ap (repeated (85 ∷ 10 ∷ 85 ∷ 10 ∷ [])) (sym e) ∙ two-rows n

-- the rows of bytes that begin with U rows
rows-unbound : (n : ℕ) (s : Str) → rows (joined (unbound_rows n) ++ s) ≡ unbound_rows n ++ rows s
unfolding rows joined unbound_rows onto
rows-unbound zero s = refl
rows-unbound (suc n) s = ap (λ (rs : List Str). (85 ∷ 10 ∷ []) ∷ rs) (rows-unbound n s)

-- what `unbound_run` promises of its count n
abbrev Run : Str → ℕ → ℕ → ℕ → Type 0
Run s at most n =
    (n ≤ most) × ((0 < n → at + 2 * n ≤ length s) × (rows (drop at s) ≡ unbound_rows n ++ rows (drop (at + 2 * n) s)))

-- n U rows in front of the w bytes from a position on, which have room for `most` rows at most
module _
    (s : Str) (at w n most : ℕ) (within : 2 * n ≤ length (take w (drop at s)))
    (front : take (2 * n) (take w (drop at s)) ≡ joined (unbound_rows n)) (room : w < 2 * most + 2)
  where
    fits : (2 * n ≤ w) × (2 * n ≤ length s - at)
    fits =
        let l = length-take w (drop at s) in
        let m = length-drop at s in
        (omega arith, omega arith)

    run-rows : rows (drop at s) ≡ unbound_rows n ++ rows (drop (at + 2 * n) s)
    run-rows =
        ap rows (sym (take-append-drop (2 * n) (drop at s)))
        ∙ rw (← take-take (2 * n) w (drop at s) fits.0, front, drop-drop (2 * n) at s)
        (rows-unbound n (drop (at + 2 * n) s))

    pub run : Run s at most n
    run = (omega (arith, fits), (λ h. omega (arith, fits), run-rows))

-- none
pub run_none : (s : Str) (at most : ℕ) → Run s at most 0
unfolding unbound_rows
run_none s at most = (omega arith, (λ h. let z : ⊥ = omega arith in absurd z, rw (add-zero at)))
