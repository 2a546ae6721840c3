-- Laws of arguments past the end of the buffer, where they are counted and not written: the state after a text depends on the
-- text's length alone, so that over an empty buffer the order of arguments does not show, and so that arguments of known lengths,
-- or names whose rows' length is known, are counted at once. Assumes nothing.
use mathlib.Core.Path.{◌≡◌, refl, sym, ap, ◌∙◌}
use mathlib.Core.List.{List, [], ◌∷◌, ◌++◌}
use Prim.Native.Nat.{ℕ, zero, suc, ◌+◌, ◌-◌, ◌*◌, ◌^◌, ◌<◌, ◌≤◌, min}
use native.Mathlib.Nat.{suc-mul, zero-mul}
use native.Mathlib.Omega.{arith}
use lib.ListN.{length, drop, replicate, length-append, length-drop, length-replicate}
use Rattle.text.specs.Bytes.{Str, ascii, unit}
use Rattle.text.specs.Text.{next, put, adv, with_fill, WroteSome}
use Rattle.text.specs.declared.Text.{Text}
use Rattle.text.proofs.Places.{counted}
use Rattle.text.proofs.Laws.{some-text}
use Rattle.row.specs.Rows.{rows, rest_of, size}
use Rattle.row.proofs.Laws.{size-rows}
use Rattle.tree.specs.Reader.{Rows}
use Rattle.nodes.specs.Index.{names_of, rows_after}
use Rattle.nodes.proofs.NameLaws.{names-first, name-size}
use Rattle.codegen_types.specs.TypeString.{any_owned}
use Rattle.types.specs.Find.{ParamsAt}
use Rattle.type_parts.specs.Parts.{listed, sep_after, Listed}
use Rattle.type_parts.specs.declared.Arguments.{Arguments}

-- ---- the order of arguments over an empty buffer

put-none : (t : Text) (a : List ℕ) → put [] t a ≡ []
unfolding put
put-none t [] = refl
put-none t (x ∷ a) = put-none (next t) a

-- whatever is written, an empty buffer stays empty
pub none_written : {l : List ℕ} {t : Text} {l' : List ℕ} {t' : Text} → l ≡ [] → WroteSome l t l' t' → l' ≡ []
none_written {t = t} e w = rw (w.wrote.bytes, e) (put-none t w.text)

adv-length : (t : Text) (a b : List ℕ) → length a ≡ length b → adv t a ≡ adv t b
unfolding adv
adv-length t [] [] h = refl
adv-length t [] (y ∷ b) h = let z : ⊥ = omega arith in absurd z
adv-length t (x ∷ a) [] h = let z : ⊥ = omega arith in absurd z
adv-length t (x ∷ a) (y ∷ b) h = adv-length (next t) a b (omega arith)

-- the bytes that arguments take: each its own, and the one before it
unfoldable taken : List Str → ℕ
taken [] = 0
taken (w ∷ ws) = 1 + length w + taken ws

listed-length : (b : ℕ) (ws : List Str) → length (listed b ws) ≡ taken ws
unfolding listed taken
listed-length b [] = refl
listed-length b (w ∷ ws) =
    omega (arith, length-append (unit b ++ w) (listed 44 ws), length-append (unit b) w, listed-length 44 ws)

taken_append : (x y : List Str) → taken (x ++ y) ≡ taken x + taken y
unfolding taken
taken_append [] y = omega arith
taken_append (w ∷ x) y = omega (arith, taken_append x y)

sep_swap : (b : ℕ) (x y : List Str) → sep_after b (x ++ y) ≡ sep_after b (y ++ x)
unfolding sep_after
sep_swap b [] [] = refl
sep_swap b [] (v ∷ y) = refl
sep_swap b (w ∷ x) [] = refl
sep_swap b (w ∷ x) (v ∷ y) = refl

pub listed_swap : {p p' : Arguments} (x y : List Str) → Listed [] p (x ++ y) [] p' → Listed [] p (y ++ x) [] p'
listed_swap {p} {p'} x y h = record {
  text = record {
    bytes = sym (put-none p.text (listed p.sep (y ++ x)));
    state = h.text.state ∙ adv-length p.text (listed p.sep (x ++ y)) (listed p.sep (y ++ x))
        (omega (arith, listed-length p.sep (x ++ y), listed-length p.sep (y ++ x), taken_append x y, taken_append y x));
  };
  sep = h.sep ∙ sep_swap p.sep x y;
}

-- ---- arguments counted at once

sep-some : (b : ℕ) (ws : List Str) → 0 < length ws → 44 ≡ sep_after b ws
unfolding sep_after
sep-some b [] h = let z : ⊥ = omega arith in absurd z
sep-some b (w ∷ ws) h = refl

-- arguments that begin past the end of l, after which the count is n further on
module _ (l : List ℕ) (p : Arguments) (h : length l ≤ p.text.at) (b : p.text.at ≤ 2 ^ 64 - 1) (n : ℕ) (t : Text) where
  at_once : (ws : List Str) → 0 < length ws → n ≡ taken ws → t ≡ with_fill p.text (min (p.text.at + n) (2 ^ 64 - 1))
      → Listed l p ws l (record { text = t; sep = 44 })
  at_once ws m e f = record {
    text = rw (f, e, ← listed-length p.sep ws) (counted l p.text (listed p.sep ws) h b);
    sep = sep-some p.sep ws m;
  }

taken-same : (n : ℕ) (w : Str) → taken (replicate n w) ≡ n * (1 + length w)
unfolding taken
taken-same zero w = sym (zero-mul (1 + length w))
taken-same (suc n) w = omega (arith, taken-same n w, suc-mul n (1 + length w))

-- parameters that are not bound
pub unbound-counted : (root l : List ℕ) (p : Arguments) (n bytes : ℕ) (t : Text) → length l ≤ p.text.at
    → p.text.at ≤ 2 ^ 64 - 1 → 0 < n → bytes ≡ min ((1 + length root + 20) * n) (2 ^ 64 - 1)
    → t ≡ with_fill p.text (min (p.text.at + bytes) (2 ^ 64 - 1))
    → Listed l p (replicate n (any_owned root)) l (record { text = t; sep = 44 })
unbound-counted root l p n bytes t h b m f e =
    let z : 1 + length root + 20 ≡ 1 + length (any_owned root) = omega
    (arith, length-append root (ascii "::any_pointer::Owned")) in
    at_once l p h b (n * (1 + length root + 20)) t (replicate n (any_owned root)) (rw (length-replicate n (any_owned root)) m)
    (rw z (sym (taken-same n (any_owned root)))) (e ∙ ap (with_fill p.text) (omega (arith, f)))

-- names of P rows: each has three bytes fewer than its row, and takes one more
names-taken : (n : ℕ) (rs : Rows) → n ≡ length (names_of rs) → size rs ≡ 2 * n + taken (names_of rs) + size (rows_after n rs)
unfolding taken rows_after
names-taken zero rs h = rw (no-name (names_of rs) h) (omega arith)
  where
    no-name : (ws : List Str) → 0 ≡ length ws → taken ws ≡ 0
    no-name [] h = refl
    no-name (w ∷ ws) h = let z : ⊥ = omega arith in absurd z
names-taken (suc n) rs h =
    let e = names-first rs (omega arith) in
    omega (
      arith,
      name-size rs (omega arith),
      names-taken n (rest_of rs) (omega (arith, ap length e)),
      ap taken e,
    )

pub names-counted : (s : Str) (at n end : ℕ) (l : List ℕ) (p : Arguments) (t : Text) → length l ≤ p.text.at
    → p.text.at ≤ 2 ^ 64 - 1 → ParamsAt s at n end → 0 < n
    → t ≡ with_fill p.text (min (p.text.at + (min end (length s) - at - 2 * n)) (2 ^ 64 - 1))
    → Listed l p (names_of (rows (drop at s))) l (record { text = t; sep = 44 })
names-counted s at n end l p t h b w m e =
    let fits : min end (length s) - at - 2 * n ≡ taken (names_of (rows (drop at s))) = omega (
      arith,
      names-taken n (rows (drop at s)) w.names,
      ap size w.after,
      size-rows (drop at s),
      size-rows (drop end s),
      length-drop at s,
      length-drop end s,
    ) in
    at_once l p h b (min end (length s) - at - 2 * n) t (names_of (rows (drop at s))) (omega (arith, w.names)) fits e

-- whatever is counted, it is some text of so many bytes
pub some-counted : (l : List ℕ) (t : Text) (n : ℕ) (u : Text) → length l ≤ t.at → t.at ≤ 2 ^ 64 - 1
    → u ≡ with_fill t (min (t.at + n) (2 ^ 64 - 1)) → WroteSome l t l u
some-counted l t n u h b e =
    let text : List ℕ = replicate n 0 in
    let long : length text ≡ n = length-replicate n 0 in
    rw (e, ← long) (some-text (counted l t text h b))
