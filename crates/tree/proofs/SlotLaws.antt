-- Laws of a slot's walk: its words, which are counted, and its parts one after the other. Assumes nothing.
use mathlib.Core.Path.{◌≡◌, refl, sym, ap, ◌∙◌}
use mathlib.Core.Bool.{Bool, true, false}
use mathlib.Core.List.{List, [], ◌∷◌}
use Rattle.std.specs.Prelude.{Option, None, Some, Result, Ok, Err}
use Prim.Native.Nat.{ℕ, zero, suc, ◌+◌, ◌-◌, ◌<◌}
use native.Mathlib.Omega.{arith}
use native.Mathlib.Numerals.{sub-one}
use borrow.Author.Tests.{ne_eqb}
use lib.Dec.{eqb}
use lib.ListN.{length}
use Rattle.text.specs.Bytes.{cond}
use Rattle.terms.specs.Kinds.{number_of}
use Rattle.terms.specs.declared.kinds.Kind.{Kind}
use Rattle.row.specs.Rows.{rest_of}
use Rattle.row.specs.Line.{Fault, Content, Word, misplaced, line_said, line_at, as_word, fault_of}
use Rattle.row.specs.declared.BadLine.{BadLine}
use Rattle.row.specs.declared.Line.{Line}
use Rattle.tree.specs.Tree.{Ty, Value, Slot}
use Rattle.tree.specs.Reader.{Rows, Reading, got, no, Reader, ◌then◌, map_r, told, on_word}
use Rattle.tree.specs.Read.{read_type, value_of, read_words_up_to, has_words, read_words, read_slot}
use Rattle.tree.specs.Walked.{passed}
use Rattle.tree.proofs.ElseLaws.{OtherThan, else-value, else-word}
use Rattle.tree.proofs.WalkLaws.{passed-map, passed_then, fault_or}
use Rattle.row.specs.declared.Line.TheVariants as line

words_more : (n : ℕ) (rs : Rows) → 0 < n
    → read_words_up_to n rs ≡ on_word (λ w. map_r (w ∷◌) (read_words_up_to (n - 1))) (got []) rs
unfolding read_words_up_to
words_more zero rs h = let z : ⊥ = omega arith in absurd z
words_more (suc n) rs h = rw (sub-one (suc n))

-- k words were counted, and at most so many are
unfoldable pub counting : ℕ → ℕ → Reader ℕ
counting most k = map_r (λ ws. k + length ws) (read_words_up_to (most - k))

pub count-start : (most : ℕ) (rs : Rows) → counting most 0 rs ≡ map_r length (read_words_up_to most) rs
unfolding counting
count-start most rs =
    let e : most - 0 ≡ most = omega arith in
    ap (λ (n : ℕ). map_r (λ ws. 0 + length ws) (read_words_up_to n) rs) e ∙ go (read_words_up_to most rs)
  where
    go : (g : Reading (List ℕ)) → (g then λ ws. got (0 + length ws)) ≡ (g then λ ws. got (length ws))
    go (got ws q) = let e : 0 + length ws ≡ length ws = omega arith in rw e refl
    go (no k q) = refl

pub count-full : (most k : ℕ) (rs : Rows) → k ≡ most → counting most k rs ≡ got most rs
unfolding counting read_words_up_to
count-full most k rs h =
    let e : most - k ≡ 0 = omega arith in let f : k + 0 ≡ most = omega arith in rw e (ap (λ (n : ℕ). got n rs) f)

-- what follows a slot's type: its V row and its words
after_type : ℕ → Reader (List ℕ)
after_type e vs = value_of vs then λ v. read_words (has_words e v.kind)

slot-passed : (o e p : ℕ) (rs : Rows) → passed (read_slot o e p rs) ≡
    (passed (read_type 16 rs) then λ u vs. passed (after_type e vs))
unfolding read_slot after_type
slot-passed o e p rs = passed_then (read_type 16 rs) _ _ (λ t vs. go t (value_of vs))
  where
    go : (t : Ty) (g : Reading Value)
        → passed {A = Slot} (g then λ v rest. read_words (has_words e v.kind) rest then λ ws.
        got (record { offset = o; explicit = e; option = p; ty = t; default = v; words = ws }))
        ≡ passed (g then λ v. read_words (has_words e v.kind))
    go t (got v rest) = passed-map _ (read_words (has_words e v.kind) rest)
    go t (no k rest) = refl

pub slot-type : (o e p : ℕ) (k : Fault) (rs q : Rows) → no k q ≡ passed (read_type 16 rs) → no k q ≡ passed (read_slot o e p rs)
slot-type o e p k rs q h = sym (slot-passed o e p rs ∙ rw (← h))

-- a line that says no W row is none
other-word : (l : Result Line BadLine) → ((v : ℕ) → line_said l ≡ Word v → ⊥) → OtherThan 9 l
unfolding line_said
other-word (Ok (line.Word v)) h = absurd (h v refl)
other-word (Ok _) h = λ e. omega arith
other-word (Err b) h = tt

-- a W row, and the rows after it
pub count-on :
    (rs rest : Rows) (most k w : ℕ) → k < most → line_at rs ≡ Word w → rest ≡ rest_of rs
    → counting most k rs ≡ counting most (k + 1) rest
unfolding counting
count-on rs rest most k w h is after =
    let e : most - k - 1 ≡ most - (k + 1) = omega arith in
    rw (words_more (most - k) rs (omega arith), is, ← after, e) (go (read_words_up_to (most - (k + 1)) rest))
  where
    go : (g : Reading (List ℕ))
        → ((g then λ ws. got (w ∷ ws)) then λ ws. got (k + length ws)) ≡ (g then λ ws. got (k + 1 + length ws))
    go (got ws q) = let e : k + length (w ∷ ws) ≡ k + 1 + length ws = omega arith in ap (λ (n : ℕ). got n q) e
    go (no j q) = refl

-- no W row, and what the code says of it
pub count-stop :
    (rs : Rows) (l : Result Line BadLine) → line_said l ≡ line_at rs → ((v : ℕ) → line_at rs ≡ Word v → ⊥) → (most k : ℕ)
    → k < most → counting most k rs ≡ told (fault_of 87 (line_said l)) (got k) rs
unfolding counting
count-stop rs l here other most k h =
    let o = other-word l λ v e. other v (sym here ∙ e) in
    rw (words_more (most - k) rs (omega arith), ← here, else-word {A = Reader _} l _ _ o, ← here)
    (go (fault_of 87 (line_said l)))
  where
    go : (o : Option Fault) → ◌then◌ {A = List ℕ} (told o (got []) rs) (λ ws. got (k + length ws)) ≡ told o (got k) rs
    go (Some f) = refl
    go None = let e : k + 0 ≡ k = omega arith in ap (λ (n : ℕ). got n rs) e

-- two choices by whether a line is a W row
pub by_word :
    {A B : Type 0} (R : A → B → Type 0) (l : Content) (y : ℕ → A) (z : A) (y' : ℕ → B) (z' : B)
    → ((w : ℕ) → R (y w) (y' w)) → R z z' → R (as_word l y z) (as_word l y' z')
by_word R (Word w) y z y' z' f g = f w
by_word R _ y z y' z' f g = g

-- where so many words were counted from some rows on, and one must be
abbrev pub one_at_least : Rows → ℕ → Reader (Unit {0})
one_at_least rs k q = cond {A = Reading (Unit {0})} (eqb k 0) (no misplaced rs) (got tt q)

-- a slot's words are those up to 255, and at least one
pub words-some :
    (has : Bool) (rs : Rows) → has ≡ true
    → passed (read_words has rs) ≡ (map_r length (read_words_up_to 255) rs then one_at_least rs)
unfolding read_words read_words_up_to
words-some has rs is =
    rw is (by_word (λ (f g : Reader (List ℕ)). passed (f rs) ≡ (map_r length g rs then one_at_least rs)) (line_at rs) _ _ _ _
    (λ w. some w (read_words_up_to 254 (rest_of rs))) (none (fault_of 87 (line_at rs))))
  where
    some : (w : ℕ) (g : Reading (List ℕ))
        → passed (g then λ ws. got (w ∷ ws)) ≡ (((g then λ ws. got (w ∷ ws)) then λ ws. got (length ws)) then one_at_least rs)
    some w (got ws q) = rw (ne_eqb (length (w ∷ ws)) 0 (omega arith)) refl
    some w (no k q) = refl

    none : (o : Option Fault)
        → passed {A = List ℕ} (told o (no misplaced) rs)
        ≡ ((told {A = List ℕ} o (got []) rs then λ ws. got (length ws)) then one_at_least rs)
    none (Some k) = refl
    none None = refl

-- what the code says of the first row, and the rows after it
module _ (rs rest : Rows) (l : Result Line BadLine) (here : line_said l ≡ line_at rs) (after : rest ≡ rest_of rs) where
  -- the first row is where a slot's type ends
  module _ (o e p : ℕ) (from : Rows) (ended : got tt rs ≡ passed (read_type 16 from)) where
    pub slot-value :
        OtherThan 8 l
        → no (fault_or (fault_of 86 (line_said l))) rs ≡ passed (read_slot o e p from)
    unfolding after_type value_of
    slot-value z =
        sym (slot-passed o e p from ∙ rw (← ended, ← here, else-value {A = Reader _} l _ _ z, ← here)
        (go (fault_of 86 (line_said l))))
      where
        go : (k : Option Fault)
            → passed (◌then◌ {A = Value} (told k (no misplaced) rs) (λ v. read_words (has_words e v.kind))) ≡ no (fault_or k) rs
        go (Some k) = refl
        go None = refl

    pub slot-words :
        (w : Reading (Unit {0})) (k : Kind) (b : ℕ) (has : Bool) → l ≡ Ok (line.Value k b) → has ≡ has_words e (number_of k)
        → w ≡ passed (read_words has rest) → w ≡ passed (read_slot o e p from)
    unfolding line_said after_type value_of
    slot-words w k b has i m h = h ∙ sym (slot-passed o e p from ∙ rw (← ended, ← here, i, ← after, ← m))

pub words-absent : (has : Bool) (rs : Rows) → has ≡ false → got tt rs ≡ passed (read_words has rs)
unfolding read_words
words-absent has rs is = rw is
