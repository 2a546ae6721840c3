-- Laws of snake names: how long one can get, and the struct that holds it. By induction on the name. Assumes nothing.
use mathlib.Core.Path.{◌≡◌, refl, ap, ap₂, ◌∙◌}
use mathlib.Core.Bool.{Bool, true, false}
use mathlib.Core.List.{[], ◌∷◌, ◌++◌}
use Prim.Native.Nat.{ℕ, ◌+◌, ◌-◌, ◌*◌, ◌^◌, ◌≤◌, ◌<◌}
use native.Mathlib.Nat.{zero-add}
use native.Mathlib.Omega.{arith}
use borrow.Author.Tests.{le-leb, lt-leb, leb-true, ltb-true, ltb-false}
use lib.Dec.{leb, ltb}
use lib.ListN.{length, replicate, length-append, length-replicate}
use lib.Seq.{take-append_seam}
use Rattle.std.proofs.lemmas.List.{drop-replicate}
use Rattle.std.specs.Char as ascii
use Rattle.text.specs.Answer.{placed}
use Rattle.text.specs.Bytes.{Str, unit, cond, both}
use Rattle.text.specs.Text.{put, state_at, Wrote}
use Rattle.text.specs.declared.Text.{Text}
use Rattle.text.proofs.BytesLaws.{both_false}
use Rattle.text.proofs.Places.{put-placed, adv-fits}
use Rattle.column.specs.Texts.{between, are_chars}
use Rattle.names.specs.Keywords.{is_keyword}
use Rattle.names.specs.Names.{is_uppercase, to_ascii_lowercase, to_ascii_uppercase, is_ascii, taken, snake_byte, snake_from}
use Rattle.names.specs.Names.{camel_to_snake_case, module_name, held, Snaked, name_of}
use Rattle.names.specs.declared.Snake.{Snake}

-- the case of an ASCII letter, of those from least to most, as std's methods answer it
letter_case : (least most b x : ℕ) → cond (ltb b least) b (cond (ltb b (most + 1)) x b) ≡ cond (between least most b) x b
letter_case least most b x = go (ltb b least) (ltb b (most + 1)) refl refl
  where
    go : (p q : Bool) → ltb b least ≡ p → ltb b (most + 1) ≡ q → cond p b (cond q x b) ≡ cond (between least most b) x b
    go true q e f = rw (lt-leb least b (ltb-true b least e))
    go false true e f = rw (le-leb least b (ltb-false b least e), le-leb b most (omega (arith, ltb-true b (most + 1) f)))
    go false false e f = rw (le-leb least b (ltb-false b least e), lt-leb b most (omega (arith, ltb-false b (most + 1) f)))

pub lower_case : (b : ℕ) → ascii.to_ascii_lowercase b ≡ to_ascii_lowercase b
lower_case b = letter_case 65 90 b (b + 32)

pub upper_case : (b : ℕ) → ascii.to_ascii_uppercase b ≡ to_ascii_uppercase b
upper_case b = letter_case 97 122 b (b - 32)

-- a turn of the loop: the first byte, a byte that begins no capital, and one that does
pub byte-first : (b : ℕ) (t : Str) → snake_byte true b t ≡ unit (to_ascii_lowercase b)
byte-first b t = rw (both_false (is_uppercase b t))

pub byte_lower : (first : Bool) (b : ℕ) (t : Str) → is_uppercase b t ≡ false → snake_byte first b t ≡ unit (to_ascii_lowercase b)
byte_lower first b t e = rw e

pub byte_capital : (b : ℕ) (t : Str) → is_uppercase b t ≡ true → snake_byte false b t ≡ unit 95 ++ unit (to_ascii_lowercase b)
byte_capital b t e = rw e

byte-length : (b : ℕ) (t : Str) → length (snake_byte false b t) ≤ 2
byte-length b t = go (is_uppercase b t) (to_ascii_lowercase b)
  where
    go : (u : Bool) (x : ℕ) → length (cond (both u true) (unit 95) [] ++ unit x) ≤ 2
    go true x = omega arith
    go false x = omega arith

from-length : (s : Str) → length (snake_from false s) ≤ 2 * length s
unfolding snake_from
from-length [] = omega arith
from-length (b ∷ s) = omega (arith, length-append (snake_byte false b s) (snake_from false s), byte-length b s, from-length s)

first-length : (s : Str) → length s ≤ 64 → length (snake_from true s) ≤ 127
unfolding snake_from
first-length [] h = omega arith
first-length (b ∷ s) h = rw (byte-first b s) (omega (arith, from-length s))

-- a snake name is at most 127 bytes
pub snake-length : (name : Str) → length (camel_to_snake_case name) ≤ 127
unfolding camel_to_snake_case taken
snake-length name = go (leb (length name) 64) (are_chars is_ascii false name) refl
  where
    go : (a b : Bool) → leb (length name) 64 ≡ a → length (cond (both a b) (snake_from true name) []) ≤ 127
    go true true e = first-length name (leb-true _ _ e)
    go _ _ e = omega arith

pub camel_taken : (name : Str) → taken name ≡ true → camel_to_snake_case name ≡ snake_from true name
unfolding camel_to_snake_case
camel_taken name e = rw e

-- a text at the start of m zeros
padded : (m : ℕ) (s : Str) → length s ≤ m → m < 2 ^ 64 → put (replicate m 0) (state_at 0) s ≡ s ++ replicate (m - length s) 0
unfolding placed
padded m s h b =
    let e = length-replicate {A = ℕ} m 0 in
    put-placed (replicate m 0) (state_at 0) s (omega arith) (omega arith) ∙ rw (zero-add, drop-replicate)

abbrev snake : Str → ℕ → Snake
snake l n = record { bytes = l; len = n }

-- a text that was written into zeros is held
held-wrote : (s l : Str) (t : Text) → length s ≤ 128 → Wrote (replicate 128 0) (state_at 0) s l t → snake l t.at ≡ held s
unfolding held
held-wrote s l t h w =
    ap₂ snake (w.bytes ∙ padded 128 s h (omega arith))
    (ap (λ (u : Text). u.at) (w.state ∙ adv-fits (state_at 0) s (omega arith)) ∙ zero-add (length s))

-- the two ends of `camel_to_snake_case`: a name that is taken, and one that is not
pub held-taken : (name l : Str) (t : Text) → taken name ≡ true → Wrote (replicate 128 0) (state_at 0) (snake_from true name) l t
    → snake l t.at ≡ held (camel_to_snake_case name)
held-taken name l t e w =
    let f = camel_taken name e in
    rw f (held-wrote (snake_from true name) l t (omega (arith, snake-length name, ap length f)) w)

pub held_other : (name : Str) → taken name ≡ false → snake (replicate 128 0) 0 ≡ held (camel_to_snake_case name)
unfolding held camel_to_snake_case
held_other name e = rw e

pub snaked : (name : Str) (n : Snake) → n ≡ held (camel_to_snake_case name) → Snaked name n
unfolding held
snaked name n e = record { whole = e; short = rw e (snake-length name) }

-- and is found again
pub name_of_lem : (n : Snake) (s : Str) → n ≡ held s → name_of n ≡ s
unfolding held
name_of_lem n s e = rw e (take-append_seam s _)

-- a module's name, where the snake name is a keyword and where it is not
pub module_keyword : (name : Str) → is_keyword (camel_to_snake_case name) ≡ true
    → module_name name ≡ camel_to_snake_case name ++ unit 95
unfolding module_name
module_keyword name e = rw e

pub module-plain : (name : Str) → is_keyword (camel_to_snake_case name) ≡ false → module_name name ≡ camel_to_snake_case name
unfolding module_name
module-plain name e = rw e
