-- Lines that are read column by column: what a call says of the number in some columns, and how a line goes on by it. A return
-- cites what was said of each number before it, and what decides there. The same as a record of what is left to read of a line:
-- `Left` between two columns, `Column` where one was looked at. Assumes nothing.
use mathlib.Core.Path.{◌≡◌, refl, sym, ap, ◌∙◌}
use mathlib.Core.Bool.{Bool, true, false}
use Rattle.std.specs.Prelude.{Option, None, Some, Result, Ok}
use Rattle.std.specs.Option.{unwrap_or}
use Prim.Native.Nat.{ℕ, zero, suc, ◌+◌, ◌<◌, ◌≤◌}
use native.Mathlib.Decide.{dec_lt}
use native.Mathlib.Omega.{arith}
use lib.Dec.{eqb, ltb}
use lib.ListN.{length, take, drop}
use borrow.Author.Tests.{lt-ltb, le-ltb}
use Rattle.text.specs.Bytes.{Str, cond}
use Rattle.column.specs.Number.{number, within, column_of, most}
use Rattle.row.specs.Line.{Content, Scope, Bad, fault, letter_of, given, with_number, with_nothing, said_with}
use Rattle.row.specs.Line.{bind_of, most_count, scope_line}
use Rattle.row.specs.declared.BadLine.{BadLine}

-- a line that goes on with a number has what a line with a bad number has, and each line that it goes on with
pub by_number :
    (P : Content → Type 0) (t : Str) (a : ℕ) (x : Option ℕ) (f : ℕ → Content) → P (Bad (letter_of t) (fault 16 (a + 1)))
    → ((v : ℕ) → x ≡ Some v → P (f v)) → P (given t a x f)
by_number P t a (Some v) f b g = g v refl
by_number P t a None f b g = b

-- what the call says of a number that stands in its columns, and where none does
pub is-there : {n : Option ℕ} {x : Option ℕ} {v : ℕ} → n ≡ x → n ≡ Some v → x ≡ Some v
is-there e h = sym e ∙ h

pub not-there : {n : Option ℕ} {x : Option ℕ} → n ≡ x → n ≡ None → x ≡ None
not-there e h = sym e ∙ h

-- a line's bytes, and what the line is by what is left to read of it
pub record Left (line : Str → Content) : Type 0 where
  pub bytes : Str
  pub rest : Content
  pub is : rest ≡ line bytes

-- the same where the number from a place on was looked at: what was got there, and how the line goes on with it
pub record Column (line : Str → Content) : Type 0 where
  pub bytes : Str
  pub place : ℕ
  pub got : Option ℕ
  pub on : ℕ → Content
  pub is : given bytes place got on ≡ line bytes

-- nothing was read
abbrev pub unread : (line : Str → Content) (t : Str) → Left line
unread line t = record { bytes = t; rest = line t; is = refl }

-- a number is looked at: `column w a _ refl n e`, where e is what the call says of n
abbrev pub column :
    {line : Str → Content} (w : Left line) (a : ℕ) {x : Option ℕ} (f : ℕ → Content) → w.rest ≡ given w.bytes a x f
    → (n : Option ℕ) → n ≡ x → Column line
column w a f k n e = record {
  bytes = w.bytes;
  place = a;
  got = n;
  on = f;
  is = ap (λ x. given w.bytes a x f) e ∙ sym k ∙ w.is;
}

-- one stands there: the line is what it goes on with
pub on-with : {line : Str → Content} (r : Column line) {v : ℕ} → r.got ≡ Some v → r.on v ≡ line r.bytes
on-with r h = rw h at r.is

abbrev pub past : {line : Str → Content} (r : Column line) {v : ℕ} → r.got ≡ Some v → Left line
past r {v} h = record { bytes = r.bytes; rest = r.on v; is = on-with r h }

-- none stands there: the line is bad
pub none-there :
    {line : Str → Content} (r : Column line) {l : Content} → r.got ≡ None
    → l ≡ Bad (letter_of r.bytes) (fault 16 (r.place + 1)) → l ≡ line r.bytes
none-there r h z = z ∙ rw h at r.is

-- the text at the end is none, and is one
pub no_text : {p b : Bool} → p ≡ b → p ≡ false → b ≡ false
no_text e h = sym e ∙ h

pub is-text : {p b : Bool} → p ≡ b → p ≡ true → b ≡ true
is-text e h = sym e ∙ h

-- a number is no greater than its bound, so a line that goes on with it may go on with what is the same up to there
pub number-bounded :
    (t : Str) (a most : ℕ) (f g : ℕ → Content) → ((n : ℕ) → n ≤ most → f n ≡ g n)
    → with_number t a 0 most f ≡ with_number t a 0 most g
unfolding column_of
number-bounded t a most f g same = go (ltb (length t) (a + 21)) (number (take 21 (drop a t)))
  where
    inside : (v : ℕ) → Dec (most < v)
        → given t a (cond (ltb most v) None (Some v)) f ≡ given t a (cond (ltb most v) None (Some v)) g
    inside v (yes h) = rw (lt-ltb most v h) refl
    inside v (no h) = rw (le-ltb most v (omega arith)) (same v (omega arith))

    go : (short : Bool) (o : Option ℕ)
        → given t a (cond short None (within 0 most o)) f ≡ given t a (cond short None (within 0 most o)) g
    go true o = refl
    go false None = refl
    go false (Some v) = rw (le-ltb v 0 (omega arith)) (inside v (dec_lt most v))

-- an S row's bindings by its two numbers, and its line by those bindings
abbrev pub bindings_said : ℕ → ℕ → Option ℕ
bindings_said b n = cond (eqb b 0) None (Some n)

abbrev pub by_bindings : ℕ → ℕ → ℕ → Content
by_bindings i b n = Scope i (bind_of (bindings_said b n)) (unwrap_or (bindings_said b n) 0)

pub scope-by_bindings :
    (t : Str)
    → (with_number t 1 0 (most 64) λ i.
    with_number t 22 0 1 λ b.
    with_number t 43 0 (most_count b) λ n. with_nothing t 64 (by_bindings i b n))
    ≡ scope_line t
unfolding scope_line most_count
scope-by_bindings t =
    number-bounded t 1 (most 64) _ _ λ i h. number-bounded t 22 1 _ _ λ b least.
    number-bounded t 43 (most_count b) _ _ λ n l. ap (with_nothing t 64) (same i b n least l)
  where
    same : (i b n : ℕ) → b ≤ 1 → n ≤ cond (eqb b 0) 0 (most 64) → by_bindings i b n ≡ Scope i b n
    same i zero n h l = let z : 0 ≡ n = omega arith in ap (Scope i 0) z
    same i (suc zero) n h l = refl
    same i (suc (suc b)) n h l = let z : ⊥ = omega arith in absurd z

-- a line goes on with the number that the code read
pub went-on : {r : Result ℕ BadLine} {v : ℕ} {l : Content} (f : ℕ → Content) → said_with r f ≡ l → r ≡ Ok v → f v ≡ l
went-on f h e = ap (λ (r : Result ℕ BadLine). said_with r f) (sym e) ∙ h
