-- Laws of the P rows of a node: their names are what the reader of P rows reads, after k rows stands the name with the number k,
-- and each row has three bytes more than its name. By induction on the rows and the count. Assumes nothing.
use mathlib.Core.Path.{◌≡◌, refl, sym, ap, ◌∙◌}
use mathlib.Core.Bool.{true, false}
use mathlib.Core.List.{List, [], ◌∷◌}
use Rattle.std.specs.Prelude.{Option, None, Some}
use Prim.Native.Nat.{ℕ, zero, suc, ◌+◌, ◌-◌, ◌<◌, ◌≤◌}
use native.Mathlib.Nat.{zero-add, suc-add}
use native.Mathlib.Omega.{arith}
use lib.ListN.{length, drop, length-append, length-drop}
use Rattle.text.specs.Bytes.{Str, unit}
use Rattle.row.specs.Rows.{rest_of, size}
use Rattle.row.specs.Print.{columns, row_text}
use Rattle.row.proofs.ReadLaws.{printed-line}
use Rattle.row.specs.Line.{Fault, Content, line_of, line_at, text_of, text_at, as_parameter, fault_of}
use Rattle.row.specs.Line.{Root, Node, Parameter, Field, Group, Typ, Scope, Unbound, Value, Word, Bad}
use Rattle.tree.specs.Reader.{Rows, Reading, got, no, Reader, ◌then◌, told, or_fault, On}
use Rattle.tree.specs.Read.{read_params}
use Rattle.tree.specs.Walked.{passed}
use Rattle.tree.proofs.OtherLines.{never}
use Rattle.nodes.specs.Index.{names_of, nth, rows_after}

no_names : names_of [] ≡ []
unfolding names_of
no_names = refl

-- by the line of the first row: a P row gives its text, and any other row ends the names
names_by : (P : List Str → Type 0) (r : Str) (rs : Rows) → (line_of r ≡ Parameter → P (text_of r ∷ names_of rs)) → P []
    → P (names_of (r ∷ rs))
unfolding names_of
names_by P r rs f g = go (line_of r) refl
  where
    go : (l : Content) → line_of r ≡ l → P (as_parameter l (text_of r ∷ names_of rs) [])
    go Parameter e = f e
    go Root e = g
    go (Node i q k x y c o) e = g
    go (Field o d e' q) e = g
    go (Group i d) e = g
    go (Typ k a b c) e = g
    go (Scope i b c) e = g
    go Unbound e = g
    go (Value k b) e = g
    go (Word x) e = g
    go (Bad x k) e = g

pub names_more : (rs : Rows) → line_at rs ≡ Parameter → names_of rs ≡ text_at rs ∷ names_of (rest_of rs)
unfolding names_of line_at text_at rest_of
names_more [] e = never cc
names_more (r ∷ rs) e = rw e

pub names-none : (rs : Rows) → as_parameter (line_at rs) true false ≡ false → names_of rs ≡ []
unfolding names_of line_at
names-none [] h = refl
names-none (r ∷ rs) h =
    names_by (λ l. l ≡ []) r rs (λ e. let z : true ≡ false = rw e at h in never cc) refl

-- the names of a node's P rows are what the reader of P rows reads
pub params-names : (rs : Rows) → On (read_params rs) (λ ps. ps ≡ names_of rs)
unfolding read_params names_of line_at text_at rest_of
params-names [] = refl
params-names (r ∷ rs) = go (line_of r) (read_params rs) (params-names rs)
  where
    ended : (o : Option Fault) → On {A = List Str} (told o (got []) (r ∷ rs)) (λ ps. ps ≡ [])
    ended (Some k) = tt
    ended None = refl

    other : On {A = List Str} (or_fault 80 (got []) (r ∷ rs)) (λ ps. ps ≡ [])
    other = ended (fault_of 80 (line_of r))

    go : (l : Content) (g : Reading (List Str)) → On g (λ ps. ps ≡ names_of rs)
        → On (as_parameter {A = Reader (List Str)} l (λ q. g then λ ps. got (text_at q ∷ ps)) (or_fault 80 (got [])) (r ∷ rs))
        (λ ps. ps ≡ as_parameter l (text_of r ∷ names_of rs) [])
    go Parameter (got ps us) ih = ap (λ (l : List Str). text_of r ∷ l) ih
    go Parameter (no k us) ih = tt
    go Root g ih = other
    go (Node i q k x y c o) g ih = other
    go (Field o d e q) g ih = other
    go (Group i d) g ih = other
    go (Typ k a b c) g ih = other
    go (Scope i b c) g ih = other
    go Unbound g ih = other
    go (Value k b) g ih = other
    go (Word x) g ih = other
    go (Bad x k) g ih = other

-- what they leave are the rows after as many as there are names
pub params-rest : (rs us : Rows) → got tt us ≡ passed (read_params rs) → us ≡ rows_after (length (names_of rs)) rs
unfolding read_params names_of line_at rest_of rows_after
params-rest [] us h = cc
params-rest (r ∷ rs) us h = go (line_of r) (read_params rs) (params-rest rs us) h
  where
    other : (o : Option Fault) → got tt us ≡ passed {A = List Str} (told o (got []) (r ∷ rs)) → us ≡ r ∷ rs
    other (Some k) h = never cc
    other None h = cc

    go : (l : Content) (g : Reading (List Str)) → (got tt us ≡ passed g → us ≡ rows_after (length (names_of rs)) rs)
        → got tt us ≡ passed (as_parameter {A = Reader (List Str)} l (λ q. g then λ ps. got (text_at q ∷ ps))
        (or_fault 80 (got [])) (r ∷ rs))
        → us ≡ rows_after (length (as_parameter l (text_of r ∷ names_of rs) [])) (r ∷ rs)
    go Parameter (got ps vs) ih h = ih h
    go Parameter (no k vs) ih h = never cc
    go Root g ih h = other (fault_of 80 (line_of r)) h
    go (Node i q k x y c o) g ih h = other (fault_of 80 (line_of r)) h
    go (Field o d e q) g ih h = other (fault_of 80 (line_of r)) h
    go (Group i d) g ih h = other (fault_of 80 (line_of r)) h
    go (Typ k a b c) g ih h = other (fault_of 80 (line_of r)) h
    go (Scope i b c) g ih h = other (fault_of 80 (line_of r)) h
    go Unbound g ih h = other (fault_of 80 (line_of r)) h
    go (Value k b) g ih h = other (fault_of 80 (line_of r)) h
    go (Word x) g ih h = other (fault_of 80 (line_of r)) h
    go (Bad x k) g ih h = other (fault_of 80 (line_of r)) h

-- where there is a name, a P row stands first
pub names-first : (rs : Rows) → 0 < length (names_of rs) → names_of rs ≡ text_at rs ∷ names_of (rest_of rs)
unfolding text_at rest_of
names-first [] h = let z : ⊥ = omega (arith, ap length no_names) in absurd z
names-first (r ∷ rs) h =
    names_by (λ l. 0 < length l → l ≡ text_of r ∷ names_of rs) r rs (λ e t. refl) (λ t. let z : ⊥ = omega arith in absurd z) h

-- a row whose name stands first has three bytes more than that: its letter, a space and byte 10
parameter-size : (r : Str) → line_of r ≡ Parameter → length r ≡ 3 + length (text_of r)
unfolding row_text columns
parameter-size r e =
    let p = printed-line r Parameter tt e in
    omega (arith, ap length p.whole, length-append (text_of r) (unit 10))

pub name-size : (rs : Rows) → 0 < length (names_of rs) → size rs ≡ 3 + length (text_at rs) + size (rest_of rs)
unfolding text_at rest_of size
name-size [] h = let z : ⊥ = omega (arith, ap length no_names) in absurd z
name-size (r ∷ rs) h =
    names_by (λ l. 0 < length l → length r + size rs ≡ 3 + length (text_of r) + size rs) r rs
    (λ e t. omega (arith, parameter-size r e)) (λ t. let z : ⊥ = omega arith in absurd z) h

-- the text of the row after k rows is the name with the number k
pub name-after : (k : ℕ) (rs : Rows) → k < length (names_of rs) → nth k (names_of rs) ≡ Some (text_at (rows_after k rs))
unfolding rows_after nth
name-after zero rs h = rw (names-first rs h)
name-after (suc k) rs h =
    let e = names-first rs (omega arith) in
    rw e (name-after k (rest_of rs) (omega (arith, ap length e)))

pub nth_drop : {A : Type 0} (j k : ℕ) (l : List A) → nth k (drop j l) ≡ nth (j + k) l
unfolding nth
nth_drop zero k l = rw zero-add
nth_drop (suc j) k [] = refl
nth_drop (suc j) k (x ∷ l) = rw suc-add (nth_drop j k l)

-- the same where the names are those of a list from j on
pub name-past :
    (j k : ℕ) (names : List Str) (rs : Rows) → names_of rs ≡ drop j names → j + k < length names
    → nth (j + k) names ≡ Some (text_at (rows_after k rs))
name-past j k names rs e h =
    sym (nth_drop j k names) ∙ rw (← e) (name-after k rs (omega (arith, ap length e, length-drop j names)))

pub names_out : {A : Type 0} (k : ℕ) (l : List A) → length l ≤ k → nth k l ≡ None
unfolding nth
names_out k [] h = refl
names_out zero (x ∷ l) h = let z : ⊥ = omega arith in absurd z
names_out (suc k) (x ∷ l) h = names_out k l (omega arith)

-- one turn of passing over n rows, after i of them
pub after-turn : (n i : ℕ) (rs : Rows) → i < n → rows_after (n - i) rs ≡ rows_after (n - (i + 1)) (rest_of rs)
unfolding rows_after
after-turn n i rs h = let z : n - i ≡ suc (n - (i + 1)) = omega arith in rw z

pub after_none : (k : ℕ) (rs : Rows) → k ≤ 0 → rows_after k rs ≡ rs
unfolding rows_after
after_none k rs h = let z : k ≡ 0 = omega arith in rw z
