-- Every reader leaves a tail of the rows that it was given: so rows and bytes never grow, and a bound by the number of rows
-- holds all fields. Assumes nothing.
use mathlib.Core.Path.{◌≡◌}
use mathlib.Core.Bool.{Bool, true, false}
use mathlib.Core.List.{[], ◌∷◌}
use Rattle.std.specs.Prelude.{Option, None, Some}
use Prim.Native.Nat.{ℕ, zero, suc, ◌≤◌}
use native.Mathlib.Omega.{arith}
use lib.ListN.{length}
use lib.Dec.{eqb, ltb}
use Rattle.text.specs.Bytes.{Str, cond}
use Rattle.row.specs.Rows.{rest_of, size}
use Rattle.row.specs.Line.{Fault, fault, misplaced, Content, line_at, cases, fault_of}
use Rattle.tree.specs.Tree.{Ty, end, inherit, bind, stop, unbound, bound}
use Rattle.tree.specs.Reader.{Rows, Reading, got, no, Reader, ◌then◌, map_r, told, or_fault, times, on_type, on_scope}
use Rattle.tree.specs.Reader.{on_unbound, on_value, on_word}
use Rattle.tree.specs.Read.{read_binding, read_scope, type_from, read_type, value_of, read_words_up_to, has_words, read_words}
use Rattle.tree.specs.Read.{read_slot}
use Rattle.tree.specs.Walked.{passed}
use Rattle.tree.proofs.OtherLines.{never}
use Rattle.row.specs.Line as line

-- the first rows are the last of the second
pub data Tail : Rows → Rows → Type 0 where
  here : {rs : Rows} → Tail rs rs
  later : {r : Str} {ts rs : Rows} → Tail ts rs → Tail ts (r ∷ rs)

pub tail_trans : {ts us rs : Rows} → Tail ts us → Tail us rs → Tail ts rs
tail_trans t here = t
tail_trans t (later u) = later (tail_trans t u)

pub tail_rest : (rs : Rows) → Tail (rest_of rs) rs
unfolding rest_of
tail_rest [] = here
tail_rest (r ∷ rs) = later here

pub tail_length : {ts rs : Rows} → Tail ts rs → length ts ≤ length rs
tail_length here = omega arith
tail_length (later t) = let h = tail_length t in omega arith

pub tail_size : {ts rs : Rows} → Tail ts rs → size ts ≤ size rs
unfolding size
tail_size here = omega arith
tail_size (later t) = let h = tail_size t in omega arith

-- what is left after a reading of the rows is a tail of them
pub data Leaves {A : Type 0} : Rows → Reading A → Type 0 where
  left : {a : A} {ts rs : Rows} → Tail ts rs → Leaves rs (got a ts)
  none : {k : Fault} {ts rs : Rows} → Leaves rs (no k ts)

pub leaves-passed : {A : Type 0} {rs : Rows} {g : Reading A} → Leaves rs g → (ts : Rows) → got tt ts ≡ passed g → Tail ts rs
leaves-passed (left {ts = us} t) ts e = let z : ts ≡ us = cc in rw z t
leaves-passed none ts e = never cc

pub leaves-on : {A : Type 0} {us rs : Rows} {g : Reading A} → Tail us rs → Leaves us g → Leaves rs g
leaves-on t (left h) = left (tail_trans h t)
leaves-on t none = none

leaves_then :
    {A B : Type 0} {rs : Rows} {g : Reading A} (k : A → Reader B) → Leaves rs g → ((a : A) (ts : Rows) → Leaves ts (k a ts))
    → Leaves rs (g then k)
leaves_then k (left {a = a} {ts = ts} h) f = leaves-on h (f a ts)
leaves_then k none f = none

pub leaves_map : {A B : Type 0} (f : A → B) {rs : Rows} {g : Reading A} → Leaves rs g → Leaves rs (g then λ a. got (f a))
leaves_map f (left h) = left h
leaves_map f none = none

leaves-cond :
    {A : Type 0} (b : Bool) (f g : Reader A) (rs : Rows) → Leaves rs (f rs) → Leaves rs (g rs) → Leaves rs (cond b f g rs)
leaves-cond true f g rs x y = x
leaves-cond false f g rs x y = y

abbrev Left : {A : Type 0} → Rows → Reader A → Type 0
Left rs f = Leaves rs (f rs)

-- by what a line says, each way leaves a tail
leaves-cases :
    {A : Type 0} (rs : Rows)
    (r : Reader A) (n : ℕ → ℕ → ℕ → ℕ → ℕ → ℕ → ℕ → Reader A) (p : Reader A) (f : ℕ → ℕ → ℕ → ℕ → Reader A)
    (g : ℕ → ℕ → Reader A) (t : ℕ → ℕ → ℕ → ℕ → Reader A) (s : ℕ → ℕ → ℕ → Reader A) (u : Reader A) (v : ℕ → ℕ → Reader A)
    (w : ℕ → Reader A) (z : ℕ → Fault → Reader A)
    → Left rs r → ((i q k x y c o : ℕ) → Left rs (n i q k x y c o)) → Left rs p → ((o d e q : ℕ) → Left rs (f o d e q))
    → ((i d : ℕ) → Left rs (g i d)) → ((k a b c : ℕ) → Left rs (t k a b c)) → ((i b c : ℕ) → Left rs (s i b c)) → Left rs u
    → ((k b : ℕ) → Left rs (v k b)) → ((x : ℕ) → Left rs (w x)) → ((x : ℕ) (k : Fault) → Left rs (z x k))
    → (l : Content) → Left rs (cases r n p f g t s u v w z l)
leaves-cases rs _ _ _ _ _ _ _ _ _ _ _ h _ _ _ _ _ _ _ _ _ _ line.Root = h
leaves-cases rs _ _ _ _ _ _ _ _ _ _ _ _ h _ _ _ _ _ _ _ _ _ (line.Node a b c d e f g) = h a b c d e f g
leaves-cases rs _ _ _ _ _ _ _ _ _ _ _ _ _ h _ _ _ _ _ _ _ _ line.Parameter = h
leaves-cases rs _ _ _ _ _ _ _ _ _ _ _ _ _ _ h _ _ _ _ _ _ _ (line.Field a b c d) = h a b c d
leaves-cases rs _ _ _ _ _ _ _ _ _ _ _ _ _ _ _ h _ _ _ _ _ _ (line.Group a b) = h a b
leaves-cases rs _ _ _ _ _ _ _ _ _ _ _ _ _ _ _ _ h _ _ _ _ _ (line.Typ a b c d) = h a b c d
leaves-cases rs _ _ _ _ _ _ _ _ _ _ _ _ _ _ _ _ _ h _ _ _ _ (line.Scope a b c) = h a b c
leaves-cases rs _ _ _ _ _ _ _ _ _ _ _ _ _ _ _ _ _ _ h _ _ _ line.Unbound = h
leaves-cases rs _ _ _ _ _ _ _ _ _ _ _ _ _ _ _ _ _ _ _ h _ _ (line.Value a b) = h a b
leaves-cases rs _ _ _ _ _ _ _ _ _ _ _ _ _ _ _ _ _ _ _ _ h _ (line.Word a) = h a
leaves-cases rs _ _ _ _ _ _ _ _ _ _ _ _ _ _ _ _ _ _ _ _ _ h (line.Bad x k) = h x k

pub leaves-told :
    {A : Type 0} {ts : Rows} (o : Option Fault) (other : Reader A) (rs : Rows) → Leaves ts (other rs)
    → Leaves ts (told o other rs)
leaves-told (Some k) other rs h = none
leaves-told None other rs h = h

-- a reader that goes on after a line of its letter, one that tells the fault of a bad one, and another for every other line
module _ {A : Type 0} (rs : Rows) (other : Reader A) (o : Left rs other) where
  after : (f : Reader A) → ((ts : Rows) → Left ts f) → Leaves rs (f (rest_of rs))
  after f h = leaves-on (tail_rest rs) (h (rest_of rs))

  on-type : (f : ℕ → ℕ → ℕ → ℕ → Reader A) → ((k a b c : ℕ) (ts : Rows) → Left ts (f k a b c)) → Left rs (on_type f other)
  on-type f h =
      let else : Reader A = or_fault 84 other in
      let bad : Left rs else = leaves-told (fault_of 84 (line_at rs)) other rs o in
      leaves-cases rs
      else (λ _ _ _ _ _ _ _. else) else (λ _ _ _ _. else) (λ _ _. else) (λ k a b c rs. f k a b c (rest_of rs)) (λ _ _ _. else)
      else (λ _ _. else) (λ _. else) (λ _ _. else)
      bad (λ _ _ _ _ _ _ _. bad) bad (λ _ _ _ _. bad) (λ _ _. bad) (λ k a b c. after (f k a b c) (h k a b c)) (λ _ _ _. bad)
      bad (λ _ _. bad) (λ _. bad) (λ _ _. bad)
      (line_at rs)

  on-scope : (f : ℕ → ℕ → ℕ → Reader A) → ((i b c : ℕ) (ts : Rows) → Left ts (f i b c)) → Left rs (on_scope f other)
  on-scope f h =
      let else : Reader A = or_fault 83 other in
      let bad : Left rs else = leaves-told (fault_of 83 (line_at rs)) other rs o in
      leaves-cases rs
      else (λ _ _ _ _ _ _ _. else) else (λ _ _ _ _. else) (λ _ _. else) (λ _ _ _ _. else) (λ i b c rs. f i b c (rest_of rs))
      else (λ _ _. else) (λ _. else) (λ _ _. else)
      bad (λ _ _ _ _ _ _ _. bad) bad (λ _ _ _ _. bad) (λ _ _. bad) (λ _ _ _ _. bad) (λ i b c. after (f i b c) (h i b c)) bad
      (λ _ _. bad) (λ _. bad) (λ _ _. bad)
      (line_at rs)

  on-unbound : (f : Reader A) → ((ts : Rows) → Left ts f) → Left rs (on_unbound f other)
  on-unbound f h =
      let else : Reader A = or_fault 85 other in
      let bad : Left rs else = leaves-told (fault_of 85 (line_at rs)) other rs o in
      leaves-cases rs
      else (λ _ _ _ _ _ _ _. else) else (λ _ _ _ _. else) (λ _ _. else) (λ _ _ _ _. else) (λ _ _ _. else)
      (λ rs. f (rest_of rs)) (λ _ _. else) (λ _. else) (λ _ _. else)
      bad (λ _ _ _ _ _ _ _. bad) bad (λ _ _ _ _. bad) (λ _ _. bad) (λ _ _ _ _. bad) (λ _ _ _. bad) (after f h) (λ _ _. bad)
      (λ _. bad) (λ _ _. bad)
      (line_at rs)

  on_value_lem : (f : ℕ → ℕ → Reader A) → ((k b : ℕ) (ts : Rows) → Left ts (f k b)) → Left rs (on_value f other)
  on_value_lem f h =
      let else : Reader A = or_fault 86 other in
      let bad : Left rs else = leaves-told (fault_of 86 (line_at rs)) other rs o in
      leaves-cases rs
      else (λ _ _ _ _ _ _ _. else) else (λ _ _ _ _. else) (λ _ _. else) (λ _ _ _ _. else) (λ _ _ _. else) else
      (λ k b rs. f k b (rest_of rs)) (λ _. else) (λ _ _. else)
      bad (λ _ _ _ _ _ _ _. bad) bad (λ _ _ _ _. bad) (λ _ _. bad) (λ _ _ _ _. bad) (λ _ _ _. bad) bad
      (λ k b. after (f k b) (h k b)) (λ _. bad) (λ _ _. bad)
      (line_at rs)

  on-word : (f : ℕ → Reader A) → ((x : ℕ) (ts : Rows) → Left ts (f x)) → Left rs (on_word f other)
  on-word f h =
      let else : Reader A = or_fault 87 other in
      let bad : Left rs else = leaves-told (fault_of 87 (line_at rs)) other rs o in
      leaves-cases rs
      else (λ _ _ _ _ _ _ _. else) else (λ _ _ _ _. else) (λ _ _. else) (λ _ _ _ _. else) (λ _ _ _. else) else (λ _ _. else)
      (λ x rs. f x (rest_of rs)) (λ _ _. else)
      bad (λ _ _ _ _ _ _ _. bad) bad (λ _ _ _ _. bad) (λ _ _. bad) (λ _ _ _ _. bad) (λ _ _ _. bad) bad (λ _ _. bad)
      (λ x. after (f x) (h x)) (λ _ _. bad)
      (line_at rs)

leaves-times :
    {A : Type 0} {one : Reader (A → A)} (e : A) → ((rs : Rows) → Left rs one) → (n : ℕ) (rs : Rows) → Left rs (times one e n)
unfolding times
leaves-times e h zero rs = left here
leaves-times e h (suc n) rs =
    let more = leaves-times e h n in leaves_then _ (h rs) (λ f ts. leaves_map f (more ts))

module _ (ty : Reader Ty) (h : (rs : Rows) → Left rs ty) where
  leaves-binding : (rs : Rows) → Left rs (read_binding ty)
  unfolding read_binding
  leaves-binding rs = on-unbound rs (map_r (λ t bs. bound t bs) ty) (leaves_map _ (h rs)) (got (λ bs. unbound bs))
      (λ ts. left here)

  leaves-scope : (rs : Rows) → Left rs (read_scope ty)
  unfolding read_scope
  leaves-scope rs =
      on-scope rs (no misplaced) none
      (λ i b n. cond (eqb b 0) (got (λ ss. inherit i ss)) (map_r (λ bs ss. bind i bs ss) (times (read_binding ty) stop n)))
      (λ i b n ts. leaves-cond (eqb b 0) _ _ ts (left here) (leaves_map _ (leaves-times stop leaves-binding n ts)))

  leaves-from : (k a b c : ℕ) (rs : Rows) → Left rs (type_from ty k a b c)
  unfolding type_from
  leaves-from k a b c rs =
      leaves-cond (ltb k 14) _ _ rs (left here)
      (leaves-cond (eqb k 14) _ _ rs (leaves_map _ (h rs))
      (leaves-cond (ltb k 18) _ _ rs (leaves_map _ (leaves-times end leaves-scope b rs)) (left here)))

pub leaves-type : (l : ℕ) (rs : Rows) → Left rs (read_type l)
unfolding read_type
leaves-type zero rs = on-type rs (no misplaced) none (λ k a b c rest. no (fault 4 1) rs) (λ k a b c ts. none)
leaves-type (suc l) rs = let less = leaves-type l in on-type rs (no misplaced) none (type_from (read_type l))
    (leaves-from (read_type l) less)

leaves-value : (rs : Rows) → Left rs value_of
unfolding value_of
leaves-value rs = on_value_lem rs (no misplaced) none (λ k b. got (record { kind = k; bits = b })) (λ k b ts. left here)

leaves-words_up_to : (n : ℕ) (rs : Rows) → Left rs (read_words_up_to n)
unfolding read_words_up_to
leaves-words_up_to zero rs = left here
leaves-words_up_to (suc n) rs =
    let less = leaves-words_up_to n in
    on-word rs (got []) (left here) (λ w. map_r (w ∷◌) (read_words_up_to n)) (λ w ts. leaves_map _ (less ts))

leaves-words : (b : Bool) (rs : Rows) → Left rs (read_words b)
unfolding read_words
leaves-words true rs =
    on-word rs (no misplaced) none (λ w. map_r (w ∷◌) (read_words_up_to 254)) (λ w ts. leaves_map _ (leaves-words_up_to 254 ts))
leaves-words false rs = left here

pub leaves-slot : (o e p : ℕ) (rs : Rows) → Left rs (read_slot o e p)
unfolding read_slot
leaves-slot o e p rs =
    leaves_then _ (leaves-type 16 rs) (λ t ts.
    leaves_then _ (leaves-value ts) (λ v us. leaves_map _ (leaves-words (has_words e v.kind) us)))
