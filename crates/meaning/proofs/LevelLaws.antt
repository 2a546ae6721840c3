-- Spaces in front of lines don't count, so that an accessor's text at any level does what it does at level 0. A text's lines
-- without those spaces say all that it does; they are the same at each level. Assumes nothing.
use Rattle.std.specs.Option.{option_map, option_and_then}
use Rattle.std.specs.Prelude.{◌≡◌, ℕ, zero, suc, ◌*◌, Bool, true, false, eqb, List, [], ◌∷◌, ◌++◌, map}
use Rattle.std.specs.Prelude.{Option, None, Some}
use Rattle.std.proofs.lemmas.Bool.{eqb-true}
use Rattle.std.proofs.lemmas.List.{map-append}
use mathlib.Core.Path.{refl, sym, ap, ap₂, ◌∙◌, fun_ext}
use mathlib.Core.List.{append_assoc}
use Rattle.text.specs.Bytes.{Str, cond}
use Rattle.text.specs.Lines.{spaces, margin, join, ended}
use Rattle.text.specs.Levels.{Laid, blank, line, moved_in, shown}
use Rattle.text.proofs.LevelLaws.{shown-lines}
use Rattle.record.specs.Record.{Record, get}
use Rattle.meaning.specs.Meaning.{Get, lines, push_byte, trim, prepend, inner, run_line, run_lines, run_setter, run_zeroing}
use Rattle.meaning.specs.Meaning.{gets_in, all_gets, after_first, single, run_getter, tests_of, run_tests, run_haser}
use Rattle.meaning.proofs.LineLaws.{trim-spaces}

-- two texts have the same lines but for the spaces in front
pub record Trimmed (a b : Str) : Type 0 where
  pub same : map trim (lines a) ≡ map trim (lines b)

-- ---- what reads lines reads none of the spaces in front

pub trim-trim : (l : Str) → trim (trim l) ≡ trim l
trim-trim [] = refl
trim-trim (c ∷ l) = go (eqb c 32) refl (trim-trim l)
  where
    go : (b : Bool) → eqb c 32 ≡ b → trim (trim l) ≡ trim l → trim (cond b (trim l) (c ∷ l)) ≡ cond b (trim l) (c ∷ l)
    go true e h = h
    go false e h = rw e

-- a setter's or a zeroing's lines, a haser's, a getter's
run-trim : (v : Option ℕ) (ls : List Str) (r : Record) → run_lines v (map trim ls) r ≡ run_lines v ls r
unfolding run_lines
run-trim v [] r = refl
run-trim v (l ∷ ls) r =
    ap₂ option_and_then (fun_ext (λ x. run-trim v ls x)) (ap (λ (x : Str). run_line v x r) (trim-trim l))

tests-trim : (ls : List Str) → tests_of (map trim ls) ≡ tests_of ls
unfolding tests_of
tests-trim [] = refl
tests-trim (l ∷ ls) = rw (trim-trim l, tests-trim ls)

in_trim : (l : Str) → gets_in false (trim l) ≡ gets_in false l
unfolding gets_in
in_trim [] = refl
in_trim (c ∷ l) = go (eqb c 32) refl (in_trim l)
  where
    go : (b : Bool) → eqb c 32 ≡ b → gets_in false (trim l) ≡ gets_in false l
        → gets_in false (cond b (trim l) (c ∷ l)) ≡ gets_in false (c ∷ l)
    go true e h = rw (eqb-true c 32 e) h
    go false e h = refl

gets-trim : (ls : List Str) → all_gets (map trim ls) ≡ all_gets ls
gets-trim [] = refl
gets-trim (l ∷ ls) = rw (in_trim l, gets-trim ls)

below-trim : (ls : List Str) → all_gets (after_first (map trim ls)) ≡ all_gets (after_first ls)
below-trim [] = refl
below-trim (l ∷ ls) = gets-trim ls

-- and so of the inner lines of a function's text, in which spaces count no more
prepend-trim : (a : Str) (ls : List Str) → map trim (prepend a ls) ≡ prepend (trim a) (map trim ls)
prepend-trim a [] = refl
prepend-trim a (b ∷ ls) = ap (λ (x : List Str). trim a ∷ x) (prepend-trim b ls)

inner-trim : {A : Type 0} (f : List Str → Option A) → ((ls : List Str) → f (map trim ls) ≡ f ls) → (ls : List Str)
    → option_and_then f (inner (map trim ls)) ≡ option_and_then f (inner ls)
inner-trim f h [] = refl
inner-trim f h (a ∷ []) = refl
inner-trim f h (a ∷ (b ∷ [])) = refl
inner-trim f h (a ∷ (b ∷ (c ∷ ls))) = ap f (sym (prepend-trim c ls)) ∙ h (prepend c ls)

-- ---- texts with the same lines do the same

alike : {A : Type 0} {a b : Str} (f : List Str → A) → ((ls : List Str) → f (map trim ls) ≡ f ls) → Trimmed a b
    → f (lines a) ≡ f (lines b)
alike {a = a} {b = b} f h e = sym (h (lines a)) ∙ ap f e.same ∙ h (lines b)

pub setter-alike : {a b : Str} → Trimmed a b → (v : ℕ) (r : Record) → run_setter a v r ≡ run_setter b v r
unfolding run_setter
setter-alike e v r =
    alike (λ ls. option_and_then (λ inside. run_lines (Some v) inside r) (inner ls))
    (inner-trim (λ inside. run_lines (Some v) inside r) (λ ls. run-trim (Some v) ls r)) e

pub zeroing-alike : {a b : Str} → Trimmed a b → (r : Record) → run_zeroing a r ≡ run_zeroing b r
unfolding run_zeroing
zeroing-alike e r = alike (λ ls. run_lines None ls r) (λ ls. run-trim None ls r) e

pub haser-alike : {a b : Str} → Trimmed a b → (r : Record) → run_haser a r ≡ run_haser b r
unfolding run_haser
haser-alike e r =
    alike (λ ls. option_and_then (λ inside. option_and_then (λ ts. run_tests ts r) (tests_of inside)) (inner ls))
    (inner-trim (λ inside. option_and_then (λ ts. run_tests ts r) (tests_of inside))
    (λ ls. ap (option_and_then (λ ts. run_tests ts r)) (tests-trim ls))) e

pub getter-alike : {a b : Str} → Trimmed a b → (r : Record) → run_getter a r ≡ run_getter b r
unfolding run_getter
getter-alike e r =
    ap (λ (gs : Option (List Get)). option_map (λ g. get g.0 g.1 r) (option_and_then single gs))
    (alike (λ ls. all_gets (after_first ls)) below-trim e)

-- ---- a text at a level has the lines of its text at level 0

-- A byte 10 ends a line, whatever stands before it, so that what follows has its lines for itself. Before it stand a first line
-- and, where it has a byte 10 of its own, others.
record Ends (l : Str) : Type 0 where
  first : Str
  others : List Str
  are : (s : Str) → lines (l ++ 10 ∷ s) ≡ first ∷ (others ++ lines s)

ends : (l : Str) → Ends l
ends [] = record { first = []; others = []; are = λ s. refl }
ends (c ∷ l) = go (eqb c 10) refl (ends l)
  where
    go : (b : Bool) → eqb c 10 ≡ b → Ends l → Ends (c ∷ l)
    go true e h = record { first = []; others = h.first ∷ h.others; are = λ s. rw e (ap (λ (x : List Str). [] ∷ x) (h.are s)) }
    go false e h = record { first = c ∷ h.first; others = h.others; are = λ s. rw e (ap (push_byte c) (h.are s)) }

-- spaces in front are the first line's
spaced : (n : ℕ) (l : Str) (h : Ends l) (s : Str)
    → lines (spaces n ++ l ++ 10 ∷ s) ≡ (spaces n ++ h.first) ∷ (h.others ++ lines s)
spaced zero l h s = h.are s
spaced (suc n) l h s = ap (push_byte 32) (spaced n l h s)

-- and don't count
bare : (n : ℕ) (l : Str) (h : Ends l) (s : Str)
    → map trim (lines (spaces n ++ l ++ 10 ∷ s)) ≡ trim h.first ∷ (map trim h.others ++ map trim (lines s))
bare n l h s = ap (map trim) (spaced n l h s) ∙ rw (trim-spaces n h.first, map-append trim h.others (lines s)) refl

-- the same bytes up to a byte 10, behind any number of spaces, and then a text
line-alike : (n m : ℕ) (l : Str) {s t : Str} → Trimmed s t → Trimmed (spaces n ++ l ++ 10 ∷ s) (spaces m ++ l ++ 10 ∷ t)
line-alike n m l {s} {t} e =
    let h = ends l in
    record {
      same = bare n l h s ∙ ap (λ (ls : List Str). trim h.first ∷ (map trim h.others ++ ls)) e.same ∙ sym (bare m l h t);
    }

-- lines that are moved in, and then a text
moved-alike : (level : ℕ) (l : Laid) {s t : Str} → Trimmed s t → Trimmed (moved_in level l ++ 10 ∷ s) (moved_in 0 l ++ 10 ∷ t)
unfolding margin
moved-alike level blank e = line-alike 0 0 [] e
moved-alike level (line l) e = line-alike (level * 4) 0 l e

ended-alike : (level : ℕ) (ls : List Laid) {s t : Str} → Trimmed s t
    → Trimmed (ended (map (moved_in level) ls) ++ s) (ended (map (moved_in 0) ls) ++ t)
unfolding ended
ended-alike level [] e = e
ended-alike level (l ∷ ls) {s} {t} e =
    rw (
      append_assoc (moved_in level l) (10 ∷ ended (map (moved_in level) ls)) s,
      append_assoc (moved_in 0 l) (10 ∷ ended (map (moved_in 0) ls)) t,
    )
    (moved-alike level l (ended-alike level ls e))

pub shown-alike : (level : ℕ) (ls : List Laid) {s t : Str} → Trimmed s t → Trimmed (shown level ls ++ s) (shown 0 ls ++ t)
unfolding shown join
shown-alike level [] e = line-alike 0 0 [] e
shown-alike level (l ∷ ls) e = rw (shown-lines level l ls, shown-lines 0 l ls) (ended-alike level (l ∷ ls) e)

-- no text
pub none-alike : Trimmed [] []
none-alike = record { same = refl }
