-- Laws of `mark` and `params`: what is known after some P rows of a node, and what one more makes of it. Each mark is put at a
-- place of its own, after all that were put before, so that every mark that was put stays. Assumes nothing.
use mathlib.Core.Path.{◌≡◌, refl, sym, ap, ◌∙◌}
use mathlib.Core.Bool.{Bool, true, false}
use mathlib.Core.List.{List, [], ◌∷◌}
use Rattle.std.specs.Prelude.{Result, Ok, Err}
use Prim.Native.Nat.{ℕ, suc, ◌+◌, ◌-◌, ◌*◌, ◌/◌, ◌%◌, ◌≤◌, ◌<◌}
use native.Mathlib.Decide.{ℕ_discrete}
use native.Mathlib.Omega.{arith}
use borrow.Author.Tests.{lt-ltb, eq-eqb, ne_eqb, ltb-true, ltb-false, eqb-true}
use lib.Dec.{eqb, ltb}
use lib.ListN.{length, drop, get_or, set, length-drop, length-set}
use lib.Seq.{drop-drop, get_or-set_same, get_or-set_other}
use Rattle.text.specs.Bytes.{Str, cond, both}
use Rattle.row.specs.Rows.{rows, size}
use Rattle.row.specs.Line.{Parameter, line_said, line_at, text_at, fault_of}
use Rattle.row.specs.Past.{ParameterAt}
use Rattle.row.specs.declared.BadLine.{BadLine}
use Rattle.row.specs.declared.Line.{Line}
use Rattle.tree.specs.Reader.{Rows, got, told}
use Rattle.tree.specs.Read.{read_params}
use Rattle.tree.specs.Walked.{passed, refused_row, end_at}
use Rattle.tree.specs.declared.RefusedRow.{RefusedRow}
use Rattle.tree.proofs.OtherLines.{never}
use Rattle.tree.proofs.ElseLaws.{OtherThan, else-parameter}
use Rattle.tree.proofs.WalkLaws.{end-here, end-next, end-refused}
use Rattle.nodes.specs.Index.{mark_every, names_of}
use Rattle.nodes.proofs.NameLaws.{names_more, names-none}
use Rattle.sheet.specs.Steps.{MarkRoom, has_mark, with_mark, next_mark, SameBetween, ParamsRead}
use Rattle.sheet.proofs.RoomLaws.{parameter-room}
use Rattle.sheet.proofs.FieldsLaws.{params-on, params-stop}
use Rattle.row.specs.declared.Line.TheVariants as line

-- ---- which rows have a mark

mark-yes : (k : ℕ) → has_mark k ≡ true → (0 < k) × (k % mark_every ≡ 0)
mark-yes k h = go (ltb 0 k) (eqb (k % mark_every) 0) refl refl h
  where
    go : (a b : Bool) → ltb 0 k ≡ a → eqb (k % mark_every) 0 ≡ b → both a b ≡ true → (0 < k) × (k % mark_every ≡ 0)
    go true true e f h = (ltb-true 0 k e, eqb-true (k % mark_every) 0 f)
    go true false e f h = never cc
    go false b e f h = never cc

mark-no : (k : ℕ) → has_mark k ≡ false → k % mark_every ≡ 0 → k ≡ 0
mark-no k h i = go (ltb 0 k) refl (rw (eq-eqb (k % mark_every) 0 i) at h)
  where
    go : (a : Bool) → ltb 0 k ≡ a → both a true ≡ false → k ≡ 0
    go true e h = never cc
    go false e h = omega (arith, ltb-false 0 k e)

module _ (x : List ℕ) (place k at : ℕ) where
  pub mark-first : k ≡ 0 → (x ≡ with_mark x place k at) × (place ≡ next_mark place k)
  unfolding with_mark next_mark
  mark-first h = rw h (refl, refl)

  pub mark-not : (k % mark_every ≡ 0 → ⊥) → (x ≡ with_mark x place k at) × (place ≡ next_mark place k)
  unfolding with_mark next_mark
  mark-not h = rw (ne_eqb (k % mark_every) 0 h) (go (ltb 0 k))
    where
      go : (a : Bool) → (x ≡ cond (both a false) (set x place at) x) × (place ≡ cond (both a false) (place + 1) place)
      go true = (refl, refl)
      go false = (refl, refl)

  pub mark-put : 0 < k → k % mark_every ≡ 0 → (set x place at ≡ with_mark x place k at) × (place + 1 ≡ next_mark place k)
  unfolding with_mark next_mark
  mark-put h i = rw (lt-ltb 0 k h, eq-eqb (k % mark_every) 0 i) (refl, refl)

-- ---- after some P rows

-- the rows rs begin with `count` P rows, after which `at` stands; the index was x and is y; the next mark's place is `place`
pub record Passing (s : Str) (rs : Rows) (marks : ℕ) (x y : List ℕ) (at count place : ℕ) : Type 0 where
  pub walk : passed (read_params rs) ≡ passed (read_params (rows (drop at s)))
  pub names : names_of (rows (drop at s)) ≡ drop count (names_of rs)
  pub within : count ≤ length (names_of rs)
  pub left : 4 * count + size (rows (drop at s)) ≤ size rs
  pub next : place ≡ marks + (count - 1) / mark_every
  pub same : SameBetween x y 0 marks
  pub marked : (j : ℕ) → mark_every * suc j < count → marks + j < length y
      → names_of (rows (drop (get_or y (marks + j) 0) s)) ≡ drop (mark_every * suc j) (names_of rs)

-- a line that says no P row is none
no-parameter : (l : Result Line BadLine) → (line_said l ≡ Parameter → ⊥) → OtherThan 2 l
unfolding line_said
no-parameter (Ok line.Parameter) h = absurd (h refl)
no-parameter (Ok _) h = λ e. omega arith
no-parameter (Err b) h = tt

-- the row at the position, and the rows after it
module _ (s : Str) (rs : Rows) (marks : ℕ) (x y : List ℕ) (at count place : ℕ) (p : Passing s rs marks x y at count place) where
  -- the row is no P row, and the walk is refused at its fault, or ends there
  module _ (l : Result Line BadLine) (here : line_said l ≡ line_at (rows (drop at s)))
      (no : line_at (rows (drop at s)) ≡ Parameter → ⊥) where
    o : OtherThan 2 l
    o = no-parameter l (λ e. no (sym here ∙ e))

    stopped : told (fault_of 80 (line_said l)) (got []) (rows (drop at s)) ≡ read_params (rows (drop at s))
    stopped = sym (params-stop _ _ l here refl o)

    pub passing-refused : (r : RefusedRow) → end_at 80 l at ≡ Err r → refused_row s r ≡ passed (read_params rs)
    passing-refused r e = ap passed (sym (end-refused (got []) s 80 at l r e) ∙ stopped) ∙ sym p.walk

    pub passing_done :
        (q : ℕ) → end_at 80 l at ≡ Ok q → MarkRoom (length s) marks (size rs)
        → ParamsRead s rs marks x y (record { next = q; count = count; marks = place })
    passing_done q e room =
        let no_names = names-none (rows (drop at s)) (rw (← here) (else-parameter l true false o)) in
        let all : count ≡ length (names_of rs) = omega
        (arith, p.within, length-drop count (names_of rs), ap length p.names, ap length no_names) in
        let ended : got [] (rows (drop q s)) ≡ read_params (rows (drop at s)) = sym (end-next (got []) s 80 at l q e) ∙ stopped in
        let same : at ≡ q = end-here 80 at l q e in
        record {
          walk = ap passed ended ∙ sym p.walk;
          count = all;
          next = p.next;
          left = rw (← same) (omega (arith, p.left));
          room = rw (← same) (omega (arith, p.left, p.next));
          same = p.same;
          marked = λ big. record {
            each = λ j h.
                let in-index : marks + j < length y = omega (arith, p.left, p.next) in
                (in-index, p.marked j (omega arith) in-index);
          };
        }

  -- the row is a P row
  module _ (e : ℕ) (row : ParameterAt s at e) where
    fits : 4 + size (rows (drop e s)) ≤ size (rows (drop at s))
    fits = rw row.rest (parameter-room (rows (drop at s)) row.says)

    more : names_of (rows (drop at s)) ≡ text_at (rows (drop at s)) ∷ names_of (rows (drop e s))
    more = rw row.rest (names_more (rows (drop at s)) row.says)

    pub passing-on :
        (y' : List ℕ) (place' : ℕ) → y' ≡ with_mark y place count at → place' ≡ next_mark place count
        → Passing s rs marks x y' e (count + 1) place'
    unfolding with_mark next_mark
    passing-on y' place' f g = record {
      walk = p.walk ∙ params-on _ _ row.says row.rest;
      names = ap (drop 1) (sym more ∙ p.names) ∙ drop-drop 1 count (names_of rs);
      within = omega (arith, length-drop count (names_of rs), ap length p.names, ap length more, p.within);
      left = omega (arith, p.left, fits);
      next = rw g (next_place (has_mark count) refl);
      same = record { each = λ q a b. rw f (kept (has_mark count) refl q b) };
      marked = λ j h i. rw f (each (has_mark count) refl j h (rw f at i));
    }
      where
        next_place : (b : Bool) → has_mark count ≡ b → cond b (place + 1) place ≡ marks + (count + 1 - 1) / mark_every
        next_place true m = let z = mark-yes count m in omega (arith, p.next)
        next_place false m = go (ℕ_discrete (count % mark_every) 0)
          where
            go : Dec (count % mark_every ≡ 0) → place ≡ marks + (count + 1 - 1) / mark_every
            go (yes z) = let w = mark-no count m z in omega (arith, p.next)
            go (no z) = omega (arith, p.next)

        kept : (b : Bool) → has_mark count ≡ b → (q : ℕ) → q < marks → get_or (cond b (set y place at) y) q 0 ≡ get_or x q 0
        kept true m q h =
            get_or-set_other y place q at 0 (λ z. omega (arith, p.next)) ∙ p.same.each q (omega arith) h
        kept false m q h = p.same.each q (omega arith) h

        each : (b : Bool) → has_mark count ≡ b → (j : ℕ) → mark_every * suc j < count + 1
            → marks + j < length (cond b (set y place at) y)
            → names_of (rows (drop (get_or (cond b (set y place at) y) (marks + j) 0) s))
            ≡ drop (mark_every * suc j) (names_of rs)
        each true m j h i = go (ℕ_discrete (mark_every * suc j) count)
          where
            go : Dec (mark_every * suc j ≡ count)
                → names_of (rows (drop (get_or (set y place at) (marks + j) 0) s)) ≡ drop (mark_every * suc j) (names_of rs)
            go (yes z) =
                let w : marks + j ≡ place = omega (arith, p.next, mark-yes count m) in
                rw (z, w, get_or-set_same y place at 0 (omega (arith, length-set y place at))) p.names
            go (no z) =
                rw (get_or-set_other y place (marks + j) at 0 (λ w. omega (arith, p.next, mark-yes count m)))
                (p.marked j (omega arith) (omega (arith, length-set y place at)))
        each false m j h i = go (ℕ_discrete (mark_every * suc j) count)
          where
            go : Dec (mark_every * suc j ≡ count)
                → names_of (rows (drop (get_or y (marks + j) 0) s)) ≡ drop (mark_every * suc j) (names_of rs)
            go (yes z) = let w = mark-no count m (omega arith) in let v : ⊥ = omega arith in absurd v
            go (no z) = p.marked j (omega arith) i
