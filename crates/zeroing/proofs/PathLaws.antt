-- A group inside that is the one the zeroing began with is refused with 4, with any levels that are left. Where it is, so is
-- each group on the way to it, and so the first one, with one level more (`Comes`); with no level left it is refused with 4,
-- hence with each number of levels after that. Assumes nothing.
use mathlib.Core.Path.{◌≡◌, refl}
use mathlib.Core.List.{List}
use Prim.Native.Nat.{ℕ, zero, suc, ◌-◌, ◌<◌}
use native.Mathlib.Numerals.{sub-one}
use native.Mathlib.Omega.{arith}
use lib.ListN.{drop}
use Rattle.std.specs.Prelude.{Some, Result}
use Rattle.std.proofs.lemmas.Bool.Decides.{nat_tests}
use Rattle.text.specs.Bytes.{Str}
use Rattle.row.specs.Rows.{rows}
use Rattle.tree.specs.Tree.{Field, Sheet}
use Rattle.tree.specs.Fields.{FieldsHere}
use Rattle.nodes.specs.declared.Entry.{Entry}
use Rattle.terms.specs.declared.refusals.Refusal.{Refusal}
use Rattle.codegen_types.specs.Out.{Out, refused}
use Rattle.codegen.specs.Zeroing.{Zeroing, zero_fields_of_group}
use Rattle.zeroing.specs.Added.{Adds}
use Rattle.zeroing.specs.Path.{Leads, inner_levels}
use Rattle.zeroing.specs.declared.Lines.{Lines}
use Rattle.zeroing.proofs.LevelLaws.{Fewer, less_refused, less_levels}
use Rattle.zeroing.proofs.GroupLaws.{Sought, none_left, group-refused}
use Rattle.zeroing.proofs.TurnLaws.{Refuses}

-- the levels fall
levels_fall : (left id start m : ℕ) → m ≡ inner_levels left id start → (left ≡ 0 → ⊥) → m < left
levels_fall left id start m is more = grind (arith, nat_tests)

-- the first step
pub leads_first : (sheet : Sheet) (left id : ℕ) → Leads sheet id left id
leads_first sheet left id = record { back = λ l h z. z }

module _ (sheet : Sheet) (start left id : ℕ) where
  -- where the group `id` is refused with 4, with fewer levels than these, so is the group `start` with one more
  abbrev Comes : Type 0
  Comes = (l : ℕ) → l < left → zero_fields_of_group sheet l id ≡ refused 4 → zero_fields_of_group sheet (suc l) start ≡ refused 4

  module _ (comes : Comes) where
    came-back : id ≡ start → (l : ℕ) → l < left → zero_fields_of_group sheet l id ≡ refused 4
    came-back e zero h = none_left sheet 0 id refl
    came-back e (suc l) h = rw e (comes l (omega arith) (came-back e l (omega arith)))

    -- so no level need be left for it
    levels-same : (left ≡ 0 → ⊥)
        → zero_fields_of_group sheet (inner_levels left id start) id ≡ zero_fields_of_group sheet (left - 1) id
    levels-same more = grind (arith, nat_tests, none_left sheet 0 id refl, came-back)

    leads-on : (left ≡ 0 → ⊥) → Leads sheet start (inner_levels left id start) id
    leads-on more = record {
      back = λ l h z.
          let fall = levels_fall left id start _ refl more in
          less_refused _ _ (less_levels sheet l (suc l) (omega arith) start) (comes l (omega arith) z);
    }

-- a group inside this one, after fields of which each was given
module _ {s : Str} {sheet : Sheet} {index : List ℕ} {left id : ℕ} {node : Entry}
    (here : Sought s sheet index left id (Some node)) (struct : node.is_struct ≡ 1)
    {start : ℕ} (lead : Leads sheet start left id) {inner : ℕ}
    (back : (other : ℕ → Out Zeroing) → Fewer (zero_fields_of_group sheet (left - 1)) other → other inner ≡ refused 4
    → (fs : List Field) → FieldsHere (rows (drop node.fields s)) fs → Refuses other fs) where
  comes-in : Comes sheet start left inner
  comes-in l h z =
      let below : Sought s sheet index (suc l) id (Some node) =
      record { more = λ w. let v : ⊥ = omega arith in v; is = here.is; indexed = here.indexed } in
      lead.back (suc l) h
      (group-refused below struct (λ fs there.
      rw (sub-one (suc l))
      (back (zero_fields_of_group sheet l) (less_levels sheet l (left - 1) (omega arith)) z fs there)))

  pub inner-adds : (l : List ℕ) (p : Lines) (l₁ : List ℕ) (r : Result Lines Refusal)
      → (Leads sheet start (inner_levels left inner start) inner
      → Adds (zero_fields_of_group sheet (inner_levels left inner start) inner) l p l₁ r)
      → Adds (zero_fields_of_group sheet (left - 1) inner) l p l₁ r
  inner-adds l p l₁ r a =
      rw (← levels-same sheet start left inner comes-in here.more)
      (a (leads-on sheet start left inner comes-in here.more))
