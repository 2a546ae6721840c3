-- The way from the group that a zeroing began with to a group inside it, as far as refusal 4 goes. Assumes nothing.
use Rattle.std.specs.Prelude.{◌≡◌, ℕ, ◌-◌, ◌≤◌, eqb}
use Rattle.text.specs.Bytes.{cond}
use Rattle.tree.specs.Tree.{Sheet}
use Rattle.codegen_types.specs.Out.{refused}
use Rattle.codegen.specs.Zeroing.{zero_fields_of_group}

-- the group `start` leads to the group `id`: where this one is refused with 4, with no more levels than are left, so is that one
-- with as many
pub record Leads (sheet : Sheet) (start left id : ℕ) : Type 0 where
  pub back : (l : ℕ) → l ≤ left → zero_fields_of_group sheet l id ≡ refused 4 → zero_fields_of_group sheet l start ≡ refused 4

-- the levels left for a group inside: none where it is the group `start` again
abbrev pub inner_levels : ℕ → ℕ → ℕ → ℕ
inner_levels left id start = cond (eqb id start) 0 (left - 1)
