-- What the functions that list slots promise one another. Assumes nothing.
use Rattle.std.specs.Prelude.{◌≡◌, List, ◌+◌, ◌-◌, ◌^◌, min, length}
use Rattle.text.specs.Bytes.{Str}
use Rattle.text.specs.Text.{state_at, Wrote}
use Rattle.verdict.specs.Report.{Judged, disagreeing, others, judged_lines}
use Rattle.verdict.specs.declared.report.Listed.{Listed}
use Rattle.verdict.specs.declared.report.Sorted.{Sorted}

-- slots, listed at a into l, leave l' and b: their lines, and so many more of them; a count stops at the largest usize
pub record Listing (js : List Judged) (l : Str) (a : Listed) (l' : Str) (b : Listed) : Type 0 where
  pub lines : Wrote l a.text (judged_lines js) l' b.text
  pub count : min b.count (2 ^ 64 - 1) ≡ min (a.count + length js) (2 ^ 64 - 1)

-- the disagreeing ones into l, and the others into m
pub record Sorts (js : List Judged) (l m : Str) (a : Sorted) (l' m' : Str) (b : Sorted) : Type 0 where
  pub first : Listing (disagreeing js) l a.disagreeing l' b.disagreeing
  pub second : Listing (others js) m a.others m' b.others

-- none are listed yet
abbrev pub none_listed : Listed
none_listed = record { text = state_at 0; count = 0 }

abbrev pub none_sorted : Sorted
none_sorted = record { disagreeing = none_listed; others = none_listed }
