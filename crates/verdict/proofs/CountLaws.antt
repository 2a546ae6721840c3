-- Laws of how many slots a sheet has: each field has a row of its own, so that the counts of an admitted sheet don't come to the
-- largest usize. Assumes nothing.
use mathlib.Core.Path.{◌≡◌, refl}
use mathlib.Core.Bool.{Bool, true, false}
use mathlib.Core.List.{List, [], ◌∷◌}
use Rattle.std.specs.List.{flat_map}
use Rattle.std.specs.Prelude.{not, Option, None, Some, Ok, ⊤}
use Rattle.std.proofs.lemmas.List.Filters.{length-filter_both}
use Prim.Native.Nat.{ℕ, ◌+◌, ◌-◌, ◌*◌, ◌^◌, ◌≤◌, min}
use native.Mathlib.Nat.{suc-mul, mul-le-mul}
use native.Mathlib.Omega.{arith}
use borrow.Author.Tests.{ltb-false}
use lib.Dec.{ltb}
use lib.ListN.{length, drop, length-append, length-drop}
use Rattle.text.specs.Bytes.{Str}
use Rattle.row.specs.Rows.{rows}
use Rattle.row.specs.Line.{line_at}
use Rattle.row.proofs.Laws.{rows-length}
use Rattle.tree.specs.Tree.{Field, Node, Sheet}
use Rattle.tree.specs.Fields.{FieldsHere, more}
use Rattle.tree.specs.Read as read
use Rattle.tree.specs.Read.{Admitted, read_field, admitted}
use Rattle.tree.specs.Reader.{Rows, Reading, got}
use Rattle.tree.proofs.FieldLaws.{leaves_field}
use Rattle.tree.proofs.TailLaws as tail
use Rattle.tree.proofs.TailLaws.{Leaves, tail_length}
use Rattle.tree.proofs.OtherLines.{never}
use Rattle.nodes.specs.Index.{entry_at, Indexed, Entries}
use Rattle.sheet.specs.Admission.{answer_numbers, refusal_in}
use Rattle.verdict.specs.Verdict.{verdict_of}
use Rattle.verdict.specs.Report.{Judged, judged_by, judged, disagrees, disagreeing, others}
use Rattle.verdict.specs.Listing.{Sorts, none_sorted}
use Rattle.verdict.specs.declared.Verdict.{Verdict}
use Rattle.verdict.specs.declared.report.Sorted.{Sorted}
use Rattle.verdict.proofs.ListLaws.{judged_of}

-- ---- no more than there are rows

fields-few : (rs : Rows) (fs : List Field) → FieldsHere rs fs → length fs ≤ length rs
unfolding read_field line_at
fields-few rs [] h = omega arith
fields-few [] (f ∷ fs) (more e h) = never cc
fields-few (r ∷ rs) (f ∷ fs) (more {rest = rest} e h) =
    omega (arith, fields-few rest fs h, go (read_field (r ∷ rs)) (leaves_field r rs) e)
  where
    go : (g : Reading Field) → Leaves rs g → g ≡ got f rest → length rest ≤ length rs
    go _ (tail.left {ts = ts} t) e = let z : ts ≡ rest = cc in rw (← z) (tail_length t)
    go _ tail.none e = never cc

one-few : (n : Node) (f : Field) (v : Option Verdict) → length (judged_by n f v) ≤ 1
one-few n f None = omega arith
one-few n f (Some v) = omega arith

node-few : (sheet : Sheet) (n : Node) (fs : List Field) → length (flat_map (judged sheet n) fs) ≤ length fs
unfolding judged
node-few sheet n [] = omega arith
node-few sheet n (f ∷ fs) =
    simp length-append (omega (arith, one-few n f (verdict_of sheet (n, f)), node-few sheet n fs))

nodes-few : (s : Str) (index : List ℕ) (sheet : Sheet) (p : ℕ) (ns : List Node) → Entries s index p ns
    → length (judged_of sheet ns) ≤ length ns * length s
unfolding Entries
nodes-few s index sheet p [] x = omega arith
nodes-few s index sheet p (n ∷ ns) x =
    let at = (entry_at index p).fields in
    let here = fields-few (rows (drop at s)) n.fields x.1.fields in
    simp (length-append, suc-mul)
    (omega (
      arith,
      node-few sheet n n.fields,
      here,
      rows-length (drop at s),
      length-drop at s,
      nodes-few s index sheet (p + 12) ns x.2,
    ))

-- an admitted sheet has at most 65,536 bytes
admitted-short : (s : Str) (u : ⊤) → answer_numbers (Ok u) ≡ refusal_in (admitted s) → length s ≤ 65536
unfolding admitted
admitted-short s u = go (ltb 65536 (length s)) refl
  where
    go : (b : Bool) → ltb 65536 (length s) ≡ b
        → answer_numbers (Ok u)
        ≡ refusal_in (elim b [ true ↦ read.refused 1 0 0 | false ↦ read.numbered s (read.read_sheet (rows s)) ])
        → length s ≤ 65536
    go true h e = never cc
    go false h e = ltb-false 65536 (length s) h

pub sheet-few : (s : Str) (index : List ℕ) (sheet : Sheet) (u : ⊤) → answer_numbers (Ok u) ≡ refusal_in (admitted s)
    → Indexed s sheet.nodes index → length (judged_of sheet sheet.nodes) ≤ 64 * 65536
sheet-few s index sheet u e x =
    omega (
      arith,
      nodes-few s index sheet 1 sheet.nodes x.entries,
      mul-le-mul x.few (admitted-short s u e),
    )

-- ---- what is counted

-- the disagreeing ones and the others are all
both-kinds : (js : List Judged) → length (disagreeing js) + length (others js) ≡ length js
both-kinds js = length-filter_both (λ j. disagrees j.verdict) (λ j. not (disagrees j.verdict)) (λ j. refl) js

module _ (js : List Judged) (few : length js ≤ 64 * 65536) {l m l' m' : Str} (b : Sorted)
    (told : Sorts js l m none_sorted l' m' b) where
  pub counted-disagreeing : b.disagreeing.count ≡ length (disagreeing js)
  counted-disagreeing = omega (arith, few, both-kinds js, told.first.count)

  pub counted-all : min (b.disagreeing.count + b.others.count) (2 ^ 64 - 1) ≡ length js
  counted-all = omega (arith, few, both-kinds js, told.first.count, told.second.count)
