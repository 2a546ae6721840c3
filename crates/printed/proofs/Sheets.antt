-- The two laws: reading what is printed of a well-formed tree gives that tree, and printing the tree of an admitted sheet gives
-- the same bytes. The rows of a sheet come back when their bytes are joined and cut again. Assumes nothing.
use mathlib.Core.Path.{◌≡◌, refl, sym, ap, ◌∙◌}
use mathlib.Core.Bool.{Bool, true, false}
use mathlib.Core.List.{List, [], ◌∷◌}
use Prim.Native.Nat.{ℕ, ◌+◌, ◌≤◌, ◌<◌}
use native.Mathlib.Omega.{arith}
use borrow.Author.Tests.{ltb-true, ltb-false, lt-ltb, le-ltb, leb-true, le-leb}
use lib.Dec.{ltb, leb}
use lib.ListN.{length, length-append}
use Rattle.text.specs.Bytes.{Str}
use Rattle.column.specs.Texts.{is_graphic_text}
use Rattle.row.specs.Rows.{rows, joined, rest_of, size}
use Rattle.row.specs.Line.{misplaced, text_at}
use Rattle.row.specs.Print.{print_root}
use Rattle.row.proofs.Laws.{joined-rows}
use Rattle.tree.specs.Tree.{Node, Sheet}
use Rattle.tree.specs.Reader.{Rows, Reading, no, map_r}
use Rattle.tree.specs.Read.{read_nodes, read_sheet, Admitted, sheet, refused, numbered, admitted}
use Rattle.tree.specs.Print.{node_rows, sheet_rows, printed}
use Rattle.tree.specs.WellFormed.{every, distinct, node_fits, node_ids, all_group_ids, well_formed}
use Rattle.printed.specs.Claims.{ReadsPrinted, PrintsRead}
use Rattle.printed.proofs.Reading.{line-here, text-here, Lined, lined-back, Reads, reads-line, reads-map}
use Rattle.printed.proofs.Reading.{Tells, told, nothing, tells_map}
use Rattle.printed.proofs.Lines.{tells-root}
use Rattle.printed.proofs.Tests.{holds, ◌and◌}
use Rattle.printed.proofs.Types.{Room, room-rest}
use Rattle.printed.proofs.Fresh.{fresh-distinct}
use Rattle.printed.proofs.Nodes.{NodesFit, read-nodes, NodesAt, tell_nodes}
use Rattle.row.specs.Line as line

-- the bytes of rows, counted and joined
joined-size : (rs : Rows) → length (joined rs) ≡ size rs
unfolding joined size
joined-size [] = refl
joined-size (r ∷ rs) = length-append r (joined rs) ∙ ap (λ (n : ℕ). length r + n) (joined-size rs)

-- what holds of a well-formed tree; nodes and groups have ids that are new one after the other
record Formed (sh : Sheet) : Type 0 where
  root : is_graphic_text 64 sh.root ≡ true
  some : 0 < length sh.nodes
  few : length sh.nodes < 65
  nodes : NodesFit [] [] sh.nodes
  short : length (printed sh) ≤ 65536

abbrev pub sheet_tests : Sheet → List Bool
sheet_tests sh =
    is_graphic_text 64 sh.root ∷ ltb 0 (length sh.nodes) ∷ ltb (length sh.nodes) 65 ∷ every node_fits sh.nodes
    ∷ distinct (node_ids sh.nodes) ∷ distinct (all_group_ids sh.nodes) ∷ leb (length (printed sh)) 65536 ∷ []

formed : (sh : Sheet) → well_formed sh ≡ true → Formed sh
unfolding well_formed
formed sh e =
    let tests = holds (sheet_tests sh) e in
    record {
      root = tests 0;
      some = ltb-true 0 (length sh.nodes) (tests 1);
      few = ltb-true (length sh.nodes) 65 (tests 2);
      nodes = record {
        fit = tests 3;
        new = fresh-distinct (node_ids sh.nodes) ∙ tests 4;
        groups = fresh-distinct (all_group_ids sh.nodes) ∙ tests 5;
      };
      short = leb-true (length (printed sh)) 65536 (tests 6);
    }

well_formed_lem : (sh : Sheet) → Formed sh → well_formed sh ≡ true
unfolding well_formed
well_formed_lem sh f =
    f.root and lt-ltb 0 (length sh.nodes) f.some and lt-ltb (length sh.nodes) 65 f.few and f.nodes.fit
    and (sym (fresh-distinct (node_ids sh.nodes)) ∙ f.nodes.new)
    and (sym (fresh-distinct (all_group_ids sh.nodes)) ∙ f.nodes.groups)
    and le-leb (length (printed sh)) 65536 f.short and refl

-- ---- what is printed is read

-- an R line and nodes
read-sheet :
    (root : Str) (ns : List Node) → is_graphic_text 64 root ≡ true → 0 < length ns → length ns < 65 → NodesFit [] [] ns
    → Room (node_rows ns)
    → Reads (print_root root ∷ node_rows ns) (read_sheet (print_root root ∷ node_rows ns)) (record { root = root; nodes = ns }) []
unfolding read_sheet rest_of
read-sheet root [] r some few f room = absurd (omega arith)
read-sheet root (n ∷ ns) r some few f room =
    let us = node_rows (n ∷ ns) in
    reads-line line.Root root r (rw (line-here line.Root root us r, text-here line.Root root us r))
    (reads-map (λ ns. record { root = root; nodes = ns }) (read-nodes ns n 64 [] [] (omega arith) f room))

-- the rows of a well-formed tree
read-tree : (sh : Sheet) → well_formed sh ≡ true → Reads (sheet_rows sh) (read_sheet (sheet_rows sh)) sh []
unfolding printed sheet_rows
read-tree sh e =
    let f = formed sh e in
    let room : Room (sheet_rows sh) = record { few = omega (arith, joined-size (sheet_rows sh), f.short) } in
    read-sheet sh.root sh.nodes f.root f.some f.few f.nodes (room-rest room)

-- they are lines printed within their bounds, and come back when their bytes are cut into rows
pub tree-lined : (sh : Sheet) → well_formed sh ≡ true → Lined (sheet_rows sh) []
tree-lined sh e = (read-tree sh e).lined

pub tree-back : (sh : Sheet) → well_formed sh ≡ true → rows (printed sh) ≡ sheet_rows sh
unfolding printed joined rows
tree-back sh e = lined-back (tree-lined sh e) refl

-- reading what is printed of a well-formed tree gives that tree
pub reads-printed : ReadsPrinted
unfolding admitted
reads-printed sh e =
    rw (admitted, le-ltb 65536 (length (printed sh)) (formed sh e).short, tree-back sh e, (read-tree sh e).gives)

-- ---- what is read is printed

-- the rows rs are a sheet
record SheetAt (rs : Rows) (sh : Sheet) (rest : Rows) : Type 0 where
  is : rs ≡ sheet_rows sh
  root : is_graphic_text 64 sh.root ≡ true
  nodes : NodesAt 64 [] [] (rest_of rs) sh.nodes rest

-- a sheet that is read is printed
tell_sheet : (rs : Rows) → Tells (SheetAt rs) (read_sheet rs)
unfolding read_sheet sheet_rows
tell_sheet rs =
    tells-root rs (no misplaced) nothing (λ root. map_r (λ ns. record { root = root; nodes = ns }) (read_nodes 64 [] [])) (λ w.
    tells_map (λ ns. record { root = text_at rs; nodes = ns }) (tell_nodes 64 [] [] (rest_of rs)) (λ ns rest q.
    record { is = w.row ∙ ap (λ (us : Rows). print_root (text_at rs) ∷ us) q.is; root = w.fits; nodes = q }))

-- the tree of the rows of a byte string that is not too long
tree-printed :
    (s : Str) (sh : Sheet) (rest : Rows) → length s ≤ 65536 → SheetAt (rows s) sh rest
    → (printed sh ≡ s) × (well_formed sh ≡ true)
unfolding printed
tree-printed s sh rest l h =
    let e : printed sh ≡ s = ap joined (sym h.is) ∙ joined-rows s in
    let few = h.nodes.few in (
      e,
      well_formed_lem sh (record {
        root = h.root;
        some = h.nodes.some;
        few = omega arith;
        nodes = h.nodes.nodes;
        short = rw e l;
      }),
    )

-- printing the tree of an admitted sheet gives the same bytes, and that tree is well-formed
pub prints_read : PrintsRead
unfolding admitted
prints_read s sh e = by_size (ltb 65536 (length s)) refl e
  where
    by-reading :
        length s ≤ 65536 → (g : Reading Sheet) → Tells (SheetAt (rows s)) g → numbered s g ≡ sheet sh
        → (printed sh ≡ s) × (well_formed sh ≡ true)
    by-reading l g (told {a = tree} {rest = rest} h) e = let z : tree ≡ sh = cc in tree-printed s sh rest l (rw z at h)
    by-reading l g nothing e = cc

    by_size :
        (b : Bool) → ltb 65536 (length s) ≡ b
        → (elim b as (λ _. Admitted) [ true ↦ refused 1 0 0 | false ↦ numbered s (read_sheet (rows s)) ]) ≡ sheet sh
        → (printed sh ≡ s) × (well_formed sh ≡ true)
    by_size true h e = cc
    by_size false h e = by-reading (ltb-false 65536 (length s) h) (read_sheet (rows s)) (tell_sheet (rows s)) e
