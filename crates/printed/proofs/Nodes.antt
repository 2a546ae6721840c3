-- Nodes printed are read as those nodes, and nodes that are read are those nodes printed: the parameters' names, the fields, and
-- the nodes of a sheet one after the other up to its end, with the ids before them. Assumes nothing.
use mathlib.Core.Path.{◌≡◌, refl, sym, ap, ◌∙◌}
use mathlib.Core.Bool.{Bool, true, false}
use mathlib.Core.List.{List, [], ◌∷◌, ◌++◌}
use Prim.Native.Nat.{ℕ, zero, suc, ◌≤◌, ◌<◌}
use native.Mathlib.Omega.{arith}
use lib.ListN.{length}
use Rattle.text.specs.Bytes.{Str, cond, unit}
use Rattle.column.specs.Texts.{is_name, is_graphic_text}
use Rattle.row.specs.Rows.{rest_of}
use Rattle.row.specs.Line.{fault, misplaced, Content, line_of, line_at, text_at, as_parameter}
use Rattle.row.specs.Print.{print_node, print_parameter, print_line, Fits}
use Rattle.tree.specs.Tree.{Field, Node}
use Rattle.tree.specs.Reader.{Rows, got, no, Reader, ◌then◌, map_r, or_fault, at_end}
use Rattle.tree.specs.Read.{among, group_ids, read_params, read_members, read_node, read_nodes}
use Rattle.tree.specs.Print.{field_rows, param_rows, node_rows}
use Rattle.tree.specs.WellFormed.{fits, is_id, is_flag, every, field_fits, node_fits, node_ids, all_group_ids}
use Rattle.printed.proofs.Reading.{line-here, text-here, Reads, reads_none, reads-line, reads_then, reads-map}
use Rattle.printed.proofs.Reading.{Tells, told, nothing, tells_then, tells_map, tells_cond}
use Rattle.printed.proofs.Lines.{tells-node, tells-parameter}
use Rattle.text.proofs.BytesLaws.{both_true}
use Rattle.printed.proofs.Tests.{holds, ◌and◌, fits-most, most-fits, not-true, true-not, id-most, most-id}
use Rattle.printed.proofs.Types.{Room, room-rest}
use Rattle.printed.proofs.Fresh.{fresh, fresh_append}
use Rattle.printed.proofs.Fields.{AfterField, AfterFields, room_fields, fields_follow, read-fields}
use Rattle.printed.proofs.Fields.{tell_fields}
use Rattle.row.specs.Line as line

-- ---- what is printed is read

-- parameters end where no P line stands
params-end : (rs : Rows) → AfterField (line_at rs) → read_params rs ≡ got [] rs
unfolding read_params line_at
params-end [] h = refl
params-end (r ∷ rs) h = go (line_of r) refl h
  where
    go :
        (l : Content) → line_of r ≡ l → AfterField l
        → as_parameter {A = Reader (List Str)} l (λ us. read_params rs then λ ps. got (text_at us ∷ ps)) (or_fault 80 (got []))
        (r ∷ rs)
        ≡ got [] (r ∷ rs)
    go l e AfterField.a_field = rw e
    go l e _ = rw e

-- P lines
read-params :
    (ps : List Str) (rs : Rows) → every is_name ps ≡ true → AfterField (line_at rs)
    → Reads (param_rows ps rs) (read_params (param_rows ps rs)) ps rs
unfolding read_params param_rows every
read-params [] rs e h = rw (params-end rs h) reads_none
read-params (p ∷ ps) rs e h =
    let (here, more) = both_true _ _ e in
    let us = param_rows ps rs in
    reads-line line.Parameter p here (rw (line-here line.Parameter p us here, text-here line.Parameter p us here))
    (reads-map (p ∷◌) (read-params ps rs more h))

-- the N line of a node, the rows of its members, and its tests
abbrev node_line : Node → Content
node_line n = line.Node n.id n.parent n.scope n.is_struct n.generic n.tag_count n.tag_offset

abbrev member_rows : Node → Rows → Rows
member_rows n rs = param_rows n.params (field_rows n.fields rs)

abbrev pub node_tests : Node → List Bool
node_tests n =
    is_id n.id ∷ fits 64 n.parent ∷ fits 64 n.scope ∷ is_flag n.is_struct ∷ is_flag n.generic ∷ fits 16 n.tag_count
    ∷ fits 32 n.tag_offset ∷ is_graphic_text 128 n.the_mod ∷ every is_name n.params ∷ every field_fits n.fields ∷ []

-- the N line is in its bounds
node-fits : (n : Node) → node_fits n ≡ true → Fits (node_line n) n.the_mod
node-fits n e =
    let tests = holds (node_tests n) e in (
      id-most n.id (tests 0),
      fits-most 64 n.parent (tests 1),
      fits-most 64 n.scope (tests 2),
      fits-most 1 n.is_struct (tests 3),
      fits-most 1 n.generic (tests 4),
      fits-most 16 n.tag_count (tests 5),
      fits-most 32 n.tag_offset (tests 6),
      tests 7,
    )

-- the rows that follow parameters
room-params : (ps : List Str) (rs : Rows) → Room (param_rows ps rs) → Room rs
unfolding param_rows
room-params [] rs room = room
room-params (p ∷ ps) rs room = room-params ps rs (room-rest room)

-- what belongs to an N line
read-members :
    (ps : List Str) (fs : List Field) (node : List Str → List Field → Node) (seen : List ℕ) (rs : Rows)
    → every is_name ps ≡ true → every field_fits fs ≡ true → fresh seen (group_ids fs) ≡ true → AfterFields (line_at rs)
    → Room (param_rows ps (field_rows fs rs))
    → Reads (param_rows ps (field_rows fs rs)) (read_members seen node (param_rows ps (field_rows fs rs))) (node ps fs) rs
unfolding read_members
read-members ps fs node seen rs p f u h room =
    reads_then _ (read-params ps (field_rows fs rs) p (fields_follow fs rs f h))
    (reads-map (node ps) (read-fields fs seen rs f u h (room-params ps (field_rows fs rs) room)))

-- a node of these numbers, module and members
abbrev node_from : ℕ → ℕ → ℕ → ℕ → ℕ → ℕ → ℕ → Str → List Str → List Field → Node
node_from i p sc st g tc to the_mod ps fs = record {
  id = i;
  parent = p;
  scope = sc;
  is_struct = st;
  generic = g;
  tag_count = tc;
  tag_offset = to;
  the_mod = the_mod;
  params = ps;
  fields = fs;
}

abbrev with_members : Node → List Str → List Field → Node
with_members n =
    node_from n.id n.parent n.scope n.is_struct n.generic n.tag_count n.tag_offset n.the_mod

-- a node printed, read
read-node :
    (n : Node) (ids seen : List ℕ) (rs : Rows) → node_fits n ≡ true → among n.id ids ≡ false
    → fresh seen (group_ids n.fields) ≡ true → AfterFields (line_at rs) → Room (member_rows n rs)
    → Reads (print_line (node_line n) n.the_mod ∷ member_rows n rs)
    (read_node ids seen (print_line (node_line n) n.the_mod ∷ member_rows n rs)) n rs
unfolding read_node rest_of
read-node n ids seen rs e new u h room =
    let fit = node-fits n e in
    let tests = holds (node_tests n) e in
    let l = node_line n in
    let us = member_rows n rs in
    reads-line l n.the_mod fit (rw (line-here l n.the_mod us fit, new, text-here l n.the_mod us fit))
    (read-members n.params n.fields (with_members n) seen rs (tests 8) (tests 9) u h room)

-- nodes, or none, may follow the fields
nodes_follow : (ns : List Node) → every node_fits ns ≡ true → AfterFields (line_at (node_rows ns))
unfolding every node_rows line_at
nodes_follow [] e = AfterFields.the_end
nodes_follow (n ∷ ns) e =
    let (here, more) = both_true _ _ e in
    let us = member_rows n (node_rows ns) in
    rw (line-here (node_line n) n.the_mod us (node-fits n here)) AfterFields.a_node

-- nodes in their bounds, with ids that are new to those before
pub record NodesFit (ids seen : List ℕ) (ns : List Node) : Type 0 where
  pub fit : every node_fits ns ≡ true
  pub new : fresh ids (node_ids ns) ≡ true
  pub groups : fresh seen (all_group_ids ns) ≡ true

-- the first of such nodes, and the others
record First (ids seen : List ℕ) (n : Node) (ns : List Node) : Type 0 where
  fit : node_fits n ≡ true
  new : among n.id ids ≡ false
  groups : fresh seen (group_ids n.fields) ≡ true
  others : NodesFit (ids ++ unit n.id) (seen ++ group_ids n.fields) ns

first_of : {ids seen : List ℕ} {n : Node} {ns : List Node} → NodesFit ids seen (n ∷ ns) → First ids seen n ns
unfolding every node_ids all_group_ids fresh
first_of {ids} {seen} {n} {ns} f =
    let (fit, fits) = both_true _ _ f.fit in
    let (new, news) = both_true _ _ f.new in
    let (own, later) = both_true _ _ (sym (fresh_append seen (group_ids n.fields) (all_group_ids ns)) ∙ f.groups) in
    record {
      fit = fit;
      new = not-true (among n.id ids) new;
      groups = own;
      others = record { fit = fits; new = news; groups = later };
    }

-- the first of some nodes, read
read_first :
    (n : Node) (ns : List Node) (ids seen : List ℕ) → NodesFit ids seen (n ∷ ns) → Room (node_rows (n ∷ ns))
    → Reads (node_rows (n ∷ ns)) (read_node ids seen (node_rows (n ∷ ns))) n (node_rows ns)
unfolding node_rows
read_first n ns ids seen f room =
    let h = first_of f in
    read-node n ids seen (node_rows ns) h.fit h.new h.groups (nodes_follow ns h.others.fit) (room-rest room)

-- nodes printed are read, up to the end of the sheet
pub read-nodes :
    (ns : List Node) (n : Node) (m : ℕ) (ids seen : List ℕ) → length ns < m → NodesFit ids seen (n ∷ ns)
    → Room (node_rows (n ∷ ns))
    → Reads (node_rows (n ∷ ns)) (read_nodes m ids seen (node_rows (n ∷ ns))) (n ∷ ns) []
unfolding node_rows read_nodes
read-nodes ns n zero ids seen l f room = absurd (omega arith)
read-nodes [] n (suc m) ids seen l f room = reads_then _ (read_first n [] ids seen f room) reads_none
read-nodes (k ∷ ns) n (suc m) ids seen l f room =
    let less = room_fields n.fields _ (room-params n.params _ (room-rest room)) in
    reads_then _ (read_first n (k ∷ ns) ids seen f room)
    (reads-map (n ∷◌)
    (read-nodes ns k m (ids ++ unit n.id) (seen ++ group_ids n.fields) (omega arith) (first_of f).others less))

-- ---- what is read is printed

-- P lines
tell_params : (rs : Rows) → Tells (λ ps rest. (rs ≡ param_rows ps rest) × (every is_name ps ≡ true)) (read_params rs)
unfolding read_params param_rows every rest_of
tell_params [] = told (refl, refl)
tell_params (r ∷ rs) =
    let more = tell_params rs in
    tells-parameter (r ∷ rs) (got []) (told {a = []} (refl, refl)) (λ name rest. read_params rs then λ ps. got (name ∷ ps)) (λ w.
    let name = text_at (r ∷ rs) in
    tells_map (name ∷◌) more (λ ps rest p. (w.row ∙ ap (λ (rs : Rows). print_parameter name ∷ rs) p.0, w.fits and p.1)))

-- what belongs to an N line
tell_members :
    (seen : List ℕ) (node : List Str → List Field → Node) (rs : Rows) (P : Node → Rows → Type 0)
    → ((ps : List Str) (fs : List Field) (rest : Rows) → rs ≡ param_rows ps (field_rows fs rest) → every is_name ps ≡ true
    → every field_fits fs ≡ true → fresh seen (group_ids fs) ≡ true → P (node ps fs) rest)
    → Tells P (read_members seen node rs)
unfolding read_members
tell_members seen node rs P h =
    tells_then _ (tell_params rs) (λ ps us p.
    tells_map (node ps) (tell_fields seen us) (λ fs rest q. h ps fs rest (p.0 ∙ ap (param_rows ps) q.0) p.1 q.1 q.2))

-- the rows rs are a node and the rows after it, with ids that are new
record NodeAt (ids seen : List ℕ) (rs : Rows) (n : Node) (rest : Rows) : Type 0 where
  is : rs ≡ print_line (node_line n) n.the_mod ∷ member_rows n rest
  fit : node_fits n ≡ true
  new : among n.id ids ≡ false
  groups : fresh seen (group_ids n.fields) ≡ true

-- a node that is read is printed
tell_node : (ids seen : List ℕ) (rs : Rows) → Tells (NodeAt ids seen rs) (read_node ids seen rs)
unfolding read_node
tell_node ids seen rs =
    tells-node rs (no misplaced) nothing
    (λ i p sc st g tc to the_mod.
    cond (among i ids) (λ rest. no (fault 3 2) rs) (read_members seen (node_from i p sc st g tc to the_mod)))
    (λ i p sc st g tc to w.
    let node = node_from i p sc st g tc to (text_at rs) in
    let f = w.fits in
    tells_cond (among i ids) (λ rest. no (fault 3 2) rs) (read_members seen node) (rest_of rs) (λ _. nothing) (λ new.
    tell_members seen node (rest_of rs) (NodeAt ids seen rs) (λ ps fs rest is params fields groups.
    record {
      is = w.row ∙ ap (λ (us : Rows). print_node i p sc st g tc to (text_at rs) ∷ us) is;
      fit = most-id i f.0.0 f.0.1 and most-fits 64 p f.1 and most-fits 64 sc f.2 and most-fits 1 st f.3
          and most-fits 1 g f.4 and most-fits 16 tc f.5 and most-fits 32 to f.6 and f.7 and params and fields and refl;
      new = new;
      groups = groups;
    })))

-- the rows rs are nodes, 1 to so many
pub record NodesAt (most : ℕ) (ids seen : List ℕ) (rs : Rows) (ns : List Node) (rest : Rows) : Type 0 where
  pub is : rs ≡ node_rows ns
  pub some : 0 < length ns
  pub few : length ns ≤ most
  pub nodes : NodesFit ids seen ns

-- a node in front of others, and a node alone
nodes-more :
    {ids seen : List ℕ} {rs mid : Rows} {n : Node} {ns : List Node} → NodeAt ids seen rs n mid
    → NodesFit (ids ++ unit n.id) (seen ++ group_ids n.fields) ns → NodesFit ids seen (n ∷ ns)
unfolding every node_ids all_group_ids fresh
nodes-more {ids} {seen} {n = n} {ns = ns} h f = record {
  fit = h.fit and f.fit;
  new = true-not (among n.id ids) h.new and f.new;
  groups = fresh_append seen (group_ids n.fields) (all_group_ids ns) ∙ (h.groups and f.groups);
}

nodes-none : {ids seen : List ℕ} → NodesFit ids seen []
unfolding every node_ids all_group_ids fresh
nodes-none = record { fit = refl; new = refl; groups = refl }

-- nodes that are read are printed
pub tell_nodes : (m : ℕ) (ids seen : List ℕ) (rs : Rows) → Tells (NodesAt m ids seen rs) (read_nodes m ids seen rs)
unfolding read_nodes node_rows
tell_nodes zero ids seen rs = nothing
tell_nodes (suc m) ids seen rs = tells_then _ (tell_node ids seen rs) (λ n mid h. go (tell_nodes m) n mid h)
  where
    go :
        ((ids seen : List ℕ) (rs : Rows) → Tells (NodesAt m ids seen rs) (read_nodes m ids seen rs)) → (n : Node) (mid : Rows)
        → NodeAt ids seen rs n mid
        → Tells (NodesAt (suc m) ids seen rs)
        (at_end (got (n ∷ [])) (map_r (n ∷◌) (read_nodes m (ids ++ unit n.id) (seen ++ group_ids n.fields))) mid)
    go more n [] h =
        told {a = n ∷ []} (record { is = h.is; some = omega arith; few = omega arith; nodes = nodes-more h nodes-none })
    go more n (r ∷ us) h =
        tells_map (n ∷◌) (more (ids ++ unit n.id) (seen ++ group_ids n.fields) (r ∷ us)) (λ ns rest q.
        record {
          is = h.is ∙ ap (λ (us : Rows). print_line (node_line n) n.the_mod ∷ member_rows n us) q.is;
          some = omega arith;
          few = omega (arith, q.few);
          nodes = nodes-more h q.nodes;
        })
