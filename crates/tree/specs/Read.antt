-- From the rows of a sheet to its tree, or to the first bad line: document 01, 'The sheet' and refusals 1 to 4, and N5. The
-- rules for the numbers and the text of one line stand in crate row, where a line that breaks one is `Bad` with its fault, 16 or
-- 17, which is told where a line with its letter may stand. The order of lines and their counts (2), doubled ids (3, at the id's
-- column) and levels (4) stand here. Assumes nothing.
use Rattle.std.specs.Prelude.{Bool, true, false, List, [], ◌∷◌, ◌++◌, ℕ, zero, suc, eqb, ltb, length}
use Rattle.std.specs.Prelude.{is_some}
use Rattle.text.specs.Bytes.{Str, unit, cond, both, either}
use Rattle.row.specs.Rows.{rows, line_no}
use Rattle.row.specs.Line.{fault, misplaced, Content, byte, line_at, as_field, as_group, fault_of}
use Rattle.tree.specs.Tree.{Ty, plain, list, enum, struct, interface, any_pointer, parameter}
use Rattle.tree.specs.Tree.{Scopes, end, inherit, bind, Binds, stop, unbound, bound}
use Rattle.tree.specs.Tree.{Value, Slot, Arm, slot, group, Field, Node, Sheet}
use Rattle.tree.specs.Reader.{Reading, got, no, Reader, ◌then◌, map_r, times, at_end}
use Rattle.tree.specs.Reader.{on_root, on_node, on_parameter, on_field, on_group, on_type, on_scope, on_unbound, on_value}
use Rattle.tree.specs.Reader.{on_word}

-- a binding: a U line, or a type
unfoldable pub read_binding : Reader Ty → Reader (Binds → Binds)
read_binding ty = on_unbound (got (λ bs. unbound bs)) (map_r (λ t bs. bound t bs) ty)

-- a scope: an S line, 0 inherit or 1 bind, and under a bind its count of bindings
unfoldable pub read_scope : Reader Ty → Reader (Scopes → Scopes)
read_scope ty =
    on_scope (λ i b n. cond (eqb b 0) (got (λ ss. inherit i ss)) (map_r (λ bs ss. bind i bs ss) (times (read_binding ty) stop n)))
    (no misplaced)

-- kinds 15 to 17
abbrev pub branded : ℕ → ℕ → Scopes → Ty
branded k i ss = cond (eqb k 15) (enum i ss) (cond (eqb k 16) (struct i ss) (interface i ss))

-- kind 18, with a 1 a parameter
abbrev pub pointer : ℕ → ℕ → ℕ → Ty
pointer a b c = cond (eqb a 0) any_pointer (parameter b c)

-- what belongs to a T line; `ty` reads a type one level deeper
unfoldable pub type_from : Reader Ty → ℕ → ℕ → ℕ → ℕ → Reader Ty
type_from ty k a b c =
    cond (ltb k 14) (got (plain k))
    (cond (eqb k 14) (map_r (λ t. list t) ty)
    (cond (ltb k 18) (map_r (branded k a) (times (read_scope ty) end b))
    (got (pointer a b c))))

-- a type with so many levels left
unfoldable pub read_type : ℕ → Reader Ty
read_type zero rs = on_type (λ k a b c rest. no (fault 4 1) rs) (no misplaced) rs
read_type (suc l) rs = on_type (type_from (read_type l)) (no misplaced) rs

-- a V line
unfoldable pub value_of : Reader Value
value_of = on_value (λ k b. got (record { kind = k; bits = b })) (no misplaced)

-- the W lines that stand there, up to a bound
unfoldable pub read_words_up_to : ℕ → Reader (List ℕ)
read_words_up_to zero rs = got [] rs
read_words_up_to (suc n) rs = on_word (λ w. map_r (w ∷◌) (read_words_up_to n)) (got []) rs

-- 1 to 255 W lines exactly when explicit is 1 and V is of kind 12, 13, 14 or 16
abbrev pub has_words : ℕ → ℕ → Bool
has_words explicit k = both (eqb explicit 1) (either (eqb k 12) (either (eqb k 13) (either (eqb k 14) (eqb k 16))))

unfoldable pub read_words : Bool → Reader (List ℕ)
read_words true = on_word (λ w. map_r (w ∷◌) (read_words_up_to 254)) (no misplaced)
read_words false = got []

-- what belongs to an F line: one type, one V and its words
unfoldable pub read_slot : ℕ → ℕ → ℕ → Reader Slot
read_slot o e p rs =
    read_type 16 rs then λ t rs.
    value_of rs then λ v rs.
    read_words (has_words e v.kind) rs then λ ws.
    got (record { offset = o; explicit = e; option = p; ty = t; default = v; words = ws })

-- whether a number stands in a list
unfoldable pub among : ℕ → List ℕ → Bool
among i [] = false
among i (x ∷ xs) = either (eqb x i) (among i xs)

abbrev pub field : Str → ℕ → Arm → Field
field name d arm = record { name = name; discriminant = d; arm = arm }

-- whether a line is an F or a G, or a bad line with such a letter
abbrev pub is_field : Content → Bool
is_field l =
    as_field l (λ o d e p. true)
    (as_group l (λ i d. true) (either (is_some (fault_of (byte "F") l)) (is_some (fault_of (byte "G") l))))

-- a field: an F line and what belongs to it, or a G line
unfoldable pub read_field : Reader Field
read_field =
    on_field (λ o d e p name. map_r (λ sl. field name d (slot sl)) (read_slot o e p))
    (on_group (λ i d name. got (field name d (group i))) (no misplaced))

-- the group id of a G line
abbrev pub group_id : Arm → List ℕ
group_id (slot s) = []
group_id (group i) = unit i

unfoldable pub group_ids : List Field → List ℕ
group_ids [] = []
group_ids (f ∷ fs) = group_id f.arm ++ group_ids fs

-- whether one of the first numbers stands among the second
unfoldable pub overlap : List ℕ → List ℕ → Bool
overlap [] seen = false
overlap (i ∷ is) seen = either (among i seen) (overlap is seen)

-- a field and those after it, which `more` reads, or none where another line stands; `seen`: the ids of all G lines before
abbrev pub fields_from : (List ℕ → Reader (List Field)) → List ℕ → Reader (List Field)
fields_from more seen rs =
    cond {A = Reader (List Field)} (is_field (line_at rs))
    (λ rs. read_field rs then λ f.
    cond (overlap (group_id f.arm) seen) (λ rest. no (fault 3 2) rs) (map_r (f ∷◌) (more (seen ++ group_id f.arm))))
    (got [])
    rs

-- the F and G lines that stand there, up to a bound
unfoldable pub fields_up_to : ℕ → List ℕ → Reader (List Field)
fields_up_to zero seen rs = got [] rs
fields_up_to (suc n) seen rs = fields_from (fields_up_to n) seen rs

-- all of them: no more than there are rows
unfoldable pub read_fields : List ℕ → Reader (List Field)
read_fields seen rs = fields_up_to (length rs) seen rs

-- the P lines that stand there
unfoldable pub read_params : Reader (List Str)
read_params [] = got [] []
read_params (r ∷ rs) = on_parameter (λ name rest. read_params rs then λ ps. got (name ∷ ps)) (got []) (r ∷ rs)

-- what belongs to an N line: its P lines, its F and G lines
unfoldable pub read_members : List ℕ → (List Str → List Field → Node) → Reader Node
read_members seen node rs =
    read_params rs then λ ps rs.
    read_fields seen rs then λ fs.
    got (node ps fs)

-- a node; `ids`: the ids of all N lines before, `seen`: of all G lines before
unfoldable pub read_node : List ℕ → List ℕ → Reader Node
read_node ids seen rs =
    on_node (λ i p sc st g tc to the_mod.
    cond (among i ids) (λ rest. no (fault 3 2) rs)
    (read_members seen (λ ps fs. record {
      id = i;
      parent = p;
      scope = sc;
      is_struct = st;
      generic = g;
      tag_count = tc;
      tag_offset = to;
      the_mod = the_mod;
      params = ps;
      fields = fs;
    })))
    (no misplaced)
    rs

-- 1 to n nodes up to the end of the sheet
unfoldable pub read_nodes : ℕ → List ℕ → List ℕ → Reader (List Node)
read_nodes zero ids seen rs = no misplaced rs
read_nodes (suc n) ids seen rs =
    read_node ids seen rs then λ nd.
    at_end (got (nd ∷ [])) (map_r (nd ∷◌) (read_nodes n (ids ++ unit nd.id) (seen ++ group_ids nd.fields)))

-- a sheet: one R line, then 1 to 64 nodes
unfoldable pub read_sheet : Reader Sheet
read_sheet = on_root (λ root. map_r (λ ns. record { root = root; nodes = ns }) (read_nodes 64 [] [])) (no misplaced)

-- what a sheet is: its tree, or the number, the line and the column of its refusal
pub data Admitted : Type 0 where
  sheet : Sheet → Admitted
  refused : ℕ → ℕ → ℕ → Admitted

-- a reading of the sheet s, with the number of the bad line
abbrev pub numbered : Str → Reading Sheet → Admitted
numbered s (got sh rs) = sheet sh
numbered s (no k rs) = refused k.number (line_no s rs) k.column

unfoldable pub admitted : Str → Admitted
admitted s = elim (ltb 65536 (length s)) [ true ↦ refused 1 0 0 | false ↦ numbered s (read_sheet (rows s)) ]
