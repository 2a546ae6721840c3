-- Laws of the fields that are read at some rows: they stand there, and what is left is a tail of the rows. By induction on a
-- bound of the rows. Assumes nothing.
use mathlib.Core.Path.{◌≡◌, refl}
use mathlib.Core.Bool.{Bool, true, false}
use mathlib.Core.List.{List, [], ◌∷◌, ◌++◌}
use Prim.Native.Nat.{ℕ, zero, suc, ◌≤◌}
use native.Mathlib.Omega.{arith}
use lib.ListN.{length}
use Rattle.text.specs.Bytes.{Str, cond}
use Rattle.row.specs.Line.{Fault, fault, line_at}
use Rattle.tree.specs.Tree.{Field}
use Rattle.tree.specs.Reader.{Rows, Reading, got, no, Reader, ◌then◌, map_r}
use Rattle.tree.specs.Read.{overlap, read_field, is_field, group_id, fields_up_to, read_fields}
use Rattle.tree.specs.Fields as fields
use Rattle.tree.specs.Fields.{FieldsHere}
use Rattle.tree.proofs.TailLaws.{Tail, here, later, tail_trans, Leaves, leaves-passed, tail_length}
use Rattle.tree.proofs.FieldLaws.{leaves_field, fields-here}

-- what is read, if anything is: these fields stand at the rows, and a tail of the rows follows them
pub data Stand (rs : Rows) : Reading (List Field) → Type 0 where
  read : {fs : List Field} {ts : Rows} → FieldsHere rs fs → Tail ts rs → Stand rs (got fs ts)
  not : {k : Fault} {ts : Rows} → Stand rs (no k ts)

-- at the end there is no field
no_line : is_field (line_at []) ≡ false
unfolding line_at
no_line = refl

fields-end : (seen : List ℕ) → Stand [] (read_fields seen [])
unfolding read_fields fields_up_to
fields-end seen = read (fields.none no_line) here

-- what the reader of all fields reads, once it is known for fewer rows
module _ (n : ℕ) (fewer : (seen : List ℕ) (rs : Rows) → length rs ≤ n → Stand rs (read_fields seen rs)) (seen : List ℕ)
    (r : Str) (rs : Rows) (h : length rs ≤ n) where
  after : (f : Field) (ts : Rows) → read_field (r ∷ rs) ≡ got f ts → Tail ts rs → {g : Reading (List Field)} → Stand ts g
      → Stand (r ∷ rs) (g then λ fs. got (f ∷ fs))
  after f ts e t (read x u) = read (fields.more e x) (tail_trans u (later t))
  after f ts e t not = not

  by-double : (f : Field) (ts : Rows) → read_field (r ∷ rs) ≡ got f ts → Tail ts rs → (b : Bool)
      → Stand (r ∷ rs) (cond {A = Reader (List Field)} b (λ rest. no (fault 3 2) (r ∷ rs))
      (map_r (f ∷◌) (read_fields (seen ++ group_id f.arm))) ts)
  by-double f ts e t true = not
  by-double f ts e t false =
      let l = tail_length t in after f ts e t (fewer (seen ++ group_id f.arm) ts (omega arith))

  by_field : (g : Reading Field) → read_field (r ∷ rs) ≡ g → Leaves rs g
      → Stand (r ∷ rs) (g then λ f.
      cond {A = Reader (List Field)} (overlap (group_id f.arm) seen) (λ rest. no (fault 3 2) (r ∷ rs))
      (map_r (f ∷◌) (read_fields (seen ++ group_id f.arm))))
  by_field (got f ts) e l = by-double f ts e (leaves-passed l ts refl) (overlap (group_id f.arm) seen)
  by_field (no k ts) e l = not

  by-line : (b : Bool) → is_field (line_at (r ∷ rs)) ≡ b
      → Stand (r ∷ rs) (cond {A = Reader (List Field)} b
      (λ rs. read_field rs then λ f.
      cond (overlap (group_id f.arm) seen) (λ rest. no (fault 3 2) rs) (map_r (f ∷◌) (read_fields (seen ++ group_id f.arm))))
      (got []) (r ∷ rs))
  by-line true e = by_field (read_field (r ∷ rs)) refl (leaves_field r rs)
  by-line false e = read (fields.none e) here

  one_more : Stand (r ∷ rs) (read_fields seen (r ∷ rs))
  one_more = rw (fields-here seen (r ∷ rs)) (by-line (is_field (line_at (r ∷ rs))) refl)

pub fields_stand : (seen : List ℕ) (rs : Rows) → Stand rs (read_fields seen rs)
fields_stand seen rs = go (length rs) seen rs (omega arith)
  where
    go : (n : ℕ) (seen : List ℕ) (rs : Rows) → length rs ≤ n → Stand rs (read_fields seen rs)
    go zero seen [] h = fields-end seen
    go zero seen (r ∷ rs) h = let z : ⊥ = omega arith in absurd z
    go (suc n) seen [] h = fields-end seen
    go (suc n) seen (r ∷ rs) h = one_more n (λ seen ts t. go n seen ts t) seen r rs (omega arith)
