-- Laws of a node's fields: read one after the other with no bound in sight, and read the same where fewer group ids stood
-- before. Assumes nothing.
use mathlib.Core.Path.{◌≡◌, refl}
use mathlib.Core.Bool.{Bool, true, false}
use mathlib.Core.List.{List, [], ◌∷◌, ◌++◌}
use Prim.Native.Nat.{ℕ, zero, suc, ◌≤◌}
use native.Mathlib.Omega.{arith}
use lib.ListN.{length}
use Rattle.text.specs.Bytes.{Str, cond}
use Rattle.row.specs.Rows.{rest_of}
use Rattle.row.specs.Line.{fault, misplaced, Content, line_of, line_at, text_at, as_field, as_group, fault_of}
use Rattle.tree.specs.Tree.{Field, slot, group}
use Rattle.tree.specs.Reader.{Rows, Reading, got, no, Reader, ◌then◌, map_r, or_fault, on_group}
use Rattle.tree.specs.Read.{read_slot, field, read_field, is_field, group_id, overlap, fields_from, fields_up_to, read_fields}
use Rattle.tree.proofs.TailLaws.{Tail, here, Leaves, left, none, tail_length, leaves_map, leaves-told, leaves-slot}
use Rattle.row.specs.Line as line

-- a field has a row of its own
pub leaves_field : (r : Str) (rs : Rows) → Leaves rs (read_field (r ∷ rs))
unfolding read_field line_at rest_of
leaves_field r rs = by_field (line_of r)
  where
    not-group : Leaves rs (or_fault {A = Field} 71 (no misplaced) (r ∷ rs))
    not-group = leaves-told (fault_of 71 (line_of r)) (no misplaced) (r ∷ rs) none

    by-group : (l : Content) → Leaves rs (as_group {A = Reader Field} l
        (λ i d rs. got (field (text_at rs) d (group i)) (rest_of rs)) (or_fault 71 (no misplaced)) (r ∷ rs))
    by-group line.Root = not-group
    by-group (line.Node a b c d e f g) = not-group
    by-group line.Parameter = not-group
    by-group (line.Field a b c d) = not-group
    by-group (line.Group i d) = left here
    by-group (line.Typ a b c d) = not-group
    by-group (line.Scope a b c) = not-group
    by-group line.Unbound = not-group
    by-group (line.Value a b) = not-group
    by-group (line.Word a) = not-group
    by-group (line.Bad x k) = not-group

    not-field : Leaves rs (or_fault 70 (on_group (λ i d name. got (field name d (group i))) (no misplaced)) (r ∷ rs))
    not-field = leaves-told (fault_of 70 (line_of r)) _ (r ∷ rs) (by-group (line_of r))

    by_field : (l : Content) → Leaves rs (as_field {A = Reader Field} l
        (λ o d e p rs. map_r (λ sl. field (text_at rs) d (slot sl)) (read_slot o e p) (rest_of rs))
        (or_fault 70 (on_group (λ i d name. got (field name d (group i))) (no misplaced)))
        (r ∷ rs))
    by_field line.Root = not-field
    by_field (line.Node a b c d e f g) = not-field
    by_field line.Parameter = not-field
    by_field (line.Field o d e p) = leaves_map _ (leaves-slot o e p rs)
    by_field (line.Group a b) = not-field
    by_field (line.Typ a b c d) = not-field
    by_field (line.Scope a b c) = not-field
    by_field line.Unbound = not-field
    by_field (line.Value a b) = not-field
    by_field (line.Word a) = not-field
    by_field (line.Bad x k) = not-field

-- two readers that agree on the tails agree after a reading
then_same :
    {A B : Type 0} {us : Rows} {g : Reading A} (k l : A → Reader B) → Leaves us g
    → ((a : A) (ts : Rows) → Tail ts us → k a ts ≡ l a ts) → (g then k) ≡ (g then l)
then_same k l (left {a = a} {ts = ts} t) h = h a ts t
then_same k l none h = refl

-- one turn, with readers of the rest that agree on shorter rows
turn-same :
    (more less : List ℕ → Reader (List Field)) (seen : List ℕ) (r : Str) (rs : Rows)
    → ((seen : List ℕ) (ts : Rows) → length ts ≤ length rs → more seen ts ≡ less seen ts)
    → fields_from more seen (r ∷ rs) ≡ fields_from less seen (r ∷ rs)
turn-same more less seen r rs h = go (is_field (line_at (r ∷ rs)))
  where
    after : (f : Field) (ts : Rows) → Tail ts rs → (b : Bool)
        → cond {A = Reader (List Field)} b (λ rest. no (fault 3 2) (r ∷ rs)) (map_r (f ∷◌) (more (seen ++ group_id f.arm))) ts
        ≡ cond {A = Reader (List Field)} b (λ rest. no (fault 3 2) (r ∷ rs)) (map_r (f ∷◌) (less (seen ++ group_id f.arm))) ts
    after f ts t true = refl
    after f ts t false = rw (h (seen ++ group_id f.arm) ts (tail_length t))

    go : (b : Bool)
        → cond {A = Reader (List Field)} b
        (λ rs. read_field rs then λ f.
        cond (overlap (group_id f.arm) seen) (λ rest. no (fault 3 2) rs) (map_r (f ∷◌) (more (seen ++ group_id f.arm))))
        (got []) (r ∷ rs)
        ≡ cond {A = Reader (List Field)} b
        (λ rs. read_field rs then λ f.
        cond (overlap (group_id f.arm) seen) (λ rest. no (fault 3 2) rs) (map_r (f ∷◌) (less (seen ++ group_id f.arm))))
        (got []) (r ∷ rs)
    go true = then_same _ _ (leaves_field r rs) (λ f ts t. after f ts t (overlap (group_id f.arm) seen))
    go false = refl

-- a bound of the number of rows is enough
enough :
    (n m : ℕ) (seen : List ℕ) (rs : Rows) → length rs ≤ n → length rs ≤ m → fields_up_to n seen rs ≡ fields_up_to m seen rs
unfolding fields_up_to line_at
enough zero zero seen rs h k = refl
enough zero (suc m) seen [] h k = refl
enough zero (suc m) seen (r ∷ rs) h k = let z : ⊥ = omega arith in absurd z
enough (suc n) zero seen [] h k = refl
enough (suc n) zero seen (r ∷ rs) h k = let z : ⊥ = omega arith in absurd z
enough (suc n) (suc m) seen [] h k = refl
enough (suc n) (suc m) seen (r ∷ rs) h k =
    let less = enough n m in
    turn-same (fields_up_to n) (fields_up_to m) seen r rs (λ seen ts t. less seen ts (omega arith) (omega arith))

-- fields, one and the rest
pub fields-here : (seen : List ℕ) (rs : Rows) → read_fields seen rs ≡ fields_from read_fields seen rs
unfolding read_fields fields_up_to line_at
fields-here seen [] = refl
fields-here seen (r ∷ rs) =
    turn-same (fields_up_to (length rs)) read_fields seen r rs
    (λ seen ts t. enough (length rs) (length ts) seen ts t (omega arith))
