-- What the index gives for a number is what is told at the boundary, by what is found for it; and the numbers that are put are
-- those of the field that stands at a position. Assumes nothing.
use mathlib.Core.Path.{◌≡◌, refl, ◌∙◌}
use mathlib.Core.List.{List, [], ◌∷◌}
use Rattle.std.specs.Prelude.{Option, None, Some}
use Prim.Native.Nat.{ℕ, ◌-◌}
use lib.ListN.{drop}
use Rattle.text.specs.Bytes.{Str}
use Rattle.row.specs.Rows.{rows, rest_of}
use Rattle.row.specs.Line.{text_at}
use Rattle.row.specs.Span.{spanned}
use Rattle.row.specs.declared.Span.{Span}
use Rattle.tree.specs.Tree as tree
use Rattle.tree.specs.Tree.{Arm, slot, group, Node}
use Rattle.tree.specs.Fields.{FieldsHere}
use Rattle.nodes.specs.Index.{nth, entry_with, Indexed, Finds}
use Rattle.nodes.specs.declared.Entry.{Entry}
use Rattle.nodes.proofs.Laws.{nth-is}
use Rattle.field.specs.Field.{ReadsFirst, FindsField}
use Rattle.field.specs.Numbers.{with_field}
use Rattle.field.specs.declared.Field.{Field}
use Rattle.field.proofs.NumbersLaws.{field_put}
use Rattle.exports.specs.Boundary.{NodeSaid, FirstPut}

-- the text of the row at a position, for whoever knows where the next begins, is what a span spans
abbrev Spans : Str → Span → ℕ → ℕ → Type 0
Spans s p at next = rows (drop next s) ≡ rest_of (rows (drop at s)) → spanned s p ≡ text_at (rows (drop at s))

-- the node with a number
module _ (s : Str) (ns : List Node) (index : List ℕ) (x : Indexed s ns index) (k : ℕ) where
  pub node-none : None ≡ entry_with index k → NodeSaid s (nth k ns) 15 0 0 0 0
  node-none e = go (nth k ns) (rw (← e) at (nth-is s ns index k x))
    where
      go : (o : Option Node) → Finds s index None o → NodeSaid s o 15 0 0 0 0
      go (Some n) h = absurd h
      go None h = (refl, refl, refl, refl, refl)

  pub node-some : (e : Entry) (p : Span) → Some e ≡ entry_with index k → Spans s p e.at e.params
      → NodeSaid s (nth k ns) 0 e.id p.start (p.end - p.start) e.fields
  node-some e p i text = go (nth k ns) (rw (← i) at (nth-is s ns index k x))
    where
      go : (o : Option Node) → Finds s index (Some e) o
          → NodeSaid s o 0 e.id p.start (p.end - p.start) e.fields
      go (Some n) h = record {
        number_is = refl;
        id-is = h.id;
        module-is = text h.after ∙ h.the_mod;
        fields-here = h.fields;
      }
      go None h = absurd h

-- the numbers that were put are those of the field that was read
pub first-put : (s : Str) (from : ℕ) (r : Option Field) (l l' : List ℕ)
    → ((fs : List tree.Field) → FieldsHere (rows (drop from s)) fs → ReadsFirst s r fs) → l' ≡ with_field l r
    → FirstPut s from l l'
unfolding nth
first-put s from r l l' h e room fs here = rw (e, field_put l r room) (go r fs (h fs here))
  where
    go : (r : Option Field) (fs : List tree.Field) → ReadsFirst s r fs → FindsField s r (nth 0 fs)
    go None [] i = tt
    go None (f ∷ fs) i = absurd i
    go (Some r) [] i = absurd i
    go (Some r) (f ∷ fs) i = i.0
