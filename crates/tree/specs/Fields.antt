-- The fields that stand at some rows, one after the other. Assumes nothing.
use Rattle.std.specs.Prelude.{◌≡◌, false, List, [], ◌∷◌}
use Rattle.row.specs.Line.{line_at}
use Rattle.tree.specs.Tree.{Field}
use Rattle.tree.specs.Reader.{Rows, got}
use Rattle.tree.specs.Read.{read_field, is_field}

-- the rows begin with these fields, and no F or G line follows them
pub data FieldsHere : Rows → List Field → Type 0 where
  none : {rs : Rows} → is_field (line_at rs) ≡ false → FieldsHere rs []
  more : {f : Field} {fs : List Field} {rs rest : Rows} → read_field rs ≡ got f rest → FieldsHere rest fs → FieldsHere rs (f ∷ fs)
