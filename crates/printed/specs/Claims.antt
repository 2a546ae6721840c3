-- The two laws that tie the reader of sheets to the printer, for every tree and every byte string. Assumes nothing.
use Rattle.std.specs.Prelude.{◌≡◌, true}
use Rattle.text.specs.Bytes.{Str}
use Rattle.tree.specs.Tree.{Sheet}
use Rattle.tree.specs.Read.{sheet, admitted}
use Rattle.tree.specs.Print.{printed}
use Rattle.tree.specs.WellFormed.{well_formed}

-- reading what is printed of a well-formed tree gives that tree
abbrev pub ReadsPrinted : Type 0
ReadsPrinted = (sh : Sheet) → well_formed sh ≡ true → admitted (printed sh) ≡ sheet sh

-- printing the tree of an admitted sheet gives the same bytes, and that tree is well-formed
abbrev pub PrintsRead : Type 0
PrintsRead = (s : Str) (sh : Sheet) → admitted s ≡ sheet sh → (printed sh ≡ s) × (well_formed sh ≡ true)
