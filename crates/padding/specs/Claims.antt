-- What padding does to sheets, for every byte string that is admitted. Assumes nothing.
use Rattle.std.specs.Prelude.{◌≡◌}
use Rattle.text.specs.Bytes.{Str}
use Rattle.tree.specs.Tree.{Sheet}
use Rattle.tree.specs.Read.{sheet, admitted}
use Rattle.padding.specs.Padded.{padded_text}
use Rattle.padding.specs.Short.{short}

-- what a sheet's short form says is that sheet
abbrev pub PadsShortHolds : Type 0
PadsShortHolds = (s : Str) (sh : Sheet) → admitted s ≡ sheet sh → padded_text (short s) ≡ s

-- a sheet stays as it is
abbrev pub KeepsPaddedHolds : Type 0
KeepsPaddedHolds = (s : Str) (sh : Sheet) → admitted s ≡ sheet sh → padded_text s ≡ s
