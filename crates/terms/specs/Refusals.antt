-- The numbers of the refusals in documents 01 and 02. Assumes nothing.
use Rattle.std.specs.Prelude.{ℕ}
use Rattle.terms.specs.declared.refusals.Refusal.{Refusal}
use Rattle.terms.specs.declared.refusals.Refusal.TheVariants.{SheetTooLong, BadLine, SecondId, TooDeep, NoNode, ListOfAnyPointer}
use Rattle.terms.specs.declared.refusals.Refusal.TheVariants.{ParameterLeaf, BindingsDiffer, OptionMisplaced, GetterDefault}
use Rattle.terms.specs.declared.refusals.Refusal.TheVariants.{SetterDefault, EnumDefault, ParameterIndex, NoStruct, NotThere}
use Rattle.terms.specs.declared.refusals.Refusal.TheVariants.{BadNumber, BadText, FillPastEnd, NoRoom, LevelTooHigh}

abbrev pub number : Refusal → ℕ
number SheetTooLong = 1
number BadLine = 2
number SecondId = 3
number TooDeep = 4
number NoNode = 5
number ListOfAnyPointer = 6
number ParameterLeaf = 7
number BindingsDiffer = 8
number OptionMisplaced = 9
number GetterDefault = 10
number SetterDefault = 11
number EnumDefault = 12
number ParameterIndex = 13
number NoStruct = 14
number NotThere = 15
number BadNumber = 16
number BadText = 17
number FillPastEnd = 21
number NoRoom = 22
number LevelTooHigh = 36
