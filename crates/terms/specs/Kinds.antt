-- The kinds of types and defaults by their numbers in T and V lines; each other number is an unnamed kind. Assumes nothing.
use Rattle.std.specs.Prelude.{ℕ, ◌+◌, ◌-◌, Bool, List, [], ◌∷◌, leb, get_or}
use native.Mathlib.Omega.{arith}
use Rattle.terms.specs.declared.kinds.Unnamed.{Unnamed}
use Rattle.terms.specs.declared.kinds.Kind.{Kind}
use Rattle.terms.specs.declared.kinds.Kind.TheVariants as kind

abbrev pub number_of : Kind → ℕ
number_of kind.Void = 0
number_of kind.Bool = 1
number_of kind.Int8 = 2
number_of kind.Int16 = 3
number_of kind.Int32 = 4
number_of kind.Int64 = 5
number_of kind.Uint8 = 6
number_of kind.Uint16 = 7
number_of kind.Uint32 = 8
number_of kind.Uint64 = 9
number_of kind.Float32 = 10
number_of kind.Float64 = 11
number_of kind.Text = 12
number_of kind.Data = 13
number_of kind.List = 14
number_of kind.Enum = 15
number_of kind.Struct = 16
number_of kind.Interface = 17
number_of kind.AnyPointer = 18
number_of (kind.Unnamed unnamed) = unnamed.number

-- the kinds that have names, in the order of their numbers
abbrev pub numbered : List Kind
numbered =
    kind.Void ∷ kind.Bool ∷ kind.Int8 ∷ kind.Int16 ∷ kind.Int32 ∷ kind.Int64 ∷ kind.Uint8 ∷ kind.Uint16 ∷ kind.Uint32
    ∷ kind.Uint64 ∷ kind.Float32 ∷ kind.Float64 ∷ kind.Text ∷ kind.Data ∷ kind.List ∷ kind.Enum ∷ kind.Struct
    ∷ kind.Interface ∷ kind.AnyPointer ∷ []

-- the number so far past the first that names no kind
abbrev pub unnamed : ℕ → Unnamed
unnamed more = record { number = 19 + more; past = omega arith }

-- the kind with a number
unfoldable pub kind_numbered : ℕ → Kind
kind_numbered n = get_or numbered n (kind.Unnamed (unnamed (n - 19)))

-- the kinds of Void, Bool and the numbers
abbrev pub is_primitive : ℕ → Bool
is_primitive k = leb k 11
