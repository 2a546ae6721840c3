-- `zeroing::LineType::of` meets its contract where the kind is no number's: by what it is not. Assumes nothing.
use native.Mathlib.Omega.{arith}
use Rattle.terms.specs.Kinds.{number_of}
use Rattle.terms.specs.declared.kinds.Kind.TheVariants as kind
use Rattle.terms.proofs.KindLaws.{number-own}
use Rattle.zeroing.proofs.TypeLaws.{past-numbers}
use Rattle.zeroing.proofs.LineType.of.Goals as goal

pub returns-in_default : goal.returns-in_default
returns-in_default c =
    let k = c.args.kind in
    let d = c.in_default in
    let void = number-own k kind.Void d.not-Void in
    let bool = number-own k kind.Bool d.not-Bool in
    let int8 = number-own k kind.Int8 d.not-Int8 in
    let int16 = number-own k kind.Int16 d.not-Int16 in
    let int32 = number-own k kind.Int32 d.not-Int32 in
    let int64 = number-own k kind.Int64 d.not-Int64 in
    let uint8 = number-own k kind.Uint8 d.not-Uint8 in
    let uint16 = number-own k kind.Uint16 d.not-Uint16 in
    let uint32 = number-own k kind.Uint32 d.not-Uint32 in
    let uint64 = number-own k kind.Uint64 d.not-Uint64 in
    let float32 = number-own k kind.Float32 d.not-Float32 in
    let float64 = number-own k kind.Float64 d.not-Float64 in
    past-numbers (number_of k) (omega arith) (number-own k kind.Enum d.not-Enum)
