-- `codegen::ended_mask` meets its contract: where a float has a mask, that is its bits. Assumes nothing.
use mathlib.Core.Path.{◌≡◌, refl}
use mathlib.Core.Bool.{Bool, true, false}
use lib.Dec.{eqb}
use Rattle.std.specs.Prelude.{Some}
use Rattle.text.specs.Bytes.{Str}
use Rattle.text.specs.Decimal.{decimal}
use Rattle.codegen.specs.Default.{unless, getter_mask}
use Rattle.codegen.proofs.ended_mask.Goals as goal

-- a mask that is there is the one that zero bits would leave out
there : (zero : Bool) (mask bits : Str) → Some mask ≡ unless zero bits → unless zero bits ≡ Some bits
there true mask bits e = cc
there false mask bits e = refl

pub returns-in-Float32 : goal.returns-in-Float32
unfolding getter_mask
returns-in-Float32 c =
    let bits = c.args.bits in
    rw (c.in-Float32.is, there (eqb bits 0) _ (decimal bits) (rw c.in-Float32.is at c.in_ok-mask.ensures)) refl

pub returns-in-Float64 : goal.returns-in-Float64
unfolding getter_mask
returns-in-Float64 c =
    let bits = c.args.bits in
    rw (c.in-Float64.is, there (eqb bits 0) _ (decimal bits) (rw c.in-Float64.is at c.in_ok-mask.ensures)) refl
