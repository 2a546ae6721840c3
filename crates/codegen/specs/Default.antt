-- The default of a slot as a mask: `prim_default` for present setters, what `getter_text` writes for getters. Assumes nothing.
use Rattle.std.specs.Prelude.{ℕ, ◌^◌, Bool, true, false, ◌++◌, ◌==◌, nat_le}
use Rattle.std.specs.Prelude.{Option, None, Some}
use Rattle.text.specs.Bytes.{Str, ascii, cond, both, either}
use Rattle.text.specs.Decimal.{decimal, signed}
use Rattle.tree.specs.Tree.{Value}
use Rattle.codegen_types.specs.Out.{Out, ok, refused}

-- a V line's value
abbrev pub value : ℕ → ℕ → Value
value kind bits = record { kind = kind; bits = bits }

-- the text of a value of kinds 2 to 9: signed for Int8 to Int64, unsigned for Uint8 to Uint64
abbrev pub integer : Value → Str
integer v =
    cond (v.kind == 2) (signed (2 ^ 7) v.bits)
    (cond (v.kind == 3) (signed (2 ^ 15) v.bits)
    (cond (v.kind == 4) (signed (2 ^ 31) v.bits)
    (cond (v.kind == 5) (signed (2 ^ 63) v.bits)
    (decimal v.bits))))

-- no mask where the test holds
abbrev pub unless : Bool → Str → Option Str
unless true mask = None
unless false mask = Some mask

-- FpCategory::Zero: 0.0 and -0.0, whose sign is the top bit
abbrev pub float_zero : ℕ → ℕ → Bool
float_zero sign bits = either (bits == 0) (bits == sign)

-- prim_default: none for zero, the mask's text, or refusal 11
unfoldable pub prim_default : Value → Out (Option Str)
prim_default v =
    cond (v.kind == 1) (ok (unless (v.bits == 0) (ascii "true")))
    (cond (both (nat_le 2 v.kind) (nat_le v.kind 9)) (ok (unless (v.bits == 0) (integer v)))
    (cond (v.kind == 10) (ok (unless (float_zero (2 ^ 31) v.bits) (decimal v.bits ++ ascii "u32")))
    (cond (v.kind == 11) (ok (unless (float_zero (2 ^ 63) v.bits) (decimal v.bits ++ ascii "u64")))
    (refused 11))))

-- the mask of a getter of kinds 1 to 11 and 15: none for zero bits; a float's bits stand bare
unfoldable pub getter_mask : Value → Option Str
getter_mask v =
    unless (v.bits == 0)
    (cond (v.kind == 1) (ascii "true") (integer v))
