-- The two masks of a setter side by side: capnpc's own, and the one that request N9 of document 02 takes by the getter's rule.
-- Assumes nothing.
use Rattle.std.specs.Prelude.{ℕ, [], ◌++◌, ◌==◌, Option, None, Some}
use Rattle.std.specs.Option.{option_map}
use Rattle.text.specs.Bytes.{Str, ascii, cond}
use Rattle.text.specs.Decimal.{decimal}
use Rattle.tree.specs.Tree.{Value}
use Rattle.codegen_types.specs.Out.{Out, ok, refused}
use Rattle.codegen.specs.Default.{prim_default, getter_mask}
use Rattle.codegen.specs.declared.Profile.{Profile}
use Rattle.codegen.specs.declared.Profile.TheVariants.{Present, Paired}

-- a rule for masks: of a slot's kind, its explicit flag and its default
abbrev pub MaskRule : Type 0
MaskRule = ℕ → ℕ → Value → Out (Option Str)

-- generate_setter's mask of an enum: its default where that is explicit, which must then be an Enum, else 12
abbrev pub explicit_mask : ℕ → Value → Out (Option Str)
explicit_mask explicit v =
    cond (explicit == 0) (ok None)
    (cond (v.kind == 15) (ok (Some (decimal v.bits))) (refused 12))

-- the present rule, generate_setter's: an enum by its flag, a Bool or a number by prim_default
unfoldable pub present_mask : MaskRule
present_mask k explicit v = cond (k == 15) (explicit_mask explicit v) (prim_default v)

-- a getter's mask as a setter writes it: a float's bits have their ending
abbrev pub float_ending : ℕ → Str
float_ending k = cond (k == 10) (ascii "u32") (cond (k == 11) (ascii "u64") [])

abbrev pub with_ending : ℕ → Option Str → Option Str
with_ending k = option_map (λ mask. mask ++ float_ending k)

-- the paired rule: the getter's mask; a default that is not of the slot's type has the present one
unfoldable pub paired_mask : MaskRule
paired_mask k explicit v = cond (k == v.kind) (ok (with_ending k (getter_mask v))) (present_mask k explicit v)

-- the rule of a profile
abbrev pub rule_of : Profile → MaskRule
rule_of Present = present_mask
rule_of Paired = paired_mask
