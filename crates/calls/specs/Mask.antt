-- A mask by value as the text that stands in a call, or none. Assumes nothing.
use Rattle.std.specs.Prelude.{[], ◌++◌, Option, None, Some}
use Rattle.text.specs.Bytes.{Str, ascii}
use Rattle.text.specs.Decimal.{decimal, signed}
use Rattle.calls.specs.declared.Mask.{Mask}
use Rattle.calls.specs.declared.Mask.TheVariants as mask

-- a mask as it stands in its call
abbrev pub argument_text : Mask → Str
argument_text mask.True = ascii "true"
argument_text (mask.Signed half bits) = signed half bits
argument_text (mask.Plain n) = decimal n
argument_text (mask.U32 n) = decimal n ++ ascii "u32"
argument_text (mask.U64 n) = decimal n ++ ascii "u64"

-- and the text of a call's mask, where it has one
abbrev pub mask_text : Option Mask → Option Str
mask_text None = None
mask_text (Some m) = Some (argument_text m)

-- the mask as the last argument
abbrev pub last_argument : Option Str → Str
last_argument None = []
last_argument (Some m) = ascii ", " ++ m
