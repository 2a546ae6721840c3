-- The mask that a setter is written with, or its default's refusal. Assumes nothing.
use Rattle.std.specs.Prelude.{Option, Result, Ok, Err}
use Rattle.text.specs.Bytes.{Str}
use Rattle.terms.specs.Refusals.{number}
use Rattle.terms.specs.declared.refusals.Refusal.{Refusal}
use Rattle.calls.specs.declared.Mask.{Mask}
use Rattle.calls.specs.Mask.{mask_text}
use Rattle.terms.specs.Kinds.{number_of}
use Rattle.field.specs.declared.Slot.{Slot}
use Rattle.codegen_types.specs.Out.{Out, ok, refused}
use Rattle.codegen.specs.Default.{value}
use Rattle.codegen.specs.Profiles.{MaskRule}

-- what the code's answer stands for: the mask's text, or the refusal's number
abbrev pub masked : Result (Option Mask) Refusal → Out (Option Str)
masked (Ok mask) = ok (mask_text mask)
masked (Err e) = refused (number e)

-- what a rule gives for a slot by value
abbrev pub mask_of : MaskRule → Slot → Out (Option Str)
mask_of rule slot = rule (number_of slot.kind) slot.explicit (value (number_of slot.default) slot.bits)
