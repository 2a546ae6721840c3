-- The names of the primitive types. Assumes nothing.
use Rattle.std.specs.Prelude.{[], ℕ, get_or}
use Rattle.text.specs.Bytes.{Str}
use Rattle.codegen_types.specs.TypeString.{primitives}

-- the text of the type of this kind: Void to Float64
abbrev pub primitive_text : ℕ → Str
primitive_text kind = get_or primitives kind []
