-- The texts of the parts from which setters and initializers are written: each function from its first line to its last. Those in
-- which lines begin have the level last. Assumes nothing.
use Rattle.std.specs.Prelude.{ℕ, ◌+◌, Bool, true, false, [], ◌++◌, eqb}
use Rattle.text.specs.Bytes.{Str, ascii, cond}
use Rattle.text.specs.Lines.{margin, broken}
use Rattle.calls.specs.Calls.{set_tag}

-- the line that sets the tag, where the field has a discriminant
abbrev pub tag_line : ℕ → ℕ → ℕ → Str
tag_line tag_offset discriminant level =
    cond (eqb discriminant 65535) [] (margin (level + 1) ++ set_tag tag_offset discriminant ++ ascii "\n")

-- the end of a function's head, the line that sets the tag, and the start of the next line
abbrev pub start : Str → ℕ → ℕ → ℕ → Str
start head_end tag_offset discriminant level = head_end ++ tag_line tag_offset discriminant level ++ margin (level + 1)

-- a function's head, from its first line on: the field's name between two texts
abbrev pub named : Str → Str → Str → ℕ → Str
named before name after level = margin level ++ broken before level ++ name ++ after

-- a setter up to its value's type, and from there up to its lines
abbrev pub set_open : Str → ℕ → Str
set_open name = named (ascii "#[inline]\npub fn set_") name (ascii "(&mut self, value: ")

abbrev pub set_close : Str → Bool → Str
set_close root true = ascii ") -> " ++ root ++ ascii "::Result<()> {\n"
set_close root false = ascii ")  {\n"

-- a setter of one line, behind the one that sets the tag, which is given by the level
abbrev pub set_text : Str → Str → Str → Bool → (ℕ → Str) → Str → ℕ → Str
set_text root name typ result tag line level =
    set_open name level ++ typ ++ set_close root result ++ tag level ++ margin (level + 1) ++ line ++ broken (ascii "\n}\n") level

-- an initializer up to its result's type; with a size or not
abbrev pub size_param : Bool → Str
size_param true = ascii "size: u32"
size_param false = []

abbrev pub init_open : Str → Bool → ℕ → Str
init_open name sized level =
    named (ascii "#[inline]\npub fn init_") name (ascii "(self, ") level ++ size_param sized ++ ascii ") -> "

-- an initializer of one line, likewise
abbrev pub init_text : Str → Bool → Str → (ℕ → Str) → Str → ℕ → Str
init_text name sized typ tag line level =
    init_open name sized level ++ typ ++ ascii " {\n" ++ tag level ++ margin (level + 1) ++ line ++ broken (ascii "\n}\n") level

-- the initializer of a list of a parameter's type
abbrev pub initn_open : Str → ℕ → Str
initn_open name = named (ascii "#[inline]\npub fn initn_") name (ascii "(self, length: u32) -> ")

abbrev pub initn_text : Str → Str → (ℕ → Str) → Str → ℕ → Str
initn_text name typ tag line level =
    initn_open name level ++ typ ++ ascii " {\n" ++ tag level ++ margin (level + 1) ++ line ++ broken (ascii "\n}\n") level
