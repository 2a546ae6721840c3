-- The line of a haser that tests the tag, as the code writes it. Assumes nothing.
use Rattle.std.specs.Prelude.{ℕ, ◌+◌, Bool, [], ◌++◌, ◌==◌}
use Rattle.text.specs.Bytes.{Str, ascii, cond}
use Rattle.text.specs.Lines.{margin}
use Rattle.calls.specs.Calls.{tag_test}

-- the test of the tag as it is written at a level: a line, or nothing
abbrev pub tag_test_line : Bool → ℕ → ℕ → ℕ → Str
tag_test_line is_reader tag_offset discriminant level =
    cond (discriminant == 65535) [] (margin (level + 1) ++ tag_test is_reader tag_offset discriminant ++ ascii "\n")
