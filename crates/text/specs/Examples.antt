-- Worked examples of the definitions, computed: one theorem over the rows. Assumes nothing.
use Rattle.std.specs.Prelude.{◌≡◌, refl, true, List, [], ◌∷◌, ◌^◌, ◌-◌}
use Rattle.text.specs.Bytes.{ascii, same}
use Rattle.text.specs.Table.{Row, row, right}
use Rattle.text.specs.Decimal.{decimal, signed}
use Rattle.text.specs.Lines.{FormattedText, Indent, Branch, Line, BlankLine, none, ◌&◌, to_lines, flat_map, join, stringify}
use Rattle.text.specs.Lines.{margin, broken}
use Rattle.text.specs.Levels.{laid_out, all_laid_out, shown}

-- a block with a line and a blank line
abbrev pub block : FormattedText
block =
    Branch (Line (ascii "{") & Indent (Branch (Line (ascii "x") & BlankLine & none)) & Line (ascii "}") & none)

abbrev pub rows : List Row
rows =
    row (decimal 0) "0"
    ∷ row (decimal 9) "9"
    ∷ row (decimal 10) "10"
    ∷ row (decimal (2 ^ 64 - 1)) "18446744073709551615"
    ∷ row (signed (2 ^ 7) 127) "127"
    ∷ row (signed (2 ^ 7) 128) "-128"
    ∷ row (signed (2 ^ 15) 65535) "-1"
    ∷ row (signed (2 ^ 63) (2 ^ 63)) "-9223372036854775808"
    ∷ row (stringify (Branch none) 0) "\n"
    ∷ row (stringify BlankLine 0) "\n"
    ∷ row (stringify (Indent (Line (ascii ""))) 0) "    \n"
    ∷ row (stringify block 0) "{\n    x\n\n}\n"
    -- at a level every line is moved in but a `BlankLine`, and no lines are still one newline
    ∷ row (stringify (Branch none) 2) "\n"
    ∷ row (stringify BlankLine 2) "\n"
    ∷ row (stringify (Line (ascii "")) 1) "    \n"
    ∷ row (stringify block 1) "    {\n        x\n\n    }\n"
    -- and so are the lines of its text at level 0
    ∷ row (shown 2 (laid_out (Branch none) 0)) "\n"
    ∷ row (shown 1 (laid_out block 0)) "    {\n        x\n\n    }\n"
    ∷ row (broken (ascii "{\n    x\n") 1) "{\n        x\n"
    ∷ []

pub rows_right : right rows ≡ true
unfolding same decimal signed to_lines flat_map join stringify margin broken laid_out all_laid_out shown
rows_right = refl
