-- The lines of a function of an accessor. Assumes nothing.
use Rattle.text.specs.Bytes.{Str, ascii}
use Rattle.text.specs.Lines.{FormattedTexts, Indent, Branch, Line, ◌&◌}

-- a function's lines in front of more
abbrev pub function : Str → FormattedTexts → FormattedTexts → FormattedTexts
function head interior more = Line (ascii "#[inline]") & Line head & Indent (Branch interior) & Line (ascii "}") & more
