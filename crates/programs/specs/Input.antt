-- What was read of standard input. The input of the replay programs: lines, and sheets, each after a line that has its length in
-- decimal. Assumes nothing.
use Rattle.std.specs.Prelude.{◌≡◌, Result, Ok, Err, MatchResult, slice_range}
use Rattle.std.specs.Prelude.{true, false, List, [], ◌∷◌, ℕ, zero, suc, ◌+◌, ◌-◌, ◌*◌, ◌%◌, min, eqb, ltb, length, take, drop}
use Rattle.text.specs.Bytes.{Str, cond}
use Rattle.io.specs.Counts.{IsPrefixLen}
use Rattle.programs.specs.declared.Sheet.{Sheet}

-- so many bytes of the buffer were read
abbrev pub WasRead : {E : Type 0} → Result ℕ E → Str → Type 0
WasRead (Ok n) l = IsPrefixLen n l
WasRead (Err e) l = Unit {0}

-- how many bytes stand in front of the first byte 10, or of the end
unfoldable pub line_length : Str → ℕ
line_length [] = 0
line_length (b ∷ s) = elim (eqb b 10) [ true ↦ 0 | false ↦ suc (line_length s) ]

-- where the line from a place on ends: at its byte 10, or at the end
abbrev pub line_end : Str → ℕ → ℕ
line_end s from = from + line_length (drop from s)

-- what a decimal digit counts; 0 for any other byte
abbrev pub digit_of : ℕ → ℕ
digit_of b = cond (ltb b 48) 0 (cond (ltb 57 b) 0 (b - 48))

-- the number of which the digits so far are n and the others are given; of all digits the last seven count
unfoldable pub number_from : ℕ → Str → ℕ
number_from n [] = n
number_from n (b ∷ s) = number_from (n % 1000000 * 10 + digit_of b) s

abbrev pub decimal_of : Str → ℕ
decimal_of = number_from 0

-- the bytes after the line at a place, as many as the line says, or all that is left where that is less
unfoldable pub sheet_after : Str → ℕ → Sheet
sheet_after s from =
    let line = line_end s from in
    let size = decimal_of (take (line - from) (drop from s)) in
    cond (ltb line (length s))
    (record { start = line + 1; end = min (line + 1 + size) (length s) })
    (record { start = line; end = line })

-- the bytes of the sheets from a place on, each after the end of the one before, to the end of the input; so many at most
unfoldable pub sheets_from : ℕ → Str → ℕ → List Str
sheets_from zero s at = []
sheets_from (suc left) s at =
    let sheet = sheet_after s at in
    cond (ltb at (length s)) (slice_range s sheet.start sheet.end ∷ sheets_from left s sheet.end) []

-- the sheets of an input: no more than it has bytes, since each ends past the place where it was looked for
abbrev pub sheets_of : Str → List Str
sheets_of s = sheets_from (length s) s 0

-- a function may be called at each of the items, in order and once each, while its calls answer `Ok`, and nothing is said of any
-- other call. The first relation says of one call that it may be made, the second what it may answer and leave
abbrev pub CallableUpToErr :
    {F X E : Type 0} → (F → X → Type 0) → (F → X → Result (Unit {0}) E → F → Type 0) → F → List X → Type 0
CallableUpToErr may call f [] = Unit {0}
CallableUpToErr {F} {X} {E} may call f (x ∷ xs) =
    may f x × ((next : F) → call f x (Ok tt) next → CallableUpToErr may call next xs)

-- it was so called, up to the first call that answers an error, which is the outcome too; where none does, that is `Ok`
abbrev pub CalledUpToErr :
    {F X E : Type 0} → (F → X → Result (Unit {0}) E → F → Type 0) → F → List X → Result (Unit {0}) E → Type 0
CalledUpToErr call f [] r = r ≡ Ok tt
CalledUpToErr {F} {X} {E} call f (x ∷ xs) r =
    (answer : Result (Unit {0}) E) × (next : F) × call f x answer next
    × MatchResult answer (λ _. CalledUpToErr call next xs r) (λ e. r ≡ Err e)
