-- Byte strings, and the choice by a test, as every later definition uses them. Assumes nothing.
use Rattle.std.specs.Prelude.{Bool, true, false, List, [], ◌∷◌, ℕ, eqb}
use Prim.Native.Char.{code}
use Prim.Native.String as S

-- a byte string
abbrev pub Str : Type 0
Str = List ℕ

-- the bytes of an ASCII literal
abbrev pub ascii : S.String → Str
ascii S.[] = []
ascii (S.◌∷◌ c s) = code c ∷ ascii s

-- one byte
abbrev pub unit : ℕ → Str
unit b = b ∷ []

-- the first where the test holds, else the second
abbrev pub cond {ℓ} : {A : Type ℓ} → Bool → A → A → A
cond true a b = a
cond false a b = b

abbrev pub both : Bool → Bool → Bool
both true b = b
both false b = false

abbrev pub either : Bool → Bool → Bool
either true b = true
either false b = b

-- whether two byte strings are equal
unfoldable pub same : Str → Str → Bool
same [] [] = true
same [] (y ∷ ys) = false
same (x ∷ xs) [] = false
same (x ∷ xs) (y ∷ ys) = both (eqb x y) (same xs ys)
