-- What belongs to a row of a type, by which the code passes over types that are not asked for. Assumes nothing.
use Rattle.std.specs.Prelude.{◌≡◌, Bool, true, false, ℕ, ◌≤◌, ◌<◌, eqb, ltb, length, drop}
use Rattle.text.specs.Bytes.{Str, cond}
use Rattle.row.specs.Rows.{rows, rest_of}
use Rattle.row.specs.Line.{Content, line_at, as_type, as_scope, as_unbound}
use Rattle.row.specs.declared.Owing.{Owing}

-- how many types, scopes or bindings a line announces: a list one, a brand its scopes, a bind its bindings
unfoldable pub owed : Content → ℕ
owed l =
    as_type l (λ k a b c. cond (ltb k 14) 0 (cond (eqb k 14) 1 (cond (ltb k 18) b 0)))
    (as_scope l (λ i b n. cond (eqb b 0) 0 n) 0)

-- whether a line is part of a type: a T, an S or a U
abbrev pub is_part : Content → Bool
is_part l = as_type l (λ k a b c. true) (as_scope l (λ i b n. true) (as_unbound l true false))

-- what the row at a position announces and where the next row begins, if it is part of a type; in any case that is further on
pub record PartAt (s : Str) (at : ℕ) (r : Owing) : Type 0 where
  pub owes : is_part (line_at (rows (drop at s))) ≡ true → r.owed ≡ owed (line_at (rows (drop at s)))
  pub rest : is_part (line_at (rows (drop at s))) ≡ true → rows (drop r.next s) ≡ rest_of (rows (drop at s))
  pub after : at ≤ r.next
  pub further : at < length s → at < r.next
