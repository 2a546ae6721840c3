-- What a writer does: `put` is the buffer afterwards, `adv` the state. Assumes nothing.
use Rattle.std.specs.Prelude.{◌≡◌, List, [], ◌∷◌, ℕ, ◌+◌, ◌-◌, ◌^◌, min, set}
use Rattle.text.specs.declared.Text.{Text}

-- the state at a fill count and a level, and at level 0
abbrev pub state_at_level : ℕ → ℕ → Text
state_at_level n level = record { at = n; level = level }

abbrev pub state_at : ℕ → Text
state_at n = state_at_level n 0

-- a state at another fill count, at its own level
abbrev pub with_fill : Text → ℕ → Text
with_fill t n = state_at_level n t.level

-- one place on; a count stops at the largest usize
unfoldable pub next : Text → Text
next t = with_fill t (min (t.at + 1) (2 ^ 64 - 1))

-- the state after a text
unfoldable pub adv : Text → List ℕ → Text
adv t [] = t
adv t (x ∷ xs) = adv (next t) xs

-- the buffer after a text: `set` past the end changes nothing
unfoldable pub put : List ℕ → Text → List ℕ → List ℕ
put l t [] = l
put l t (x ∷ xs) = put (set l t.at x) (next t) xs

-- text s, written at t into l, leaves l' and t'
pub record Wrote (l : List ℕ) (t : Text) (s : List ℕ) (l' : List ℕ) (t' : Text) : Type 0 where
  pub bytes : l' ≡ put l t s
  pub state : t' ≡ adv t s

-- Text of lines, by the level at which they begin: that of the state t, written at t into l, leaves l' and t'.
pub record WroteLines (l : List ℕ) (t : Text) (s : ℕ → List ℕ) (l' : List ℕ) (t' : Text) : Type 0 where
  pub lines : Wrote l t (s t.level) l' t'

-- some text, written at t into l, leaves l' and t': no byte before the fill count changes, and the count does not fall
pub record WroteSome (l : List ℕ) (t : Text) (l' : List ℕ) (t' : Text) : Type 0 where
  pub text : List ℕ
  pub wrote : Wrote l t text l' t'
