-- What a function of the Rust gives: a value, or the number of the refusal that its error or panic becomes. Assumes nothing.
use Rattle.std.specs.Prelude.{Option, None, Some}
use Rattle.std.specs.Prelude.{ℕ}

pub data Out (A : Type 0) : Type 0 where
  ok : A → Out A
  refused : ℕ → Out A

infixl 20 ◌then◌
-- the Rust's `?`
abbrev pub ◌then◌ : {A B : Type 0} → Out A → (A → Out B) → Out B
ok a then f = f a
refused k then f = refused k

-- what may be missing is there, or is refused with a number
abbrev pub or_refused : {A : Type 0} → ℕ → Option A → Out A
or_refused k None = refused k
or_refused k (Some a) = ok a

-- the number of the refusal, if there is one
abbrev pub refusal_of : {A : Type 0} → Out A → Option ℕ
refusal_of (ok a) = None
refusal_of (refused k) = Some k
