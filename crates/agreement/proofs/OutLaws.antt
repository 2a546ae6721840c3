-- What is known of the steps of a function of the Rust that gave something: each of them gave something, and no test of them
-- refused. Assumes nothing.
use Rattle.std.specs.Prelude.{◌≡◌, ℕ, Bool, true, false}
use mathlib.Core.Path.{refl}
use Rattle.text.specs.Bytes.{cond}
use Rattle.codegen_types.specs.Out.{Out, ok, refused, ◌then◌}

pub ok-is : {A : Type 0} {a b : A} → ok a ≡ ok b → a ≡ b
ok-is e = cc

-- the first step gave a, and the rest went on with it
pub record Went {A B : Type 0} (o : Out A) (f : A → Out B) (b : B) : Type 0 where
  pub value : A
  pub first : o ≡ ok value
  pub rest : f value ≡ ok b

pub then_ok : {A B : Type 0} (o : Out A) (f : A → Out B) (b : B) → (o then f) ≡ ok b → Went o f b
then_ok (ok a) f b e = record { value = a; first = refl; rest = e }
then_ok (refused k) f b e = cc

-- a test that did not refuse
pub cond-ok : {A : Type 0} (t : Bool) (a : A) (k : ℕ) (b : A) → cond t (ok a) (refused k) ≡ ok b → (t ≡ true) × (a ≡ b)
cond-ok true a k b e = (refl, cc)
cond-ok false a k b e = cc
