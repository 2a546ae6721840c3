-- Laws of the calls at each sheet of an input: what may and has still to be called from a place on, and what each answer leaves
-- of it. Assumes nothing.
use mathlib.Core.Path.{◌≡◌, refl}
use mathlib.Core.List.{List, [], ◌∷◌}
use Prim.Native.Nat.{ℕ, zero, suc, ◌+◌, ◌<◌, ◌≤◌}
use native.Mathlib.Omega.{arith}
use lib.ListN.{length}
use denote.Ref.{Bor}
use denote.Param.Always.{always_mut, mut_next}
use borrow.Author.Tests.{lt-ltb, le-ltb}
use Rattle.std.specs.Prelude.{Result, Ok, Err, slice_range}
use Rattle.std.specs.Fn.{Mut, TakesAt, CalledAt}
use Rattle.text.specs.Bytes.{Str}
use Rattle.programs.specs.declared.Sheet.{Sheet}
use Rattle.programs.specs.Input.{sheet_after, sheets_from, sheets_of, CallableUpToErr, CalledUpToErr}

-- no sheet begins at the end or past it; before it one does, and the others come after its end
pub sheets-none : (left : ℕ) (s : Str) (at : ℕ) → length s ≤ at → sheets_from left s at ≡ []
unfolding sheets_from
sheets-none zero s at h = refl
sheets-none (suc left) s at h = rw (le-ltb at (length s) h)

pub sheets-some :
    (left : ℕ) (s : Str) (at : ℕ) → at < length s
    → sheets_from (suc left) s at
    ≡ slice_range s (sheet_after s at).start (sheet_after s at).end ∷ sheets_from left s (sheet_after s at).end
unfolding sheets_from
sheets-some left s at h = rw (lt-ltb at (length s) h)

module _ {F E : Type 0} (may : F → Str → Type 0) (call : F → Str → Result (Unit {0}) E → F → Type 0) (first : F) (s : Str) where
  -- an outcome of calls at these from f on is one of calls at all sheets
  abbrev Owed : F → List Str → Type 0
  Owed f xs = (r : Result (Unit {0}) E) → CalledUpToErr call f xs r → CalledUpToErr call first (sheets_of s) r

  -- what may be called and is still owed are calls at the sheets from a place on
  pub record Handing (f : F) (at : ℕ) : Type 0 where
    pub left : ℕ
    pub enough : length s ≤ left + at
    pub callable : CallableUpToErr may call f (sheets_from left s at)
    pub owed : Owed f (sheets_from left s at)

  pub handing-all : CallableUpToErr may call first (sheets_of s) → Handing first 0
  handing-all m = record { left = length s; enough = omega arith; callable = m; owed = λ r h. h }

  pub handed-all : (f : F) (at : ℕ) → length s ≤ at → Handing f at → CalledUpToErr call first (sheets_of s) (Ok tt)
  handed-all f at h i = i.owed (Ok tt) (rw (sheets-none i.left s at h) refl)

  module _ (f : F) (at : ℕ) (sheet : Sheet) (here : at < length s) (is : sheet ≡ sheet_after s at) where
    -- the sheet here is the first of those that are left
    record Next : Type 0 where
      pub others : ℕ
      pub enough : length s ≤ others + (at + 1)
      pub callable : CallableUpToErr may call f (slice_range s sheet.start sheet.end ∷ sheets_from others s sheet.end)
      pub owed : Owed f (slice_range s sheet.start sheet.end ∷ sheets_from others s sheet.end)

    next-by :
        (left : ℕ) → length s ≤ left + at → CallableUpToErr may call f (sheets_from left s at) → Owed f (sheets_from left s at)
        → Next
    next-by zero e m k = absurd (omega arith)
    next-by (suc n) e m k = record {
      others = n;
      enough = omega arith;
      callable = rw is (rw (sheets-some n s at here) at m);
      owed = λ r h. k r (rw (sheets-some n s at here, ← is) h);
    }

    next-of : Handing f at → Next
    next-of i = next-by i.left i.enough i.callable i.owed

    -- so the call at it may be made
    pub may-hand : Handing f at → may f (slice_range s sheet.start sheet.end)
    may-hand i = (next-of i).callable.0

    -- it answers `Ok`, and the sheets after it are left
    pub handed-on :
        (next : F) → at + 1 ≤ sheet.end → call f (slice_range s sheet.start sheet.end) (Ok tt) next → Handing f at
        → Handing next sheet.end
    handed-on next past c i =
        let k = next-of i in record {
          left = k.others;
          enough = omega (arith, k.enough);
          callable = k.callable.1 next c;
          owed = λ r h. k.owed r (Ok tt, next, c, h);
        }

    -- it answers an error, and this is the outcome
    pub handed-err :
        (next : F) (e : E) → call f (slice_range s sheet.start sheet.end) (Err e) next → Handing f at
        → CalledUpToErr call first (sheets_of s) (Err e)
    handed-err next e c i = (next-of i).owed (Err e) (Err e, next, c, refl)

-- a function that may always be called may be called so
pub callable_always :
    {F X E : Type 0} (g : Mut F (Bor X × Unit {0}) (Result (Unit {0}) E)) (f : F) (xs : List X) → always_mut g f
    → CallableUpToErr (TakesAt g) (CalledAt g) f xs
callable_always g f [] h = tt
callable_always g f (x ∷ xs) h = (
  λ y e. (h.at ((y, tt) ∷ [])).0,
  λ next c. callable_always g next xs (mut_next g f (c.shown, tt) (Ok tt) next next c.called refl h),
)
