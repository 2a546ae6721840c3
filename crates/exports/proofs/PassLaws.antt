-- What a pass over a text says is what is told of it at the boundary, in each way in which it ends. Assumes nothing.
use mathlib.Core.Path.{◌≡◌, refl}
use Rattle.std.specs.Prelude.{Ok, Err}
use Prim.Native.Nat.{ℕ, ◌-◌, ◌^◌, ◌≤◌, ◌<◌, min}
use native.Mathlib.Omega.{arith}
use borrow.Author.Tests.{le-ltb, lt-ltb}
use lib.ListN.{length}
use Rattle.text.specs.Bytes.{Str}
use Rattle.terms.specs.Refusals.{number}
use Rattle.terms.specs.declared.refusals.Refusal.{Refusal}
use Rattle.tree.proofs.OtherLines.{never}
use Rattle.codegen_types.specs.Out.{Out, ok, refused}
use Rattle.requests.specs.Told.{Passed}
use Rattle.exports.specs.Boundary.{PassTold}

-- a text that is whole, one that is longer than the buffer, and a refusal
pub whole-told : (o : Out Str) (l l' : Str) (n : ℕ) → length l < 2 ^ 64 - 1 → n ≤ length l → Passed o l l' (Ok n)
    → PassTold o l l' 0 n
whole-told (ok w) l l' n b h p =
    let says = p.says in
    let z : n ≡ min (length w) (2 ^ 64 - 1) = cc in
    let e : n ≡ length w = omega (arith, z) in
    let fits : length w ≤ length l = omega (arith, e) in
    record {
      number_is = rw (le-ltb (length l) (length w) fits) refl;
      length-is = rw (le-ltb (length l) (length w) fits) e;
      text = p.text;
    }
whole-told (refused k) l l' n b h p = let says = p.says in never cc

pub long-told : (o : Out Str) (l l' : Str) (n : ℕ) → length l < n → Passed o l l' (Ok n) → PassTold o l l' 22 n
long-told (ok w) l l' n h p =
    let says = p.says in
    let z : n ≡ min (length w) (2 ^ 64 - 1) = cc in
    let longer : length l < length w = omega (arith, z) in
    record {
      number_is = rw (lt-ltb (length l) (length w) longer) refl;
      length-is = rw (lt-ltb (length l) (length w) longer) z;
      text = p.text;
    }
long-told (refused k) l l' n h p = let says = p.says in never cc

pub refusal-told : (o : Out Str) (l l' : Str) (e : Refusal) → Passed o l l' (Err e) → PassTold o l l' (number e) 0
refusal-told (ok w) l l' e p = let says = p.says in never cc
refusal-told (refused k) l l' e p =
    let says = p.says in
    record {
      number_is = cc;
      length-is = refl;
      text = p.text;
    }
