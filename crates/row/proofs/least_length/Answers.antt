-- `row::least_length` meets its contract: by the letter, a law of ShortLaws. Assumes nothing.
use native.Mathlib.Omega.{arith}
use Rattle.row.specs.Line.{reader}
use Rattle.row.proofs.ShortLaws.{root-cut, node-cut, parameter-cut, field_cut, group-cut}
use Rattle.row.proofs.ShortLaws.{type-cut, scope-cut, value-cut, word_cut}
use Rattle.row.proofs.least_length.Goals as goal

pub returns-in-82 : goal.returns-in-82
unfolding reader
returns-in-82 c = rw c.in-82.is root-cut

pub returns-in-78 : goal.returns-in-78
unfolding reader
returns-in-78 c = rw c.in-78.is node-cut

pub returns-in-80 : goal.returns-in-80
unfolding reader
returns-in-80 c = rw c.in-80.is parameter-cut

pub returns-in-70 : goal.returns-in-70
unfolding reader
returns-in-70 c = rw c.in-70.is field_cut

pub returns-in-71 : goal.returns-in-71
unfolding reader
returns-in-71 c = rw c.in-71.is group-cut

pub returns-in-84 : goal.returns-in-84
unfolding reader
returns-in-84 c = rw c.in-84.is type-cut

pub returns-in-83 : goal.returns-in-83
unfolding reader
returns-in-83 c = rw c.in-83.is scope-cut

pub returns-in-85 : goal.returns-in-85
returns-in-85 c u w some h = let z : ⊥ = omega arith in absurd z

pub returns-in-86 : goal.returns-in-86
unfolding reader
returns-in-86 c = rw c.in-86.is value-cut

pub returns-in-87 : goal.returns-in-87
unfolding reader
returns-in-87 c = rw c.in-87.is word_cut

pub returns-in_default : goal.returns-in_default
returns-in_default c u w some h = let z : ⊥ = omega arith in absurd z
