-- `names::keywords::is_keyword` meets its contract: the words of each arm are the keywords of that length, computed. Assumes
-- nothing.
use mathlib.Core.Path.{refl, sym}
use native.Mathlib.Omega.{arith}
use Rattle.names.proofs.KeywordLaws.{of_length_lem, of_no-length}
use Rattle.names.proofs.keywords.is_keyword.Goals as goal

pub returns-in-2 : goal.returns-in-2
returns-in-2 c = of_length_lem _ _ _ 2 c.in-2.is c.one_of.ensures refl

pub returns-in-3 : goal.returns-in-3
returns-in-3 c = of_length_lem _ _ _ 3 c.in-3.is c.one_of-in-3.ensures refl

pub returns-in-4 : goal.returns-in-4
returns-in-4 c = of_length_lem _ _ _ 4 c.in-4.is c.one_of-in-4.ensures refl

pub returns-in-5 : goal.returns-in-5
returns-in-5 c = of_length_lem _ _ _ 5 c.in-5.is c.one_of-in-5.ensures refl

pub returns-in-6 : goal.returns-in-6
returns-in-6 c = of_length_lem _ _ _ 6 c.in-6.is c.one_of-in-6.ensures refl

pub returns-in-7 : goal.returns-in-7
returns-in-7 c = of_length_lem _ _ _ 7 c.in-7.is c.one_of-in-7.ensures refl

pub returns-in-8 : goal.returns-in-8
returns-in-8 c = of_length_lem _ _ _ 8 c.in-8.is c.one_of-in-8.ensures refl

pub returns-in_default : goal.returns-in_default
returns-in_default c = sym (of_no-length _ (λ h. omega arith))
