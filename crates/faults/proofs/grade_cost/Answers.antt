-- `faults::grade_cost` meets its contract: the code's table is the definition's.
-- Assumes nothing.
use mathlib.Core.Path.{refl, sym}
use Rattle.network.specs.Change.{grade_cost_of, grades}
use lib.ListN.{get_or-eq_default}
use Rattle.faults.proofs.grade_cost.Goals as goal

pub returns-then-grade-gt-MAX_GRADE : goal.returns-then-grade-gt-MAX_GRADE
unfolding grade_cost_of
returns-then-grade-gt-MAX_GRADE c = sym (get_or-eq_default grades 0 c.if-grade-gt-MAX_GRADE.true)

pub returns : goal.returns
unfolding grade_cost_of
returns c = refl
