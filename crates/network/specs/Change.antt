-- Document 01, "Changing an arc": changes and grades.
-- Assumes nothing.
use Rattle.std.specs.Prelude.{cond, ◌||◌, List, [], ◌∷◌, ℕ, eqb, get_or}
use Rattle.network.specs.Faults.{pair_fault_of, cost_fault, grade_fault}
use Rattle.network.specs.Network.{empty, Net, with_cost, with_held, Outcome, outcome}

-- A change sets a pair's cost; cost 0 removes the arc and empties its held report. A set arc keeps the report it holds; a new one starts
-- empty. Rows wait for the next round.
unfoldable pub changed : Net → ℕ → ℕ → ℕ → Net
changed x s r c = with_held (with_cost x s r c) s r (cond (eqb c 0 || eqb (x.cost s r) 0) empty (x.held s r))

-- 3 for a bad pair or a cost above 65,535
unfoldable pub change_number : Net → ℕ → ℕ → ℕ → ℕ
change_number x s r c = cond (pair_fault_of x.nodes s r || cost_fault c) 3 0

-- accepted, the network so changed
unfoldable pub change_of : Net → ℕ → ℕ → ℕ → Outcome
change_of x s r c = outcome (change_number x s r c) (changed x s r c) x

-- grades 0 to 15 stand for these costs, in order; grade 0 removes
abbrev pub grades : List ℕ
grades = 0 ∷ 600 ∷ 480 ∷ 380 ∷ 300 ∷ 240 ∷ 190 ∷ 150 ∷ 120 ∷ 95 ∷ 75 ∷ 60 ∷ 48 ∷ 38 ∷ 30 ∷ 24 ∷ []

-- the cost of a grade
unfoldable pub grade_cost_of : ℕ → ℕ
grade_cost_of g = get_or grades g 0

-- 3 for a bad pair or a grade above 15
unfoldable pub grade_number : Net → ℕ → ℕ → ℕ → ℕ
grade_number x s r g = cond (pair_fault_of x.nodes s r || grade_fault g) 3 0

-- accepted, the change to the grade's cost
unfoldable pub grade_of : Net → ℕ → ℕ → ℕ → Outcome
grade_of x s r g = outcome (grade_number x s r g) (changed x s r (grade_cost_of g)) x
