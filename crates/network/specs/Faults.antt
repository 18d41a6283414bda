-- Document 01, "What input alone brings on", with request Two: the limits, the conditions behind numbers 3, 5, 10, 11 and 12, each by itself, and
-- the order of numbers.
-- Assumes nothing.
use Rattle.std.specs.Prelude.{Bool, cond, not, ◌||◌, ℕ, ◌*◌, ◌^◌, ◌≤◌, eqb, ltb, leb}
use Rattle.ancestors.specs.Ancestors.{has}

-- the most nodes
abbrev pub max_nodes : ℕ
max_nodes = 32

-- the pairs of so many nodes, those of equal nodes among them
abbrev pub pair_count : ℕ
pair_count = max_nodes * max_nodes

-- the largest cost
abbrev pub max_cost : ℕ
max_cost = 65535

-- the largest label: 31 times the largest cost
abbrev pub max_label : ℕ
max_label = 31 * max_cost

-- the highest grade
abbrev pub max_grade : ℕ
max_grade = 15

-- ---- 3, range

-- n is 0 or above 32, or the origin is not below n
unfoldable pub size_fault : ℕ → ℕ → Bool
size_fault n origin = eqb n 0 || (ltb max_nodes n || leb n origin)

-- a node is not below n
unfoldable pub node_fault : ℕ → ℕ → Bool
node_fault n y = leb n y

-- the sender or the receiver is not below n, or they are equal
unfoldable pub pair_fault_of : ℕ → ℕ → ℕ → Bool
pair_fault_of n s r = leb n s || (leb n r || eqb s r)

-- a cost above 65,535
unfoldable pub cost_fault : ℕ → Bool
cost_fault c = ltb max_cost c

-- a grade above 15
unfoldable pub grade_fault : ℕ → Bool
grade_fault g = ltb max_grade g

-- ---- 5, 10, 11 and 12, form

-- 5: a row for the origin
unfoldable pub origin_fault : ℕ → ℕ → Bool
origin_fault origin y = eqb y origin

-- 5: a report without an arc, whose cost would be c
unfoldable pub arc_fault : ℕ → Bool
arc_fault c = eqb c 0

-- 10: a row's label is 0 or above the largest
unfoldable pub row_label_fault : ℕ → Bool
row_label_fault d = eqb d 0 || ltb max_label d

-- 10: a report's label is above the largest
unfoldable pub report_label_fault : ℕ → Bool
report_label_fault d = ltb max_label d

-- 11: a predecessor is not below n or is the node itself
unfoldable pub predecessor_fault : ℕ → ℕ → ℕ → Bool
predecessor_fault n y p = leb n p || eqb p y

-- 12: a list has a bit not below n, or lacks the bit of node i
unfoldable pub list_fault_of : ℕ → ℕ → ℕ → Bool
list_fault_of n i l = leb (2 ^ n) l || not (has l i)

-- a row of node y has one of these faults
unfoldable pub row_fault_of : ℕ → ℕ → ℕ → ℕ → ℕ → ℕ → Bool
row_fault_of n origin y d p l = origin_fault origin y || (row_label_fault d || (predecessor_fault n y p || list_fault_of n y l))

-- a report of sender s over an arc of cost c has one of these faults
unfoldable pub report_fault_of : ℕ → ℕ → ℕ → ℕ → ℕ → Bool
report_fault_of n c s d l = arc_fault c || (report_label_fault d || list_fault_of n s l)

-- ---- order

-- the number of a row: 5, then 10, then 11, then 12
unfoldable pub row_form_number : ℕ → ℕ → ℕ → ℕ → ℕ → ℕ → ℕ
row_form_number n origin y d p l =
    cond (origin_fault origin y) 5 (cond (row_label_fault d) 10 (cond (predecessor_fault n y p) 11 (cond (list_fault_of n y l) 12 0)))

-- the number of a report: 5, then 10, then 12
unfoldable pub report_form_number : ℕ → ℕ → ℕ → ℕ → ℕ → ℕ
report_form_number n c s d l = cond (arc_fault c) 5 (cond (report_label_fault d) 10 (cond (list_fault_of n s l) 12 0))

-- the first of two numbers that is not 0
unfoldable pub first_number : ℕ → ℕ → ℕ
first_number a b = cond (eqb a 0) b a

-- ---- all of them

-- the numbers with which a change, a round or a record of a file is refused, and 0: up to 12, without the route call's own, 8 and 9
pub data FileNumber (k : ℕ) : Type 0 where
  early : k ≤ 7 → FileNumber k
  later : 10 ≤ k → k ≤ 12 → FileNumber k
