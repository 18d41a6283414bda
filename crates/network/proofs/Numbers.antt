-- The numbers that calls but the route call answer: 0 to 7 and 10 to 12.
-- Assumes nothing.
use mathlib.Core.Bool.{Bool, cond, not, ◌||◌}
use mathlib.Core.List.{List}
use Prim.Native.Nat.{ℕ, ◌<◌}
use native.Mathlib.Omega.{arith}
use lib.Dec.{eqb}
use lib.ListN.{length}
use Rattle.ancestors.proofs.Cases.{cond_by}
use Rattle.network.specs.Faults.{size_fault, node_fault, pair_fault_of, cost_fault, origin_fault, row_label_fault, report_label_fault, predecessor_fault, list_fault_of, arc_fault, row_form_number, report_form_number, first_number, FileNumber, early, later}
use Rattle.network.specs.Network.{Net, fresh_number}
use Rattle.network.specs.Placing.{place_row_number, place_report_number}
use Rattle.network.specs.Change.{change_number}
use Rattle.network.specs.Round.{marked, stray_mark, idle_mark, round_number}

-- a number fits five bits
pub number_fits : (k : ℕ) → FileNumber k → k < 32
number_fits k (early h) = omega arith
number_fits k (later g h) = omega arith

-- of two numbers the one taken, of a test its number, of two numbers the first
cond_of_file : (t : Bool) (a b : ℕ) → FileNumber a → FileNumber b → FileNumber (cond t a b)
cond_of_file t a b f g = cond_by FileNumber t a b (λ _. f) (λ _. g)

pub test_of_file : (t : Bool) (k : ℕ) → FileNumber k → FileNumber (cond t k 0)
test_of_file t k h = cond_of_file t k 0 h (early (omega arith))

pub first_of_file : (a b : ℕ) → FileNumber a → FileNumber b → FileNumber (first_number a b)
unfolding first_number
first_of_file a b f g = cond_of_file (eqb a 0) b a g f

pub fresh_of_file : (n origin : ℕ) → FileNumber (fresh_number n origin)
unfolding fresh_number
fresh_of_file n origin = test_of_file (size_fault n origin) 3 (early (omega arith))

pub change_of_file : (x : Net) (s r c : ℕ) → FileNumber (change_number x s r c)
unfolding change_number
change_of_file x s r c = test_of_file (pair_fault_of x.nodes s r || cost_fault c) 3 (early (omega arith))

pub place_row_of_file : (x : Net) (y d p l : ℕ) → FileNumber (place_row_number x y d p l)
unfolding place_row_number row_form_number
place_row_of_file x y d p l =
    cond_of_file (node_fault x.nodes y) 3 _ (early (omega arith))
    (cond_of_file (origin_fault x.origin y) 5 _ (early (omega arith))
    (cond_of_file (row_label_fault d) 10 _ (later (omega arith) (omega arith))
    (cond_of_file (predecessor_fault x.nodes y p) 11 _ (later (omega arith) (omega arith))
    (test_of_file (list_fault_of x.nodes y l) 12 (later (omega arith) (omega arith))))))

pub place_report_of_file : (x : Net) (s r d l : ℕ) → FileNumber (place_report_number x s r d l)
unfolding place_report_number report_form_number
place_report_of_file x s r d l =
    cond_of_file (pair_fault_of x.nodes s r) 3 _ (early (omega arith))
    (cond_of_file (arc_fault (x.cost s r)) 5 _ (early (omega arith))
    (cond_of_file (report_label_fault d) 10 _ (later (omega arith) (omega arith))
    (test_of_file (list_fault_of x.nodes s l) 12 (later (omega arith) (omega arith)))))

pub round_of_file : (x : Net) (ms : List ℕ) → FileNumber (round_number x ms)
unfolding round_number
round_of_file x ms =
    cond_of_file (not (eqb (length ms) 32)) 1 _ (early (omega arith))
    (cond_of_file (stray_mark x.nodes (marked ms)) 3 _ (early (omega arith))
    (test_of_file (idle_mark x.cost (marked ms)) 7 (early (omega arith))))
