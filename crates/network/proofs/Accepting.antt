-- What it means that a call is accepted: its tests fail; and the number of one that is not. (A round call's: Marking.)
-- Assumes nothing.
use mathlib.Core.Path.{◌≡◌, refl}
use mathlib.Core.Bool.{Bool, true, false, cond, ◌||◌, or-true}
use Prim.Native.Nat.{ℕ, suc}
use native.Mathlib.Omega.{arith}
use Rattle.ancestors.proofs.Cases.{or_neither}
use Rattle.network.specs.Faults.{size_fault, node_fault, pair_fault_of, cost_fault, grade_fault, row_fault_of, report_fault_of, row_form_number, report_form_number}
use Rattle.network.specs.Network.{Net, fresh_number}
use Rattle.network.specs.Placing.{place_row_number, place_report_number}
use Rattle.network.specs.Change.{change_number, grade_number}
use Rattle.network.proofs.Form.{row_form_none, row_form_free, report_form_none, report_form_free}

-- a call with one test, and one with a number after it
one_test : (t : Bool) (k : ℕ) → cond t (suc k) 0 ≡ 0 → t ≡ false
one_test true k e = absurd (omega arith)
one_test false k e = refl

then_number : (a : Bool) (j k : ℕ) → cond a (suc j) k ≡ 0 → (a ≡ false) × (k ≡ 0)
then_number true j k e = absurd (omega arith)
then_number false j k e = (refl, e)

pub fresh_accepted : (n origin : ℕ) → fresh_number n origin ≡ 0 → size_fault n origin ≡ false
unfolding fresh_number
fresh_accepted n origin e = one_test (size_fault n origin) 2 e

pub change_accepted : (x : Net) (s r c : ℕ) → change_number x s r c ≡ 0 → (pair_fault_of x.nodes s r ≡ false) × (cost_fault c ≡ false)
unfolding change_number
change_accepted x s r c e = or_neither (pair_fault_of x.nodes s r) (cost_fault c) (one_test (pair_fault_of x.nodes s r || cost_fault c) 2 e)

pub grade_accepted : (x : Net) (s r g : ℕ) → grade_number x s r g ≡ 0 → (pair_fault_of x.nodes s r ≡ false) × (grade_fault g ≡ false)
unfolding grade_number
grade_accepted x s r g e = or_neither (pair_fault_of x.nodes s r) (grade_fault g) (one_test (pair_fault_of x.nodes s r || grade_fault g) 2 e)

pub place_row_accepted : (x : Net) (y d p l : ℕ) → place_row_number x y d p l ≡ 0 →
    (node_fault x.nodes y ≡ false) × (row_fault_of x.nodes x.origin y d p l ≡ false)
unfolding place_row_number
place_row_accepted x y d p l e =
    let t = then_number (node_fault x.nodes y) 2 (row_form_number x.nodes x.origin y d p l) e in
    (t.0, row_form_none x.nodes x.origin y d p l t.1)

pub place_report_accepted : (x : Net) (s r d l : ℕ) → place_report_number x s r d l ≡ 0 →
    (pair_fault_of x.nodes s r ≡ false) × (report_fault_of x.nodes (x.cost s r) s d l ≡ false)
unfolding place_report_number
place_report_accepted x s r d l e =
    let t = then_number (pair_fault_of x.nodes s r) 2 (report_form_number x.nodes (x.cost s r) s d l) e in
    (t.0, report_form_none x.nodes (x.cost s r) s d l t.1)

-- ---- and without a fault the call is accepted

pub fresh_free : (n origin : ℕ) → size_fault n origin ≡ false → fresh_number n origin ≡ 0
unfolding fresh_number
fresh_free n origin e = rw e

pub change_free : (x : Net) (s r c : ℕ) → pair_fault_of x.nodes s r ≡ false → cost_fault c ≡ false → change_number x s r c ≡ 0
unfolding change_number
change_free x s r c e f = rw (e, f)

pub place_row_free : (x : Net) (y d p l : ℕ) → node_fault x.nodes y ≡ false → row_fault_of x.nodes x.origin y d p l ≡ false →
    place_row_number x y d p l ≡ 0
unfolding place_row_number
place_row_free x y d p l e f = rw e (row_form_free x.nodes x.origin y d p l f)

pub place_report_free : (x : Net) (s r d l : ℕ) → pair_fault_of x.nodes s r ≡ false → report_fault_of x.nodes (x.cost s r) s d l ≡ false →
    place_report_number x s r d l ≡ 0
unfolding place_report_number
place_report_free x s r d l e f = rw e (report_form_free x.nodes (x.cost s r) s d l f)

-- ---- and with one it is refused as 3

pub change_bad_pair : (x : Net) (s r c : ℕ) → pair_fault_of x.nodes s r ≡ true → change_number x s r c ≡ 3
unfolding change_number
change_bad_pair x s r c e = rw e

pub change_bad_cost : (x : Net) (s r c : ℕ) → cost_fault c ≡ true → change_number x s r c ≡ 3
unfolding change_number
change_bad_cost x s r c e = rw (e, or-true (pair_fault_of x.nodes s r))

pub grade_bad_value : (x : Net) (s r g : ℕ) → grade_fault g ≡ true → grade_number x s r g ≡ 3
unfolding grade_number
grade_bad_value x s r g e = rw (e, or-true (pair_fault_of x.nodes s r))
