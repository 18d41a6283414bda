-- Request Two: the numbers of form, each exactly under its condition; without a number there is no fault, and back; the numbers of before.
-- Assumes nothing.
use mathlib.Core.Path.{◌≡◌, refl, sym, ap, ◌∙◌}
use mathlib.Core.Bool.{Bool, true, false, cond, not, ◌&&◌, ◌||◌, or-false}
use Prim.Native.Nat.{ℕ}
use lib.Dec.{eqb}
use borrow.Author.Tests.{eqb-true, eq-eqb, not-true}
use Rattle.network.specs.Faults.{node_fault, pair_fault_of, origin_fault, row_label_fault, report_label_fault, predecessor_fault, list_fault_of, arc_fault, row_fault_of, report_fault_of, row_form_number, report_form_number}
use Rattle.network.specs.Network.{Net}
use Rattle.network.specs.Placing.{place_row_number, place_report_number}
use Rattle.network.specs.Form.{RowNumbered, ReportNumbered, as_before}

-- ---- of four tests the number of the first that holds; a report has no test of a predecessor

abbrev four : Bool → Bool → Bool → Bool → ℕ
four a b c d = cond a 5 (cond b 10 (cond c 11 (cond d 12 0)))

four_tests : (a b c d : Bool) → (eqb (four a b c d) 5 ≡ a) × (eqb (four a b c d) 10 ≡ (not a && b)) × (eqb (four a b c d) 11 ≡ (not (a || b) && c)) ×
    (eqb (four a b c d) 12 ≡ (not (a || (b || c)) && d)) × (eqb (four a b c d) 0 ≡ not (a || (b || (c || d)))) ×
    (as_before (four a b c d) ≡ cond (a || (b || (c || d))) 5 0)
unfolding as_before
four_tests true b c d = (refl, refl, refl, refl, refl, refl)
four_tests false true c d = (refl, refl, refl, refl, refl, refl)
four_tests false false true d = (refl, refl, refl, refl, refl, refl)
four_tests false false false true = (refl, refl, refl, refl, refl, refl)
four_tests false false false false = (refl, refl, refl, refl, refl, refl)

-- ---- rows

module _ (n origin y d p l : ℕ) where
  pub row_numbered : RowNumbered n origin y d p l
  unfolding row_form_number row_fault_of
  row_numbered =
      let t = four_tests (origin_fault origin y) (row_label_fault d) (predecessor_fault n y p) (list_fault_of n y l) in
      record { form = t.0; label = t.1; predecessor = t.2; list = t.3; none = t.4 }

  pub row_form_none : row_form_number n origin y d p l ≡ 0 → row_fault_of n origin y d p l ≡ false
  row_form_none e = not-true _ (sym row_numbered.none ∙ eq-eqb _ 0 e)

  pub row_form_free : row_fault_of n origin y d p l ≡ false → row_form_number n origin y d p l ≡ 0
  row_form_free e = eqb-true _ 0 (row_numbered.none ∙ ap not e)

-- ---- reports

module _ (n c s d l : ℕ) where
  pub report_numbered : ReportNumbered n c s d l
  unfolding report_form_number report_fault_of
  report_numbered =
      let t = four_tests (arc_fault c) (report_label_fault d) false (list_fault_of n s l) in
      let both = ap (λ b. not (arc_fault c || b) && list_fault_of n s l) (or-false (report_label_fault d)) in
      record { form = t.0; label = t.1; list = t.3 ∙ both; none = t.4 }

  pub report_form_none : report_form_number n c s d l ≡ 0 → report_fault_of n c s d l ≡ false
  report_form_none e = not-true _ (sym report_numbered.none ∙ eq-eqb _ 0 e)

  pub report_form_free : report_fault_of n c s d l ≡ false → report_form_number n c s d l ≡ 0
  report_form_free e = eqb-true _ 0 (report_numbered.none ∙ ap not e)

-- ---- placed in a network: the numbers of before

then_before : (t : Bool) (k b : ℕ) → as_before k ≡ b → as_before (cond t 3 k) ≡ cond t 3 b
unfolding as_before
then_before true k b e = refl
then_before false k b e = e

pub place_row_before : (x : Net) (y d p l : ℕ) →
    as_before (place_row_number x y d p l) ≡ cond (node_fault x.nodes y) 3 (cond (row_fault_of x.nodes x.origin y d p l) 5 0)
unfolding place_row_number row_form_number row_fault_of
place_row_before x y d p l =
    then_before (node_fault x.nodes y) _ _
    (four_tests (origin_fault x.origin y) (row_label_fault d) (predecessor_fault x.nodes y p) (list_fault_of x.nodes y l)).5

pub place_report_before : (x : Net) (s r d l : ℕ) →
    as_before (place_report_number x s r d l) ≡ cond (pair_fault_of x.nodes s r) 3 (cond (report_fault_of x.nodes (x.cost s r) s d l) 5 0)
unfolding place_report_number report_form_number report_fault_of
place_report_before x s r d l =
    then_before (pair_fault_of x.nodes s r) _ _ (four_tests (arc_fault (x.cost s r)) (report_label_fault d) false (list_fault_of x.nodes s l)).5
