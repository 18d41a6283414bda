-- Request Two, stated: each number of form is given exactly under its condition, after the ones before it, and 0 exactly without a fault of form.
-- The number of before, for the statement about records (records/specs/Refusals).
-- Assumes nothing.
use Rattle.std.specs.Prelude.{◌≡◌, cond, not, ◌&&◌, ◌||◌, ℕ, eqb, leb}
use Rattle.network.specs.Faults.{origin_fault, row_label_fault, report_label_fault, predecessor_fault, list_fault_of, arc_fault, row_fault_of, report_fault_of, row_form_number, report_form_number}

-- of a row of node y
pub record RowNumbered (n origin y d p l : ℕ) : Type 0 where
  -- 5 for a row for the origin, looked at first
  pub form : eqb (row_form_number n origin y d p l) 5 ≡ origin_fault origin y
  -- 10 for a label out of its limits, after 5
  pub label : eqb (row_form_number n origin y d p l) 10 ≡ (not (origin_fault origin y) && row_label_fault d)
  -- 11 for a predecessor out of its limits, after 10
  pub predecessor : eqb (row_form_number n origin y d p l) 11 ≡ (not (origin_fault origin y || row_label_fault d) && predecessor_fault n y p)
  -- 12 for a wrong list, after 11
  pub list : eqb (row_form_number n origin y d p l) 12 ≡ (not (origin_fault origin y || (row_label_fault d || predecessor_fault n y p)) && list_fault_of n y l)
  -- 0 where none of them applies
  pub none : eqb (row_form_number n origin y d p l) 0 ≡ not (row_fault_of n origin y d p l)

-- of a report of sender s over an arc of cost c
pub record ReportNumbered (n c s d l : ℕ) : Type 0 where
  -- 5 for a report without an arc, looked at first
  pub form : eqb (report_form_number n c s d l) 5 ≡ arc_fault c
  -- 10 for a label out of its limits, after 5
  pub label : eqb (report_form_number n c s d l) 10 ≡ (not (arc_fault c) && report_label_fault d)
  -- 12 for a wrong list, after 10
  pub list : eqb (report_form_number n c s d l) 12 ≡ (not (arc_fault c || report_label_fault d) && list_fault_of n s l)
  -- 0 where none of them applies
  pub none : eqb (report_form_number n c s d l) 0 ≡ not (report_fault_of n c s d l)

-- the number of before, which was 5 for each of 5, 10, 11 and 12
unfoldable pub as_before : ℕ → ℕ
as_before k = cond (leb 10 k) 5 k
