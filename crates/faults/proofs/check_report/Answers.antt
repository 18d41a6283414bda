-- `faults::check_report` meets its contract, test by test.
-- Assumes nothing.
use borrow.Author.Tests.{eq-eqb, ne_eqb}
use Rattle.network.specs.Faults.{report_form_number, arc_fault, report_label_fault}
use Rattle.faults.proofs.check_report.Goals as goal

pub returns-then-cost-eq0 : goal.returns-then-cost-eq0
unfolding report_form_number arc_fault report_label_fault
returns-then-cost-eq0 c = rw (eq-eqb _ _ c.if-cost-eq0.true)

pub returns-then-label_above : goal.returns-then-label_above
unfolding report_form_number arc_fault report_label_fault
returns-then-label_above c = rw (ne_eqb _ _ c.if-cost-eq0.false, ← c.label_above.ensures, c.if-label_above.true)

pub returns : goal.returns
unfolding report_form_number arc_fault report_label_fault
returns c =
    rw (ne_eqb _ _ c.if-cost-eq0.false, ← c.label_above.ensures, c.if-label_above.false) c.check_list.ensures
