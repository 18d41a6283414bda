-- `faults::check_row` meets its contract, test by test.
-- Assumes nothing.
use borrow.Author.Tests.{le-leb, lt-leb, eq-eqb, ne_eqb}
use Rattle.network.specs.Faults.{row_form_number, origin_fault, row_label_fault, predecessor_fault}
use Rattle.faults.proofs.check_row.Goals as goal

pub returns-then-node-origin : goal.returns-then-node-origin
unfolding row_form_number origin_fault
returns-then-node-origin c = rw (eq-eqb _ _ c.if-node-origin.true)

pub returns-then-route-eq0 : goal.returns-then-route-eq0
unfolding row_form_number origin_fault row_label_fault
returns-then-route-eq0 c = rw (ne_eqb _ _ c.if-node-origin.false, eq-eqb _ _ c.if-route-eq0.true)

pub returns-then-label_above : goal.returns-then-label_above
unfolding row_form_number origin_fault row_label_fault
returns-then-label_above c =
    rw (
      ne_eqb _ _ c.if-node-origin.false,
      ne_eqb _ _ c.if-route-eq0.false,
      ← c.label_above.ensures,
      c.if-label_above.true,
    )

pub returns-then-n-route : goal.returns-then-n-route
unfolding row_form_number origin_fault row_label_fault predecessor_fault
returns-then-n-route c =
    rw (
      ne_eqb _ _ c.if-node-origin.false,
      ne_eqb _ _ c.if-route-eq0.false,
      ← c.label_above.ensures,
      c.if-label_above.false,
      le-leb _ _ c.if-n-route.true,
    )

pub returns-then-route-node : goal.returns-then-route-node
unfolding row_form_number origin_fault row_label_fault predecessor_fault
returns-then-route-node c =
    rw (
      ne_eqb _ _ c.if-node-origin.false,
      ne_eqb _ _ c.if-route-eq0.false,
      ← c.label_above.ensures,
      c.if-label_above.false,
      lt-leb _ _ c.if-n-route.false,
      eq-eqb _ _ c.if-route-node.true,
    )

pub returns : goal.returns
unfolding row_form_number origin_fault row_label_fault predecessor_fault
returns c =
    rw (
      ne_eqb _ _ c.if-node-origin.false,
      ne_eqb _ _ c.if-route-eq0.false,
      ← c.label_above.ensures,
      c.if-label_above.false,
      lt-leb _ _ c.if-n-route.false,
      ne_eqb _ _ c.if-route-node.false,
    ) c.check_list.ensures
