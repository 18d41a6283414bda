-- `rule::Senders::offer_most` meets its contract, case by case.
-- Assumes nothing.
use native.Mathlib.Omega.{arith}
use mathlib.Core.Path.{sym, ap, ◌∙◌}
use Rattle.std.specs.Prelude.{◌≡◌, true, Some}
use Rattle.ancestors.specs.Ancestors.{has}
use Rattle.rule.proofs.Least.{offer_absent, offer_empty, offer_large, offer_listed, offer_sum}
use Rattle.rule.proofs.Senders.offer_most.Goals as goal
use Rattle.rule.proofs.Senders.offer_most.Goals.{then-known-via-then-known, then-known-via-else-known+then-present}

pub returns-then-from-less : goal.returns-then-from-less
returns-then-from-less c = offer_large c.args.self.now _ _ (omega arith)

pub returns-then-list-eq0 : goal.returns-then-list-eq0
returns-then-list-eq0 c = offer_empty c.args.self.now _ _ c.if-list-eq0.true

pub returns-then-listed : goal.returns-then-listed
returns-then-listed c = offer_listed c.args.self.now _ _ c.if-list-eq0.false (sym c.listed.ensures ∙ c.if-listed.true)

pub returns-then-known : goal.returns-then-known
returns-then-known c =
    let over : has c.args.self.now.arcs c.args.s ≡ true =
    elim c.then-known.branch [
      | then-known-via-then-known w ↦ c.requires.known_has w.if-known.true
      | then-known-via-else-known+then-present w ↦ sym w.present.ensures ∙ w.if-present.true
    ] in
    ap Some c.total-less.ensures
    ∙ offer_sum c.args.self.now _ _ c.if-list-eq0.false (sym c.listed.ensures ∙ c.if-listed.false) over (omega arith) (omega arith)

pub returns : goal.returns
returns c = offer_absent c.args.self.now _ _ (sym c.present.ensures ∙ c.if-present.false)
