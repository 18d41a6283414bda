-- `rule::Senders::pass_sender` meets its contract, case by case.
-- Assumes nothing.
use native.Mathlib.Omega.{arith}
use mathlib.Core.Path.{sym, ◌∙◌}
use Rattle.rule.proofs.Least.{below_positive, offer_large, pass_equal, pass_other, pass_less}
use Rattle.rule.proofs.Senders.pass_sender.Goals as goal

pub returns-then-held-kept : goal.returns-then-held-kept
returns-then-held-kept c = pass_equal _ _ _ c.requires.passed (omega arith)

pub returns-then-kept-held : goal.returns-then-kept-held
returns-then-kept-held c = pass_other _ _ _ c.requires.passed (sym (offer_large c.args.self.now _ _ (omega arith))) (λ e. omega arith)

pub returns-in_default : goal.returns-in_default
returns-in_default c = pass_other _ _ _ c.requires.passed (sym c.offer_most.ensures ∙ c.in_default.is) (λ e. omega arith)

-- a lesser offer
pub overflow_sub-sum : goal.overflow_sub-sum
overflow_sub-sum c = omega (arith, below_positive c.args.self.now _ _ _ (sym c.offer_most.ensures ∙ c.in-Some.is))

pub returns : goal.returns
returns c = pass_less _ _ _ c.requires.passed _ _ (sym c.offer_most.ensures ∙ c.in-Some.is) c.from.ensures
