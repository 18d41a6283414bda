-- `rule::choose` meets its contract: each fault is refused, and else the least offer is chosen.
-- Assumes nothing.
use Rattle.std.proofs.Common.{arith}
use Rattle.std.proofs.lemmas.Bool.Decides.{nat_tests}
use Rattle.network.specs.Words.{choice_means, choose_of, words_fault}
use Rattle.rule.proofs.choose.Goals as goal

pub returns-then-n-gt-NODES : goal.returns-then-n-gt-NODES
unfolding choice_means choose_of words_fault
returns-then-n-gt-NODES c = grind (arith, nat_tests)

pub returns : goal.returns
unfolding choice_means choose_of words_fault
returns c = grind (arith, nat_tests)
