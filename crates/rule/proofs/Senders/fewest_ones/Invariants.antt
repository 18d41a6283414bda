-- `rule::Senders::fewest_ones` meets its contract. The loop's invariant: the sender that wins among those passed, and the ones of its report.
-- Assumes nothing.
use Rattle.rule.proofs.Least.{Fewest}
use Rattle.rule.proofs.Senders.fewest_ones.Given as goal

abbrev pub invariant-loop-s : goal.invariant-loop-s
invariant-loop-s l = Fewest l.self l.fn.kept l.s l.from l.fewest
