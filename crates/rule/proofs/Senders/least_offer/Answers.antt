-- `rule::Senders::least_offer` meets its contract: no route, or the row by the sender that wins.
-- Assumes nothing.
use mathlib.Core.Path.{sym}
use Rattle.network.specs.Words.{route_means}
use Rattle.rule.proofs.Least.{none_chosen, winner_chosen}
use Rattle.rule.proofs.Senders.least_offer.Goals as goal

pub returns-then-most-ge-MAX_LABEL : goal.returns-then-most-ge-MAX_LABEL
unfolding route_means
returns-then-most-ge-MAX_LABEL c = sym (none_chosen _ _ c.pass_all-kept.ensures c.if-most-ge-MAX_LABEL.true)

pub returns : goal.returns
unfolding route_means
returns c = winner_chosen _ _ _ _ c.fewest_ones-from.ensures c.joined.ensures
