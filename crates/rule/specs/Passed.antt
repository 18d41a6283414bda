-- What a receiver chooses from, and what is known of the senders that were passed.
-- Assumes nothing.
use Rattle.std.specs.Prelude.{◌≡◌, cond, ℕ, ◌+◌, ◌-◌, ◌<◌, ◌≤◌, leb, Some, length, get_or}
use Rattle.network.specs.Faults.{max_label}
use Rattle.network.specs.Network.{Row}
use Rattle.network.specs.Round.{Offer, Winner, nobody, sender, winner, choice}
use Rattle.network.specs.Words.{cost_of, reports, costs_of, offers_of, ones_of, alike}
use Rattle.rule.specs.declared.Senders.{Senders}
use Rattle.rule.specs.declared.Kept.{Kept}

-- how many senders there are, and by sender label plus cost, the offer, and the ones of the report
abbrev pub count_of : Senders → ℕ
count_of x = length x.costs.now

abbrev pub sum_of : Senders → ℕ → ℕ
sum_of x s = get_or x.labels.now s 0 + cost_of (get_or x.costs.now s 0)

abbrev pub offers : Senders → ℕ → Offer
offers x = offers_of x.arcs x.costs.now x.labels.now x.lists.now x.receiver

abbrev pub ones_by : Senders → ℕ → ℕ
ones_by x = ones_of x.arcs x.labels.now x.lists.now

-- the row that is chosen
abbrev pub row_chosen : Senders → Row
row_chosen x = choice (count_of x) (costs_of x.arcs x.costs.now) (reports x.arcs x.labels.now x.lists.now) x.receiver

-- the winner by its sum b, which is above the largest label where there is none, and its sender p
unfoldable pub winner_of : ℕ → ℕ → Winner
winner_of b p = cond (leb b max_label) (sender p b) nobody

-- no sender after p and l and before k offers b or less
abbrev pub Alone : Senders → ℕ → ℕ → ℕ → ℕ → Type 0
Alone x b p l k = (r v : ℕ) → p < r → l < r → r < k → offers x r ≡ Some v → b < v

-- of the senders before k: the least sum less one and the first that offers it are kept, and one after which, and after the first, none does
pub record Passed (x : Senders) (k : ℕ) (kept : Kept) : Type 0 where
  pub least : winner (offers x) alike k ≡ winner_of (kept.most + 1) kept.from
  pub fits : kept.most ≤ max_label
  pub near : kept.last ≤ k - 1
  pub only : Alone x (kept.most + 1) kept.from kept.last k

-- the sender q wins, with a sum that is one more than m
pub record Wins (x : Senders) (m q : ℕ) : Type 0 where
  pub winner_is : winner (offers x) (ones_by x) (count_of x) ≡ sender q (m + 1)
  pub within : q < count_of x
