-- `bench::some_row_words` meets its contract: each case in five words.
-- Assumes nothing.
use mathlib.Core.Path.{sym, ap, ◌∙◌}
use mathlib.Core.List.{[], ◌∷◌}
use Rattle.std.specs.Prelude.{Ok}
use Rattle.network.specs.Faults.{max_nodes}
use Rattle.memory.specs.Answers.{row_means}
use Rattle.memory.proofs.Laws.{no_route_means, origin_means, relay_means}
use Rattle.bench.specs.Handed.{row_words_of, route_words}
use Rattle.bench.proofs.some_row_words.Goals as goal

pub returns-in-NoRoute : goal.returns-in-NoRoute
unfolding row_words_of route_words
returns-in-NoRoute c = sym (ap (λ r. row_words_of (row_means (Ok r))) c.in-NoRoute.is ∙ ap row_words_of no_route_means)

pub returns-in-Origin : goal.returns-in-Origin
unfolding row_words_of route_words
returns-in-Origin c =
    (λ j. 0 ∷ 0 ∷ max_nodes ∷ c.from.ensures j ∷ c.from-in-Origin.ensures j ∷ [])
    ∙ sym (ap (λ r. row_words_of (row_means (Ok r))) c.in-Origin.is ∙ ap row_words_of (origin_means _ _))

pub returns-in-Relay : goal.returns-in-Relay
unfolding row_words_of route_words
returns-in-Relay c =
    (λ j. 0 ∷ c.from-in-Relay.ensures j ∷ c.from-in-Relay-2.ensures j ∷ c.from-in-Relay-3.ensures j ∷ c.from-in-Relay-4.ensures j ∷ [])
    ∙ sym (ap (λ r. row_words_of (row_means (Ok r))) c.in-Relay.is ∙ ap row_words_of (relay_means _ _))
