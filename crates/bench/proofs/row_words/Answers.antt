-- `bench::row_words` meets its contract: number and row in five words.
-- Assumes nothing.
use mathlib.Core.Path.{sym, ap, ◌∙◌}
use mathlib.Core.List.{[], ◌∷◌}
use Rattle.network.specs.Faults.{max_nodes}
use Rattle.memory.specs.Answers.{row_means}
use Rattle.memory.proofs.Laws.{refused_row_means}
use Rattle.bench.specs.Handed.{row_words_of, route_words}
use Rattle.bench.proofs.row_words.Goals as goal

pub returns-in-Ok : goal.returns-in-Ok
returns-in-Ok c = c.some_row_words.ensures ∙ sym (ap (λ r. row_words_of (row_means r)) c.in-Ok.is)

pub returns-in-Err : goal.returns-in-Err
unfolding row_words_of route_words
returns-in-Err c = (λ j. c.refusal.ensures j ∷ 0 ∷ max_nodes ∷ 0 ∷ 0 ∷ []) ∙ sym (ap row_words_of (ap row_means c.in-Err.is ∙ refused_row_means _))
