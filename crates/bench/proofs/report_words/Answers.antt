-- `bench::report_words` meets its contract: each case in three words.
-- Assumes nothing.
use mathlib.Core.Path.{sym, ap, ◌∙◌}
use mathlib.Core.List.{[], ◌∷◌}
use Rattle.std.specs.Prelude.{Ok}
use Rattle.memory.specs.Answers.{held_means}
use Rattle.memory.proofs.Laws.{empty_means, report_means}
use Rattle.bench.specs.Handed.{held_words_of}
use Rattle.bench.specs.Handed as H
use Rattle.bench.proofs.report_words.Goals as goal

pub returns-in-None : goal.returns-in-None
unfolding held_words_of H.report_words
returns-in-None c = sym (ap (λ r. held_words_of (held_means (Ok r))) c.in-None.is ∙ ap held_words_of empty_means)

pub returns-in-Some : goal.returns-in-Some
unfolding held_words_of H.report_words
returns-in-Some c =
    (λ j. 0 ∷ c.from.ensures j ∷ c.from-in-Some.ensures j ∷ [])
    ∙ sym (ap (λ r. held_words_of (held_means (Ok r))) c.in-Some.is ∙ ap held_words_of (report_means _))
