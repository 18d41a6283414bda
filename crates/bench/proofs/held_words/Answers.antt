-- `bench::held_words` meets its contract: number and report in three words.
-- Assumes nothing.
use mathlib.Core.Path.{sym, ap, ◌∙◌}
use mathlib.Core.List.{[], ◌∷◌}
use Rattle.memory.specs.Answers.{held_means}
use Rattle.memory.proofs.Laws.{refused_report_means}
use Rattle.bench.specs.Handed.{held_words_of, report_words}
use Rattle.bench.proofs.held_words.Goals as goal

pub returns-in-Ok : goal.returns-in-Ok
returns-in-Ok c = c.report_words.ensures ∙ sym (ap (λ r. held_words_of (held_means r)) c.in-Ok.is)

pub returns-in-Err : goal.returns-in-Err
unfolding held_words_of report_words
returns-in-Err c = (λ j. c.refusal.ensures j ∷ 0 ∷ 0 ∷ []) ∙ sym (ap held_words_of (ap held_means c.in-Err.is ∙ refused_report_means _))
