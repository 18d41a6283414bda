-- `bench::bench_cost` meets its contract: a cost in two words.
-- Assumes nothing.
use mathlib.Core.Path.{ap, ◌∙◌}
use Rattle.bench.specs.Handed.{cost_words_of}
use Rattle.bench.proofs.Handing.{cost_handed}
use Rattle.bench.proofs.bench_cost.Goals as goal

pub returns : goal.returns
returns c = c.value_words.ensures ∙ cost_handed c.arc_cost.result ∙ ap cost_words_of c.arc_cost.ensures
