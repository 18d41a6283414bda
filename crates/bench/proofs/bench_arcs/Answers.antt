-- `bench::bench_arcs` meets its contract: a word of arcs in two words.
-- Assumes nothing.
use mathlib.Core.Path.{ap, ◌∙◌}
use Rattle.bench.specs.Handed.{arcs_words_of}
use Rattle.bench.proofs.Handing.{arcs_handed}
use Rattle.bench.proofs.bench_arcs.Goals as goal

pub returns : goal.returns
returns c = c.value_words.ensures ∙ arcs_handed c.arcs.result ∙ ap arcs_words_of c.arcs.ensures
