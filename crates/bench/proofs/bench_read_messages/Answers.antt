-- `bench::bench_read_messages` meets its contract: number, nodes and metrics in 34 words.
-- Assumes nothing.
use mathlib.Core.Path.{sym, ap, ◌∙◌}
use mathlib.Core.List.{◌∷◌}
use lib.ListN.{length, set}
use Rattle.network.proofs.Answered.{fault_some}
use Rattle.response.proofs.Callers.{read_none}
use Rattle.bench.specs.Handed.{places, read_words}
use Rattle.bench.proofs.bench_read_messages.Goals as goal

pub returns-in-Ok : goal.returns-in-Ok
unfolding read_words
returns-in-Ok c =
    let ms = c.deref.ensures.0 ∙ c.in-Ok.ensures.metrics in
    c.put_metrics.ensures ∙ (λ j. c.in-Ok.ensures.number j ∷ length (ms j) ∷ places (ms j))

pub returns-in-Err : goal.returns-in-Err
unfolding read_words
returns-in-Err c =
    let number = c.in-Err.ensures.number in
    let none = read_none c.args.base c.args.n c.args.bytes.now (λ z. fault_some c.in-Err.fault (number ∙ z)) in
    ap (λ w. set w 0 c.refusal.result) c.put_metrics-in-Err.ensures ∙ (λ j. (c.refusal.ensures ∙ number) j ∷ length (sym none j) ∷ places (sym none j))
