-- `routing::hear_marks` meets its contract. The loop's invariant: what the receivers passed hear is heard.
-- Assumes nothing.
use mathlib.Core.Path.{◌≡◌}
use Rattle.std.specs.Prelude.{option_map}
use Rattle.memory.specs.Layout.{view}
use Rattle.routing.specs.Inner.{by_words, hear_arcs, given}
use Rattle.routing.proofs.Hearing.{up_to}
use Rattle.routing.proofs.hear_marks.Given as goal

abbrev pub invariant-loop-r : goal.invariant-loop-r
invariant-loop-r l = by_words l.net ≡ hear_arcs (up_to (given (view l.fn.net) (option_map (λ words. words.now) l.fn.marks)) l.r) (by_words l.fn.net)
