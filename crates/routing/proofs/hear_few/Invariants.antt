-- `routing::hear_few` meets its contract. The loop's invariant: the marks of the senders before some one are heard, and those from there on are left.
-- Assumes nothing.
use mathlib.Core.Path.{◌≡◌}
use Rattle.ancestors.proofs.Walk.{Walked}
use Rattle.routing.specs.Inner.{by_words, hear_arcs, row_marks}
use Rattle.routing.proofs.hear_few.Given as goal

abbrev pub invariant-loop-s : goal.invariant-loop-s
invariant-loop-s l = Walked (λ k. by_words l.net ≡ hear_arcs (row_marks l.receiver.index l.word k) (by_words l.fn.net)) 32 l.word l.s-iterator.left
