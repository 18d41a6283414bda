-- `routing::hear_fours` meets its contract. The loops' invariants: the marks of the senders passed are heard.
-- Assumes nothing.
use Prim.Native.Nat.{◌+◌, ◌%◌, ◌<◌, ◌≤◌}
use mathlib.Core.Path.{◌≡◌}
use Rattle.memory.specs.Layout.{view}
use Rattle.routing.specs.Inner.{by_words, hear_arcs, row_marks}
use Rattle.routing.proofs.hear_fours.Given as goal

abbrev pub invariant-loop-s : goal.invariant-loop-s
invariant-loop-s l = record {
  heard : by_words l.net ≡ hear_arcs (row_marks l.receiver.index l.word l.s) (by_words l.fn.net);
  nodes : l.n ≡ (view l.fn.net).nodes;
  fours : l.s % 4 ≡ 0;
  within : l.s ≤ 32;
}

abbrev pub invariant-loop-k : goal.invariant-loop-k
invariant-loop-k l = record {
  heard : by_words l.net ≡ hear_arcs (row_marks l.receiver.index l.word (l.s + l.k)) (by_words l.fn.net);
  nodes : l.n ≡ (view l.fn.net).nodes;
  fours : l.s % 4 ≡ 0;
  below : l.s < l.n;
}
