-- `running::marks_of` meets its contract. The loop's invariant: the words passed are filled in.
-- Assumes nothing.
use mathlib.Core.Path.{◌≡◌}
use lib.ListN.{take}
use Rattle.records.specs.Numbers.{words_in}
use Rattle.running.proofs.marks_of.Given as goal

abbrev pub invariant-loop-r : goal.invariant-loop-r
invariant-loop-r l = take l.r l.mark-items ≡ words_in l.r l.body
