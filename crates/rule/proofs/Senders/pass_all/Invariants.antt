-- `rule::Senders::pass_all` meets its contract. The loops' invariants: one by one, all before some sender were passed; from arc to arc, the arcs from there
-- on are left besides.
-- Assumes nothing.
use Prim.Native.Nat.{◌%◌, ◌^◌}
use Rattle.ancestors.proofs.Walk.{Walked}
use Rattle.rule.specs.Passed.{Passed}
use Rattle.rule.proofs.Senders.pass_all.Given as goal

abbrev pub invariant-loop-s : goal.invariant-loop-s
invariant-loop-s l = Passed l.self l.s l.kept

abbrev pub invariant-loop-s-2 : goal.invariant-loop-s-2
invariant-loop-s-2 l =
    goal.iterator-loop-s-2.can_next l.s-iterator × goal.iterator-loop-s-2.is_finite l.s-iterator
    × Walked (λ j. Passed l.self j l.kept) l.n (l.self.arcs % 2 ^ l.n) l.s-iterator.left
