-- `rule::Senders::pass_all` meets its contract: senders without an arc are passed over.
-- Assumes nothing.
use native.Mathlib.Nat.{mod-lt}
use lib.Pow.{pow_pos}
use mathlib.Core.Path.{sym, ◌∙◌}
use Rattle.ancestors.proofs.Cases.{and_both}
use Rattle.ancestors.proofs.Sets.{has_low}
use Rattle.ancestors.proofs.Walk.{walk_begun, walk_on, walk_visits, walk_ended}
use Rattle.rule.proofs.Least.{first_known, below_absent}
use Rattle.rule.proofs.Senders.pass_all.Goals as goal

pub loop-s-init : goal.loop-s-init
loop-s-init c = first_known _ _ c.from.ensures

pub loop-s-2-init : goal.loop-s-2-init
loop-s-2-init c = (tt, tt, walk_begun (cc) (first_known _ _ c.from.ensures))

pub pass_sender-kept-requires-in-loop-s-2 : goal.pass_sender-kept-requires-in-loop-s-2
pass_sender-kept-requires-in-loop-s-2 c =
    let l = c.loop-s-2 in
    let visit = walk_visits (mod-lt _ (pow_pos _)) (below_absent c.args.self.now l.kept) c.in-Some.s l.invariant.2 c.in-Some.ensures.steps in
    record { s_in_bounds = visit.below; known_has = λ _. (and_both _ _ (sym (has_low _ _ _) ∙ visit.here)).1; passed = visit.known }

pub loop-s-2-preserved : goal.loop-s-2-preserved
loop-s-2-preserved c = (tt, tt, walk_on (mod-lt _ (pow_pos _)) c.in-Some.s c.loop-s-2.invariant.2 c.in-Some.ensures.steps c.pass_sender-kept-in-loop-s-2.ensures)

pub returns : goal.returns
returns c = walk_ended (mod-lt _ (pow_pos _)) (below_absent c.args.self.now c.loop-s-2.kept) c.loop-s-2.invariant.2 c.in-None.ensures.steps
