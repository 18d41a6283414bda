-- `rule::Senders::fewest_ones` meets its contract. Count-ones is the number of listed nodes, so fewer nodes are fewer ones. The senders after the last
-- offer more.
-- Assumes nothing.
use native.Mathlib.Omega.{arith}
use mathlib.Core.Path.{sym, ◌∙◌}
use Rattle.rule.proofs.Least.{alone_wins, fewest_begun, fewest_pass, fewest_take, fewest_leave, fewest_wins}
use Rattle.rule.proofs.Senders.fewest_ones.Goals as goal
use Rattle.rule.proofs.Senders.fewest_ones.Goals.{then-fewer, else-fewer}

pub returns-then-kept-from : goal.returns-then-kept-from
returns-then-kept-from c = alone_wins _ _ c.requires.passed c.requires.offered c.if-kept-from.true

pub loop-s-init : goal.loop-s-init
loop-s-init c = fewest_begun _ _ c.requires.passed c.requires.offered _ (omega arith) c.count_nodes-fewest.ensures

-- no offer
pub loop-s-preserved-in_default : goal.loop-s-preserved-in_default
loop-s-preserved-in_default c =
    fewest_pass _ _ c.requires.passed c.requires.offered _ _ _ (omega arith) c.loop-s.invariant (sym c.offer_most.ensures ∙ c.in_default.is)

-- an equal one
pub loop-s-preserved : goal.loop-s-preserved
loop-s-preserved c =
    let p = c.requires in
    let o = sym c.offer_most.ensures ∙ c.in-Some.is in
    elim c.if-fewer.branch [
      | then-fewer w ↦ rw (w.from-is, w.fewest-is)
          (fewest_take _ _ p.passed p.offered _ _ _ (omega arith) c.loop-s.invariant _ _ o (omega arith) c.count_nodes-nodes.ensures w.if-fewer.true)
      | else-fewer w ↦ rw (w.from-is, w.fewest-is)
          (fewest_leave _ _ p.passed p.offered _ _ _ (omega arith) c.loop-s.invariant _ _ o (omega arith) c.count_nodes-nodes.ensures w.if-fewer.false)
    ]

pub returns : goal.returns
returns c = fewest_wins _ _ c.requires.passed c.requires.offered _ _ _ (omega arith) (omega arith) c.loop-s.invariant
