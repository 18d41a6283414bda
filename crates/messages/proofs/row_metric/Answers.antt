-- `messages::row_metric` meets its contract: the origin has no hops, and a relay's list decides.
-- Assumes nothing.
use mathlib.Core.Path.{◌≡◌, sym, ◌∙◌}
use native.Mathlib.Omega.{arith}
use Rattle.ancestors.specs.Ancestors.{own, hops}
use Rattle.ancestors.proofs.Laws.{hops_ones, ones_own}
use Rattle.memory.proofs.Laws.{read_origin, relay_none, relay_list}
use Rattle.response.specs.Messages.{metric}
use Rattle.messages.proofs.row_metric.Goals as goal

pub returns-then-node-origin : goal.returns-then-node-origin
unfolding metric
returns-then-node-origin c =
    let y = c.args.node in
    let z : hops (own y) ≡ 0 = hops_ones (own y) ∙ omega (arith, ones_own y) in
    rw (read_origin c.args.net.now y (c.if-node-origin.true ∙ c.origin.ensures), z) c.hops_metric.ensures

pub returns-then-list-eq0 : goal.returns-then-list-eq0
unfolding metric
returns-then-list-eq0 c =
    rw (relay_none c.args.net.now c.args.node c.requires (λ o. c.if-node-origin.false (o ∙ sym c.origin.ensures)) (sym c.list_word-list.ensures ∙ c.if-list-eq0.true))

pub returns : goal.returns
unfolding metric
returns c =
    let r = relay_list c.args.net.now c.args.node c.requires (λ o. c.if-node-origin.false (o ∙ sym c.origin.ensures)) (λ z. c.if-list-eq0.false (c.list_word-list.ensures ∙ z)) in
    rw (r.2, ← c.list_word-list.ensures, ← c.count_hops.ensures) c.hops_metric-2.ensures
