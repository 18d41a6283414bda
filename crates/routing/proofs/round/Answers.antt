-- `routing::round` meets its contract: its refusals, and else the round of the marks given.
-- Assumes nothing.
use native.Mathlib.Omega.{arith}
use mathlib.Core.Path.{ap, ◌∙◌}
use Rattle.network.specs.Round.{round}
use Rattle.memory.specs.Layout.{view}
use Rattle.routing.specs.Inner.{given}
use Rattle.routing.proofs.Marks.{idle_free}
use Rattle.routing.proofs.Rounding.{all_words, marks_given, round_done}
use Rattle.routing.proofs.round.Goals as goal

pub advance-requires : goal.advance-requires
advance-requires c =
    let w = c.args.net.now in
    let ms = c.args.marks.now in
    let k = idle_free w _ ms (omega (arith, c.well_formed)) c.nodes-n.ensures c.any_outside.ensures c.if-any_outside.false in
    rw (all_words c.as_array.result ms c.as_array.ensures.cases c.if-marks-ne32.false) (marks_given w ms k)

pub returns : goal.returns
returns c =
    let w = c.args.net.now in
    let ms = c.args.marks.now in
    let k = idle_free w _ ms (omega (arith, c.well_formed)) c.nodes-n.ensures c.any_outside.ensures c.if-any_outside.false in
    let same = all_words c.as_array.result ms c.as_array.ensures.cases c.if-marks-ne32.false in
    round_done w ms k c.if-marks-ne32.false c.advance.new.net (c.advance.ensures ∙ ap (λ o. round (given (view w) o) (view w)) same)
