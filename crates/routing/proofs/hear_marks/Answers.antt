-- `routing::hear_marks` meets its contract. The loop's invariant: what the receivers passed hear is heard.
-- Assumes nothing.
use native.Mathlib.Omega.{arith}
use mathlib.Core.Path.{ap, ◌∙◌}
use Rattle.std.specs.Prelude.{option_map}
use Rattle.memory.specs.Layout.{view}
use Rattle.memory.proofs.Laws.{few}
use Rattle.routing.proofs.Hearing.{marks_bits, arcs_bits, rows_next}
use Rattle.routing.proofs.hear_marks.Goals.{in-Some, in-None}
use Rattle.routing.proofs.hear_marks.Goals as goal

pub loop-r-preserved : goal.loop-r-preserved
loop-r-preserved c =
    let a = c.args in
    let l = c.loop-r in
    let w = a.net.now in
    rows_next w _ _ _ l.r c.match-marks.word
    (elim c.match-marks.branch [
      | in-Some v ↦ marks_bits (view w) _ v.in-Some.words.now l.r _ (ap (option_map (λ words. words.now)) v.in-Some.is) (omega (arith, few w)) v.word-is
      | in-None v ↦ arcs_bits _ w l.net _ l.r _ (ap (option_map (λ words. words.now)) v.in-None.is) l.invariant (v.word-is ∙ v.arcs_of-word.ensures)
    ])
    l.invariant c.hear_row.ensures
