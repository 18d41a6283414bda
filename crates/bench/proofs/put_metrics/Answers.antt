-- `bench::put_metrics` meets its contract: a word for each place.
-- Assumes nothing.
use native.Mathlib.Omega.{arith}
use mathlib.Core.Path.{refl, sym, ◌∙◌}
use lib.ListN.{length-set, get_or-eq_default}
use Rattle.filling.proofs.Parts.{added_none}
use Rattle.bench.proofs.Storing.{places_long, place_at, two_first, stored_next, stored_all}
use Rattle.bench.specs.Handed.{places}
use Rattle.bench.proofs.put_metrics.Goals as goal

pub loop-y-init : goal.loop-y-init
loop-y-init c = added_none _ 2 refl (simp length-set (omega (arith, c.requires.out_len)))

pub loop-y-preserved : goal.loop-y-preserved
loop-y-preserved c =
    let l = c.loop-y in
    let ms = c.args.metrics.now in
    stored_next (places ms) _ l.out l.y _ l.invariant (c.from.ensures ∙ sym (place_at ms l.y))
    (omega (arith, c.loop-y-test.true, c.requires.few, places_long ms c.requires.few)) (simp length-set (omega (arith, c.loop-y-test.true, c.requires.few, c.requires.out_len)))

-- the places after them
pub loop-y-2-preserved : goal.loop-y-2-preserved
loop-y-2-preserved c =
    let l = c.loop-y-2 in
    let ms = c.args.metrics.now in (
      stored_next (places ms) _ l.out l.y _ l.invariant.0 (sym (place_at ms l.y ∙ get_or-eq_default ms 0 l.invariant.1))
          (omega (arith, c.loop-y-2-test.true, places_long ms c.requires.few)) (simp length-set (omega (arith, c.loop-y-2-test.true, c.requires.out_len))),
      omega (arith, l.invariant.1),
    )

pub returns : goal.returns
returns c =
    let l = c.loop-y-2 in
    let ms = c.args.metrics.now in
    stored_all (places ms) _ l.out l.y 0 _ l.invariant.0 (two_first c.args.out.now 0 _ (omega (arith, c.requires.out_len)))
    (omega (arith, c.loop-y-2-test.false, places_long ms c.requires.few)) (simp length-set (omega (arith, c.loop-y-2-test.false, c.requires.out_len)))
