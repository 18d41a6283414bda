-- `image::write_arc` meets its contract: the arc's bit decides.
-- Assumes nothing.
use mathlib.Core.Path.{sym, ap, ◌∙◌}
use Rattle.records.specs.Records.{arc_record_of}
use Rattle.filling.proofs.Parts.{wrote_none, wrote_as, room_as}
use Rattle.image.proofs.Lengths.{arc_size}
use Rattle.image.proofs.Reading.{arc_none, arc_some}
use Rattle.image.proofs.write_arc.Goals as goal

pub returns-then-not-has_arc : goal.returns-then-not-has_arc
returns-then-not-has_arc c = wrote_none c.args.out.now (arc_none _ _ _ (sym c.has_arc.ensures ∙ c.if-not-has_arc.true))

pub put_arc-requires : goal.put_arc-requires
put_arc-requires c = room_as (arc_some _ _ _ (sym c.has_arc.ensures ∙ c.if-not-has_arc.false)) (arc_size _ _ _) c.requires.room

pub returns : goal.returns
returns c =
    let a = c.args in
    let cost = sym c.cost_word.ensures in
    wrote_as (arc_some _ _ _ (sym c.has_arc.ensures ∙ c.if-not-has_arc.false) ∙ ap (arc_record_of a.pair.sender a.pair.receiver) cost) c.put_arc.ensures
