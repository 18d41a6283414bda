-- `image::write_report` meets its contract: the arc's bit decides, and then the word of the report's list.
-- Assumes nothing.
use mathlib.Core.Path.{sym, ap₂, ◌∙◌}
use Rattle.records.specs.Records.{report_record_of}
use Rattle.filling.proofs.Parts.{wrote_none, wrote_as, room_as}
use Rattle.image.proofs.Lengths.{report_size}
use Rattle.image.proofs.Reading.{report_none, report_empty, report_some}
use Rattle.image.proofs.write_report.Goals as goal

pub returns-then-not-has_arc : goal.returns-then-not-has_arc
returns-then-not-has_arc c = wrote_none c.args.out.now (report_none _ _ _ (sym c.has_arc.ensures ∙ c.if-not-has_arc.true))

pub returns-then-list-eq0 : goal.returns-then-list-eq0
returns-then-list-eq0 c =
    let bit = sym c.has_arc.ensures ∙ c.if-not-has_arc.false in
    wrote_none c.args.out.now (report_empty _ _ _ bit (sym c.held_list_word-list.ensures ∙ c.if-list-eq0.true))

pub put_report-requires : goal.put_report-requires
put_report-requires c =
    let bit = sym c.has_arc.ensures ∙ c.if-not-has_arc.false in
    room_as (report_some _ _ _ bit (λ z. c.if-list-eq0.false (c.held_list_word-list.ensures ∙ z))) (report_size _ _ _ _) c.requires.room

pub returns : goal.returns
returns c =
    let p = c.args.pair in
    let bit = sym c.has_arc.ensures ∙ c.if-not-has_arc.false in
    let list = c.held_list_word-list.ensures in
    wrote_as
    (report_some _ _ _ bit (λ z. c.if-list-eq0.false (list ∙ z)) ∙ ap₂ (report_record_of p.sender p.receiver) (sym c.held_label_word.ensures) (sym list))
    c.put_report.ensures
