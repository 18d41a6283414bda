-- `image::write_rest` meets its contract: arcs fill the front, and rows, reports and the last record follow.
-- Assumes nothing.
use native.Mathlib.Omega.{arith}
use lib.ListN.{length}
use Rattle.memory.specs.Layout.{view}
use Rattle.records.specs.Records.{record_length}
use Rattle.filling.proofs.Parts.{wrote_then, wrote_split, room}
use Rattle.image.specs.Lines.{all_reports, rest_of}
use Rattle.image.proofs.Parting.{rest_long}
use Rattle.image.proofs.write_rest.Goals as goal

pub split_at_mut-arcs-requires : goal.split_at_mut-arcs-requires
split_at_mut-arcs-requires c = omega (arith, c.arcs_length.ensures, rest_long (view c.args.from.now.net.now), c.requires)

pub write_rows-rows-requires : goal.write_rows-rows-requires
write_rows-rows-requires c = omega (arith, c.arcs_length.ensures, rest_long (view c.args.from.now.net.now), c.requires, c.split_at_mut-arcs.ensures.back_len)

pub write_pairs-filled-requires-clause-arcs_room : goal.write_pairs-filled-requires-clause-arcs_room
write_pairs-filled-requires-clause-arcs_room c = omega (arith, c.arcs_length.ensures, c.split_at_mut-arcs.ensures.front_len)

pub write_pairs-filled-requires-clause-reports_room : goal.write_pairs-filled-requires-clause-reports_room
write_pairs-filled-requires-clause-reports_room c =
    let x = view c.args.from.now.net.now in
    let r = c.write_rows-rows.ensures in
    room (length (all_reports x)) r (omega (arith, r.used, c.arcs_length.ensures, rest_long x, c.requires, c.split_at_mut-arcs.ensures.back_len))

pub put_end-requires : goal.put_end-requires
put_end-requires c =
    let x = view c.args.from.now.net.now in
    let r = c.write_rows-rows.ensures in
    let p = c.write_pairs-filled.ensures.reports in
    room (record_length 0) (wrote_then r p) (omega (arith, r.used, p.used, c.arcs_length.ensures, rest_long x, c.requires, c.split_at_mut-arcs.ensures.back_len))

pub returns : goal.returns
unfolding rest_of
returns c =
    let s = c.split_at_mut-arcs.ensures in
    let p = c.write_pairs-filled.ensures in
    wrote_split s.value p.arcs (omega (arith, c.arcs_length.ensures, s.front_len)) (wrote_then (wrote_then c.write_rows-rows.ensures p.reports) c.put_end.ensures)
