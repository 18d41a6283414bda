-- `image::write_pairs` meets its contract. The loop's invariant: arcs and reports of the senders passed stand at the fronts.
-- Assumes nothing.
use native.Mathlib.Omega.{arith}
use mathlib.Core.Path.{◌≡◌, sym, ap}
use mathlib.Core.List.{List}
use Prim.Native.Nat.{ℕ, ◌<◌}
use Rattle.memory.specs.Layout.{view}
use Rattle.network.specs.Network.{Net}
use Rattle.records.specs.Image.{each}
use Rattle.records.proofs.Each.{each_zero}
use Rattle.filling.proofs.Parts.{wrote_none, wrote_as}
use Rattle.image.specs.Lines.{arc_at, report_at}
use Rattle.image.proofs.Lengths.{next_room, next_wrote}
use Rattle.image.proofs.write_pairs.Goals as goal

-- the arcs and the reports of a sender
abbrev arcs_by : Net → ℕ → List ℕ
arcs_by x s = each (arc_at x s) 0 x.nodes

abbrev reports_by : Net → ℕ → List ℕ
reports_by x s = each (report_at x s) 0 x.nodes

pub loop-sender-init : goal.loop-sender-init
loop-sender-init c =
    let x = view c.args.from.now.net.now in
    record {
      arcs = wrote_none c.args.arcs.now (each_zero (arcs_by x) 0);
      reports = wrote_none c.args.reports.now (each_zero (reports_by x) 0);
    }

pub write_sender-filled-requires : goal.write_sender-filled-requires
write_sender-filled-requires c =
    let l = c.loop-sender in
    let x = view c.args.from.now.net.now in
    let n = c.nodes-n.ensures in
    let below : l.sender < x.nodes = omega (arith, c.loop-sender-test.true, n) in
    record {
      sender_bound = c.loop-sender-test.true;
      n_value = n;
      arcs_room = rw n (next_room (arcs_by x) l.sender x.nodes below l.invariant.arcs c.requires.arcs_room);
      reports_room = rw n (next_room (reports_by x) l.sender x.nodes below l.invariant.reports c.requires.reports_room);
    }

pub loop-sender-preserved : goal.loop-sender-preserved
loop-sender-preserved c =
    let l = c.loop-sender in
    let x = view c.args.from.now.net.now in
    let n = c.nodes-n.ensures in
    let below : l.sender < x.nodes = omega (arith, c.loop-sender-test.true, n) in
    let e = c.write_sender-filled.ensures in
    record {
      arcs = next_wrote (arcs_by x) l.sender x.nodes below l.invariant.arcs c.requires.arcs_room (wrote_as (ap (each (arc_at x l.sender) 0) (sym n)) e.arcs);
      reports = next_wrote (reports_by x) l.sender x.nodes below l.invariant.reports c.requires.reports_room (wrote_as (ap (each (report_at x l.sender) 0) (sym n)) e.reports);
    }

pub returns : goal.returns
returns c =
    let l = c.loop-sender in
    let x = view c.args.from.now.net.now in
    let e : x.nodes ≡ l.sender = omega (arith, c.loop-sender-test.false, c.nodes-n.ensures, l.auto.sender-end) in
    record {
      arcs = wrote_as (ap (each (arcs_by x) 0) e) l.invariant.arcs;
      reports = wrote_as (ap (each (reports_by x) 0) e) l.invariant.reports;
    }
