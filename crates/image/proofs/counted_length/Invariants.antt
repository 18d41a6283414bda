-- `image::counted_length` meets its contract. The loop's invariant: the first and the last record, and the bytes of the receivers passed.
-- Assumes nothing.
use Prim.Native.Nat.{◌+◌}
use mathlib.Core.Path.{◌≡◌}
use Rattle.memory.specs.Layout.{view}
use Rattle.records.specs.Records.{record_length}
use Rattle.image.specs.Measured.{sum, receiver_bytes}
use Rattle.image.proofs.counted_length.Given as goal

abbrev pub invariant-loop-r : goal.invariant-loop-r
invariant-loop-r l = l.total ≡ record_length 1 + record_length 0 + sum (receiver_bytes (view l.from.net.now)) l.r
