-- What writers of records write.
-- Assumes nothing.
use Rattle.std.specs.Prelude.{List, [], Option, Some, None, ℕ}
use Rattle.network.specs.declared.Route.{Route}
use Rattle.records.specs.Records.{row_record_of}

-- the record of node y's row, if it has this route
unfoldable pub route_bytes : ℕ → Option Route → List ℕ
route_bytes y None = []
route_bytes y (Some v) = row_record_of y v.label v.predecessor v.list

-- the bytes that a writer used
abbrev pub used : Option ℕ → ℕ
used None = 0
used (Some k) = k
