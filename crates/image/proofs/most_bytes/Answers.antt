-- `image::most_bytes` meets its contract.
-- Assumes nothing.
use native.Mathlib.Omega.{arith}
use Rattle.records.specs.Records.{body_length}
use Rattle.image.specs.Measured.{most_bytes_of}
use Rattle.image.proofs.most_bytes.Goals as goal

pub returns : goal.returns
unfolding most_bytes_of body_length
returns c = omega arith
