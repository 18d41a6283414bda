-- `image::put_header` meets its contract: three bytes.
-- Assumes nothing.
use Rattle.records.specs.Numbers.{be8}
use Rattle.records.specs.Records.{body_length, header_record_of}
use Rattle.image.proofs.Stores.{stored_three}
use Rattle.image.proofs.put_header.Goals as goal

pub returns : goal.returns
unfolding body_length header_record_of be8
returns c = stored_three _ _ _ c.args.out.now c.requires
