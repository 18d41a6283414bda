-- `image::put_end` meets its contract: one byte.
-- Assumes nothing.
use Rattle.records.specs.Numbers.{be8}
use Rattle.records.specs.Records.{body_length, end_record}
use Rattle.filling.proofs.Parts.{wrote_byte}
use Rattle.image.proofs.put_end.Goals as goal

pub returns : goal.returns
unfolding body_length end_record be8
returns c = wrote_byte 0 c.args.out.now c.requires
