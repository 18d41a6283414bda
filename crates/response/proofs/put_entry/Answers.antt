-- `response::put_entry` meets its contract: four bytes, the address, and the rest.
-- Assumes nothing.
use mathlib.Core.Path.{◌∙◌}
use Rattle.response.proofs.Fields.{entry_stored, entry_unstored}
use Rattle.response.proofs.put_entry.Goals as goal

pub returns-then-out-lt-ENTRY_LENGTH : goal.returns-then-out-lt-ENTRY_LENGTH
returns-then-out-lt-ENTRY_LENGTH c = entry_unstored _ _ _ c.if-out-lt-ENTRY_LENGTH.true

pub returns : goal.returns
returns c =
    entry_stored _ _ _ c.copy_from_slice.ensures.after (c.copy_from_slice-2.ensures.after ∙ c.to_be_bytes.ensures) c.copy_from_slice-3.ensures.after
    c.ranges.m.fits c.if-out-lt-ENTRY_LENGTH.false
