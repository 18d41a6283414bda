-- What a part written over leaves of a list: for bytes put from a place on and others after them, by
-- #[tactic(auto, using(text::proofs::Putting::puts))].
-- Assumes nothing.
use mathlib.Core.List.{append_assoc}
use lib.ListN.{length-append}
use Rattle.std.proofs.lemmas.Slice.{take-put_mid, drop-put_mid}

-- what stands before the next place, and from a place past the part on
pub ruleset puts = (append_assoc, length-append, take-put_mid, drop-put_mid)
