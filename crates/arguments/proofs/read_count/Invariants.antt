-- `arguments::read_count` meets its contract. The loop's invariant: the digits passed stand for n.
-- Assumes nothing.
use Rattle.std.proofs.Common.{◌≡◌, drop}
use Rattle.arguments.specs.Arguments.{digits_after, read_count_of}
use Rattle.arguments.proofs.read_count.Given as goal

abbrev pub invariant-loop-byte : goal.invariant-loop-byte
invariant-loop-byte l = read_count_of l.text ≡ digits_after l.n (drop l.byte-index l.text)
