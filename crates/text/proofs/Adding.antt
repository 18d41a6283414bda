-- Bytes added to a text: with room for them and without, and how many at most.
-- What writers leave that are called one after another is proved by #[tactic(auto, using(text::proofs::Adding::pushes))].
-- Assumes nothing.
use mathlib.Core.Path.{◌≡◌}
use mathlib.Core.List.{List, ◌++◌, append_assoc, append-nil}
use Prim.Native.Nat.{ℕ, ◌+◌, ◌<◌, ◌≤◌}
use lib.ListN.{length, length-append}
use borrow.Author.Tests.{lt-ltb, le-ltb}
use Rattle.text.specs.Adds.{added}
use Rattle.text.proofs.Digits.{long_digits}

module _ (n : ℕ) (w old : List ℕ) where
  -- with room for them
  pub added_all : length old + length w ≤ n → added n w old ≡ old ++ w
  unfolding added
  added_all h = rw (le-ltb n (length old + length w) h)

  -- with no room: the text is as it stood
  pub added_none : n < length old + length w → added n w old ≡ old
  unfolding added
  added_none h = rw (lt-ltb n (length old + length w) h)

-- a text with room for all, with numbers of at most 64 bits in it
pub ruleset pushes = (added_all, append_assoc, append-nil, length-append, long_digits)
