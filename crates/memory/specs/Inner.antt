-- What the private functions require and give.
-- Assumes nothing.
use Rattle.std.specs.Prelude.{◌≡◌, false, List, ℕ, ◌<◌, length}
use Rattle.network.specs.Faults.{pair_fault_of}
use Rattle.memory.specs.Layout.{word_count, look, view}

-- y is a node of the network that the words give
pub record Node (xs : List ℕ) (y : ℕ) : Type 0 where
  pub below : y < (view xs).nodes
  pub small : y < 32

-- s and r are a pair of different nodes of the network that the words give
pub record PairOf (xs : List ℕ) (s r : ℕ) : Type 0 where
  pub free : pair_fault_of (view xs).nodes s r ≡ false
  pub sender : s < 32
  pub receiver : r < 32

-- words of 0
pub record Blank (xs : List ℕ) : Type 0 where
  pub size : length xs ≡ word_count
  pub zeros : (k : ℕ) → look xs k ≡ 0
