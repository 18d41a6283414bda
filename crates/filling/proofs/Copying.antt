-- Bytes copied as a whole: none in a shorter output, and all where there is room.
-- Assumes nothing.
use mathlib.Core.Path.{◌≡◌, sym}
use mathlib.Core.List.{List, []}
use Prim.Native.Nat.{ℕ, ◌+◌, ◌<◌, ◌≤◌}
use native.Mathlib.Omega.{arith}
use lib.ListN.{length, take, drop}
use borrow.Author.Tests.{lt-ltb, le-ltb}
use Rattle.filling.specs.Filling.{Wrote, copied}
use Rattle.filling.proofs.Parts.{wrote_as, part_size}

module _ (b e : List ℕ) where
  -- in a shorter output
  pub copied_none : length e < length b → copied b e ≡ []
  unfolding copied
  copied_none h = rw (lt-ltb (length e) (length b) h)

  -- where there is room
  pub copied_all : length b ≤ length e → copied b e ≡ b
  unfolding copied
  copied_all h = rw (le-ltb (length e) (length b) h)

  pub wrote_all : {x : List ℕ} {r : ℕ} → length b ≤ length e → Wrote (copied b e) e x r → Wrote b e x r
  wrote_all m h = wrote_as (sym (copied_all m)) h

-- in a part of an output that is lent from a place on and has room for them
pub copied_part : (b e : List ℕ) (a k : ℕ) {x : List ℕ} {r : ℕ} → length b ≤ k → a + k ≤ length e
    → Wrote (copied b (take k (drop a e))) (take k (drop a e)) x r → Wrote b (take k (drop a e)) x r
copied_part b e a k m n h = wrote_all b (take k (drop a e)) (omega (arith, part_size e a k n)) h
