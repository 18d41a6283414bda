-- BASE read: the numbers one by one.
-- Assumes nothing.
use mathlib.Core.Path.{◌≡◌, refl, sym, ap, ◌∙◌}
use mathlib.Core.List.{List, []}
use Prim.Native.Nat.{ℕ, zero, suc, ◌+◌, ◌*◌, ◌≤◌}
use native.Mathlib.Omega.{arith}
use borrow.Author.Tests.{le-ltb}
use Rattle.std.proofs.Common.{Option, None, Some}
use Rattle.ancestors.proofs.Cases.{clash}
use Rattle.arguments.specs.Arguments.{before_dot, after_dot, byte_then, bytes_after, read_count_of}
use Rattle.arguments.specs.Inner.{byte_of}
use Rattle.arguments.proofs.Counting.{number_empty, count_none}

-- ---- a number of at most 255

module _ (next : ℕ → Option ℕ) where
  -- none
  pub then_none : (r : Option ℕ) → byte_then r (λ n. Some n) ≡ None → byte_then r next ≡ None
  unfolding byte_then
  then_none None e = refl
  then_none (Some n) e = grind arith

  -- one
  pub then_some : (r : Option ℕ) (n : ℕ) → byte_then r (λ m. Some m) ≡ Some n → byte_then r next ≡ next n
  unfolding byte_then
  then_some None n e = clash cc
  then_some (Some m) n e = grind arith

  -- none follows from any
  then_never : (r : Option ℕ) → ((n : ℕ) → next n ≡ None) → byte_then r next ≡ None
  unfolding byte_then
  then_never None none = refl
  then_never (Some n) none = grind (arith, none n)

  pub then_byte : (r : Option ℕ) (n : ℕ) → r ≡ Some n → n ≤ 255 → byte_then r next ≡ next n
  unfolding byte_then
  then_byte r n e h = rw (e, le-ltb 255 n h)

  -- what it says that a number is read, and then what follows from it
  pub then_says : (r : Option ℕ) (w : ℕ) → byte_then r next ≡ Some w → (n : ℕ) × (r ≡ Some n) × (n ≤ 255) × (next n ≡ Some w)
  unfolding byte_then
  then_says None w e = clash cc
  then_says (Some n) w e = (n, refl, grind arith, grind arith)

-- ---- the numbers one by one

-- no bytes are no number
pub bytes_none : (k v : ℕ) → bytes_after k v [] ≡ None
unfolding bytes_after before_dot byte_then
bytes_none zero v = rw (count_none [] (number_empty [] refl))
bytes_none (suc k) v = rw (count_none [] (number_empty [] refl))

module _ (t : List ℕ) where
  -- no number before the dot, or one
  pub no_byte : byte_of (before_dot t) ≡ None → (k v : ℕ) → bytes_after (suc k) v t ≡ None
  unfolding bytes_after
  no_byte e k v = then_none _ (read_count_of (before_dot t)) e

  pub one_byte : (n : ℕ) → byte_of (before_dot t) ≡ Some n → (k v : ℕ) → bytes_after (suc k) v t ≡ bytes_after k (v * 256 + n) (after_dot t)
  unfolding bytes_after
  one_byte n e k v = then_some _ (read_count_of (before_dot t)) n e

  -- no dot
  pub no_dot : after_dot t ≡ [] → (k v : ℕ) → bytes_after (suc k) v t ≡ None
  unfolding bytes_after
  no_dot e k v = then_never _ _ (λ n. ap (bytes_after k (v * 256 + n)) e ∙ bytes_none k (v * 256 + n))

  -- the last
  pub last_none : (v : ℕ) → None ≡ byte_of t → bytes_after 0 v t ≡ None
  unfolding bytes_after
  last_none v e = then_none _ (read_count_of t) (sym e)

  pub last_byte : (v n : ℕ) → Some n ≡ byte_of t → bytes_after 0 v t ≡ Some (v * 256 + n)
  unfolding bytes_after
  last_byte v n e = then_some _ (read_count_of t) n (sym e)
