-- The bits of what is in range for a receiver: those below n without its own.
-- Assumes nothing.
use mathlib.Core.Path.{◌≡◌, refl, sym, ap, ◌∙◌}
use mathlib.Core.Bool.{true, false, cond, not, and-true}
use mathlib.Core.Logic.{◌⊎◌, inl, inr, ◌≢◌}
use Prim.Native.Nat.{ℕ, ◌%◌, ◌^◌, ◌<◌, ◌≤◌}
use native.Mathlib.Omega.{arith}
use native.Mathlib.Nat.{mod-le}
use lib.Dec.{ltb}
use borrow.Author.Tests.{lt-ltb, le-ltb}
use Rattle.ancestors.specs.Ancestors.{has, put, cut, those}
use Rattle.ancestors.proofs.Cases.{le_or_lt, eq_or_ne}
use Rattle.ancestors.proofs.Laws.{has_empty}
use Rattle.ancestors.proofs.Sets.{has_those, those_ext, those_has, has_low, has_cut_same, has_cut_other, cut_below}
use Rattle.network.specs.Faults.{pair_fault_of}
use Rattle.network.specs.Arcs.{senders}
use Rattle.network.proofs.FaultLaws.{pair_free, sender_bad, receiver_bad, pair_same}

-- the word of all bits
all_bits : 4294967295 ≡ those (λ s. true) 32
unfolding those put
all_bits = refl

has_all : (s : ℕ) → s < 32 → has 4294967295 s ≡ true
has_all s h = ap (λ l. has l s) all_bits ∙ has_those (λ s. true) 32 s ∙ rw (lt-ltb s 32 h)

-- those below n
pub has_below : (n s : ℕ) → s < 32 → has (4294967295 % 2 ^ n) s ≡ ltb s n
has_below n s h = has_low 4294967295 n s ∙ rw (has_all s h) (and-true (ltb s n))

-- a receiver that is no node has none
pub senders_none : (n r : ℕ) → n ≤ r → 0 ≡ senders n r
unfolding senders
senders_none n r h = those_has 32 0 (omega arith) ∙ those_ext (has 0) _ 32 (λ s _. has_empty s ∙ rw (receiver_bad n s r h))

module _ (n r : ℕ) (node : r < n) where
  -- a word with the bits below n but that of r
  by_bits : (w : ℕ) → w < 2 ^ 32 → ((s : ℕ) → s < 32 → s ≢ r → has w s ≡ ltb s n) → (r < 32 → has w r ≡ false) → w ≡ senders n r
  unfolding senders
  by_bits w fits other own = those_has 32 w fits ∙ those_ext (has w) _ 32 (λ s h. go s h (eq_or_ne s r) (le_or_lt n s))
    where
      go : (s : ℕ) → s < 32 → (s ≡ r) ⊎ (s ≢ r) → (n ≤ s) ⊎ (s < n) → has w s ≡ not (pair_fault_of n s r)
      go s h (inl e) b = ap (has w) e ∙ own (omega arith) ∙ rw (e, pair_same n r)
      go s h (inr e) (inl b) = other s h e ∙ rw (le-ltb s n b, sender_bad n s r b)
      go s h (inr e) (inr b) = other s h e ∙ rw (lt-ltb s n b, pair_free n s r b node e)

  abbrev every : ℕ
  every = 4294967295 % 2 ^ n

  fits : every < 2 ^ 32
  fits = omega (arith, mod-le 4294967295 (2 ^ n))

  pub senders_are : cond (ltb r 32) (cut every r) every ≡ senders n r
  senders_are = go (le_or_lt 32 r)
    where
      go : (32 ≤ r) ⊎ (r < 32) → cond (ltb r 32) (cut every r) every ≡ senders n r
      go (inl h) = rw (le-ltb r 32 h) (by_bits every fits (λ s b _. has_below n s b) (λ b. absurd (omega arith)))
      go (inr h) =
          rw (lt-ltb r 32 h)
          (by_bits (cut every r) (cut_below 32 every r fits) (λ s b e. has_cut_other every r s (λ q. e (sym q)) ∙ has_below n s b)
          (λ _. has_cut_same every r))
