-- A list among n nodes by one comparison: it is its nodes below n but one, and that one, exactly where it has no other bit and that node's.
-- Assumes nothing.
use mathlib.Core.Path.{◌≡◌, sym, ap, ◌∙◌}
use mathlib.Core.Bool.{true, false, cond, not, ◌&&◌, ◌||◌, and-true, and-false, or-true}
use mathlib.Core.Logic.{◌⊎◌, inl, inr, ◌≢◌}
use Prim.Native.Nat.{ℕ, ◌+◌, ◌-◌, ◌%◌, ◌^◌, ◌<◌, ◌≤◌}
use native.Mathlib.Omega.{arith}
use lib.Bits.{bit_and, and_le_l}
use lib.Dec.{leb, ltb}
use lib.Pow.{pow_mono}
use borrow.Author.Tests.{lt-ltb, le-ltb, le-leb, lt-leb}
use Rattle.ancestors.specs.Ancestors.{has, put, cut}
use Rattle.ancestors.proofs.Cases.{bool_cases, le_or_lt, eq_or_ne, never}
use Rattle.ancestors.proofs.Laws.{has_put_same, has_put_other, put_below, has_beyond, bit_beyond}
use Rattle.ancestors.proofs.Sets.{has_and, has_cut_other, those_has, those_ext}
use Rattle.network.specs.Faults.{list_fault_of}
use Rattle.faults.proofs.Range.{has_below}

-- the nodes below n but i
abbrev others : ℕ → ℕ → ℕ
others n i = cut (4294967295 % 2 ^ n) i

-- those of the list, and i
abbrev whole : ℕ → ℕ → ℕ → ℕ
whole n i l = put (bit_and l (others n i)) i

-- as the code puts it together
pub whole_is : (n i l : ℕ) {every rest joined : ℕ} → i < 32 → every ≡ 4294967295 % 2 ^ n → rest ≡ cond (ltb i 32) (cut every i) every
    → joined ≡ cond (ltb i 32) (put (bit_and l rest) i) (bit_and l rest) → joined ≡ whole n i l
whole_is n i l {every} {rest} small a b c =
    let found : rest ≡ others n i = b ∙ rw (lt-ltb i 32 small, a) in
    c ∙ rw (lt-ltb i 32 small, found)

module _ (n i l : ℕ) (fits : l < 2 ^ 32) where
  -- without the node's bit the list is at fault, whatever else it has
  none_listed : has l i ≡ false → list_fault_of n i l ≡ true
  unfolding list_fault_of
  none_listed e = rw e (or-true (leb (2 ^ n) l))

  -- so it is where the node is none
  pub none_node : (n ≤ i) ⊎ (32 ≤ i) → list_fault_of n i l ≡ true
  unfolding list_fault_of
  none_node (inr h) = none_listed (has_beyond 32 l i fits h)
  none_node (inl h) = go (le_or_lt (2 ^ n) l)
    where
      go : (2 ^ n ≤ l) ⊎ (l < 2 ^ n) → (leb (2 ^ n) l || not (has l i)) ≡ true
      go (inl b) = rw (le-leb (2 ^ n) l b)
      go (inr b) = none_listed (has_beyond n l i b h)

  module _ (node : i < n) (small : i < 32) where
    other_bit : (j : ℕ) → j < 32 → i ≢ j → has (whole n i l) j ≡ (has l j && ltb j n)
    other_bit j h d =
        has_put_other (bit_and l (others n i)) i j d ∙ has_and l (others n i) j ∙
        ap (λ b. has l j && b) (has_cut_other (4294967295 % 2 ^ n) i j d ∙ has_below n j h)

    whole_fits : whole n i l < 2 ^ 32
    whole_fits = put_below 32 (bit_and l (others n i)) i (omega (arith, and_le_l l (others n i))) small

    -- a list that is not that has another bit, or not the node's
    pub other_list : whole n i l ≢ l → list_fault_of n i l ≡ true
    unfolding list_fault_of
    other_list d = go (le_or_lt (2 ^ n) l) (bool_cases (has l i))
      where
        same : l < 2 ^ n → has l i ≡ true → whole n i l ≡ l
        same b e = those_has 32 (whole n i l) whole_fits ∙ those_ext (has (whole n i l)) (has l) 32 (λ j h. bit j h (eq_or_ne i j) (le_or_lt n j)) ∙ sym (those_has 32 l fits)
          where
            bit : (j : ℕ) → j < 32 → (i ≡ j) ⊎ (i ≢ j) → (n ≤ j) ⊎ (j < n) → has (whole n i l) j ≡ has l j
            bit j h (inl q) c = ap (has (whole n i l)) (sym q) ∙ has_put_same (bit_and l (others n i)) i ∙ sym e ∙ ap (has l) q
            bit j h (inr q) (inl c) = let z = has_beyond n l j b c in other_bit j h q ∙ rw z
            bit j h (inr q) (inr c) = other_bit j h q ∙ rw (lt-ltb j n c) (and-true (has l j))

        go : (2 ^ n ≤ l) ⊎ (l < 2 ^ n) → (has l i ≡ true) ⊎ (has l i ≡ false) → (leb (2 ^ n) l || not (has l i)) ≡ true
        go (inl b) e = rw (le-leb (2 ^ n) l b)
        go (inr b) (inl e) = absurd (d (same b e))
        go (inr b) (inr e) = none_listed e

    -- and that list is in order
    pub this_list : whole n i l ≡ l → list_fault_of n i l ≡ false
    unfolding list_fault_of
    this_list e = go (le_or_lt (2 ^ n) l)
      where
        own : has l i ≡ true
        own = ap (λ w. has w i) (sym e) ∙ has_put_same (bit_and l (others n i)) i

        go : (2 ^ n ≤ l) ⊎ (l < 2 ^ n) → (leb (2 ^ n) l || not (has l i)) ≡ false
        go (inr b) = rw (lt-leb (2 ^ n) l b, own)
        go (inl b) = far (le_or_lt 32 n)
          where
            far : (32 ≤ n) ⊎ (n < 32) → (leb (2 ^ n) l || not (has l i)) ≡ false
            far (inl c) = let m : 2 ^ 32 ≤ 2 ^ n = pow_mono c in absurd (omega arith)
            far (inr c) =
                let w : n + (32 - n) ≡ 32 = omega arith in
                let f = bit_beyond n (32 - n) l b (rw w fits) in
                let below : f.0 < 32 = omega (arith, f.2) in
                let d : i ≢ f.0 = λ q. omega (arith, f.1) in
                let z : has l f.0 ≡ false =
                sym (ap (λ v. has v f.0) e) ∙ other_bit f.0 below d ∙ rw (le-ltb f.0 n f.1) (and-false (has l f.0)) in
                never (has l f.0) f.3 z
