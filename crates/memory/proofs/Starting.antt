-- The fresh network in memory: zeros but for n and the origin.
-- Assumes nothing.
use mathlib.Core.Path.{◌≡◌, refl, ap, ◌∙◌}
use mathlib.Core.Bool.{false, cond, not, and-false}
use mathlib.Core.List.{List}
use Prim.Native.Nat.{ℕ, zero, suc, ◌+◌, ◌≤◌, min}
use native.Mathlib.Omega.{arith}
use lib.Dec.{eqb}
use lib.ListN.{get_or, set, length-set, replicate, length-replicate}
use lib.Seq.{get_or-set_same, get_or-set_other}
use Rattle.ancestors.specs.Ancestors.{own}
use Rattle.ancestors.proofs.Laws.{has_empty}
use Rattle.network.specs.Faults.{pair_fault_of}
use Rattle.network.specs.Network.{root, empty, fresh_net}
use Rattle.memory.specs.Layout.{word_count, present, row_of, node_row, net_of, frame_in, look, view, arc_bits, row_lists}
use Rattle.memory.specs.Inner.{Blank}
use Rattle.network.proofs.Effects.{same_net}
use Rattle.memory.proofs.Store.{word_zero, at_none}

zero_at : (n k : ℕ) → get_or {A = ℕ} (replicate n 0) k 0 ≡ 0
zero_at zero k = refl
zero_at (suc n) zero = refl
zero_at (suc n) (suc k) = zero_at n k

pub blank_words : Blank (replicate {A = ℕ} word_count 0)
blank_words = record { size = length-replicate {A = ℕ} word_count 0; zeros = zero_at word_count }

module _ (xs : List ℕ) (blank : Blank xs) (n o : ℕ) (few : n ≤ 32) where
  abbrev ys : List ℕ
  ys = set (set xs 0 n) 1 o

  first : look ys 0 ≡ n
  first = get_or-set_other (set xs 0 n) 1 0 o 0 (λ e. omega arith) ∙ get_or-set_same xs 0 n 0 (omega (arith, blank.size))

  second : look ys 1 ≡ o
  second = get_or-set_same (set xs 0 n) 1 o 0 (omega (arith, length-set xs 0 n, blank.size))

  rest : (k : ℕ) → 2 ≤ k → look ys k ≡ 0
  rest k h =
      get_or-set_other (set xs 0 n) 1 k o 0 (λ e. omega arith) ∙ get_or-set_other xs 0 k n 0 (λ e. omega arith) ∙ blank.zeros k

  -- a word of 0 has no arc
  no_arc : (m s r : ℕ) → present m (look ys) s r ≡ false
  unfolding present
  no_arc m s r = rw (rest (arc_bits + r) (omega arith), has_empty s) (and-false (not (pair_fault_of m s r)))

  pub fresh_view : view ys ≡ fresh_net n o
  unfolding view net_of frame_in node_row row_of fresh_net
  fresh_view =
      let least : min n 32 ≡ n = omega arith in
      (λ j. net_of (record { nodes = min (first j) 32; origin = second j }) (look ys))
      ∙ same_net _ _ (λ j. record { nodes = least j; origin = o })
      (λ s r. at_none (min n 32) (look ys) s r _ 0 (no_arc (min n 32) s r))
      (λ y. ap (λ w. cond (eqb y o) (root (own o)) w) (rw (word_zero (min n 32) (look ys) row_lists y (λ k h. rest k (omega arith)))))
      (λ s r. at_none (min n 32) (look ys) s r _ empty (no_arc (min n 32) s r))
