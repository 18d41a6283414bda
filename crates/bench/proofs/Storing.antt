-- Metrics stored one after another, and 0 in the places after them.
-- Assumes nothing.
use mathlib.Core.Path.{◌≡◌, refl, sym, ◌∙◌}
use mathlib.Core.Logic.{◌⊎◌, inl, inr}
use mathlib.Core.List.{List, [], ◌∷◌, ◌++◌, append-nil}
use Prim.Native.Nat.{ℕ, ◌+◌, ◌-◌, ◌<◌, ◌≤◌}
use native.Mathlib.Numerals.{add-one}
use native.Mathlib.Omega.{arith}
use lib.ListN.{length, take, get_or, set, replicate, length-append, length-replicate, get_or-eq_default, get_or-replicate, get_or-append, drop_of_length-le}
use lib.Seq.{take-suc, take_all, get_or-append_right}
use Rattle.ancestors.proofs.Cases.{le_or_lt}
use Rattle.network.specs.Faults.{max_nodes}
use Rattle.filling.specs.Filling.{Added}
use Rattle.filling.proofs.Parts.{added_as, added_byte}
use Rattle.bench.specs.Handed.{places}

-- there is a place for each of 32 nodes
pub places_long : (ms : List ℕ) → length ms ≤ max_nodes → length (places ms) ≡ max_nodes
unfolding places
places_long ms h = omega (arith, length-append ms (replicate (max_nodes - length ms) 0), length-replicate {A = ℕ} (max_nodes - length ms) 0)

-- what stands in a place
pub place_at : (ms : List ℕ) (y : ℕ) → get_or (places ms) y 0 ≡ get_or ms y 0
unfolding places
place_at ms y = go (le_or_lt (length ms) y)
  where
    zeros : List ℕ
    zeros = replicate (max_nodes - length ms) 0

    none : (k : ℕ) → (length zeros ≤ k) ⊎ (k < length zeros) → get_or zeros k 0 ≡ 0
    none k (inl h) = get_or-eq_default zeros 0 h
    none k (inr h) = get_or-replicate (max_nodes - length ms) k 0 0 (omega (arith, length-replicate {A = ℕ} (max_nodes - length ms) 0))

    go : (length ms ≤ y) ⊎ (y < length ms) → get_or (ms ++ replicate (max_nodes - length ms) 0) y 0 ≡ get_or ms y 0
    go (inl h) = get_or-append_right ms zeros y 0 h ∙ none (y - length ms) (le_or_lt (length zeros) (y - length ms)) ∙ sym (get_or-eq_default ms 0 h)
    go (inr h) = get_or-append ms zeros 0 y h

-- the first two words
pub two_first : (xs : List ℕ) (a b : ℕ) → 2 ≤ length xs → take 2 (set (set xs 0 a) 1 b) ≡ (a ∷ b ∷ [])
two_first [] a b e = absurd (omega arith)
two_first (x ∷ []) a b e = absurd (omega arith)
two_first (x ∷ y ∷ xs) a b e = refl

-- one more of the words ws stored, from the third place on
pub stored_next : (ws e x : List ℕ) (i v : ℕ) → Added (take i ws) e x 2 (i + 2) → v ≡ get_or ws i 0 → i < length ws → i + 2 < length e
    → Added (take (i + 1) ws) e (set x (i + 2) v) 2 (i + 1 + 2)
stored_next ws e x i v h q w k =
    let n : i + 2 + 1 ≡ i + 1 + 2 = omega arith in
    let t : take (i + 1) ws ≡ take i ws ++ (v ∷ []) = rw (add-one i, q) (take-suc ws i 0 w) in
    rw n at (added_as t (added_byte v h k))

-- all of them
pub stored_all : (ws e x : List ℕ) (i a b : ℕ) → Added (take i ws) e x 2 (i + 2) → take 2 e ≡ (a ∷ b ∷ []) → length ws ≤ i → length e ≤ i + 2
    → x ≡ (a ∷ b ∷ ws)
stored_all ws e x i a b h f w k = h.left ∙ rw (f, take_all i ws w, drop_of_length-le e {i = i + 2} k, append-nil ws)
