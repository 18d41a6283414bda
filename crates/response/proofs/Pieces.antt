-- Lists of pieces, one for each number (`each`): their length, a piece's place, the pieces put together, and lists with an element for each number.
-- Assumes nothing.
use mathlib.Core.Path.{◌≡◌, refl, sym, ap, subst, ◌∙◌}
use mathlib.Core.List.{List, [], ◌∷◌, ◌++◌, append_assoc}
use Prim.Native.Nat.{ℕ, zero, suc, ◌+◌, ◌*◌, ◌-◌, ◌<◌, ◌≤◌}
use native.Mathlib.Nat.{zero-add}
use native.Mathlib.Omega.{arith}
use lib.ListN.{length, take, drop, get_or, length-append}
use lib.Seq.{take-add, drop-drop, drop_at, ext_get_or, get_or-append_seam}
use Rattle.records.specs.Image.{each}
use Rattle.records.proofs.Each.{each_zero, each_last, each_split}

-- the part of m bytes after one of n
pub take_next : (n m : ℕ) (l : List ℕ) (o : ℕ) → take (n + m) (drop o l) ≡ take n (drop o l) ++ take m (drop (o + n) l)
take_next n m l o = take-add n m (drop o l) ∙ ap (λ (r : List ℕ). take n (drop o l) ++ take m r) (drop-drop n o l)

module _ (f : ℕ → List ℕ) (s : ℕ) where
  -- pieces of one size
  pub each_size : (k d : ℕ) → ((i : ℕ) → k ≤ i → i < k + d → length (f i) ≡ s) → length (each f k d) ≡ d * s
  unfolding each
  each_size k zero h = omega arith
  each_size k (suc d) h =
      let e : suc d * s ≡ s + d * s = omega arith in
      omega (arith, length-append (f k) (each f (suc k) d), h k (omega arith) (omega arith), each_size (suc k) d (λ i a b. h i (omega arith) (omega arith)), e)

  -- what stands in the places of the pieces is all of them
  pub each_put : (k d o : ℕ) (l : List ℕ) → ((i : ℕ) → i < d → take s (drop (o + i * s) l) ≡ f (k + i)) → take (d * s) (drop o l) ≡ each f k d
  each_put k zero o l h =
      let e : 0 * s ≡ 0 = omega arith in
      rw (e, each_zero f k)
  each_put k (suc d) o l h =
      let e : suc d * s ≡ d * s + s = omega arith in
      let g : suc d ≡ d + 1 = omega arith in
      rw (e, take_next (d * s) s l o, g, each_last f k d, each_put k d o l (λ i a. h i (omega arith)), h d (omega arith))

-- the pieces from piece i on
pub each_from : (f : ℕ → List ℕ) (k d i : ℕ) → i < d → each f k d ≡ each f k i ++ (f (k + i) ++ each f (suc (k + i)) (d - suc i))
unfolding each
each_from f k d i h =
    let e : d ≡ i + suc (d - suc i) = omega arith in
    ap (each f k) e ∙ each_split f k i (suc (d - suc i))

-- piece i, and what follows it, in a list that goes on
pub each_at : (f : ℕ → List ℕ) (k d i n : ℕ) (r : List ℕ) → i < d → length (each f k i) ≡ n
    → drop n (each f k d ++ r) ≡ f (k + i) ++ (each f (suc (k + i)) (d - suc i) ++ r)
each_at f k d i n r h e =
    rw (each_from f k d i h) (simp append_assoc (drop_at (each f k i) (f (k + i) ++ (each f (suc (k + i)) (d - suc i) ++ r)) n e))

-- ---- a list with an element for each number

module _ (g : ℕ → ℕ) where
  abbrev one : ℕ → List ℕ
  one i = g i ∷ []

  pub ones_size : (k d : ℕ) → length (each one k d) ≡ d
  ones_size k d = each_size one 1 k d (λ i a b. refl) ∙ omega arith

  pub ones_at : (k d i : ℕ) → i < d → get_or (each one k d) i 0 ≡ g (k + i)
  ones_at k d i h =
      let e = each_from one k d i h in
      let n = ones_size k i in
      ap (λ (l : List ℕ). get_or l i 0) e ∙ subst (λ (j : ℕ). get_or (each one k i ++ (g (k + i) ∷ each one (suc (k + i)) (d - suc i))) j 0 ≡ g (k + i)) n
      (get_or-append_seam (each one k i) (g (k + i)) (each one (suc (k + i)) (d - suc i)) 0)

-- a list is that of its elements
pub ones_list : (l : List ℕ) (n : ℕ) → length l ≡ n → each (λ i. get_or l i 0 ∷ []) 0 n ≡ l
ones_list l n h =
    ext_get_or 0 (each (λ i. get_or l i 0 ∷ []) 0 n) l (ones_size (λ i. get_or l i 0) 0 n ∙ sym h)
    (λ i a. ones_at (λ i. get_or l i 0) 0 n i (omega (arith, ones_size (λ i. get_or l i 0) 0 n)) ∙ ap (λ (j : ℕ). get_or l j 0) (zero-add i))
