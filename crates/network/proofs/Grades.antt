-- The table of grades: from grade 1 on positive and falling, by one test computed over the table and carried to each entry.
-- Assumes nothing.
use mathlib.Core.Path.{◌≡◌, refl}
use mathlib.Core.Bool.{Bool, true, ◌&&◌}
use mathlib.Core.List.{List, [], ◌∷◌}
use Prim.Native.Nat.{ℕ, zero, suc, ◌<◌, ◌≤◌}
use native.Mathlib.Omega.{arith}
use lib.Dec.{ltb}
use lib.ListN.{length, drop, get_or}
use borrow.Author.Tests.{ltb-true}
use Rattle.ancestors.proofs.Cases.{and_both}
use Rattle.network.specs.Faults.{max_cost}
use Rattle.network.specs.Change.{grades, grade_cost_of}

-- every entry is positive and below the one before it, the first below b
falls : ℕ → List ℕ → Bool
falls b [] = true
falls b (c ∷ cs) = (ltb 0 c && ltb c b) && falls c cs

entry : (b c : ℕ) (cs : List ℕ) → falls b (c ∷ cs) ≡ true → (0 < c) × (c < b) × (falls c cs ≡ true)
unfolding falls
entry b c cs e =
    let k = and_both (ltb 0 c && ltb c b) (falls c cs) e in
    let m = and_both (ltb 0 c) (ltb c b) k.0 in
    (ltb-true 0 c m.0, ltb-true c b m.1, k.1)

-- the test at each entry
falls_at : (b : ℕ) (cs : List ℕ) → falls b cs ≡ true → (i : ℕ) → i < length cs → (0 < get_or cs i 0) × (get_or cs i 0 < get_or (b ∷ cs) i 0)
falls_at b [] e i h = absurd (omega arith)
falls_at b (c ∷ cs) e zero h = let k = entry b c cs e in (k.0, k.1)
falls_at b (c ∷ cs) e (suc i) h = let k = entry b c cs e in falls_at c cs k.2 i (omega arith)

falls_below : (b : ℕ) (cs : List ℕ) → falls b cs ≡ true → (i : ℕ) → get_or cs i 0 ≤ b
falls_below b [] e i = omega arith
falls_below b (c ∷ cs) e zero = let k = entry b c cs e in omega arith
falls_below b (c ∷ cs) e (suc i) = let k = entry b c cs e in omega (arith, falls_below c cs k.2 i)

-- the costs of the grades from 1 on
abbrev costs : List ℕ
costs = drop 1 grades

costs_fall : falls max_cost costs ≡ true
unfolding falls
costs_fall = refl

pub grade_removes : grade_cost_of 0 ≡ 0
unfolding grade_cost_of
grade_removes = refl

pub grade_positive : (g : ℕ) → 1 ≤ g → g ≤ 15 → 0 < grade_cost_of g
unfolding grade_cost_of
grade_positive zero a b = absurd (omega arith)
grade_positive (suc g) a b = (falls_at max_cost costs costs_fall g (omega arith)).0

pub grade_falls : (g : ℕ) → 1 ≤ g → g < 15 → grade_cost_of (suc g) < grade_cost_of g
unfolding grade_cost_of
grade_falls zero a b = absurd (omega arith)
grade_falls (suc g) a b = (falls_at max_cost costs costs_fall (suc g) (omega arith)).1

pub grade_small : (g : ℕ) → grade_cost_of g ≤ max_cost
unfolding grade_cost_of
grade_small zero = omega arith
grade_small (suc g) = falls_below max_cost costs costs_fall g
