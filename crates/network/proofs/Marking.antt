-- Tests below a bound, and the marks of an accepted round: every one lies on an arc.
-- Assumes nothing.
use mathlib.Core.Path.{◌≡◌, refl, ap₂, subst}
use mathlib.Core.Bool.{Bool, true, false, cond, not, ◌&&◌, ◌||◌, or-true}
use mathlib.Core.Logic.{◌⊎◌, inl, inr, ◌≢◌}
use mathlib.Core.List.{List}
use Prim.Native.Nat.{ℕ, zero, suc, ◌<◌}
use native.Mathlib.Omega.{arith}
use lib.Dec.{eqb, ltb}
use lib.ListN.{length, get_or}
use borrow.Author.Tests.{ltb-true, eqb-false, not-false, eqb-true}
use Rattle.ancestors.specs.Ancestors.{has}
use Rattle.ancestors.proofs.Cases.{bool_cases, eq_or_ne, never, and_both}
use Rattle.network.specs.Faults.{pair_fault_of}
use Rattle.network.specs.Network.{Net}
use Rattle.network.specs.Round.{marked, some, stray_mark, idle_mark, round_number, every_arc}

-- ---- some number below k passes the test

pub some_here : (f : ℕ → Bool) (k i : ℕ) → i < k → f i ≡ true → some f k ≡ true
unfolding some
some_here f zero i h e = absurd (omega arith)
some_here f (suc k) i h e = go (λ l. some_here f k i l e) (eq_or_ne i k)
  where
    go : (i < k → some f k ≡ true) → (i ≡ k) ⊎ (i ≢ k) → (some f k || f k) ≡ true
    go again (inl q) = rw (subst (λ n. f n ≡ true) q e) (or-true (some f k))
    go again (inr n) = rw (again (omega (arith, n)))

-- if none does, a given one does not
pub some_not : (f : ℕ → Bool) (k i : ℕ) → some f k ≡ false → i < k → f i ≡ false
some_not f k i e h = go (bool_cases (f i))
  where
    go : (f i ≡ true) ⊎ (f i ≡ false) → f i ≡ false
    go (inl q) = never (some f k) (some_here f k i h q) e
    go (inr q) = q

-- if one does, here it is
pub some_find : (f : ℕ → Bool) (k : ℕ) → some f k ≡ true → (i : ℕ) × (i < k) × (f i ≡ true)
unfolding some
some_find f zero e = never false e refl
some_find f (suc k) e = go (bool_cases (f k)) (bool_cases (some f k)) (some_find f k)
  where
    go : (f k ≡ true) ⊎ (f k ≡ false) → (some f k ≡ true) ⊎ (some f k ≡ false) → (some f k ≡ true → (i : ℕ) × (i < k) × (f i ≡ true)) →
        (i : ℕ) × (i < suc k) × (f i ≡ true)
    go (inl q) h again = (k, omega arith, q)
    go (inr q) (inl h) again = let b = again h in (b.0, omega arith, b.2)
    go (inr q) (inr h) again = never false (rw (h, q) at e) refl

pub some_none : (f : ℕ → Bool) (k : ℕ) → ((i : ℕ) → i < k → f i ≡ false) → some f k ≡ false
unfolding some
some_none f zero e = refl
some_none f (suc k) e = rw (some_none f k (λ i h. e i (omega arith)), e k (omega arith))

pub some_ext : (f g : ℕ → Bool) (k : ℕ) → ((i : ℕ) → i < k → f i ≡ g i) → some f k ≡ some g k
unfolding some
some_ext f g zero e = refl
some_ext f g (suc k) e = ap₂ ◌||◌ (some_ext f g k (λ i h. e i (omega arith))) (e k (omega arith))

-- ---- the marks of a round call

-- a mark lies below 32, and is a bit of its receiver's word
pub mark_says : (ms : List ℕ) (s r : ℕ) → marked ms s r ≡ true → (s < 32) × (r < 32) × (has (get_or ms r 0) s ≡ true)
unfolding marked
mark_says ms s r e =
    let a = and_both (ltb s 32) (ltb r 32 && has (get_or ms r 0) s) e in
    let b = and_both (ltb r 32) (has (get_or ms r 0) s) a.1 in
    (ltb-true s 32 a.0, ltb-true r 32 b.0, b.1)

-- an accepted round call has 32 words, no mark out of range and none without an arc
pub record RoundAccepted (x : Net) (ms : List ℕ) : Type 0 where
  pub full : length ms ≡ 32
  pub range : (s r : ℕ) → marked ms s r ≡ true → pair_fault_of x.nodes s r ≡ false
  pub arcs : (s r : ℕ) → marked ms s r ≡ true → 0 < x.cost s r

-- of a test over all pairs of which none passes, a marked pair fails its part
pub marked_fails : (ms : List ℕ) (f : ℕ → ℕ → Bool) → some (λ r. some (λ s. marked ms s r && f s r) 32) 32 ≡ false →
    (s r : ℕ) → marked ms s r ≡ true → f s r ≡ false
marked_fails ms f e s r m =
    let i = mark_says ms s r m in
    let outer = some_not (λ r. some (λ s. marked ms s r && f s r) 32) 32 r e i.1 in
    let inner = some_not (λ s. marked ms s r && f s r) 32 s outer i.0 in
    rw m at inner

-- the three tests of a round call that is accepted
three_tests : (a b c : Bool) → ◌≡◌ {A = ℕ} (cond a 1 (cond b 3 (cond c 7 0))) 0 → (a ≡ false) × (b ≡ false) × (c ≡ false)
three_tests true b c z = absurd (omega arith)
three_tests false true c z = absurd (omega arith)
three_tests false false true z = absurd (omega arith)
three_tests false false false z = (refl, refl, refl)

pub round_accepted : (x : Net) (ms : List ℕ) → round_number x ms ≡ 0 → RoundAccepted x ms
unfolding round_number stray_mark idle_mark
round_accepted x ms e =
    let k = three_tests (not (eqb (length ms) 32)) (stray_mark x.nodes (marked ms)) (idle_mark x.cost (marked ms)) e in
    record {
      full = eqb-true (length ms) 32 (not-false (eqb (length ms) 32) k.0);
      range = marked_fails ms (pair_fault_of x.nodes) k.1;
      arcs = λ s r m. omega (arith, eqb-false (x.cost s r) 0 (marked_fails ms (λ s r. eqb (x.cost s r) 0) k.2 s r m));
    }

-- a full round marks arcs alone
pub every_arc_lem : (x : Net) (s r : ℕ) → every_arc x s r ≡ true → 0 < x.cost s r
unfolding every_arc
every_arc_lem x s r e = ltb-true 0 (x.cost s r) e
