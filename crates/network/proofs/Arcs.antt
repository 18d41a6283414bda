-- Words of arcs and of what is in range: their bits, marks tested by one comparison of words, and a full round as a round on the arcs' words.
-- Assumes nothing.
use mathlib.Core.Path.{◌≡◌, refl, sym, ap, ◌∙◌}
use mathlib.Core.Bool.{Bool, true, false, cond, not, ◌&&◌}
use mathlib.Core.Logic.{◌⊎◌, inl, inr}
use Prim.Native.Nat.{ℕ, zero, suc, ◌+◌, ◌^◌, ◌<◌, ◌≤◌}
use native.Mathlib.Omega.{arith}
use lib.Dec.{eqb, ltb}
use lib.ListN.{length, get_or}
use borrow.Author.Tests.{lt-ltb, le-ltb, eq-eqb, ne_eqb}
use Rattle.ancestors.specs.Ancestors.{has, inside}
use Rattle.ancestors.proofs.Cases.{bool_cases, le_or_lt}
use Rattle.ancestors.proofs.Sets.{has_those, those_below, inside_has, outside_find}
use Rattle.network.specs.Faults.{max_nodes, pair_fault_of}
use Rattle.network.specs.Network.{Net}
use Rattle.network.specs.Round.{Marks, report, hear, round, marked, some, stray_mark, idle_mark, round_number, round_of, every_arc, full_round_of}
use Rattle.network.specs.Arcs.{arcs_to, numbers, arc_words_of, senders, ArcsExact, FullRoundMarked}
use Rattle.network.proofs.Effects.{same_reports}
use Rattle.network.proofs.FaultLaws.{pair_says}
use Rattle.network.proofs.Limits.{within_size}
use Rattle.network.proofs.Marking.{some_here, some_none, every_arc_lem}

-- ---- bits

pub arcs_exact : ArcsExact
unfolding arcs_to
arcs_exact x r s h = has_those (λ s. every_arc x s r) max_nodes s ∙ rw (lt-ltb s max_nodes h)

pub senders_has : (n r s : ℕ) → s < max_nodes → has (senders n r) s ≡ not (pair_fault_of n s r)
unfolding senders
senders_has n r s h = has_those (λ s. not (pair_fault_of n s r)) max_nodes s ∙ rw (lt-ltb s max_nodes h)

pub arcs_fit : (x : Net) (r : ℕ) → arcs_to x r < 2 ^ 32
unfolding arcs_to
arcs_fit x r = those_below (λ s. every_arc x s r) max_nodes

pub senders_fit : (n r : ℕ) → senders n r < 2 ^ 32
unfolding senders
senders_fit n r = those_below (λ s. not (pair_fault_of n s r)) max_nodes

-- ---- the words of every node

numbers_long : (f : ℕ → ℕ) (k d : ℕ) → length (numbers f k d) ≡ d
unfolding numbers
numbers_long f k zero = refl
numbers_long f k (suc d) = ap suc (numbers_long f (suc k) d)

numbers_at : (f : ℕ → ℕ) (k d i : ℕ) → i < d → get_or (numbers f k d) i 0 ≡ f (k + i)
unfolding numbers
numbers_at f k zero i h = absurd (omega arith)
numbers_at f k (suc d) zero h = ap f (omega arith)
numbers_at f k (suc d) (suc i) h = numbers_at f (suc k) d i (omega arith) ∙ ap f (omega arith)

pub arc_words_long : (x : Net) → length (arc_words_of x) ≡ max_nodes
unfolding arc_words_of
arc_words_long x = numbers_long (arcs_to x) 0 max_nodes

pub arc_words_at : (x : Net) (r : ℕ) → r < max_nodes → get_or (arc_words_of x) r 0 ≡ arcs_to x r
unfolding arc_words_of
arc_words_at x r h = numbers_at (arcs_to x) 0 max_nodes r h ∙ ap (arcs_to x) (omega arith)

-- a cost is positive or 0
pub some_cost : (c : ℕ) → not (ltb 0 c) ≡ eqb c 0
some_cost zero = refl
some_cost (suc c) = rw (lt-ltb 0 (suc c) (omega arith), ne_eqb (suc c) 0 (λ e. omega arith))

not_not : (b : Bool) → not (not b) ≡ b
not_not true = refl
not_not false = refl

-- a bit outside of what is in range is a pair's fault
pub stray_bit : (n r s : ℕ) → s < max_nodes → not (has (senders n r) s) ≡ pair_fault_of n s r
stray_bit n r s h = ap not (senders_has n r s h) ∙ not_not (pair_fault_of n s r)

-- ---- a word tested by one comparison: some bit of it is outside of another

pub outside_some : (l m : ℕ) → l < 2 ^ 32 → not (inside l m) ≡ some (λ s. has l s && not (has m s)) 32
outside_some l m fits = go (bool_cases (inside l m))
  where
    near : inside l m ≡ true → (i : ℕ) → (has l i ≡ true) ⊎ (has l i ≡ false) → (has l i && not (has m i)) ≡ false
    near q i (inl a) = rw (a, inside_has l m i q a)
    near q i (inr a) = rw a

    go : (inside l m ≡ true) ⊎ (inside l m ≡ false) → not (inside l m) ≡ some (λ s. has l s && not (has m s)) 32
    go (inl q) = rw q (sym (some_none _ 32 (λ i _. near q i (bool_cases (has l i)))))
    go (inr q) = let o = outside_find 32 l m fits q in rw q (sym (some_here _ 32 o.0 o.1 (rw (o.2, o.3))))

-- ---- a full round

-- rounds on the same marks
pub hear_ext : (m m' : Marks) (x : Net) → ((s r : ℕ) → m s r ≡ m' s r) → hear m x ≡ hear m' x
unfolding hear
hear_ext m m' x e = same_reports x (λ s r. λ j. cond (e s r j) (report (x.row s)) (x.held s r))

-- the arcs' words mark every arc, where arcs join nodes
pub words_mark : (x : Net) → ((s r : ℕ) → every_arc x s r ≡ true → (s < max_nodes) × (r < max_nodes)) → (s r : ℕ) → marked (arc_words_of x) s r ≡ every_arc x s r
unfolding marked
words_mark x few s r = go (le_or_lt max_nodes s) (le_or_lt max_nodes r) (bool_cases (every_arc x s r))
  where
    go : (max_nodes ≤ s) ⊎ (s < max_nodes) → (max_nodes ≤ r) ⊎ (r < max_nodes) → (every_arc x s r ≡ true) ⊎ (every_arc x s r ≡ false)
        → (ltb s 32 && (ltb r 32 && has (get_or (arc_words_of x) r 0) s)) ≡ every_arc x s r
    go (inr a) (inr b) e = rw (lt-ltb s 32 a, lt-ltb r 32 b, arc_words_at x r b) (arcs_exact x r s a)
    go (inl a) b (inl e) = let k = few s r e in absurd (omega arith)
    go (inl a) b (inr e) = rw (le-ltb s 32 a, e)
    go (inr a) (inl b) (inl e) = let k = few s r e in absurd (omega arith)
    go (inr a) (inl b) (inr e) = rw (lt-ltb s 32 a, le-ltb r 32 b, e)

pub full_round_marked : FullRoundMarked
unfolding round_of round_number full_round_of round stray_mark idle_mark every_arc
full_round_marked x w =
    rw (eq-eqb (length (arc_words_of x)) 32 (arc_words_long x), no_stray, no_idle, hear_ext (marked (arc_words_of x)) (every_arc x) x same)
  where
    pair : (s r : ℕ) → every_arc x s r ≡ true → pair_fault_of x.nodes s r ≡ false
    pair s r e = w.arc_pair s r (every_arc_lem x s r e)

    same : (s r : ℕ) → marked (arc_words_of x) s r ≡ every_arc x s r
    same = words_mark x (λ s r e. let p = pair_says x.nodes s r (pair s r e) in let k = within_size x w in (omega (arith, k), omega (arith, k)))

    none : (f : ℕ → ℕ → Bool) → ((s r : ℕ) → every_arc x s r ≡ true → f s r ≡ false) → some (λ r. some (λ s. marked (arc_words_of x) s r && f s r) 32) 32 ≡ false
    none f h = some_none _ 32 (λ r _. some_none _ 32 (λ s _. rw (same s r) (go s r (bool_cases (every_arc x s r)))))
      where
        go : (s r : ℕ) → (every_arc x s r ≡ true) ⊎ (every_arc x s r ≡ false) → (every_arc x s r && f s r) ≡ false
        go s r (inl e) = rw (e, h s r e)
        go s r (inr e) = rw e

    no_stray : some (λ r. some (λ s. marked (arc_words_of x) s r && pair_fault_of x.nodes s r) 32) 32 ≡ false
    no_stray = none (pair_fault_of x.nodes) pair

    no_idle : some (λ r. some (λ s. marked (arc_words_of x) s r && eqb (x.cost s r) 0) 32) 32 ≡ false
    no_idle = none (λ s r. eqb (x.cost s r) 0) (λ s r e. sym (some_cost (x.cost s r)) ∙ ap not e)
