-- Laws of a walk through the nodes of a list from the lowest up: the lowest node, and what is left of the list.
-- Assumes nothing.
use mathlib.Core.Path.{◌≡◌, refl, sym, ap, ap₂, subst, ◌∙◌}
use mathlib.Core.Bool.{true, false, cond, ◌&&◌}
use mathlib.Core.Logic.{◌⊎◌, inl, inr, ◌≢◌}
use Prim.Native.Nat.{ℕ, zero, suc, ◌+◌, ◌-◌, ◌*◌, ◌/◌, ◌%◌, ◌^◌, ◌<◌, ◌≤◌}
use native.Mathlib.Omega.{arith}
use lib.Dec.{ltb, leb}
use lib.Bits.{bit_and, bit_xor, differ, and_step, xor_step, and_self, and_zero_r, xor_zero_r}
use lib.Count.{count_trailing_zeros, under}
use borrow.Author.Tests.{eq-eqb, ne_eqb, lt-ltb, leb-true, le-leb, lt-leb}
use Rattle.std.specs.Prelude.{Some, None}
use Rattle.ancestors.specs.Ancestors.{has, cut, count, Steps}
use Rattle.ancestors.proofs.Cases.{le_or_lt, eq_or_ne, never, clash, and_both}
use Rattle.ancestors.proofs.Counting.{count_more}
use Rattle.ancestors.proofs.Laws.{has_empty, has_beyond, bit_beyond}
use Rattle.ancestors.proofs.Sets.{has_shifted, has_cut_same, has_cut_other, cut_below}

-- ---- the lowest node

-- node 0 is listed where the number is odd
odd_has : (x r : ℕ) → x % 2 ≡ suc r → has x 0 ≡ true
unfolding has
odd_has x r e = eq-eqb (x / 2 ^ 0 % 2) 1 (omega arith)

even_has : (x : ℕ) → x % 2 ≡ 0 → has x 0 ≡ false
unfolding has
even_has x e = ne_eqb (x / 2 ^ 0 % 2) 1 (λ q. omega arith)

-- a node but the first is that before it of the list halved
has_half : (x i : ℕ) → has x (suc i) ≡ has (x / 2) i
has_half x i = let next : suc i ≡ 1 + i = omega arith in ap (has x) next ∙ sym (has_shifted x 1 i)

-- no node is below the lowest
low_absent : (k x i : ℕ) → i < count_trailing_zeros k x → has x i ≡ false
unfolding count_trailing_zeros
low_absent zero x i h = absurd (omega arith)
low_absent (suc k) x i h = go (x % 2) refl i h (λ j. low_absent k (x / 2) j)
  where
    go : (r : ℕ) → x % 2 ≡ r → (i : ℕ) → i < under r (count_trailing_zeros k (x / 2)) → ((j : ℕ) → j < count_trailing_zeros k (x / 2) → has (x / 2) j ≡ false) → has x i ≡ false
    go zero e zero b again = even_has x e
    go zero e (suc j) b again = has_half x j ∙ again j (omega arith)
    go (suc r) e i b again = absurd (omega arith)

-- where there is one, it is listed
low_present : (k x : ℕ) → count_trailing_zeros k x < k → has x (count_trailing_zeros k x) ≡ true
unfolding count_trailing_zeros
low_present zero x h = absurd (omega arith)
low_present (suc k) x h = go (x % 2) refl h (low_present k (x / 2))
  where
    go : (r : ℕ) → x % 2 ≡ r → under r (count_trailing_zeros k (x / 2)) < suc k → (count_trailing_zeros k (x / 2) < k → has (x / 2) (count_trailing_zeros k (x / 2)) ≡ true)
        → has x (under r (count_trailing_zeros k (x / 2))) ≡ true
    go zero e b again = has_half x (count_trailing_zeros k (x / 2)) ∙ again (omega arith)
    go (suc r) e b again = odd_has x r e

-- a list that is not empty has one
low_below : (k x : ℕ) → x < 2 ^ k → x ≢ 0 → count_trailing_zeros k x < k
low_below k x h n = go (le_or_lt k (count_trailing_zeros k x))
  where
    go : (k ≤ count_trailing_zeros k x) ⊎ (count_trailing_zeros k x < k) → count_trailing_zeros k x < k
    go (inl b) =
        let e : k ≡ 0 + k = omega arith in
        let found = bit_beyond 0 k x (omega (arith, n)) (subst (λ z. x < 2 ^ z) e h) in
        never (has x found.0) found.3 (low_absent k x found.0 (omega (arith, found.2)))
    go (inr b) = b

-- ---- a list without its lowest node

cut_first : (x : ℕ) → x % 2 ≡ 1 → cut x 0 ≡ x / 2 * 2
unfolding cut
cut_first x e =
    let shared : bit_and x 1 ≡ 1 = and_step x 1 ∙ omega (arith, e, and_zero_r (x / 2)) in
    ap (bit_xor x) shared ∙ xor_step x 1 ∙ ap₂ (λ (a b : ℕ). a * 2 + b) (xor_zero_r (x / 2)) (ap (λ b. differ b 1) e) ∙ omega arith

cut_half : (x i : ℕ) → x % 2 ≡ 0 → cut x (suc i) ≡ cut (x / 2) i * 2
unfolding cut
cut_half x i e =
    let half : 2 ^ suc i / 2 ≡ 2 ^ i = omega arith in
    let shared : bit_and x (2 ^ suc i) ≡ bit_and (x / 2) (2 ^ i) * 2 = and_step x (2 ^ suc i) ∙ rw half (omega (arith, e)) in
    let low : bit_and x (2 ^ suc i) % 2 ≡ 0 = omega arith in
    let high : bit_and x (2 ^ suc i) / 2 ≡ bit_and (x / 2) (2 ^ i) = omega arith in
    xor_step x (bit_and x (2 ^ suc i)) ∙ rw (high, low, e) (omega arith)

-- as the code takes it out
pub without_lowest : (k l : ℕ) → l < 2 ^ k → l ≢ 0 → bit_and l (l - 1) ≡ cut l (count_trailing_zeros k l)
unfolding count_trailing_zeros
without_lowest zero l h n = absurd (n (omega arith))
without_lowest (suc k) l h n = go (l % 2) refl (without_lowest k (l / 2) (omega arith))
  where
    go : (r : ℕ) → l % 2 ≡ r → (l / 2 ≢ 0 → bit_and (l / 2) (l / 2 - 1) ≡ cut (l / 2) (count_trailing_zeros k (l / 2)))
        → bit_and l (l - 1) ≡ cut l (under r (count_trailing_zeros k (l / 2)))
    go zero e again =
        let half : (l - 1) / 2 ≡ l / 2 - 1 = omega (arith, n) in
        and_step l (l - 1) ∙ rw (half, again (λ z. n (omega arith)), e) (omega (arith, cut_half l (count_trailing_zeros k (l / 2)) e))
    go (suc r) e again =
        let half : (l - 1) / 2 ≡ l / 2 = omega arith in
        and_step l (l - 1) ∙ rw (half, and_self) (omega (arith, cut_first l (omega arith)))

-- ---- what is left

-- the list m has the nodes of l from j on
pub record Rest (l m j : ℕ) : Type 0 where
  pub bits : (i : ℕ) → has m i ≡ (leb j i && has l i)

-- at first all of it is left
pub rest_all : (l : ℕ) → Rest l l 0
rest_all l = record { bits = λ i. rw (le-leb 0 i (omega arith)) }

-- where nothing is left, no node from j on was listed
pub rest_none : (l j : ℕ) → Rest l 0 j → (i : ℕ) → j ≤ i → has l i ≡ false
rest_none l j rest i h = let e : false ≡ has l i = rw (has_empty i, le-leb j i h) at (rest.bits i) in sym e

-- s is the lowest node of what is left, of k nodes: none is passed over
pub record Next (k l j s : ℕ) : Type 0 where
  pub below : s < k
  pub from : j ≤ s
  pub here : has l s ≡ true
  pub gap : (i : ℕ) → j ≤ i → i < s → has l i ≡ false

-- r is what is then left, less than m was
pub record Left (k l m s r : ℕ) : Type 0 where
  pub rest : Rest l r (s + 1)
  pub fits : r < 2 ^ k
  pub fewer : count (has r) k < count (has m) k

module _ (k l m j s : ℕ) (rest : Rest l m j) (h : m < 2 ^ k) (n : m ≢ 0) (is : s ≡ count_trailing_zeros k m) where
  low : s < k
  low = subst (λ i. i < k) (sym is) (low_below k m h n)

  none : (i : ℕ) → i < s → has m i ≡ false
  none i b = low_absent k m i (subst (λ x. i < x) is b)

  some : has m s ≡ true
  some = ap (has m) is ∙ low_present k m (low_below k m h n)

  both : (leb j s ≡ true) × (has l s ≡ true)
  both = and_both (leb j s) (has l s) (sym (rest.bits s) ∙ some)

  pub next_node : Next k l j s
  next_node =
      record {
        below = low;
        from = leb-true j s both.0;
        here = both.1;
        gap = λ i from below. let e : false ≡ has l i = rw (none i below, le-leb j i from) at (rest.bits i) in sym e;
      }

  left_cut : Left k l m s (cut m s)
  left_cut =
      record {
        rest = record { bits = λ i. go i (eq_or_ne s i) (le_or_lt i s) };
        fits = cut_below k m s h;
        fewer = count_more (has (cut m s)) (has m) (λ i. keeps i (eq_or_ne s i)) s (has_cut_same m s) some k low;
      }
    where
      keeps : (i : ℕ) → (s ≡ i) ⊎ (s ≢ i) → has (cut m s) i ≡ true → has m i ≡ true
      keeps i (inl e) a = never (has (cut m s) i) a (ap (has (cut m s)) (sym e) ∙ has_cut_same m s)
      keeps i (inr e) a = sym (has_cut_other m s i e) ∙ a

      go : (i : ℕ) → (s ≡ i) ⊎ (s ≢ i) → (i ≤ s) ⊎ (s < i) → has (cut m s) i ≡ (leb (s + 1) i && has l i)
      go i (inl e) c = ap (has (cut m s)) (sym e) ∙ has_cut_same m s ∙ rw (lt-leb (s + 1) i (omega arith))
      go i (inr e) (inl c) = has_cut_other m s i e ∙ none i (omega (arith, e)) ∙ rw (lt-leb (s + 1) i (omega arith))
      go i (inr e) (inr c) = has_cut_other m s i e ∙ rest.bits i ∙ rw (le-leb j i (omega (arith, leb-true j s both.0)), le-leb (s + 1) i (omega arith))

  -- as `ancestors::left_out` answers it
  pub left_node : (r : ℕ) → r ≡ cond (ltb s k) (cut m s) m → Left k l m s r
  left_node r e = subst (Left k l m s) (sym (e ∙ rw (lt-ltb s k low))) left_cut

-- ---- a step through the nodes

-- the step where no node is left
pub no_step : (m : ℕ) → m ≡ 0 → Steps m None m
unfolding cut
no_step m e = record { fits = omega (arith, e); answers = rw e; leaves = rw e }

-- and where one is, as the code takes it
module _ (m : ℕ) (fits : m < 2 ^ 32) (n : m ≢ 0) where
  pub step_lowest : (s : ℕ) → s ≡ count_trailing_zeros 32 m → Steps m (Some s) (bit_and m (m - 1))
  step_lowest s e = record { fits = fits; answers = rw (ne_eqb m 0 n) (ap Some e); leaves = without_lowest 32 m fits n }

  pub fewer_left : count (has (bit_and m (m - 1))) 32 < count (has m) 32
  fewer_left = rw (without_lowest 32 m fits n) (left_cut 32 m m 0 (count_trailing_zeros 32 m) (rest_all m) fits n refl).fewer

-- a step that answers a node
stepped : (m s r : ℕ) → Steps m (Some s) r → (m ≢ 0) × (s ≡ count_trailing_zeros 32 m)
stepped m s r step = go (eq_or_ne m 0)
  where
    go : (m ≡ 0) ⊎ (m ≢ 0) → (m ≢ 0) × (s ≡ count_trailing_zeros 32 m)
    go (inl e) = let q : Some s ≡ None = step.answers ∙ rw e in clash cc
    go (inr n) = let q : Some s ≡ Some (count_trailing_zeros 32 m) = step.answers ∙ rw (ne_eqb m 0 n) in (n, cc)

-- a node that a step answers is the lowest that is left of a list, below 32, and the list is left without it
pub node_stepped : (l m j s r : ℕ) → Rest l m j → Steps m (Some s) r → Next 32 l j s × Left 32 l m s r
node_stepped l m j s r rest step =
    let is = stepped m s r step in
    (next_node 32 l m j s rest step.fits is.0 is.1, subst (Left 32 l m s) (sym (step.leaves ∙ ap (cut m) (sym is.1))) (left_cut 32 l m j s rest step.fits is.0 is.1))

-- where a step answers no node all were passed: none from j on was listed
pub nodes_passed : (l m j r : ℕ) → Rest l m j → Steps m None r → (i : ℕ) → j ≤ i → has l i ≡ false
nodes_passed l m j r rest step i from = go (eq_or_ne m 0)
  where
    go : (m ≡ 0) ⊎ (m ≢ 0) → has l i ≡ false
    go (inl e) = rest_none l j (subst (λ w. Rest l w j) e rest) i from
    go (inr n) = let q : None ≡ Some (count_trailing_zeros 32 m) = step.answers ∙ rw (ne_eqb m 0 n) in clash cc

-- ---- a loop over the nodes of l, all below k

-- what the loop keeps: P holds at some number, and the nodes of l from there on are left
pub record Walked (P : ℕ → Type 0) (k l m : ℕ) : Type 0 where
  pub at : ℕ
  pub rest : Rest l m at
  pub within : at ≤ k
  pub known : P at

-- at first all are left
pub walk_begun : {P : ℕ → Type 0} {k l m : ℕ} → m ≡ l → P 0 → Walked P k l m
walk_begun {l = l} e p = record { at = 0; rest = subst (λ w. Rest l w 0) (sym e) (rest_all l); within = omega arith; known = p }

-- at a node of l
pub record Visit (P : ℕ → Type 0) (k l s : ℕ) : Type 0 where
  pub below : s < k
  pub here : has l s ≡ true
  pub known : P s

pub listed_below : (k l s : ℕ) → l < 2 ^ k → has l s ≡ true → s < k
listed_below k l s fits h = go (le_or_lt k s)
  where
    go : (k ≤ s) ⊎ (s < k) → s < k
    go (inl b) = never (has l s) h (has_beyond k l s fits b)
    go (inr b) = b

module _ {P : ℕ → Type 0} {k l : ℕ} (fits : l < 2 ^ k) where
  -- after the node s the others are left
  pub walk_on : {m r : ℕ} (s : ℕ) {Q : ℕ → Type 0} → Walked P k l m → Steps m (Some s) r → Q (s + 1) → Walked Q k l r
  walk_on {m} {r} s walk step q =
      let stepped = node_stepped l m walk.at s r walk.rest step in
      let below : s < k = listed_below k l s fits stepped.0.here in
      record { at = s + 1; rest = stepped.1.rest; within = omega arith; known = q }

  -- where P stays at a number that is not listed, it holds at each node, and after the last one at k
  module _ (stays : (i : ℕ) → i < k → has l i ≡ false → P i → P (i + 1)) where
    some_passed : (d j : ℕ) → j + d ≤ k → ((i : ℕ) → j ≤ i → i < j + d → has l i ≡ false) → P j → P (j + d)
    some_passed zero j h gap p = subst P (omega arith) p
    some_passed (suc d) j h gap p =
        let e : j + d + 1 ≡ j + suc d = omega arith in
        subst P e
        (stays (j + d) (omega arith) (gap (j + d) (omega arith) (omega arith)) (some_passed d j (omega arith) (λ i from below. gap i from (omega arith)) p))

    all_passed : (j s : ℕ) → j ≤ s → s ≤ k → ((i : ℕ) → j ≤ i → i < s → has l i ≡ false) → P j → P s
    all_passed j s from h gap p =
        let e : j + (s - j) ≡ s = omega arith in
        subst P e (some_passed (s - j) j (omega arith) (λ i from below. gap i from (omega arith)) p)

    pub walk_visits : {m r : ℕ} (s : ℕ) → Walked P k l m → Steps m (Some s) r → Visit P k l s
    walk_visits {m} {r} s walk step =
        let next = (node_stepped l m walk.at s r walk.rest step).0 in
        let below : s < k = listed_below k l s fits next.here in
        record { below = below; here = next.here; known = all_passed walk.at s next.from (omega arith) next.gap walk.known }

    pub walk_ended : {m r : ℕ} → Walked P k l m → Steps m None r → P k
    walk_ended {m} {r} walk step =
        all_passed walk.at k walk.within (omega arith) (λ i from below. nodes_passed l m walk.at r walk.rest step i from) walk.known
