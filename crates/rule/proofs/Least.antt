-- The winner as two loops find it: the first sets the least sum, above the largest label where there is none, and the first sender that offers it;
-- the second goes on from there among the senders that offer it too.
-- Assumes nothing.
use Rattle.std.specs.Prelude.{Some, None}
use mathlib.Core.Path.{◌≡◌, refl, sym, ap, subst, ◌∙◌}
use mathlib.Core.Bool.{Bool, true, false, cond, ◌&&◌, ◌||◌}
use mathlib.Core.Logic.{◌⊎◌, inl, inr, ◌≢◌}
use mathlib.Core.List.{List}
use Prim.Native.Nat.{ℕ, zero, suc, ◌+◌, ◌-◌, ◌%◌, ◌^◌, ◌<◌, ◌≤◌}
use native.Mathlib.Omega.{arith}
use native.Mathlib.Numerals.{add-one}
use lib.Dec.{eqb, ltb, leb}
use lib.ListN.{get_or}
use lib.Count.{ones}
use borrow.Author.Tests.{lt-ltb, le-ltb, le-leb, lt-leb, ltb-true, ltb-false, eq-eqb, ne_eqb}
use Rattle.ancestors.specs.Ancestors.{has, put, count}
use Rattle.ancestors.proofs.Cases.{le_or_lt, eq_or_ne, bool_cases, clash}
use Rattle.ancestors.proofs.Laws.{ones_count}
use Rattle.ancestors.proofs.Sets.{has_low}
use Rattle.network.specs.Faults.{max_label}
use Rattle.network.specs.Network.{none, via, empty, told}
use Rattle.network.specs.Round.{Offer, offer, list_of, goes_before, Winner, nobody, sender, against, winner, row_by, choice}
use Rattle.network.specs.Words.{report_of, cost_of, reports, costs_of, ones_of, alike, offer_below}
use Rattle.network.proofs.Offers.{nothing_sum, made, Before, Won, no_one, some_one, won, won_below}
use Rattle.rule.specs.declared.Senders.{Senders}
use Rattle.rule.specs.declared.Kept.{Kept}
use Rattle.rule.specs.Passed.{count_of, sum_of, offers, ones_by, row_chosen, winner_of, Alone, Passed, Wins}

-- ---- an offer below a limit

-- what an answer of nothing and one of a sum say of the offer
below_nothing : (m : ℕ) (o : Offer) → offer_below m o ≡ None → (o ≡ None) ⊎ ((v : ℕ) × (o ≡ Some v) × (m ≤ v))
unfolding offer_below
below_nothing m None e = inl refl
below_nothing m (Some v) e = go (bool_cases (ltb v m))
  where
    go : (ltb v m ≡ true) ⊎ (ltb v m ≡ false) → (Some v ≡ None) ⊎ ((u : ℕ) × (Some v ≡ Some u) × (m ≤ u))
    go (inl t) = let q : Some v ≡ None = rw t at e in clash cc
    go (inr t) = inr (v, refl, ltb-false v m t)

below_sum : (m : ℕ) (o : Offer) (v : ℕ) → offer_below m o ≡ Some v → (o ≡ Some v) × (v < m)
unfolding offer_below
below_sum m None v e = clash cc
below_sum m (Some u) v e = go (bool_cases (ltb u m))
  where
    go : (ltb u m ≡ true) ⊎ (ltb u m ≡ false) → (Some u ≡ Some v) × (v < m)
    go (inl t) =
        let q : Some u ≡ Some v = rw t at e in
        let same : u ≡ v = cc in
        (q, omega (arith, ltb-true u m t))
    go (inr t) = let q : None ≡ Some v = rw t at e in clash cc

-- ---- one sender more

-- the winner among the senders below s and s itself, by its offer
module _ (f : ℕ → Offer) (c : ℕ → ℕ) (s b p : ℕ) (e : winner f c s ≡ winner_of b p) where
  winner_skips : f s ≡ None → winner f c (s + 1) ≡ winner_of b p
  unfolding winner against
  winner_skips o = rw (add-one, o) e

  winner_takes : (v : ℕ) → f s ≡ Some v → v ≤ max_label → (b ≤ max_label → goes_before v (c s) b (c p) ≡ true) → winner f c (s + 1) ≡ winner_of v s
  unfolding winner against winner_of
  winner_takes v o h t = rw (add-one, o, e, le-leb v max_label h) (go (le_or_lt b max_label))
    where
      go : (b ≤ max_label) ⊎ (max_label < b) → against c (cond (leb b max_label) (sender p b) nobody) s (Some v) ≡ sender s v
      go (inl k) = rw (le-leb b max_label k, t k)
      go (inr k) = rw (lt-leb b max_label k)

  winner_leaves : (v : ℕ) → f s ≡ Some v → b ≤ max_label → goes_before v (c s) b (c p) ≡ false → winner f c (s + 1) ≡ winner_of b p
  unfolding winner against winner_of
  winner_leaves v o k t = rw (add-one, o, e, le-leb b max_label k, t)

-- different sums decide, and else the ones
module _ (v i u j : ℕ) where
  before_lesser : v < u → goes_before v i u j ≡ true
  unfolding goes_before
  before_lesser h = rw (lt-ltb v u h)

  before_greater : u < v → goes_before v i u j ≡ false
  unfolding goes_before
  before_greater h = rw (le-ltb v u (omega arith), ne_eqb v u (λ e. omega arith))

  before_equal : v ≡ u → goes_before v i u j ≡ ltb i j
  unfolding goes_before
  before_equal e = rw (le-ltb v u (omega arith), eq-eqb v u e)

-- the list of a report in two words
list_of_words : (d l : ℕ) → list_of (report_of d l) ≡ l
unfolding report_of list_of
list_of_words d l = go (eq_or_ne l 0)
  where
    go : (l ≡ 0) ⊎ (l ≢ 0) → list_of (cond (eqb l 0) empty (told d l)) ≡ l
    go (inl e) = rw e
    go (inr n) = rw (ne_eqb l 0 n)

-- an offer of two words is label plus cost
sum_is : (y c d l v : ℕ) → offer y c (report_of d l) ≡ Some v → v ≡ d + c
unfolding report_of
sum_is y c d l v o =
    let m = made y c (report_of d l) v o in
    omega (arith, m.total, go (eq_or_ne l 0) m.label m.list m.is)
  where
    go : (l ≡ 0) ⊎ (l ≢ 0) → (e k : ℕ) → cond (eqb l 0) empty (told d l) ≡ told e k → d ≡ e
    go (inl q) e k h = let n : empty ≡ told e k = rw (eq-eqb l 0 q) at h in clash cc
    go (inr q) e k h = let t : told d l ≡ told e k = rw (ne_eqb l 0 q) at h in cc

-- the list of a report over an arc
list_over_arc : (arcs : ℕ) (labels lists : List ℕ) (s : ℕ) → has arcs s ≡ true → list_of (reports arcs labels lists s) ≡ get_or lists s 0
list_over_arc arcs labels lists s h = rw h (list_of_words (get_or labels s 0) (get_or lists s 0))

-- the ones of a report over an arc are the nodes of its list, counted
pub ones_of_nodes : (arcs : ℕ) (labels lists : List ℕ) (s k : ℕ) → has arcs s ≡ true → get_or lists s 0 < 2 ^ 32 → k ≡ count (has (get_or lists s 0)) 32
    → k ≡ ones_of arcs labels lists s
ones_of_nodes arcs labels lists s k h fits e = e ∙ sym (ones_count 32 (get_or lists s 0) fits) ∙ ap ones (sym (list_over_arc arcs labels lists s h))

-- ---- the two loops

-- the senders before s were passed again: of those that offer the least sum, q has the fewest ones, k
pub record Fewest (x : Senders) (kept : Kept) (s q k : ℕ) : Type 0 where
  pub after : kept.from < s
  pub wins : winner (offers x) (ones_by x) s ≡ winner_of (kept.most + 1) q
  pub ones : k ≡ ones_by x q

module _ (x : Senders) where
  abbrev f : ℕ → Offer
  f = offers x

  abbrev g : ℕ → ℕ
  g = ones_by x

  -- an offer is at most the largest label
  small : (s v : ℕ) → f s ≡ Some v → v ≤ max_label
  small s v o = (made x.receiver (costs_of x.arcs x.costs.now s) (reports x.arcs x.labels.now x.lists.now s) v o).fits

  -- it comes over an arc, and is label plus cost
  over_arc : (s v : ℕ) → f s ≡ Some v → (has x.arcs s ≡ true) × (v ≡ sum_of x s)
  over_arc s v o = go (bool_cases (has x.arcs s))
    where
      go : (has x.arcs s ≡ true) ⊎ (has x.arcs s ≡ false) → (has x.arcs s ≡ true) × (v ≡ sum_of x s)
      go (inl t) = (t, sum_is x.receiver (cost_of (get_or x.costs.now s 0)) (get_or x.labels.now s 0) (get_or x.lists.now s 0) v (rw t at o))
      go (inr t) = let m = made x.receiver 0 empty v (rw t at o) in let q : empty ≡ told m.label m.list = m.is in clash cc

  -- an offer below a limit comes over an arc
  below_arc : (m s v : ℕ) → offer_below m (f s) ≡ Some v → has x.arcs s ≡ true
  below_arc m s v h = (over_arc s v (below_sum m (f s) v h).0).0

  -- and is not 0
  pub below_positive : (m s v : ℕ) → offer_below m (f s) ≡ Some v → 0 < v
  unfolding cost_of
  below_positive m s v h = omega (arith, (over_arc s v (below_sum m (f s) v h).0).1)

  -- a winner's comes over an arc
  won_arc : (c : ℕ → ℕ) (n b p : ℕ) → winner f c n ≡ sender p b → has x.arcs p ≡ true
  won_arc c n b p e = go (subst (Won f c n) e (won f c n))
    where
      go : Won f c n (sender p b) → has x.arcs p ≡ true
      go (some_one below its low) = (over_arc p b its).0

  -- before the first no sender is passed
  pub first_known : (m : ℕ) → m ≡ max_label → Passed x 0 (record { most = m; from = 0; last = 0 })
  unfolding winner winner_of
  first_known m e = record { least = rw e; fits = omega (arith, e); near = omega arith; only = λ r v after beyond below o. absurd (omega arith) }

  module _ (s b p : ℕ) (e : winner f alike s ≡ winner_of b p) where
    -- an offer that is not below the least sum is passed
    first_pass : offer_below b (f s) ≡ None → winner f alike (s + 1) ≡ winner_of b p
    first_pass h = go (below_nothing b (f s) h)
      where
        go : (f s ≡ None) ⊎ ((v : ℕ) × (f s ≡ Some v) × (b ≤ v)) → winner f alike (s + 1) ≡ winner_of b p
        go (inl o) = winner_skips f alike s b p e o
        go (inr (v, o, k)) = winner_leaves f alike s b p e v o (omega (arith, small s v o)) (not_less (eq_or_ne v b))
          where
            not_less : (v ≡ b) ⊎ (v ≢ b) → goes_before v 0 b 0 ≡ false
            not_less (inl q) = before_equal v 0 b 0 q
            not_less (inr q) = before_greater v 0 b 0 (omega (arith, q))

    -- and one below it is taken
    first_take : (v : ℕ) → offer_below b (f s) ≡ Some v → (winner f alike (s + 1) ≡ winner_of v s) × (v ≤ max_label)
    first_take v h =
        let o = below_sum b (f s) v h in
        let k = small s v o.0 in
        (winner_takes f alike s b p e v o.0 k (λ _. before_lesser v 0 b 0 o.1), k)

  -- passed with another sum than b, it leaves p and l alone
  alone_pass : (s b p l : ℕ) → Alone x b p l s → offer_below b (f s) ≡ None
      → sum_of x s ≢ b → Alone x b p l (s + 1)
  alone_pass s b p l before h apart r v after beyond below o = go (eq_or_ne r s)
    where
      last : f s ≡ Some v → (f s ≡ None) ⊎ ((u : ℕ) × (f s ≡ Some u) × (b ≤ u)) → b < v
      last q (inl n) = nothing_sum (f s) n q
      last q (inr (u, t, k)) =
          let same : u ≡ v = cc in
          let total = (over_arc s v q).1 in
          omega (arith, apart)

      go : (r ≡ s) ⊎ (r ≢ s) → b < v
      go (inl e) = let q : f s ≡ Some v = rw e at o in last q (below_nothing b (f s) h)
      go (inr e) = before r v after beyond (omega (arith, e)) o

  -- a sender without an arc offers nothing
  absent_nothing : (s : ℕ) → has x.arcs s ≡ false → f s ≡ None
  unfolding offer
  absent_nothing s e = rw e

  -- and is passed
  absent_pass : (s : ℕ) (kept : Kept) → has x.arcs s ≡ false → Passed x s kept → Passed x (s + 1) kept
  absent_pass s kept e known =
      record {
        least = winner_skips f alike s (kept.most + 1) kept.from known.least (absent_nothing s e);
        fits = known.fits;
        near = omega (arith, known.near);
        only = λ r v after beyond below o. go known.only r v after beyond below o (eq_or_ne r s);
      }
    where
      go : Alone x (kept.most + 1) kept.from kept.last s → (r v : ℕ) → kept.from < r → kept.last < r → r < s + 1 → f r ≡ Some v → (r ≡ s) ⊎ (r ≢ s) → kept.most + 1 < v
      go before r v after beyond below o (inl q) = nothing_sum (f s) (absent_nothing s e) (rw q at o)
      go before r v after beyond below o (inr q) = before r v after beyond (omega (arith, q)) o

  -- so is one that is none of the nodes of the word of arcs below the number of senders
  pub below_absent : (kept : Kept) (i : ℕ) → i < count_of x → has (x.arcs % 2 ^ count_of x) i ≡ false → Passed x i kept → Passed x (i + 1) kept
  below_absent kept i h e =
      let q : (ltb i (count_of x) && has x.arcs i) ≡ false = sym (has_low x.arcs (count_of x) i) ∙ e in
      absent_pass i kept (rw (lt-ltb i (count_of x) h) at q)

  -- after the first loop, where there is an offer: b is the least sum, and p the first that offers it
  module _ (kept : Kept) (known : Passed x (count_of x) kept) (offered : kept.most < max_label) where
    abbrev n : ℕ
    n = count_of x

    abbrev b : ℕ
    b = kept.most + 1

    abbrev p : ℕ
    p = kept.from

    least_fits : b ≤ max_label
    least_fits = omega arith

    first_wins : winner f alike n ≡ sender p b
    unfolding winner_of
    first_wins = known.least ∙ rw (le-leb b max_label least_fits)

    first_won : Won f alike n (sender p b)
    first_won = subst (Won f alike n) first_wins (won f alike n)

    -- no offer is less
    none_less : (r v : ℕ) → r < n → f r ≡ Some v → b ≤ v
    none_less r v h o = go first_won (eq_or_ne r p)
      where
        go : Won f alike n (sender p b) → (r ≡ p) ⊎ (r ≢ p) → b ≤ v
        go (some_one below its low) (inl q) = let its' : f r ≡ Some b = rw q its in let same : b ≡ v = cc in omega arith
        go (some_one below its low) (inr q) = least (low r v h q o)
          where
            least : Before b 0 p v 0 r → b ≤ v
            least (inl (inl a)) = omega arith
            least (inl (inr a)) = omega arith
            least (inr a) = omega arith

    -- a lower sender offers more
    more_before : (r v : ℕ) → r < p → f r ≡ Some v → b < v
    more_before r v h o = go first_won
      where
        less : Before b 0 p v 0 r → b < v
        less (inl (inl a)) = a
        less (inl (inr a)) = absurd (omega arith)
        less (inr a) = absurd (omega arith)

        go : Won f alike n (sender p b) → b < v
        go (some_one below its low) = less (low r v (omega arith) (λ q. omega arith) o)

    -- up to itself it wins at any rate
    fewest_first : winner f g (p + 1) ≡ winner_of b p
    unfolding winner against winner_of
    fewest_first = rw (add-one p, le-leb b max_label least_fits) (go first_won (winner f g p) (won f g p))
      where
        go : Won f alike n (sender p b) → (w : Winner) → Won f g p w → against g w p (f p) ≡ sender p b
        go (some_one below its low) nobody before = rw its
        go (some_one below its low) (sender r u) (some_one h o best) = rw (its, before_lesser b (g p) u (g r) (more_before r u h o))

    pub fewest_begun : (k : ℕ) → get_or x.lists.now p 0 < 2 ^ 32 → k ≡ count (has (get_or x.lists.now p 0)) 32 → Fewest x kept (p + 1) p k
    fewest_begun k fits nodes =
        record { after = omega arith; wins = fewest_first; ones = ones_of_nodes x.arcs x.labels.now x.lists.now p k (won_arc alike n b p first_wins) fits nodes }

    module _ (s q k : ℕ) (below : s < n) (again : Fewest x kept s q k) where
      -- a greater offer is passed
      pub fewest_pass : offer_below (b + 1) (f s) ≡ None → Fewest x kept (s + 1) q k
      fewest_pass h = record { after = omega (arith, again.after); wins = go (below_nothing (b + 1) (f s) h); ones = again.ones }
        where
          go : (f s ≡ None) ⊎ ((v : ℕ) × (f s ≡ Some v) × (b + 1 ≤ v)) → winner f g (s + 1) ≡ winner_of b q
          go (inl o) = winner_skips f g s b q again.wins o
          go (inr (v, o, k)) = winner_leaves f g s b q again.wins v o least_fits (before_greater v (g s) b (g q) (omega arith))

      -- any other is an equal one, and that of fewer nodes is taken
      module _ (v j : ℕ) (h : offer_below (b + 1) (f s) ≡ Some v) (fits : get_or x.lists.now s 0 < 2 ^ 32) (nodes : j ≡ count (has (get_or x.lists.now s 0)) 32) where
        same_sum : f s ≡ Some b
        same_sum =
            let o = below_sum (b + 1) (f s) v h in
            let same : v ≡ b = omega (arith, o.1, none_less s v below o.0) in
            rw (← same) o.0

        ones_here : j ≡ g s
        ones_here = ones_of_nodes x.arcs x.labels.now x.lists.now s j (below_arc (b + 1) s v h) fits nodes

        pub fewest_take : j < k → Fewest x kept (s + 1) s j
        fewest_take few =
            record {
              after = omega (arith, again.after);
              wins = winner_takes f g s b q again.wins b same_sum least_fits
                  (λ _. before_equal b (g s) b (g q) refl ∙ lt-ltb (g s) (g q) (omega (arith, ones_here, again.ones)));
              ones = ones_here;
            }

        pub fewest_leave : k ≤ j → Fewest x kept (s + 1) q k
        fewest_leave few =
            record {
              after = omega (arith, again.after);
              wins = winner_leaves f g s b q again.wins b same_sum least_fits
                  (before_equal b (g s) b (g q) refl ∙ le-ltb (g s) (g q) (omega (arith, ones_here, again.ones)));
              ones = again.ones;
            }

    -- where all the offers that follow are greater, the winner stays
    fewest_one : (s q : ℕ) → winner f g s ≡ winner_of b q → ((v : ℕ) → f s ≡ Some v → b < v) → winner f g (s + 1) ≡ winner_of b q
    fewest_one s q w more = go (f s) refl
      where
        go : (o : Offer) → f s ≡ o → winner f g (s + 1) ≡ winner_of b q
        go None o = winner_skips f g s b q w o
        go (Some v) o = winner_leaves f g s b q w v o least_fits (before_greater v (g s) b (g q) (more v o))

    fewest_some : (j s q : ℕ) → winner f g s ≡ winner_of b q → ((r v : ℕ) → s ≤ r → r < s + j → f r ≡ Some v → b < v) → winner f g (s + j) ≡ winner_of b q
    fewest_some zero s q w more = subst (λ k. winner f g k ≡ winner_of b q) (omega arith) w
    fewest_some (suc j) s q w more =
        subst (λ k. winner f g k ≡ winner_of b q) (omega arith)
        (fewest_one (s + j) q (fewest_some j s q w (λ r v from below. more r v from (omega arith))) (λ v. more (s + j) v (omega arith) (omega arith)))

    fewest_rest : (s q : ℕ) → p < s → kept.last < s → s ≤ n → winner f g s ≡ winner_of b q → winner f g n ≡ sender q b
    unfolding winner_of
    fewest_rest s q after beyond h w =
        let e : s + (n - s) ≡ n = omega arith in
        subst (λ k. winner f g k ≡ winner_of b q) e (fewest_some (n - s) s q w (λ r v from below. known.only r v (omega arith) (omega arith) (omega arith)))
        ∙ rw (le-leb b max_label least_fits)

    wins : (q : ℕ) → winner f g n ≡ sender q b → Wins x kept.most q
    wins q w = record { winner_is = w; within = won_below f g n q b w }

    -- where the least sum is not met again, its sender wins
    pub alone_wins : kept.last ≤ p → Wins x kept.most p
    alone_wins near = wins p (fewest_rest (p + 1) p (omega arith) (omega arith) (omega (arith, won_below f alike n p b first_wins)) fewest_first)

    -- else the one that wins after the last that offers it
    pub fewest_wins : (s q k : ℕ) → kept.last < s → s ≤ n → Fewest x kept s q k → Wins x kept.most q
    fewest_wins s q k beyond h again = wins q (fewest_rest s q again.after beyond h again.wins)

  -- no offer after the first loop, and the row of the winner
  pub none_chosen : (kept : Kept) → Passed x (count_of x) kept → max_label ≤ kept.most → row_chosen x ≡ none
  unfolding choice row_by winner_of
  none_chosen kept known h =
      go (subst (Won f alike (count_of x)) (known.least ∙ rw (lt-leb (kept.most + 1) max_label (omega arith))) (won f alike (count_of x)))
      (winner f g (count_of x)) (won f g (count_of x))
    where
      go : Won f alike (count_of x) nobody → (v : Winner) → Won f g (count_of x) v → row_by x.receiver (reports x.arcs x.labels.now x.lists.now) v ≡ none
      go (no_one none-offers) nobody e = refl
      go (no_one none-offers) (sender r u) (some_one below its low) = nothing_sum (f r) (none-offers r below) its

  -- with the list as `ancestors::joined` answers it
  pub winner_chosen : (m q l : ℕ) → Wins x m q → l ≡ cond (ltb x.receiver 32) (put (get_or x.lists.now q 0) x.receiver) (get_or x.lists.now q 0)
      → via (m + 1) q l ≡ row_chosen x
  unfolding choice row_by
  winner_chosen m q l w joined =
      let e = w.winner_is in
      rw (joined, lt-ltb x.receiver 32 x.receiver_bound, e) (ap (λ i. via (m + 1) q (put i x.receiver)) (sym (list_over_arc x.arcs x.labels.now x.lists.now q (won_arc g (count_of x) (m + 1) q e))))

-- ---- an offer below a limit, from words

-- case by case; with a limit of at most one more than the largest label a sum below it is an offer
module _ (x : Senders) (s m : ℕ) where
  abbrev list : ℕ
  list = get_or x.lists.now s 0

  -- the sender makes the offer o
  abbrev Makes : Offer → Type 0
  Makes o = o ≡ offer_below m (offers x s)

  pub offer_absent : has x.arcs s ≡ false → Makes None
  unfolding offer offer_below
  offer_absent e = rw e

  -- what makes nothing over an arc makes nothing
  offer_either : None ≡ offer_below m (offer x.receiver (cost_of (get_or x.costs.now s 0)) (report_of (get_or x.labels.now s 0) list)) → Makes None
  offer_either e = go (bool_cases (has x.arcs s))
    where
      go : (has x.arcs s ≡ true) ⊎ (has x.arcs s ≡ false) → Makes None
      go (inl t) = rw t e
      go (inr t) = offer_absent t

  -- an empty report, or too large a sum
  pub offer_empty : list ≡ 0 → Makes None
  unfolding offer report_of offer_below
  offer_empty e = offer_either (rw (eq-eqb list 0 e))

  pub offer_large : m ≤ sum_of x s → Makes None
  unfolding offer report_of offer_below
  offer_large h = go (eq_or_ne list 0)
    where
      dear : (t : Bool) → None ≡ offer_below m (cond t None (Some (sum_of x s)))
      dear true = refl
      dear false = rw (le-ltb (sum_of x s) m h)

      go : (list ≡ 0) ⊎ (list ≢ 0) → Makes None
      go (inl e) = offer_empty e
      go (inr e) = offer_either (rw (ne_eqb list 0 e) (dear (has list x.receiver || ltb max_label (sum_of x s))))

  module _ (n : list ≢ 0) where
    pub offer_listed : has list x.receiver ≡ true → Makes None
    unfolding offer report_of offer_below
    offer_listed h = offer_either (rw (ne_eqb list 0 n, h))

    pub offer_sum : has list x.receiver ≡ false → has x.arcs s ≡ true → m ≤ max_label + 1 → sum_of x s < m → Makes (Some (sum_of x s))
    unfolding offer report_of offer_below
    offer_sum a t fits h = rw (t, ne_eqb list 0 n, a, le-ltb max_label (sum_of x s) (omega arith), lt-ltb (sum_of x s) m h)

-- ---- one sender passed

module _ (x : Senders) (s : ℕ) (kept : Kept) (known : Passed x s kept) where
  -- the least sum is met again
  pub pass_equal : sum_of x s ≡ kept.most + 1 → Passed x (s + 1) (record { most = kept.most; from = kept.from; last = s })
  pass_equal e =
      record {
        least = first_pass x s (kept.most + 1) kept.from known.least (sym (offer_large x s (kept.most + 1) (omega (arith, e))));
        fits = known.fits;
        near = omega arith;
        only = λ r v after beyond below o. absurd (omega arith);
      }

  -- another sum that is no offer below it
  pub pass_other : offer_below (kept.most + 1) (offers x s) ≡ None → sum_of x s ≢ kept.most + 1 → Passed x (s + 1) kept
  pass_other o apart =
      record {
        least = first_pass x s (kept.most + 1) kept.from known.least o;
        fits = known.fits;
        near = omega (arith, known.near);
        only = alone_pass x s (kept.most + 1) kept.from kept.last known.only o apart;
      }

  -- a lesser offer
  pub pass_less : (v m : ℕ) → offer_below (kept.most + 1) (offers x s) ≡ Some v → m ≡ v - 1 → Passed x (s + 1) (record { most = m; from = s; last = kept.last })
  pass_less v m o e =
      let taken = first_take x s (kept.most + 1) kept.from known.least v o in
      let more : v ≡ m + 1 = omega (arith, below_positive x (kept.most + 1) s v o) in
      record {
        least = taken.0 ∙ ap (λ u. winner_of u s) more;
        fits = omega (arith, taken.1);
        near = omega (arith, known.near);
        only = λ r v after beyond below q. absurd (omega arith);
      }
