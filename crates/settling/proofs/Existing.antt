-- Where a walk leads there is a least cost and a settled row: walks are decided by recursion on their arcs.
-- Assumes nothing.
use mathlib.Core.Path.{◌≡◌, sym, subst}
use mathlib.Core.Logic.{◌⊎◌, inl, inr, ◌≢◌}
use Prim.Native.Nat.{ℕ, zero, suc, ◌+◌, ◌-◌, ◌<◌, ◌≤◌}
use native.Mathlib.Omega.{arith}
use native.Mathlib.Decide.{dec_le, dec_lt, ℕ_discrete}
use Rattle.ancestors.specs.Ancestors.{put, own}
use Rattle.ancestors.proofs.Cases.{any_below, first}
use Rattle.network.specs.Network.{Row, root, via}
use Rattle.settling.specs.Settled.{Walk, here, along, Least, Predecessor, Settled}
use Rattle.settling.proofs.Routes.{ArcEnds, least_part, tight_part, Unmoved, Ended, walk_end, walk_arcs}
use Rattle.settling.proofs.Unique.{least_once}
use Rattle.settling.proofs.SettledBy.{SettledBy, at_start_lem, next, by_relay, by_settled}

module _ (n origin : ℕ) (cost : ℕ → ℕ → ℕ) (ends : ArcEnds n origin cost) where
  -- s is the last sender of a walk of k + 1 arcs and cost d to y
  abbrev Last : ℕ → ℕ → ℕ → ℕ → Type 0
  Last y k d s = (0 < cost s y) × (cost s y ≤ d) × Walk cost origin s k (d - cost s y)

  -- and with it such a walk
  last_walk : (y k d s : ℕ) → Last y k d s → Walk cost origin y (suc k) d
  last_walk y k d s h = subst (Walk cost origin y (suc k)) (omega arith) (along h.2 h.0)

  -- a walk of cost e to s and an arc to y make a walk of cost d with s last
  to_last : (y s k e d : ℕ) → Walk cost origin s k e → 0 < cost s y → d ≡ e + cost s y → Last y k d s
  to_last y s k e d w arc q = (arc, omega arith, subst (Walk cost origin s k) (omega arith) w)

  -- a walk of k + 1 arcs has a last sender
  walk_last : (y k d : ℕ) → Walk cost origin y (suc k) d → (s : ℕ) × Last y k d s
  walk_last y k d w = go (walk_end cost origin w)
    where
      go : Unmoved cost origin y (suc k) d ⊎ Ended cost origin y (suc k) d → (s : ℕ) × Last y k d s
      go (inl o) = absurd (omega (arith, o.1))
      go (inr o) =
          let same : o.arcs ≡ k = omega (arith, o.arcs_are) in
          let w : Walk cost origin o.sender k o.before = subst (λ (j : ℕ). Walk cost origin o.sender j o.before) same o.walk in
          (o.sender, to_last y o.sender k o.before d w o.arc o.sum_is)

  -- whether s is, where walks of k arcs are decided
  decide_last : (y k d s : ℕ) → ((x : ℕ) → Dec (Walk cost origin s k x)) → Dec (Last y k d s)
  decide_last y k d s fewer = go (dec_lt 0 (cost s y)) (dec_le (cost s y) d)
    where
      go : Dec (0 < cost s y) → Dec (cost s y ≤ d) → Dec (Last y k d s)
      go (no h) j = no (λ r. h r.0)
      go (yes h) (no j) = no (λ r. j r.1)
      go (yes h) (yes j) = rest (fewer (d - cost s y))
        where
          rest : Dec (Walk cost origin s k (d - cost s y)) → Dec (Last y k d s)
          rest (yes w) = yes (h, j, w)
          rest (no w) = no (λ r. w r.2)

  -- whether there is a walk of k arcs and cost d: the empty one, or one with a last sender below n
  decide_walk : (k y d : ℕ) → Dec (Walk cost origin y k d)
  decide_walk zero y d = go (ℕ_discrete y origin) (ℕ_discrete d 0)
    where
      empty_walk : Unmoved cost origin y 0 d ⊎ Ended cost origin y 0 d → (y ≡ origin) × (d ≡ 0)
      empty_walk (inl o) = (o.0, o.2)
      empty_walk (inr o) = absurd (omega (arith, o.arcs_are))

      go : Dec (y ≡ origin) → Dec (d ≡ 0) → Dec (Walk cost origin y 0 d)
      go (yes p) (yes q) = yes (rw (p, q) here)
      go (yes p) (no q) = no (λ w. q (empty_walk (walk_end cost origin w)).1)
      go (no p) q = no (λ w. p (empty_walk (walk_end cost origin w)).0)
  decide_walk (suc k) y d = go (any_below (Last y k d) (λ s. decide_last y k d s (decide_walk k s)) n)
    where
      go : Dec ((s : ℕ) × (s < n) × Last y k d s) → Dec (Walk cost origin y (suc k) d)
      go (yes h) = yes (last_walk y k d h.0 h.2)
      go (no h) = no (λ w. let l = walk_last y k d w in h (l.0, ends.sender_node l.0 y l.1.0, l.1))

  -- whether there is a walk of cost d: it has at most d arcs
  decide_cost : (y d : ℕ) → Dec ((k : ℕ) × Walk cost origin y k d)
  decide_cost y d = go (any_below (λ k. Walk cost origin y k d) (λ k. decide_walk k y d) (suc d))
    where
      go : Dec ((k : ℕ) × (k < suc d) × Walk cost origin y k d) → Dec ((k : ℕ) × Walk cost origin y k d)
      go (yes h) = yes (h.0, h.2)
      go (no h) = no (λ w. h (w.0, omega (arith, walk_arcs cost origin w.1), w.1))

  -- where a walk leads there is a least cost
  pub least_exists : (y k e : ℕ) → Walk cost origin y k e → (d : ℕ) × Least cost origin y d
  least_exists y k e w =
      let f = first (λ d. (j : ℕ) × Walk cost origin y j d) (decide_cost y) e (k, w) in
      (f.0, record { arcs = f.1.0; walk = f.1.1; least = λ j d x. f.2 d (j, x) })

  -- y's settled row, of label d and over k arcs
  pub record Found (y k d : ℕ) : Type 0 where
    pub list : ℕ
    pub row : Row
    pub by : SettledBy cost origin y k d list row

  -- by recursion on the fewest arcs of a least-cost walk, which fall along predecessors
  found_over : (k y d : ℕ) → Least cost origin y d → Walk cost origin y k d → ((j : ℕ) → Walk cost origin y j d → k ≤ j) → Found y k d
  found_over zero y d m w few = go (walk_end cost origin w)
    where
      go : Unmoved cost origin y 0 d ⊎ Ended cost origin y 0 d → Found y 0 d
      go (inl o) = rw (o.0, o.2) (record { list = own origin; row = root (own origin); by = at_start_lem })
      go (inr o) = absurd (omega (arith, o.arcs_are))
  found_over (suc k) y d m w few =
      let l = walk_last y k d w in
      go (first (Last y k d) (λ s. decide_last y k d s (decide_walk k s)) l.0 l.1) (λ s e least walk fewest. found_over k s e least walk fewest)
    where
      relay : y ≢ origin
      relay q =
          let zero-cost : d ≡ 0 = omega (arith, m.least 0 0 (rw q here)) in
          omega (arith, few 0 (rw (q, zero-cost) here))

      go : (s : ℕ) × Last y k d s × ((r : ℕ) → Last y k d r → s ≤ r) →
          ((s e : ℕ) → Least cost origin s e → Walk cost origin s k e → ((j : ℕ) → Walk cost origin s j e → k ≤ j) → Found s k e) → Found y (suc k) d
      go f before = subst (Found y (suc k)) sum (record { list = put x.list y; row = via (e + cost s y) s (put x.list y); by = next relay x.by predecessor })
        where
          s : ℕ
          s = f.0

          e : ℕ
          e = d - cost s y

          sum : e + cost s y ≡ d
          sum = omega (arith, f.1.1)

          walk : Walk cost origin s k e
          walk = f.1.2

          -- a walk to a sender that gives the least cost is one arc shorter than one to y
          shorter : (r j a : ℕ) → Walk cost origin r j a → 0 < cost r y → a + cost r y ≡ d → k ≤ j
          shorter r j a x arc q = omega (arith, few (suc j) (subst (Walk cost origin y (suc j)) q (along x arc)))

          x : Found s k e
          x = before s e (least_part cost origin s k e y d walk f.1.0 sum m) walk (λ j v. shorter s j e v f.1.0 sum)

          predecessor : Predecessor cost origin y s
          predecessor =
              record {
                tight = tight_part cost origin s k e y d walk f.1.0 sum m;
                arcs = k;
                walk = walk;
                fewest = λ r j t v. shorter r j t.before v t.arc (least_once cost origin t.receiver_least m);
                lowest = λ r t v. f.2 r (to_last y r k t.before d v t.arc (sym (least_once cost origin t.receiver_least m)));
              }

  -- where a walk leads there is a settled row built from the origin on
  pub found : (y j e : ℕ) → Walk cost origin y j e → (k d : ℕ) × Found y k d
  found y j e w =
      let m = least_exists y j e w in
      let f = first (λ k. Walk cost origin y k m.0) (λ k. decide_walk k y m.0) m.1.arcs m.1.walk in
      (f.0, m.0, found_over f.0 y m.0 m.1 f.1 f.2)

  -- a relay to which a walk leads has a settled row with a route
  pub settled_exists : (y k e : ℕ) → y ≢ origin → Walk cost origin y k e → (d p l : ℕ) × Settled cost origin y (via d p l)
  settled_exists y k e ne w =
      let f = found y k e w in
      let r = by_relay cost origin ne f.2.by in
      (f.1, r.0, f.2.list, subst (Settled cost origin y) r.1 (by_settled cost origin f.2.by))
