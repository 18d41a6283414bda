-- Walks and real routes apart from any round: their lengths, costs and lists.
-- Assumes nothing.
use mathlib.Core.Path.{◌≡◌, refl, sym, ap, subst, ◌∙◌}
use mathlib.Core.Bool.{true, false}
use mathlib.Core.Logic.{◌⊎◌, inl, inr, ◌≢◌}
use Prim.Native.Nat.{ℕ, suc, ◌+◌, ◌*◌, ◌<◌, ◌≤◌}
use native.Mathlib.Omega.{arith}
use lib.Count.{ones}
use Rattle.ancestors.specs.Ancestors.{has, put, own, hops, count}
use Rattle.ancestors.proofs.Cases.{eq_or_ne, bool_cases, never}
use Rattle.ancestors.proofs.Counting.{count_le, count_more}
use Rattle.ancestors.proofs.Laws.{has_put_same, has_put_other, has_kept, has_own, hops_ones, ones_put, ones_own}
use Rattle.settling.specs.Settled.{Walk, here, along, Route, start, onward, Least, Tight}

-- the origin and the ends of every arc are nodes, below n
pub record ArcEnds (n origin : ℕ) (cost : ℕ → ℕ → ℕ) : Type 0 where
  pub origin_node : origin < n
  pub sender_node : (s y : ℕ) → 0 < cost s y → s < n
  pub receiver_node : (s y : ℕ) → 0 < cost s y → y < n

module _ (cost : ℕ → ℕ → ℕ) (origin : ℕ) where
  -- a real route is a walk of the same arcs and cost
  pub route_walk : {y k d l : ℕ} → Route cost origin y k d l → Walk cost origin y k d
  route_walk start = here
  route_walk (onward r arc apart) = along (route_walk r) arc

  -- a route's list has one node more than the route has arcs
  pub route_ones : {y k d l : ℕ} → Route cost origin y k d l → ones l ≡ suc k
  route_ones start = ones_own origin
  route_ones (onward {l = l} {y = y} r arc apart) = ones_put l y apart ∙ ap suc (route_ones r)

  -- so its hops are its arcs
  pub route_hops : {y k d l : ℕ} → Route cost origin y k d l → hops l ≡ k
  route_hops {l = l} r = omega (arith, hops_ones l, route_ones r)

  -- a node of a route's list has a walk that costs no more than the route
  route_listed : {s k d l : ℕ} → Route cost origin s k d l → (y : ℕ) → has l y ≡ true → (e : ℕ) × (e ≤ d) × ((j : ℕ) × Walk cost origin y j e)
  route_listed start y h = (0, omega arith, (0, rw (has_own origin y h) here))
  route_listed (onward {s = s} {k = k} {d = d} {l = l} {y = z} r arc apart) y h = go (eq_or_ne z y) (λ g. route_listed r y g)
    where
      go : (z ≡ y) ⊎ (z ≢ y) → (has l y ≡ true → (e : ℕ) × (e ≤ d) × ((j : ℕ) × Walk cost origin y j e)) →
          (e : ℕ) × (e ≤ d + cost s z) × ((j : ℕ) × Walk cost origin y j e)
      go (inl q) before =
          (d + cost s z, omega arith, (suc k, subst (λ (x : ℕ). Walk cost origin x (suc k) (d + cost s z)) q (along (route_walk r) arc)))
      go (inr q) before = let b = before (sym (has_put_other l z y q) ∙ h) in (b.0, omega arith, b.2)

  -- where an arc from the route's end gives y's least cost, the route's list lacks y
  pub route_apart : {s k e l y : ℕ} → Route cost origin s k e l → 0 < cost s y → Least cost origin y (e + cost s y) → has l y ≡ false
  route_apart {s} {k} {e} {l} {y} r arc m = go (bool_cases (has l y))
    where
      go : (has l y ≡ true) ⊎ (has l y ≡ false) → has l y ≡ false
      go (inl h) = let b = route_listed r y h in absurd (omega (arith, m.least b.2.0 b.0 b.2.1))
      go (inr h) = h

  -- a walk with which an arc gives y's least cost is of least cost itself
  pub least_part : (s k e y d : ℕ) → Walk cost origin s k e → 0 < cost s y → e + cost s y ≡ d → Least cost origin y d → Least cost origin s e
  least_part s k e y d w arc q m =
      record { arcs = k; walk = w; least = λ j f x. omega (arith, m.least (suc j) (f + cost s y) (along x arc)) }

  -- and its sender gives that cost
  abbrev pub tight_part : (s k e y d : ℕ) → Walk cost origin s k e → 0 < cost s y → e + cost s y ≡ d → Least cost origin y d → Tight cost origin y s
  tight_part s k e y d w arc q m =
      record {
        arc = arc;
        before = e;
        sender_least = least_part s k e y d w arc q m;
        receiver_least = subst (Least cost origin y) (sym q) m;
      }

  -- a walk that stays at the origin
  abbrev pub Unmoved : ℕ → ℕ → ℕ → Type 0
  Unmoved y k d = (y ≡ origin) × (k ≡ 0) × (d ≡ 0)

  -- a walk with a last arc
  pub record Ended (y k d : ℕ) : Type 0 where
    pub sender : ℕ
    pub arcs : ℕ
    pub before : ℕ
    pub walk : Walk cost origin sender arcs before
    pub arc : 0 < cost sender y
    pub arcs_are : k ≡ suc arcs
    pub sum_is : d ≡ before + cost sender y

  -- a walk is one or the other
  pub walk_end : {y k d : ℕ} → Walk cost origin y k d → Unmoved y k d ⊎ Ended y k d
  walk_end here = inl (refl, refl, refl)
  walk_end (along {s = s} {k = k} {d = d} w arc) =
      inr (record { sender = s; arcs = k; before = d; walk = w; arc = arc; arcs_are = refl; sum_is = refl })

  -- a walk has no more arcs than its cost
  pub walk_arcs : {y k d : ℕ} → Walk cost origin y k d → k ≤ d
  walk_arcs here = omega arith
  walk_arcs (along w arc) = omega (arith, walk_arcs w)

  -- a route of k arcs, each of cost at most c, costs at most k c
  pub route_cost : (c : ℕ) → ((s y : ℕ) → cost s y ≤ c) → {y k d l : ℕ} → Route cost origin y k d l → d ≤ k * c
  route_cost c low start = omega arith
  route_cost c low (onward {s = s} {y = y} r arc apart) = omega (arith, route_cost c low r, low s y)

  module _ (n : ℕ) (ends : ArcEnds n origin cost) where
    -- a route of k arcs lists more than k nodes
    route_nodes_lem : {y k d l : ℕ} → Route cost origin y k d l → k < count (has l) n
    route_nodes_lem start =
        omega
        (arith, count_more (λ _. false) (has (own origin)) (λ i e. never false e refl) origin refl (has_put_same 0 origin) n ends.origin_node)
    route_nodes_lem (onward {s = s} {l = l} {y = y} r arc apart) =
        omega (
          arith,
          route_nodes_lem r,
          count_more (has l) (has (put l y)) (has_kept l y) y apart (has_put_same l y) n (ends.receiver_node s y arc),
        )

    -- so it has fewer arcs than there are nodes
    pub route_short : {y k d l : ℕ} → Route cost origin y k d l → k < n
    route_short {l = l} r = omega (arith, route_nodes_lem r, count_le (has l) n)
