-- Laws of the walk along predecessors: the rows that it reads, its steps, that its bound on nodes breaks no walk, and what it reaches.
-- Assumes nothing.
use mathlib.Core.Path.{◌≡◌, refl, sym, ap, subst, ◌∙◌}
use mathlib.Core.Bool.{true, false}
use mathlib.Core.Logic.{◌⊎◌, inl, inr, ⊎_elim}
use mathlib.Core.List.Memᴰ
use mathlib.Core.List.{List, [], ◌∷◌, ◌++◌, Memᴰ}
use Prim.Native.Nat.{ℕ, zero, suc, ◌+◌, ◌<◌, ◌≤◌}
use native.Mathlib.Omega.{arith}
use lib.ListN.{length}
use Rattle.ancestors.specs.Ancestors.{has, put, count}
use Rattle.ancestors.proofs.Cases.{bool_cases, never, clash}
use Rattle.ancestors.proofs.Counting.{count_le, count_more}
use Rattle.ancestors.proofs.Laws.{has_put_same, has_kept}
use Rattle.network.specs.Faults.{max_nodes, node_fault}
use Rattle.network.specs.Network.{Row, none, root, via, Net}
use Rattle.network.specs.Route.{route_row, Walked, broken, reached, walk_at, walk, walk_back_of, unrouted, Walks, again, lost, arrived, onward, RouteTo}
use Rattle.network.proofs.FaultLaws.{node_says}

-- ---- rows

-- the walk reads a node's row, and none elsewhere
module _ (x : Net) (y : ℕ) where
  pub reads_none : node_fault x.nodes y ≡ true → route_row x y ≡ none
  unfolding route_row
  reads_none f = rw f

  pub reads_row : node_fault x.nodes y ≡ false → route_row x y ≡ x.row y
  unfolding route_row
  reads_row f = rw f

-- which rows have no route
pub none_unrouted : {w : Row} → w ≡ none → unrouted w ≡ true
unfolding unrouted
none_unrouted e = rw e

pub root_routed : {w : Row} {l : ℕ} → w ≡ root l → unrouted w ≡ false
unfolding unrouted
root_routed e = rw e

pub via_routed : {w : Row} {d p l : ℕ} → w ≡ via d p l → unrouted w ≡ false
unfolding unrouted
via_routed e = rw e

-- what has a route is a node, with its own row
pub routed : (x : Net) (y : ℕ) → unrouted (route_row x y) ≡ false → (y < x.nodes) × (route_row x y ≡ x.row y)
routed x y e =
    ⊎_elim (λ f. never (unrouted (route_row x y)) (none_unrouted (reads_none x y f)) e) (λ f. (node_says x.nodes y f, reads_row x y f))
    (bool_cases (node_fault x.nodes y))

-- ---- a step of the walk

-- no node is met yet
pub walk_start : (x : Net) (y : ℕ) → walk_back_of x y ≡ walk max_nodes x y 0 []
unfolding walk_back_of
walk_start x y = refl

-- with no node left
pub walk_spent : (x : Net) (y met : ℕ) (route : List ℕ) → walk zero x y met route ≡ broken
unfolding walk
walk_spent x y met route = refl

-- at a node already met; else by its row
module _ (k : ℕ) (x : Net) (y met : ℕ) (route : List ℕ) where
  pub walk_again : has met y ≡ true → walk (suc k) x y met route ≡ broken
  unfolding walk
  walk_again e = rw e

  module _ (new : has met y ≡ false) where
    pub walk_lost : route_row x y ≡ none → walk (suc k) x y met route ≡ broken
    unfolding walk walk_at
    walk_lost r = rw (new, r)

    pub walk_arrived : (l : ℕ) → route_row x y ≡ root l → walk (suc k) x y met route ≡ reached (y ∷ route)
    unfolding walk walk_at
    walk_arrived l r = rw (new, r)

    pub walk_onward : (d p l : ℕ) → route_row x y ≡ via d p l → walk (suc k) x y met route ≡ walk k x p (put met y) (y ∷ route)
    unfolding walk walk_at
    walk_onward d p l r = rw (new, r)

-- ---- the walk that counts nodes is the one with no bound

-- of the nodes below n, one more is met, and not all were
module _ (n y met : ℕ) (new : has met y ≡ false) (below : y < n) where
  pub met_more : count (has met) n < count (has (put met y)) n
  met_more = count_more (has met) (has (put met y)) (λ i. has_kept met y i) y new (has_put_same met y) n below

  pub met_room : count (has met) n < n
  met_room = omega (arith, met_more, count_le (has (put met y)) n)

module _ (x : Net) where
  -- a row that leads on, or ends the walk, is a node's
  via_node : (y d p l : ℕ) → route_row x y ≡ via d p l → y < x.nodes
  via_node y d p l r = (routed x y (via_routed r)).0

  root_node : (y l : ℕ) → route_row x y ≡ root l → (y < x.nodes) × (x.row y ≡ root l)
  root_node y l r = let q = routed x y (root_routed r) in (q.0, sym q.1 ∙ r)

  -- with room for every node not yet met, the walk that counts nodes is that walk
  pub walk_walks : (k y met : ℕ) (route : List ℕ) → x.nodes ≤ count (has met) x.nodes + k → Walks x y met route (walk k x y met route)
  walk_walks zero y met route h = go (bool_cases (has met y)) (route_row x y) refl
    where
      go : (has met y ≡ true) ⊎ (has met y ≡ false) → (w : Row) → route_row x y ≡ w → Walks x y met route (walk zero x y met route)
      go (inl m) w r = rw (walk_spent x y met route) (again m)
      go (inr m) none r = rw (walk_spent x y met route) (lost m r)
      go (inr m) (root l) r = absurd (omega (arith, met_room x.nodes y met m (root_node y l r).0))
      go (inr m) (via d p l) r = absurd (omega (arith, met_room x.nodes y met m (via_node y d p l r)))
  walk_walks (suc k) y met route h = go (bool_cases (has met y)) (route_row x y) refl (λ p. walk_walks k p (put met y) (y ∷ route))
    where
      go : (has met y ≡ true) ⊎ (has met y ≡ false) → (w : Row) → route_row x y ≡ w →
          ((p : ℕ) → x.nodes ≤ count (has (put met y)) x.nodes + k →
          Walks x p (put met y) (y ∷ route) (walk k x p (put met y) (y ∷ route))) → Walks x y met route (walk (suc k) x y met route)
      go (inl m) w r next = rw (walk_again k x y met route m) (again m)
      go (inr m) none r next = rw (walk_lost k x y met route m r) (lost m r)
      go (inr m) (root l) r next = rw (walk_arrived k x y met route m l r) (arrived l m r)
      go (inr m) (via d p l) r next =
          rw (walk_onward k x y met route m d p l r)
          (onward d p l m r (next p (omega (arith, met_more x.nodes y met m (via_node y d p l r)))))

  -- and there is no other such walk
  pub walks_walk : {y met : ℕ} {route : List ℕ} {w : Walked} → Walks x y met route w → (k : ℕ) →
      x.nodes ≤ count (has met) x.nodes + k → walk k x y met route ≡ w
  walks_walk {y} {met} {route} (again m) zero h = walk_spent x y met route
  walks_walk {y} {met} {route} (lost m r) zero h = walk_spent x y met route
  walks_walk {y} {met} (arrived l m r) zero h = absurd (omega (arith, met_room x.nodes y met m (root_node y l r).0))
  walks_walk {y} {met} (onward d p l m r t) zero h = absurd (omega (arith, met_room x.nodes y met m (via_node y d p l r)))
  walks_walk {y} {met} {route} (again m) (suc k) h = walk_again k x y met route m
  walks_walk {y} {met} {route} (lost m r) (suc k) h = walk_lost k x y met route m r
  walks_walk {y} {met} {route} (arrived l m r) (suc k) h = walk_arrived k x y met route m l r
  walks_walk {y} {met} {route} (onward d p l m r t) (suc k) h =
      walk_onward k x y met route m d p l r ∙
      walks_walk t k (omega (arith, met_more x.nodes y met m (via_node y d p l r)))

  module _ (few : x.nodes ≤ max_nodes) where
    -- the walk back is document 01's
    pub walk_back : (y : ℕ) → Walks x y 0 [] (walk_back_of x y)
    unfolding walk_back_of
    walk_back y = walk_walks max_nodes y 0 [] (omega arith)

    -- and no other
    pub walk_only : (y : ℕ) (w : Walked) → Walks x y 0 [] w → walk_back_of x y ≡ w
    unfolding walk_back_of
    walk_only y w t = walks_walk t max_nodes (omega arith)

    -- the bound on nodes is never what breaks a walk
    pub walk_enough : (k y : ℕ) → walk (max_nodes + k) x y 0 [] ≡ walk max_nodes x y 0 []
    walk_enough k y = walks_walk (walk_walks max_nodes y 0 [] (omega arith)) (max_nodes + k) (omega arith)

-- ---- what the walk reaches

-- the nodes of a route with one node more
cons_below : (n y : ℕ) (route : List ℕ) → y < n → ((a : ℕ) → Memᴰ a route → a < n) → (a : ℕ) → Memᴰ a (y ∷ route) → a < n
cons_below n y route h b a i = ⊎_elim (λ e. omega arith) (λ j. b a j) (Memᴰ.cases_cons i)

-- z is the node named, and y the one come to
walks_to : (x : Net) (z : ℕ) {y met : ℕ} {route : List ℕ} {w : Walked} → Walks x y met route w → (whole : List ℕ) → w ≡ reached whole →
    (front : List ℕ) × (y ∷ route ≡ front ++ z ∷ []) → length route ≤ count (has met) x.nodes →
    ((a : ℕ) → Memᴰ a route → a < x.nodes) → RouteTo x z whole
walks_to x z (again m) whole e f s b = clash cc
walks_to x z (lost m r) whole e f s b = clash cc
walks_to x z {y} {met} {route} (arrived l m r) whole e f s b =
    let same : y ∷ route ≡ whole = cc in
    let node = root_node x y l r in
    subst (RouteTo x z) same
    (record {
      first = (y, l, route, refl, node.1);
      last = f;
      short = omega (arith, met_room x.nodes y met m node.0);
      below = cons_below x.nodes y route node.0 b;
    })
walks_to x z {y} {met} {route} (onward d p l m r t) whole e f s b =
    let node = via_node x y d p l r in
    walks_to x z t whole e (p ∷ f.0, ap (λ (rest : List ℕ). p ∷ rest) f.1) (omega (arith, met_more x.nodes y met m node))
    (cons_below x.nodes y route node b)

-- a walk back that reaches the origin gives a route to the node named
pub route_ends : (x : Net) (y : ℕ) (route : List ℕ) → x.nodes ≤ max_nodes → walk_back_of x y ≡ reached route → RouteTo x y route
route_ends x y route few e =
    walks_to x y (walk_back x few y) route e ([], refl) (omega arith) (λ a i. absurd (Memᴰ.not-nil i))
