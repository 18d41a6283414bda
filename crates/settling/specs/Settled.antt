-- Document 01, "The settled row", with request One's predecessor: walks, least costs, settled rows and real routes, over the present costs (0: no
-- arc) and the origin.
-- Assumes nothing.
use Rattle.std.specs.Prelude.{◌≡◌, false, ◌≢◌, ℕ, suc, ◌+◌, ◌<◌, ◌≤◌}
use Rattle.ancestors.specs.Ancestors.{has, put, own, hops}
use Rattle.network.specs.Network.{Row, none, root, via, told}
use Rattle.network.specs.Round.{report}

module _ (cost : ℕ → ℕ → ℕ) (origin : ℕ) where
  -- a walk along arcs from the origin to a node, its number of arcs, and the sum of its costs
  pub data Walk : ℕ → ℕ → ℕ → Type 0 where
    here : Walk origin 0 0
    along : {s k d y : ℕ} → Walk s k d → 0 < cost s y → Walk y (suc k) (d + cost s y)

  -- d is d(y), the least sum over all walks from the origin to y
  pub record Least (y d : ℕ) : Type 0 where
    pub arcs : ℕ
    pub walk : Walk y arcs d
    pub least : (k e : ℕ) → Walk y k e → d ≤ e

  -- s is a sender that gives the least cost: d(s) plus its arc's cost is d(y)
  pub record Tight (y s : ℕ) : Type 0 where
    pub arc : 0 < cost s y
    pub before : ℕ
    pub sender_least : Least s before
    pub receiver_least : Least y (before + cost s y)

  -- p is y's settled predecessor: of such senders, one with a least-cost walk of fewest arcs, and of those the lowest number
  pub record Predecessor (y p : ℕ) : Type 0 where
    pub tight : Tight y p
    pub arcs : ℕ
    pub walk : Walk p arcs tight.before
    pub fewest : (s k : ℕ) (t : Tight y s) → Walk s k t.before → arcs ≤ k
    pub lowest : (s : ℕ) (t : Tight y s) → Walk s arcs t.before → p ≤ s

  -- l lists the nodes met from y along settled predecessors to the origin, both included
  pub data Ancestors : ℕ → ℕ → Type 0 where
    at_origin : Ancestors origin (own origin)
    behind : {y p l : ℕ} → y ≢ origin → Predecessor y p → Ancestors p l → Ancestors y (put l y)

  -- y's settled row: the origin's fixed row, no route if no walk leads there, or d(y), the settled predecessor and that list
  pub data Settled (y : ℕ) : Row → Type 0 where
    fixed : y ≡ origin → Settled y (root (own origin))
    unreached : ((k d : ℕ) → Walk y k d → ⊥) → Settled y none
    reached : {d p l : ℕ} → y ≢ origin → Least y d → Predecessor y p → Ancestors y l → Settled y (via d p l)

  -- a real route to a node: a walk that meets no node twice, its number of arcs, its cost and the list of its nodes
  pub data Route : ℕ → ℕ → ℕ → ℕ → Type 0 where
    start : Route origin 0 0 (own origin)
    onward : {s k d l y : ℕ} → Route s k d l → 0 < cost s y → has l y ≡ false → Route y (suc k) (d + cost s y) (put l y)

  -- the row's label, if it has one, is the cost of a real route to y
  pub data Real (y : ℕ) : Row → Type 0 where
    no_label : Real y none
    origin_label : {k m l : ℕ} → Route y k 0 m → Real y (root l)
    relay_label : {d p l k m : ℕ} → Route y k d m → Real y (via d p l)

  -- h is the fewest arcs of any least-cost walk to y
  pub record FewestArcs (y h : ℕ) : Type 0 where
    pub sum : ℕ
    pub least : Least y sum
    pub walk : Walk y h sum
    pub fewest : (k : ℕ) → Walk y k sum → h ≤ k

  -- the hops of a settled row are the fewest arcs of any least-cost walk to its node
  abbrev pub HopsFewest : Type 0
  HopsFewest = (y d l : ℕ) (w : Row) → Settled y w → report w ≡ told d l → FewestArcs y (hops l)
