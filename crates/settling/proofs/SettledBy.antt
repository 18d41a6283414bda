-- Settled rows built from the origin on, each from its predecessor's: the form over which proofs go by induction.
-- Assumes nothing.
use mathlib.Core.Path.{◌≡◌, refl, sym, subst}
use mathlib.Core.Bool.{false}
use mathlib.Core.Logic.{◌⊎◌, inl, inr, ◌≢◌}
use Prim.Native.Nat.{ℕ, suc, ◌+◌, ◌≤◌}
use native.Mathlib.Omega.{arith}
use Rattle.ancestors.specs.Ancestors.{has, put, own}
use Rattle.ancestors.proofs.Cases.{clash}
use Rattle.network.specs.Network.{Row, root, via, told}
use Rattle.network.specs.Round.{report}
use Rattle.settling.specs.Settled.{Walk, here, Route, start, onward, Least, Predecessor, Ancestors, at_origin, behind, Settled, fixed, unreached, reached, HopsFewest}
use Rattle.network.proofs.Reports.{root_told, via_told, told_row}
use Rattle.settling.proofs.Unique.{least_once}
use Rattle.settling.proofs.Routes.{route_walk, route_hops, route_apart, tight_part, Unmoved, Ended, walk_end}

module _ (cost : ℕ → ℕ → ℕ) (origin : ℕ) where
  -- w is y's settled row; the route along settled predecessors has k arcs, cost d and list l
  pub data SettledBy : ℕ → ℕ → ℕ → ℕ → Row → Type 0 where
    at_start_lem : SettledBy origin 0 0 (own origin) (root (own origin))
    next : {s k e l y : ℕ} {w : Row} → y ≢ origin → SettledBy s k e l w → Predecessor cost origin y s →
        SettledBy y (suc k) (e + cost s y) (put l y) (via (e + cost s y) s (put l y))

  -- its cost is the least
  pub by_least : {y k d l : ℕ} {w : Row} → SettledBy y k d l w → Least cost origin y d
  by_least at_start_lem = record { arcs = 0; walk = here; least = λ k e w. omega arith }
  by_least (next {s = s} {y = y} relay b p) =
      subst (λ (e : ℕ). Least cost origin y (e + cost s y)) (least_once cost origin p.tight.sender_least (by_least b)) p.tight.receiver_least

  -- the predecessor's list lacks y
  pub by_apart : {s k e l y : ℕ} {w : Row} → y ≢ origin → SettledBy s k e l w → Predecessor cost origin y s → Route cost origin s k e l
      → has l y ≡ false
  by_apart relay b p r = route_apart cost origin r p.tight.arc (by_least (next relay b p))

  -- the route is real
  pub by_route : {y k d l : ℕ} {w : Row} → SettledBy y k d l w → Route cost origin y k d l
  by_route at_start_lem = start
  by_route (next relay b p) = onward (by_route b) p.tight.arc (by_apart relay b p (by_route b))

  -- and no walk of its cost has fewer arcs
  pub by_fewest : {y k d l : ℕ} {w : Row} → SettledBy y k d l w → (j : ℕ) → Walk cost origin y j d → k ≤ j
  by_fewest at_start_lem j x = omega arith
  by_fewest (next {s = s} {k = k} {e = e} {l = l} {y = y} {w = w} relay b p) j x = go (walk_end cost origin x) (λ i v. by_fewest b i v)
    where
      go : Unmoved cost origin y j (e + cost s y) ⊎ Ended cost origin y j (e + cost s y) →
          ((i : ℕ) → Walk cost origin s i e → k ≤ i) → suc k ≤ j
      go (inl o) before = absurd (relay o.0)
      go (inr o) before =
          let m = by_least (next {l = l} {w = w} relay b p) in
          let t = tight_part cost origin o.sender o.arcs o.before y (e + cost s y) o.walk o.arc (sym o.sum_is) m in
          let same : p.tight.before ≡ e = least_once cost origin p.tight.sender_least (by_least b) in
          let few : k ≤ p.arcs = before p.arcs (subst (λ (d : ℕ). Walk cost origin s p.arcs d) same p.walk) in
          omega (arith, o.arcs_are, p.fewest o.sender o.arcs t o.walk)

  -- the row reports its cost and list
  pub by_report : {y k d l : ℕ} {w : Row} → SettledBy y k d l w → report w ≡ told d l
  by_report at_start_lem = root_told refl
  by_report (next relay b p) = via_told refl

  -- a relay's row has that cost and list, and some predecessor
  pub by_relay : {y k d l : ℕ} {w : Row} → y ≢ origin → SettledBy y k d l w → (p : ℕ) × (w ≡ via d p l)
  by_relay relay at_start_lem = absurd (relay refl)
  by_relay relay (next {s = s} also b p) = (s, refl)

  -- the list is that of the nodes along settled predecessors
  by_ancestors : {y k d l : ℕ} {w : Row} → SettledBy y k d l w → Ancestors cost origin y l
  by_ancestors at_start_lem = at_origin
  by_ancestors (next relay b p) = behind relay p (by_ancestors b)

  -- the row is the settled row of the definition
  pub by_settled : {y k d l : ℕ} {w : Row} → SettledBy y k d l w → Settled cost origin y w
  by_settled at_start_lem = fixed refl
  by_settled (next relay b p) = reached relay (by_least (next relay b p)) p (by_ancestors (next relay b p))

  -- from the list of nodes along settled predecessors back to such a row
  by_list : {y l : ℕ} → Ancestors cost origin y l → (k d : ℕ) × ((w : Row) × SettledBy y k d l w)
  by_list at_origin = (0, 0, (root (own origin), at_start_lem))
  by_list (behind {y = y} {p = p} {l = l} relay q a) =
      let b = by_list a in
      (suc b.0, b.1 + cost p y, (via (b.1 + cost p y) p (put l y), next relay b.2.1 q))

  -- the list that a settled row reports is that of the nodes along settled predecessors
  settled_list : {y : ℕ} {w : Row} → Settled cost origin y w → (d l : ℕ) → ((w ≡ root l) × (0 ≡ d)) ⊎ ((p : ℕ) × (w ≡ via d p l)) →
      Ancestors cost origin y l
  settled_list (fixed q) d l (inl e) = let same : own origin ≡ l = cc e.0 in rw (q, ← same) at_origin
  settled_list (fixed q) d l (inr e) = clash (cc e.1)
  settled_list (unreached no_Walk) d l (inl e) = clash (cc e.0)
  settled_list (unreached no_Walk) d l (inr e) = clash (cc e.1)
  settled_list (reached relay m q a) d l (inl e) = clash (cc e.0)
  settled_list (reached {l = k} relay m q a) d l (inr e) = let same : k ≡ l = cc e.1 in rw (← same) a

  -- the hops of a settled row are the fewest arcs of any least-cost walk to its node
  pub settled_hops : HopsFewest cost origin
  settled_hops y d l w x e =
      let b = by_list (settled_list x d l (told_row w d l e)) in
      let r = by_route b.2.1 in
      rw (route_hops cost origin r)
      (record { sum = b.1; least = by_least b.2.1; walk = route_walk cost origin r; fewest = by_fewest b.2.1 })
