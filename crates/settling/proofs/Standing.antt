-- From (n - 2) W + 1 rounds on settled rows stand one after the other, those over fewest arcs first: a settled row over k + 1 arcs stands
-- k W rounds later.
-- Assumes nothing.
use mathlib.Core.Path.{◌≡◌, sym, ap, subst, ◌∙◌}
use mathlib.Core.Logic.{◌⊎◌, inl, inr, ◌≢◌}
use Prim.Native.Nat.{ℕ, suc, ◌+◌, ◌*◌, ◌-◌, ◌<◌, ◌≤◌}
use native.Mathlib.Omega.{arith}
use native.Mathlib.Nat.{mul-le-mul_right}
use lib.Count.{ones}
use Rattle.ancestors.specs.Ancestors.{put}
use Rattle.ancestors.proofs.Cases.{eq_or_ne}
use Rattle.network.specs.Network.{Row, via, told}
use Rattle.network.specs.Round.{report}
use Rattle.network.proofs.Choosing.{Before, wins}
use Rattle.settling.specs.Settled.{Walk, along, Least, Tight, Predecessor}
use Rattle.settling.proofs.Routes.{route_short, route_walk, route_ones, tight_part}
use Rattle.settling.proofs.Unique.{least_once}
use Rattle.settling.proofs.SettledBy.{SettledBy, at_start_lem, next, by_least, by_apart, by_route, by_fewest, by_report}
use Rattle.settling.proofs.Run.{Run}
use Rattle.settling.proofs.Sound.{Sound, sound_offer}

module _ (cost : ℕ → ℕ → ℕ) (origin : ℕ) where
  -- the settled predecessor's settled offer goes before every other sound one
  before_others : {s k e l y : ℕ} {w : Row} → y ≢ origin → SettledBy cost origin s k e l w → Predecessor cost origin y s →
      (r a i : ℕ) → r ≢ s → Sound cost origin r a i → 0 < cost r y → Before (e + cost s y) (ones l) s (a + cost r y) (ones i) r
  before_others {s} {k} {e} {l} {y} {w} relay b p r a i ne g arc = go (eq_or_ne (e + cost s y) (a + cost r y))
    where
      m : Least cost origin y (e + cost s y)
      m = by_least cost origin (next {l = l} {w = w} relay b p)

      -- the list of the settled predecessor has one node more than the fewest arcs
      listed : ones l ≡ suc k
      listed = route_ones cost origin (by_route cost origin b)

      same : p.tight.before ≡ e
      same = least_once cost origin p.tight.sender_least (by_least cost origin b)

      few : k ≡ p.arcs
      few =
          omega (
            arith,
            by_fewest cost origin b p.arcs (subst (Walk cost origin s p.arcs) same p.walk),
            p.fewest s k p.tight (subst (Walk cost origin s k) (sym same) (route_walk cost origin (by_route cost origin b))),
          )

      cheapest : e + cost s y ≤ g.sum + cost r y
      cheapest = m.least (suc g.arcs) (g.sum + cost r y) (along g.walk arc)

      -- an equal sum is that of a least-cost walk, of no fewer arcs
      equal : e + cost s y ≡ a + cost r y → Before (e + cost s y) (ones l) s (a + cost r y) (ones i) r
      equal q = ranked (eq_or_ne (suc k) (ones i))
        where
          t : Tight cost origin y r
          t = tight_part cost origin r g.arcs g.sum y (e + cost s y) g.walk arc (omega (arith, cheapest, g.cheap)) m

          more : p.arcs ≤ g.arcs
          more = p.fewest r g.arcs t g.walk

          ranked : (suc k ≡ ones i) ⊎ (suc k ≢ ones i) → Before (e + cost s y) (ones l) s (a + cost r y) (ones i) r
          ranked (inl h) =
              let arcs_are : g.arcs ≡ p.arcs = omega (arith, few, more, g.short) in
              let low : s ≤ r = p.lowest r t (subst (λ (j : ℕ). Walk cost origin r j g.sum) arcs_are g.walk) in
              inr (q, listed ∙ h, omega (arith, ne))
          ranked (inr h) = inl (inr (q, omega (arith, few, more, listed, g.short, h)))

      go : (e + cost s y ≡ a + cost r y) ⊎ (e + cost s y ≢ a + cost r y) → Before (e + cost s y) (ones l) s (a + cost r y) (ones i) r
      go (inl q) = equal q
      go (inr q) = inl (inl (omega (arith, q, cheapest, g.cheap)))

module _ (run : Run) where
  open run use {n, origin, cost, W, T, row, held}

  -- where the settled predecessor's row stood over the last W rounds, y's row is the settled one
  follows : {s k e l y : ℕ} {w : Row} → y ≢ origin → SettledBy cost origin s k e l w → Predecessor cost origin y s →
      (t : ℕ) → (n - 2) * W + 1 ≤ t → W ≤ t → t ≤ T → ((u : ℕ) → t ≤ u + W → u ≤ T → row u s ≡ w) → row t y ≡ via (e + cost s y) s (put l y)
  follows {s} {k} {e} {l} {y} {w} relay x p t a late b stood =
      let arc : 0 < cost s y = p.tight.arc in
      let below : y < n = run.ends.receiver_node s y arc in
      let h = run.heard t s y late b arc in
      let told_is : report (row h.0 s) ≡ told e l = ap report (stood h.0 h.1 (omega arith)) ∙ by_report cost origin x in
      run.renewed t y (omega (arith, a)) b below relay ∙
      wins n (λ r. cost r y) (λ r. held t r y) y s e l (run.ends.sender_node s y arc) (h.3 ∙ told_is)
      (by_apart cost origin relay x p (by_route cost origin x))
      (run.fits y (suc k) (e + cost s y) (put l y) (by_route cost origin (next relay x p)))
      (λ r v c ne o. rw o.total
      (before_others cost origin relay x p r o.label o.list ne (sound_offer run t r y v a b below relay o)
      (run.on_arc t r y o.label o.list b o.is)))

  -- the origin's row stands always, a settled row over k + 1 arcs from (n - 2) W + 1 + k W rounds on, and not before W
  pub stands : {y k d l : ℕ} {w : Row} → SettledBy cost origin y k d l w → (t : ℕ) → (n - 2) * W + 1 + k * W ≤ t + W → (0 < k → W ≤ t) → t ≤ T →
      row t y ≡ w
  stands at_start_lem t a late b = run.origin_row t b
  stands (next {k = k} relay x p) t a late b =
      let short : suc k < n = route_short cost origin n run.ends (by_route cost origin (next relay x p)) in
      follows relay x p t (omega arith) (late (omega arith)) b
      (λ u c g. stands x u (omega arith) (λ some. omega (arith, mul-le-mul_right W (between k n some short))) g)
    where
      -- with a relay between, n is 3 at least
      between : (k n : ℕ) → 0 < k → suc k < n → 2 ≤ (n - 2) + k
      between k n a b = omega arith
