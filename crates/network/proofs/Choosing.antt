-- What a chosen row says of the reports it was made from, and what the reports say of it. Only this file and computed
-- examples open `row_by`, `list_of` and `choice`.
-- Assumes nothing.
use Rattle.std.specs.Prelude.{Some}
use mathlib.Core.Path.{◌≡◌, refl, ap, ap₂, ◌∙◌}
use mathlib.Core.Bool.{false}
use mathlib.Core.Logic.{◌≢◌}
use Prim.Native.Nat.{ℕ, ◌+◌, ◌<◌, ◌≤◌}
use lib.Count.{ones}
use Rattle.ancestors.specs.Ancestors.{has, put}
use Rattle.ancestors.proofs.Cases.{clash}
use Rattle.network.specs.Faults.{max_label}
use Rattle.network.specs.Network.{root, via, Report, told}
use Rattle.network.specs.Round.{Offer, offer, list_of, ones_in, Winner, nobody, sender, winner, row_by, choice}
use Rattle.network.proofs.Offers.{made, makes, Won, some_one, won, won_once, winner_ext}
pub use Rattle.network.proofs.Offers.{Made, Before}

module _ (n : ℕ) (cost : ℕ → ℕ) (held : ℕ → Report) (y : ℕ) where
  -- sender p's report makes y the row of label d, predecessor p and list l
  pub record Came (d p l : ℕ) : Type 0 where
    pub below : p < n
    pub offered : Made y (cost p) (held p) d
    pub list : l ≡ put offered.list y

  -- what sender s offers y, and the ones of its report
  abbrev offered_by : ℕ → Offer
  offered_by s = offer y (cost s) (held s)

  abbrev ones_by : ℕ → ℕ
  ones_by s = ones_in (held s)

  -- the same of whoever won, before the choice is put together
  came_from : (s u : ℕ) → s < n → Made y (cost s) (held s) u → Came u s (put (list_of (held s)) y)
  unfolding list_of
  came_from s u b m = record { below = b; offered = m; list = rw m.is }

  came_by : (w : Winner) → Won offered_by ones_by n w → (d p l : ℕ) → row_by y held w ≡ via d p l → Came d p l
  unfolding row_by
  came_by nobody h d p l e = clash cc
  came_by (sender s u) (some_one b q best) d p l e =
      let es : s ≡ p = cc in
      let eu : u ≡ d = cc in
      let el : put (list_of (held s)) y ≡ l = cc in
      rw (el, eu, es) at (came_from s u b (made y (cost s) (held s) u q))

  no_root_by : (w : Winner) (l : ℕ) → row_by y held w ≡ root l → ⊥
  unfolding row_by
  no_root_by nobody l e = clash cc
  no_root_by (sender s u) l e = clash cc

  -- a chosen row with a route comes from the report of its predecessor
  pub came : (d p l : ℕ) → choice n cost held y ≡ via d p l → Came d p l
  unfolding choice
  came d p l e = came_by (winner offered_by ones_by n) (won offered_by ones_by n) d p l e

  -- a chosen row is never the origin's
  pub choice_no_root : (l : ℕ) → choice n cost held y ≡ root l → ⊥
  unfolding choice
  choice_no_root l e = no_root_by (winner offered_by ones_by n) l e

  -- the row that the offer before all others makes
  pub wins : (s e l : ℕ) → s < n → held s ≡ told e l → has l y ≡ false → e + cost s ≤ max_label →
      ((r v : ℕ) → r < n → r ≢ s → (m : Made y (cost r) (held r) v) → Before (e + cost s) (ones l) s v (ones m.list) r) →
      choice n cost held y ≡ via (e + cost s) s (put l y)
  unfolding choice row_by list_of
  wins s e l b h apart fits best =
      rw (won_once offered_by ones_by n (winner offered_by ones_by n) (sender s (e + cost s)) (won offered_by ones_by n) (some_one b its before), h)
    where
      its : offered_by s ≡ Some (e + cost s)
      its = rw h (makes y (cost s) e l apart fits)

      before : (r v : ℕ) → r < n → r ≢ s → offered_by r ≡ Some v → Before (e + cost s) (ones_by s) s v (ones_by r) r
      before r v c ne o =
          let m = made y (cost r) (held r) v o in
          rw (h, m.is) (best r v c ne m)

row_by_ext : (y : ℕ) (held held' : ℕ → Report) (n : ℕ) (f : ℕ → Offer) (c : ℕ → ℕ) (w : Winner) → Won f c n w → ((s : ℕ) → s < n → held s ≡ held' s) →
    row_by y held w ≡ row_by y held' w
unfolding row_by
row_by_ext y held held' n f c nobody h e = refl
row_by_ext y held held' n f c (sender s u) (some_one b q best) e = ap (λ r. via u s (put (list_of r) y)) (e s b)

-- the choice depends on the costs and held reports of the senders below n alone
pub choice_ext : (n : ℕ) (cost cost' : ℕ → ℕ) (held held' : ℕ → Report) (y : ℕ) →
    ((s : ℕ) → s < n → cost s ≡ cost' s) → ((s : ℕ) → s < n → held s ≡ held' s) → choice n cost held y ≡ choice n cost' held' y
unfolding choice
choice_ext n cost cost' held held' y c h =
    let f : ℕ → Offer = λ s. offer y (cost s) (held s) in
    let g : ℕ → Offer = λ s. offer y (cost' s) (held' s) in
    let i : ℕ → ℕ = λ s. ones_in (held s) in
    let j : ℕ → ℕ = λ s. ones_in (held' s) in
    row_by_ext y held held' n f i (winner f i n) (won f i n) h ∙
    ap (row_by y held') (winner_ext f g i j n (λ s b. ap₂ (offer y) (c s b) (h s b)) (λ s b. ap ones_in (h s b)))
