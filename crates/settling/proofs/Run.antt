-- A run of rounds with lost reports, seen from outside: a relay's row is the choice among the reports held, from round W on at most W rounds old.
-- How marks and calls bring this about stays behind this record.
-- Assumes nothing.
use mathlib.Core.Path.{◌≡◌, sym, ◌∙◌}
use mathlib.Core.Bool.{true}
use mathlib.Core.Logic.{◌⊎◌, inl, inr, ◌≢◌}
use Prim.Native.Nat.{ℕ, ◌+◌, ◌<◌, ◌≤◌}
use Rattle.ancestors.specs.Ancestors.{has, own}
use Rattle.network.specs.Faults.{max_label}
use Rattle.network.specs.Network.{Row, root, via, Report, told}
use Rattle.network.specs.Round.{report, choice}
use Rattle.network.proofs.Choosing.{Made, Came, came, choice_no_root}
use Rattle.settling.specs.Settled.{Route}
use Rattle.network.proofs.Reports.{told_row}
use Rattle.settling.proofs.Routes.{ArcEnds}

-- the facts of a run that its theorems use
pub record Run : Type 0 where
  -- the nodes, the origin and the present costs
  pub n : ℕ
  pub origin : ℕ
  pub cost : ℕ → ℕ → ℕ
  -- every arc's report is heard within W rounds, and there are T rounds
  pub W : ℕ
  pub T : ℕ
  pub positive : 1 ≤ W
  -- rows and held reports after t rounds
  pub row : ℕ → ℕ → Row
  pub held : ℕ → ℕ → ℕ → Report
  -- the origin and the ends of arcs are nodes
  pub ends : ArcEnds n origin cost
  -- a real route's cost is at most the largest label
  pub fits : (y k d l : ℕ) → Route cost origin y k d l → d ≤ max_label
  -- the origin's row is fixed
  pub origin_row : (t : ℕ) → t ≤ T → row t origin ≡ root (own origin)
  -- a held report lies on an arc and lists its sender
  pub on_arc : (t s y d l : ℕ) → t ≤ T → held t s y ≡ told d l → 0 < cost s y
  pub own_node : (t s y d l : ℕ) → t ≤ T → held t s y ≡ told d l → has l s ≡ true
  -- from round W on a held report is of the sender's row as it stood at most W rounds before
  pub heard : (t s y : ℕ) → W ≤ t → t ≤ T → 0 < cost s y → (u : ℕ) × (t ≤ u + W) × (u < t) × (held t s y ≡ report (row u s))
  -- from the first round on a relay's row is the choice from what is held
  pub renewed : (t y : ℕ) → 1 ≤ t → t ≤ T → y < n → y ≢ origin → row t y ≡ choice n (λ s. cost s y) (λ s. held t s y) y

module _ (run : Run) where
  open run use {n, origin, cost, W, T, row, held}

  -- the report that y holds of s at round t makes the offer v
  abbrev pub Offered : ℕ → ℕ → ℕ → ℕ → Type 0
  Offered t s y v = Made y (cost s y) (held t s y) v

  -- where an offer comes from: an earlier row of its sender
  pub sent : (t s y v : ℕ) → W ≤ t → t ≤ T → (m : Offered t s y v) →
      (u : ℕ) × (t ≤ u + W) × (u < t) × (report (row u s) ≡ told m.label m.list)
  sent t s y v a b m =
      let h = run.heard t s y a b (run.on_arc t s y m.label m.list b m.is) in
      (h.0, h.1, h.2, sym h.3 ∙ m.is)

  -- where a relay's row comes from: its predecessor's offer
  pub source : (t y d p l : ℕ) → 1 ≤ t → t ≤ T → y < n → y ≢ origin → row t y ≡ via d p l →
      Came n (λ s. cost s y) (λ s. held t s y) y d p l
  source t y d p l a b c ne h = came n (λ s. cost s y) (λ s. held t s y) y d p l (sym (run.renewed t y a b c ne) ∙ h)

  -- a relay's row is never the origin's
  pub no_root : (t y l : ℕ) → 1 ≤ t → t ≤ T → y < n → y ≢ origin → row t y ≡ root l → ⊥
  no_root t y l a b c ne h = choice_no_root n (λ s. cost s y) (λ s. held t s y) y l (sym (run.renewed t y a b c ne) ∙ h)

  -- so what it reports is told by a row with a predecessor
  pub told_by : (t y d l : ℕ) → 1 ≤ t → t ≤ T → y < n → y ≢ origin → report (row t y) ≡ told d l → (p : ℕ) × (row t y ≡ via d p l)
  told_by t y d l a b c ne h = go (told_row (row t y) d l h)
    where
      go : ((row t y ≡ root l) × (0 ≡ d)) ⊎ ((p : ℕ) × (row t y ≡ via d p l)) → (p : ℕ) × (row t y ≡ via d p l)
      go (inl e) = absurd (no_root t y l a b c ne e.0)
      go (inr e) = e
