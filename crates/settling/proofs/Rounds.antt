-- Networks one after the other by rounds with heard marks are a run, as a held report is no older than its arc's last mark; so their rows settle.
-- Assumes nothing.
use mathlib.Core.Path.{◌≡◌, refl, sym, ap₂, subst, subst₂, ◌∙◌}
use mathlib.Core.Bool.{true, false}
use mathlib.Core.Logic.{◌⊎◌, inl, inr, ◌≢◌}
use Prim.Native.Nat.{ℕ, zero, suc, ◌+◌, ◌*◌, ◌-◌, ◌<◌, ◌≤◌}
use native.Mathlib.Omega.{arith}
use Rattle.ancestors.specs.Ancestors.{has, own}
use Rattle.ancestors.proofs.Cases.{eq_or_ne, bool_cases, never}
use Rattle.network.specs.Faults.{max_cost, max_label}
use Rattle.network.specs.Network.{root, told, Net, Within}
use Rattle.network.specs.Round.{Marks, report, choice}
use Rattle.network.proofs.Effects.{Stays, nodes_stay, origin_stay, RoundEffect}
use Rattle.network.proofs.Limits.{within_size, within_arc, within_report}
use Rattle.settling.specs.Settled.{Route, Settled, Real}
use Rattle.settling.specs.Calls.{AllReal, AllSettled}
use Rattle.settling.specs.Bounds.{settled_from}
use Rattle.settling.proofs.Routes.{ArcEnds, route_short, route_cost}
use Rattle.settling.proofs.Run.{Run}
use Rattle.settling.proofs.Converging.{all_real, all_settled}

-- T rounds: round t has the marks marks t, and net t is the network after t rounds
pub record Rounds (marks : ℕ → Marks) (net : ℕ → Net) (T : ℕ) : Type 0 where
  pub effect : (t : ℕ) → t < T → RoundEffect (marks t) (net t) (net (suc t))
  pub within : (t : ℕ) → t ≤ T → Within (net t)

module _ (x : Net) (within : Within x) where
  -- the ends of arcs are nodes
  within_ends : ArcEnds x.nodes x.origin x.cost
  within_ends =
      record {
        origin_node = (within_size x within).2;
        sender_node = λ s y arc. (within_arc x within s y arc).0;
        receiver_node = λ s y arc. (within_arc x within s y arc).1;
      }

  -- a real route has at most 31 arcs of cost at most 65,535
  within_fits : (y k d l : ℕ) → Route x.cost x.origin y k d l → d ≤ max_label
  within_fits y k d l r =
      let short : k < x.nodes = route_short x.cost x.origin x.nodes within_ends r in
      omega (arith, (within_size x within).1, route_cost x.cost x.origin max_cost within.arc_cost r)

module _ (marks : ℕ → Marks) (net : ℕ → Net) (T : ℕ) (rounds : Rounds marks net T) where
  -- rounds leave the frame and the costs
  same_frame : (t : ℕ) → t ≤ T → Stays (net 0) (net t)
  same_frame zero b = refl
  same_frame (suc t) b = (rounds.effect t (omega arith)).stays ∙ same_frame t (omega arith)

  same_nodes : (t : ℕ) → t ≤ T → (net t).nodes ≡ (net 0).nodes
  same_nodes t b = nodes_stay (same_frame t b)

  same_origin : (t : ℕ) → t ≤ T → (net t).origin ≡ (net 0).origin
  same_origin t b = origin_stay (same_frame t b)

  same_cost : (t : ℕ) → t ≤ T → (net t).cost ≡ (net 0).cost
  same_cost zero b = refl
  same_cost (suc t) b = (rounds.effect t (omega arith)).cost ∙ same_cost t (omega arith)

  -- the facts of a run, one by one
  origin_row : (t : ℕ) → t ≤ T → (net t).row (net 0).origin ≡ root (own (net 0).origin)
  origin_row t b = subst (λ (o : ℕ). (net t).row o ≡ root (own o)) (same_origin t b) (rounds.within t b).origin_row

  on_arc : (t s y d l : ℕ) → t ≤ T → (net t).held s y ≡ told d l → 0 < (net 0).cost s y
  on_arc t s y d l b h = subst (λ (c : ℕ → ℕ → ℕ). 0 < c s y) (same_cost t b) (within_report (net t) (rounds.within t b) s y d l h).arc

  own_node : (t s y d l : ℕ) → t ≤ T → (net t).held s y ≡ told d l → has l s ≡ true
  own_node t s y d l b h = (within_report (net t) (rounds.within t b) s y d l h).own

  renewed : (t y : ℕ) → 1 ≤ t → t ≤ T → y < (net 0).nodes → y ≢ (net 0).origin →
      (net t).row y ≡ choice (net 0).nodes (λ s. (net 0).cost s y) (λ s. (net t).held s y) y
  renewed zero y a b c ne = absurd (omega arith)
  renewed (suc t) y a b c ne =
      let below : t ≤ T = omega arith in
      (rounds.effect t (omega arith)).renewed y (omega (arith, same_nodes t below)) (λ e. ne (e ∙ same_origin t below)) ∙
      ap₂ (λ (n : ℕ) (c : ℕ → ℕ → ℕ). choice n (λ s. c s y) (λ s. (net (suc t)).held s y) y) (same_nodes t below) (same_cost t below)

  -- the sender's row of round j or a later one, as the arc holds it at round t
  abbrev Since : ℕ → ℕ → ℕ → ℕ → Type 0
  Since j t s y = (u : ℕ) × (j ≤ u) × (u < t) × ((net t).held s y ≡ report ((net u).row s))

  -- once heard in round j, a report is of a row no older than round j's
  since : (j s y : ℕ) → marks j s y ≡ true → (t : ℕ) → j < t → t ≤ T → Since j t s y
  since j s y m zero h b = absurd (omega arith)
  since j s y m (suc t) h b = go (bool_cases (marks t s y)) (λ a. since j s y m t a (omega arith))
    where
      effect : RoundEffect (marks t) (net t) (net (suc t))
      effect = rounds.effect t (omega arith)

      go : (marks t s y ≡ true) ⊎ (marks t s y ≡ false) → (j < t → Since j t s y) → Since j (suc t) s y
      go (inl e) before = (t, omega arith, omega arith, effect.marked s y e)
      go (inr e) before = kept (eq_or_ne j t)
        where
          kept : (j ≡ t) ⊎ (j ≢ t) → Since j (suc t) s y
          kept (inl q) = never (marks t s y) (subst (λ (i : ℕ). marks i s y ≡ true) q m) e
          kept (inr q) = let r = before (omega arith) in (r.0, r.1, omega arith, effect.unmarked s y e ∙ r.3)

  -- with every arc heard at least once in any W successive rounds
  module _ (W : ℕ) (positive : 1 ≤ W)
      (fair : (s r i : ℕ) → 0 < (net 0).cost s r → i + W ≤ T → (j : ℕ) × (i ≤ j) × (j < i + W) × (marks j s r ≡ true)) where
    heard : (t s y : ℕ) → W ≤ t → t ≤ T → 0 < (net 0).cost s y →
        (u : ℕ) × (t ≤ u + W) × (u < t) × ((net t).held s y ≡ report ((net u).row s))
    heard t s y a b arc =
        let f = fair s y (t - W) arc (omega arith) in
        let r = since f.0 s y f.3 t (omega arith) b in
        (r.0, omega arith, r.2, r.3)

    abbrev run : Run
    run =
        record {
          n = (net 0).nodes;
          origin = (net 0).origin;
          cost = (net 0).cost;
          W = W;
          T = T;
          positive = positive;
          row = λ t. (net t).row;
          held = λ t. (net t).held;
          ends = within_ends (net 0) (rounds.within 0 (omega arith));
          fits = within_fits (net 0) (rounds.within 0 (omega arith));
          origin_row = origin_row;
          on_arc = on_arc;
          own_node = own_node;
          heard = heard;
          renewed = renewed;
        }

    -- after (n - 1) W rounds every label is the cost of a real route
    pub rounds_real : ((net 0).nodes - 1) * W ≤ T → AllReal (net T)
    rounds_real a y b =
        subst₂ (λ (c : ℕ → ℕ → ℕ) (o : ℕ). Real c o y ((net T).row y)) (sym (same_cost T (omega arith))) (sym (same_origin T (omega arith)))
        (all_real run a y (omega (arith, same_nodes T (omega arith))))

    -- from `settled_from` on every row is the settled row
    pub rounds_settled : settled_from (net 0).nodes W ≤ T → AllSettled (net T)
    rounds_settled a y b =
        subst₂ (λ (c : ℕ → ℕ → ℕ) (o : ℕ). Settled c o y ((net T).row y)) (sym (same_cost T (omega arith))) (sym (same_origin T (omega arith)))
        (all_settled run a y (omega (arith, same_nodes T (omega arith))))
