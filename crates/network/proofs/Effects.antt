-- What each call does to a network or to an output, one law each: files above cite these laws and not the definitions.
-- Assumes nothing.
use mathlib.Core.Path.{◌≡◌, refl, ap, ◌∙◌}
use mathlib.Core.Bool.{true, false, cond, ◌&&◌, ◌||◌, or-true, and-false}
use mathlib.Core.Logic.{◌⊎◌, inl, inr, ◌≢◌}
use mathlib.Core.List.{List, ◌++◌}
use Prim.Native.Nat.{ℕ, ◌<◌, ◌≤◌}
use lib.Dec.{eqb, ltb}
use lib.ListN.{length, drop}
use borrow.Author.Tests.{lt-ltb, le-ltb, eq-eqb, ne_eqb}
use Rattle.ancestors.specs.Ancestors.{own}
use Rattle.ancestors.proofs.Cases.{eq_or_ne, eqb_same}
use Rattle.network.specs.Faults.{max_grade}
use Rattle.network.specs.Network.{Frame, Row, none, root, via, Report, empty, told, Net, set_at, set_pair, with_rows, with_reports, with_cost, with_row, with_held, Outcome, outcome, fresh_net, fresh_number, fresh_of}
use Rattle.network.specs.Writing.{writing}
use Rattle.network.specs.Placing.{place_row_number, place_row_of, place_report_number, place_report_of}
use Rattle.network.specs.Round.{Marks, report, hear, choice, renew_to, renew, round, marked, round_number, round_of, every_arc, full_round_of}
use Rattle.network.specs.Change.{changed, change_number, change_of, grade_cost_of, grade_number, grade_of}
use Rattle.network.proofs.FaultLaws.{cost_free, grade_free}
use Rattle.network.proofs.Grades.{grade_small}

-- ---- what stays

-- the frame of a network
abbrev pub frame : Net → Frame
frame x = record { nodes = x.nodes; origin = x.origin }

-- z has the frame of x
abbrev pub Stays : Net → Net → Type 0
Stays x z = frame z ≡ frame x

pub nodes_stay : {f g : Frame} → f ≡ g → f.nodes ≡ g.nodes
nodes_stay e = ap (λ (f : Frame). f.nodes) e

pub origin_stay : {f g : Frame} → f ≡ g → f.origin ≡ g.origin
origin_stay e = ap (λ (f : Frame). f.origin) e

-- two networks with the same parts are one
pub same_net : (x z : Net) → frame x ≡ frame z → ((s r : ℕ) → x.cost s r ≡ z.cost s r)
    → ((y : ℕ) → x.row y ≡ z.row y) → ((s r : ℕ) → x.held s r ≡ z.held s r) → x ≡ z
same_net x z f c p q = λ i. record { nodes = (f i).nodes; origin = (f i).origin; cost = λ s r. c s r i; row = λ y. p y i; held = λ s r. q s r i }

-- the same rows or held reports give the same network
pub same_rows : (x : Net) {f g : ℕ → Row} → ((y : ℕ) → f y ≡ g y) → with_rows x f ≡ with_rows x g
same_rows x e = λ i. with_rows x (λ y. e y i)

pub same_reports : (x : Net) {f g : ℕ → ℕ → Report} → ((s r : ℕ) → f s r ≡ g s r) → with_reports x f ≡ with_reports x g
same_reports x e = λ i. with_reports x (λ s r. e s r i)

-- ---- outcomes

pub outcome_number : (k : ℕ) (next x : Net) → (outcome k next x).number ≡ k
unfolding outcome
outcome_number k next x = refl

-- a refused call leaves the network
pub refused_net : (k : ℕ) (next x : Net) → k ≢ 0 → (outcome k next x).net ≡ x
unfolding outcome
refused_net k next x h = rw (ne_eqb k 0 h)

-- and what it would have given plays no part
pub refused_same : (k : ℕ) (next other x : Net) → k ≢ 0 → outcome k next x ≡ outcome k other x
unfolding outcome
refused_same k next other x h = rw (ne_eqb k 0 h)

-- an accepted call gives the next one
pub accepted_net : (k : ℕ) (next x : Net) → k ≡ 0 → (outcome k next x).net ≡ next
unfolding outcome
accepted_net k next x e = rw (eq-eqb k 0 e)

-- a call that changes nothing leaves the network, whatever its number
pub outcome_same : (k : ℕ) (x : Net) → (outcome k x x).net ≡ x
outcome_same k x = go (eq_or_ne k 0)
  where
    go : (k ≡ 0) ⊎ (k ≢ 0) → (outcome k x x).net ≡ x
    go (inl e) = accepted_net k x x e
    go (inr n) = refused_net k x x n

-- number and network of what is an outcome
module _ {o : Outcome} (k : ℕ) (next x : Net) (is : o ≡ outcome k next x) where
  pub number_of : o.number ≡ k
  number_of = ap (λ (p : Outcome). p.number) is ∙ outcome_number k next x

  pub net_accepted : k ≡ 0 → o.net ≡ next
  net_accepted e = ap (λ (p : Outcome). p.net) is ∙ accepted_net k next x e

  pub net_refused : k ≢ 0 → o.net ≡ x
  net_refused h = ap (λ (p : Outcome). p.net) is ∙ refused_net k next x h

-- every call answers an outcome
pub fresh_outcome : (n origin : ℕ) → fresh_of n origin ≡ outcome (fresh_number n origin) (fresh_net n origin) (fresh_net 1 0)
unfolding fresh_of
fresh_outcome n origin = refl

pub change_outcome : (x : Net) (s r c : ℕ) → change_of x s r c ≡ outcome (change_number x s r c) (changed x s r c) x
unfolding change_of
change_outcome x s r c = refl

pub grade_outcome : (x : Net) (s r g : ℕ) → grade_of x s r g ≡ outcome (grade_number x s r g) (changed x s r (grade_cost_of g)) x
unfolding grade_of
grade_outcome x s r g = refl

pub round_outcome : (x : Net) (ms : List ℕ) → round_of x ms ≡ outcome (round_number x ms) (round (marked ms) x) x
unfolding round_of
round_outcome x ms = refl

pub full_round_outcome : (x : Net) → full_round_of x ≡ outcome 0 (round (every_arc x) x) x
unfolding full_round_of
full_round_outcome x = refl

pub place_row_outcome : (x : Net) (y d p l : ℕ) → place_row_of x y d p l ≡ outcome (place_row_number x y d p l) (with_row x y (via d p l)) x
unfolding place_row_of
place_row_outcome x y d p l = refl

pub place_report_outcome : (x : Net) (s r d l : ℕ) →
    place_report_of x s r d l ≡ outcome (place_report_number x s r d l) (with_held x s r (told d l)) x
unfolding place_report_of
place_report_outcome x s r d l = refl

-- ---- a value set at a node or a pair

-- the pair a, b is the pair s, r
abbrev pub SamePair : ℕ → ℕ → ℕ → ℕ → Type 0
SamePair a b s r = (a ≡ s) × (b ≡ r)

pub same_pair : (a b s r : ℕ) → SamePair a b s r ⊎ (SamePair a b s r → ⊥)
same_pair a b s r = go (eq_or_ne a s) (eq_or_ne b r)
  where
    go : (a ≡ s) ⊎ (a ≢ s) → (b ≡ r) ⊎ (b ≢ r) → SamePair a b s r ⊎ (SamePair a b s r → ⊥)
    go (inl p) (inl q) = inl (p, q)
    go (inl p) (inr q) = inr (λ k. q k.1)
    go (inr p) q = inr (λ k. p k.0)

module _ {A : Type 0} where
  set_here : (f : ℕ → A) (y : ℕ) (v : A) → set_at f y v y ≡ v
  unfolding set_at
  set_here f y v = rw (eqb_same y)

  set_else : (f : ℕ → A) (y : ℕ) (v : A) (a : ℕ) → a ≢ y → set_at f y v a ≡ f a
  unfolding set_at
  set_else f y v a h = rw (ne_eqb a y h)

  pair_here : (f : ℕ → ℕ → A) (s r : ℕ) (v : A) → set_pair f s r v s r ≡ v
  unfolding set_pair
  pair_here f s r v = rw (eqb_same s, eqb_same r)

  pair_else : (f : ℕ → ℕ → A) (s r : ℕ) (v : A) (a b : ℕ) → (SamePair a b s r → ⊥) → set_pair f s r v a b ≡ f a b
  unfolding set_pair
  pair_else f s r v a b h = go (eq_or_ne a s) (eq_or_ne b r)
    where
      go : (a ≡ s) ⊎ (a ≢ s) → (b ≡ r) ⊎ (b ≢ r) → cond (eqb a s && eqb b r) v (f a b) ≡ f a b
      go (inl p) (inl q) = absurd (h (p, q))
      go (inl p) (inr q) = rw (ne_eqb b r q, and-false (eqb a s))
      go (inr p) q = rw (ne_eqb a s p)

-- ---- a round

-- z is x after a round with the marks m
pub record RoundEffect (m : Marks) (x z : Net) : Type 0 where
  pub stays : Stays x z
  pub cost : z.cost ≡ x.cost
  -- a marked arc holds what the sender's row reported before the round
  pub marked : (s r : ℕ) → m s r ≡ true → z.held s r ≡ report (x.row s)
  pub unmarked : (s r : ℕ) → m s r ≡ false → z.held s r ≡ x.held s r
  pub origin_row : z.row x.origin ≡ x.row x.origin
  -- a relay's row is chosen from what it holds after hearing
  pub renewed : (y : ℕ) → y < x.nodes → y ≢ x.origin → z.row y ≡ choice x.nodes (λ s. x.cost s y) (λ s. z.held s y) y
  pub beyond : (y : ℕ) → x.nodes ≤ y → z.row y ≡ x.row y

pub round_effect : (m : Marks) (x : Net) → RoundEffect m x (round m x)
unfolding round renew renew_to hear
round_effect m x =
    record {
      stays = refl;
      cost = refl;
      marked = λ s r e. rw e;
      unmarked = λ s r e. rw e;
      origin_row = rw (eqb_same x.origin, and-false (ltb x.origin x.nodes));
      renewed = λ y b h. rw (lt-ltb y x.nodes b, ne_eqb y x.origin h);
      beyond = λ y b. rw (le-ltb y x.nodes b);
    }

-- ---- a change

-- z is x after the cost of the pair s, r is set to c
pub record ChangeEffect (x : Net) (s r c : ℕ) (z : Net) : Type 0 where
  pub stays : Stays x z
  pub row : z.row ≡ x.row
  pub cost_here : z.cost s r ≡ c
  pub cost_else : (a b : ℕ) → (SamePair a b s r → ⊥) → z.cost a b ≡ x.cost a b
  -- an arc that was there and stays keeps its report
  pub held_kept : x.cost s r ≢ 0 → c ≢ 0 → z.held s r ≡ x.held s r
  pub held_new : x.cost s r ≡ 0 → z.held s r ≡ empty
  pub held_removed : c ≡ 0 → z.held s r ≡ empty
  pub held_else : (a b : ℕ) → (SamePair a b s r → ⊥) → z.held a b ≡ x.held a b

pub change_effect : (x : Net) (s r c : ℕ) → ChangeEffect x s r c (changed x s r c)
unfolding changed with_held with_cost
change_effect x s r c =
    record {
      stays = refl;
      row = refl;
      cost_here = pair_here x.cost s r c;
      cost_else = λ a b h. pair_else x.cost s r c a b h;
      held_kept = λ h k. pair_here x.held s r held ∙ rw (ne_eqb c 0 k, ne_eqb (x.cost s r) 0 h);
      held_new = λ e. pair_here x.held s r held ∙ rw (eq-eqb (x.cost s r) 0 e, or-true (eqb c 0));
      held_removed = λ e. pair_here x.held s r held ∙ rw (eq-eqb c 0 e);
      held_else = λ a b h. pair_else x.held s r held a b h;
    }
  where
    held : Report
    held = cond (eqb c 0 || eqb (x.cost s r) 0) empty (x.held s r)

-- a grade is the change to its cost
pub grade_effect : (x : Net) (s r g : ℕ) → g ≤ max_grade → grade_of x s r g ≡ change_of x s r (grade_cost_of g)
unfolding grade_of grade_number change_of change_number
grade_effect x s r g h = rw (grade_free g h, cost_free (grade_cost_of g) (grade_small g))

-- ---- the fresh network

-- the frame of a fresh network
abbrev pub fresh_frame : ℕ → ℕ → Frame
fresh_frame n origin = record { nodes = n; origin = origin }

-- z has no arcs, and no routes but the origin's
pub record FreshEffect (n origin : ℕ) (z : Net) : Type 0 where
  pub framed : frame z ≡ fresh_frame n origin
  pub cost : (s r : ℕ) → z.cost s r ≡ 0
  pub held : (s r : ℕ) → z.held s r ≡ empty
  pub origin_row : z.row origin ≡ root (own origin)
  pub relay_row : (y : ℕ) → y ≢ origin → z.row y ≡ none

pub fresh_effect : (n origin : ℕ) → FreshEffect n origin (fresh_net n origin)
unfolding fresh_net
fresh_effect n origin =
    record {
      framed = refl;
      cost = λ s r. refl;
      held = λ s r. refl;
      origin_row = rw (eqb_same origin);
      relay_row = λ y h. rw (ne_eqb y origin h);
    }

-- ---- a row or a report placed

-- z is x with the row w at y
pub record PlaceRowEffect (x : Net) (y : ℕ) (w : Row) (z : Net) : Type 0 where
  pub stays : Stays x z
  pub cost : z.cost ≡ x.cost
  pub held : z.held ≡ x.held
  pub row_here : z.row y ≡ w
  pub row_else : (a : ℕ) → a ≢ y → z.row a ≡ x.row a

pub place_row_effect : (x : Net) (y : ℕ) (w : Row) → PlaceRowEffect x y w (with_row x y w)
unfolding with_row
place_row_effect x y w =
    record {
      stays = refl;
      cost = refl;
      held = refl;
      row_here = set_here x.row y w;
      row_else = λ a h. set_else x.row y w a h;
    }

-- z is x with the report h held at the pair s, r
pub record PlaceReportEffect (x : Net) (s r : ℕ) (h : Report) (z : Net) : Type 0 where
  pub stays : Stays x z
  pub cost : z.cost ≡ x.cost
  pub row : z.row ≡ x.row
  pub held_here : z.held s r ≡ h
  pub held_else : (a b : ℕ) → (SamePair a b s r → ⊥) → z.held a b ≡ x.held a b

pub place_report_effect : (x : Net) (s r : ℕ) (h : Report) → PlaceReportEffect x s r h (with_held x s r h)
unfolding with_held
place_report_effect x s r h =
    record {
      stays = refl;
      cost = refl;
      row = refl;
      held_here = pair_here x.held s r h;
      held_else = λ a b n. pair_else x.held s r h a b n;
    }

-- ---- bytes written

pub writing_refused : (k : ℕ) (bytes out : List ℕ) → k ≢ 0 → writing k bytes out ≡ record { number = k; used = 0; output = out }
unfolding writing
writing_refused k bytes out h = rw (ne_eqb k 0 h)

pub writing_accepted : (bytes out : List ℕ) →
    writing 0 bytes out ≡ record { number = 0; used = length bytes; output = bytes ++ drop (length bytes) out }
unfolding writing
writing_accepted bytes out = refl
