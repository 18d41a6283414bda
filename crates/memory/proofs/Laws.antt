-- What crates above may cite of a network in words without knowing the layout: its size, the origin's row, what a row or a cost that is read says, and
-- what a call leaves.
-- Assumes nothing.
use mathlib.Core.Path.{◌≡◌, refl, sym, ap, ◌∙◌}
use mathlib.Core.Bool.{Bool, true, false, cond}
use mathlib.Core.Logic.{◌≢◌}
use mathlib.Core.List.{List}
use Prim.Native.Nat.{ℕ, ◌+◌, ◌<◌, ◌≤◌, min}
use native.Mathlib.Omega.{arith}
use borrow.Author.Tests.{eq-eqb, ne_eqb, lt-ltb}
use Rattle.ancestors.specs.Ancestors.{own, hops}
use Rattle.ancestors.proofs.Cases.{never, eqb_same}
use Rattle.network.specs.Faults.{max_nodes, node_fault, pair_fault_of}
use Rattle.network.specs.Network.{Row, none, root, via, empty, told, Net, outcome}
use Rattle.network.proofs.FaultLaws.{node_free}
use Rattle.network.proofs.Effects.{outcome_number, refused_net, accepted_net}
use Rattle.memory.specs.Layout.{word, row_of, node_row, net_of, frame_in, look, view, list_word_of, row_labels, row_predecessors, row_lists}
use Rattle.memory.specs.Answers.{Leaves, Starts, RowAnswer, row_hops, read_row, row_means, arcs_means, CostAnswer, read_cost, cost_means, held_means}
use Rattle.std.specs.Prelude.{Some, None, Result, Ok, Err}
use Rattle.network.specs.Answered.{fault_number}
use Rattle.network.specs.declared.Fault.{Fault}
use Rattle.network.specs.declared.Route.{Route}
use Rattle.network.specs.declared.HeldReport.{HeldReport}
use Rattle.network.proofs.Answered.{fault_some}
use Rattle.memory.specs.declared.RowRead.{RowRead}
use Rattle.memory.specs.declared.RowRead.TheVariants as R

-- a network has at most 32 nodes
pub few : (xs : List ℕ) → (view xs).nodes ≤ max_nodes
unfolding view net_of frame_in
few xs = omega arith

-- the origin has the origin's row
pub read_origin : (xs : List ℕ) (y : ℕ) → y ≡ (view xs).origin → (view xs).row y ≡ root (own y)
unfolding view net_of frame_in node_row
read_origin xs y o = rw (← o, eqb_same y)

-- a relay's row by the word of its list: 0 is no route, and else the row has that list
pub relay_none : (xs : List ℕ) (y : ℕ) → y < (view xs).nodes → y ≢ (view xs).origin → list_word_of xs y ≡ 0 → (view xs).row y ≡ none
unfolding list_word_of view net_of frame_in node_row row_of word
relay_none xs y h o e =
    let small : y < max_nodes = omega (arith, few xs) in
    rw (ne_eqb y (look xs 1) o, lt-ltb y (min (look xs 0) max_nodes) h, eq-eqb (look xs (row_lists + y)) 0 (rw (lt-ltb y max_nodes small) at e))

pub relay_list : (xs : List ℕ) (y : ℕ) → y < (view xs).nodes → y ≢ (view xs).origin → list_word_of xs y ≢ 0
    → (d : ℕ) × (p : ℕ) × ((view xs).row y ≡ via d p (list_word_of xs y))
unfolding list_word_of view net_of frame_in node_row row_of word
relay_list xs y h o e =
    let small : y < max_nodes = omega (arith, few xs) in
    let some : look xs (row_lists + y) ≢ 0 = rw (lt-ltb y max_nodes small) at e in (
      look xs (row_labels + y),
      look xs (row_predecessors + y),
      rw (ne_eqb y (look xs 1) o, lt-ltb y (min (look xs 0) max_nodes) h, ne_eqb (look xs (row_lists + y)) 0 some, lt-ltb y max_nodes small),
    )

-- ---- an answer m: refused as 3 for a fault, and else accepted

accepted : {A : Type 0} (number : A → ℕ) (fault : Bool) (bad good m : A) → m ≡ cond fault bad good → number bad ≡ 3 → number m ≡ 0 → (fault ≡ false) × (m ≡ good)
accepted number true bad good m e b z = absurd (omega (arith, ap number e))
accepted number false bad good m e b z = (refl, e)

refused : {A : Type 0} (number : A → ℕ) (fault : Bool) (bad good m : A) → m ≡ cond fault bad good → number good ≡ 0 → number m ≢ 0 → fault ≡ true
refused number true bad good m e g z = refl
refused number false bad good m e g n = absurd (n (ap number e ∙ g))

-- ---- what the cases of an answer mean

pub refused_row_means : (f : Fault) → row_means (Err f) ≡ record { number = fault_number f; row = none; hops = 0 }
unfolding row_means
refused_row_means f = refl

pub no_route_means : row_means (Ok R.NoRoute) ≡ record { number = 0; row = none; hops = 0 }
unfolding row_means
no_route_means = refl

pub origin_means : (l h : ℕ) → row_means (Ok (R.Origin l h)) ≡ record { number = 0; row = root l; hops = h }
unfolding row_means
origin_means l h = refl

pub relay_means : (w : Route) (h : ℕ) → row_means (Ok (R.Relay w h)) ≡ record { number = 0; row = via w.label w.predecessor w.list; hops = h }
unfolding row_means
relay_means w h = refl

pub refused_cost_means : (f : Fault) → cost_means (Err f) ≡ record { number = fault_number f; cost = 0 }
unfolding cost_means
refused_cost_means f = refl

pub some_cost_means : (c : ℕ) → cost_means (Ok c) ≡ record { number = 0; cost = c }
unfolding cost_means
some_cost_means c = refl

pub refused_arcs_means : (f : Fault) → arcs_means (Err f) ≡ record { number = fault_number f; arcs = 0 }
unfolding arcs_means
refused_arcs_means f = refl

pub some_arcs_means : (w : ℕ) → arcs_means (Ok w) ≡ record { number = 0; arcs = w }
unfolding arcs_means
some_arcs_means w = refl

pub refused_report_means : (f : Fault) → held_means (Err f) ≡ record { number = fault_number f; held = empty }
unfolding held_means
refused_report_means f = refl

pub empty_means : held_means (Ok None) ≡ record { number = 0; held = empty }
unfolding held_means
empty_means = refl

pub report_means : (h : HeldReport) → held_means (Ok (Some h)) ≡ record { number = 0; held = told h.label h.list }
unfolding held_means
report_means h = refl

-- ---- what an answer says of y's row

module _ (x : Net) (y : ℕ) (r : Result RowRead Fault) (said : row_means r ≡ read_row x y) where
  -- y is no node
  pub said_refused : {f : Fault} → r ≡ Err f → node_fault x.nodes y ≡ true
  unfolding read_row row_means
  said_refused {f} e = refused (λ (a : RowAnswer). a.number) (node_fault x.nodes y) _ _ _ (sym (ap row_means e) ∙ said) refl (fault_some f)

  -- a node is not refused
  pub not_refused : {f : Fault} → y < x.nodes → r ≡ Err f → ⊥
  not_refused below e = never (node_fault x.nodes y) (said_refused e) (node_free x.nodes y below)

  -- y is a node and has the row w
  row_said : (w : Row) (k : ℕ) → row_means r ≡ record { number = 0; row = w; hops = k } → (node_fault x.nodes y ≡ false) × (x.row y ≡ w) × (k ≡ row_hops w)
  unfolding read_row
  row_said w k e =
      let a = accepted (λ (b : RowAnswer). b.number) (node_fault x.nodes y) _ _ _ (sym e ∙ said) refl refl in
      let row = sym (ap (λ (b : RowAnswer). b.row) a.1) in
      (a.0, row, ap (λ (b : RowAnswer). b.hops) a.1 ∙ ap row_hops row)

  -- it has no route, is the origin, or is a relay with a route; hops are those of the list
  pub said_none : r ≡ Ok R.NoRoute → (node_fault x.nodes y ≡ false) × (x.row y ≡ none)
  unfolding row_means
  said_none e = let a = row_said none 0 (ap row_means e) in (a.0, a.1)

  pub said_origin : {l k : ℕ} → r ≡ Ok (R.Origin l k) → (node_fault x.nodes y ≡ false) × (x.row y ≡ root l) × (k ≡ hops l)
  unfolding row_means row_hops
  said_origin {l} {k} e = row_said (root l) k (ap row_means e)

  pub said_relay : {w : Route} {k : ℕ} → r ≡ Ok (R.Relay w k) → (node_fault x.nodes y ≡ false) × (x.row y ≡ via w.label w.predecessor w.list) × (k ≡ hops w.list)
  unfolding row_means row_hops
  said_relay {w} {k} e = row_said (via w.label w.predecessor w.list) k (ap row_means e)

-- ---- what an answer says of the cost from s to t

module _ (x : Net) (s t : ℕ) (r : Result ℕ Fault) (said : cost_means r ≡ read_cost x s t) where
  -- a pair of nodes has this cost
  pub said_cost : {c : ℕ} → r ≡ Ok c → (pair_fault_of x.nodes s t ≡ false) × (c ≡ x.cost s t)
  unfolding read_cost cost_means
  said_cost {c} e =
      let a = accepted (λ (b : CostAnswer). b.number) (pair_fault_of x.nodes s t) _ _ _ (sym (ap cost_means e) ∙ said) refl refl in
      (a.0, ap (λ (b : CostAnswer). b.cost) a.1)

-- ---- what a call leaves, from its number

-- refused as k: the words are the same
pub leaves_refused : (k number : ℕ) (next : Net) (xs : List ℕ) → k ≡ number → k ≢ 0 → Leaves (outcome number next (view xs)) k xs xs
leaves_refused k number next xs e n =
    record {
      number = e ∙ sym (outcome_number number next (view xs));
      net = sym (refused_net number next (view xs) (λ z. n (e ∙ z)));
      same = λ z. refl;
    }

-- accepted: the words give the next network
pub leaves_accepted : (number : ℕ) (next : Net) (xs ys : List ℕ) → 0 ≡ number → view ys ≡ next → Leaves (outcome number next (view xs)) 0 xs ys
leaves_accepted number next xs ys e v =
    record {
      number = e ∙ sym (outcome_number number next (view xs));
      net = v ∙ sym (accepted_net number next (view xs) (sym e));
      same = λ z. absurd (z refl);
    }

pub starts_refused : (k number : ℕ) (next other : Net) (xs : List ℕ) → k ≡ number → k ≢ 0 → view xs ≡ other → Starts (outcome number next other) k xs
starts_refused k number next other xs e n v =
    record { number = e ∙ sym (outcome_number number next other); net = v ∙ sym (refused_net number next other (λ z. n (e ∙ z))) }

pub starts_accepted : (number : ℕ) (next other : Net) (xs : List ℕ) → 0 ≡ number → view xs ≡ next → Starts (outcome number next other) 0 xs
starts_accepted number next other xs e v =
    record { number = e ∙ sym (outcome_number number next other); net = v ∙ sym (accepted_net number next other (sym e)) }
