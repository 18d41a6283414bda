-- Laws of the route call: what an answered row says of the walk, the walk's steps, and each answer.
-- Assumes nothing.
use mathlib.Core.Path.{◌≡◌, refl, sym, ap, subst, ◌∙◌}
use mathlib.Core.Bool.{Bool, true, false, cond}
use mathlib.Core.Logic.{◌≢◌}
use mathlib.Core.List.{List, ◌∷◌}
use Prim.Native.Nat.{ℕ, suc, ◌-◌, ◌<◌, ◌≤◌}
use native.Mathlib.Omega.{arith}
use lib.ListN.{length, set, take, drop, length-drop, length-set}
use lib.Seq.{take_all, drop-length}
use Rattle.std.specs.Prelude.{Result, Ok, Err}
use Rattle.std.proofs.lemmas.List.{drop-set}
use borrow.Author.Tests.{lt-ltb}
use lib.Dec.{ltb}
use Rattle.ancestors.specs.Ancestors.{has, put}
use Rattle.network.specs.Faults.{max_nodes, node_fault}
use Rattle.network.specs.Network.{none, Net}
use Rattle.network.specs.Answered.{fault_number}
use Rattle.network.specs.Writing.{Writes}
use Rattle.network.proofs.Answered.{fault_some}
use Rattle.network.proofs.RouteLaws.{route_start, route_nine, route_six, route_free, route_refused, route_written}
use Rattle.filling.specs.Filling.{Wrote, copied}
use Rattle.filling.proofs.Copying.{wrote_all}
use Rattle.network.specs.Route.{start_number_of, route_number, route_of, route_row, Walked, broken, reached, walk_at, walk, walk_back_of, unrouted}
use Rattle.network.specs.declared.Fault.{Fault}
use Rattle.network.specs.declared.Route.{Route}
use Rattle.network.specs.declared.Fault.TheVariants.{Room, Broken}
use Rattle.network.proofs.Walking.{routed, none_unrouted, root_routed, via_routed, walk_start, walk_again, walk_spent}
use Rattle.memory.specs.Layout.{view}
use Rattle.memory.specs.Answers.{RowAnswer, row_hops, read_row, row_means}
use Rattle.memory.specs.declared.RowRead.{RowRead}
use Rattle.memory.specs.declared.RowRead.TheVariants as R
use Rattle.memory.proofs.Laws.{few, said_refused, said_none, said_origin, said_relay}

-- ---- a row that is answered

module _ (xs : List ℕ) (y : ℕ) (r : Result RowRead Fault) (said : row_means r ≡ read_row (view xs) y) where
  -- it is the row that the walk reads
  pub answered_row : route_row (view xs) y ≡ (row_means r).row
  unfolding route_row read_row
  answered_row = go (node_fault (view xs).nodes y) ∙ sym (ap (λ (a : RowAnswer). a.row) said)
    where
      x : Net
      x = view xs

      go : (f : Bool) → cond f none (x.row y) ≡ (cond {A = RowAnswer} f (record { number = 3; row = none; hops = 0 }) (record { number = 0; row = x.row y; hops = row_hops (x.row y) })).row
      go true = refl
      go false = refl

  -- with a route it is a node's
  routed_small : unrouted (row_means r).row ≡ false → y < max_nodes
  routed_small e = omega (arith, few xs, (routed (view xs) y (rw answered_row e)).0)

-- the number before the walk
pub start_refused : (x : Net) (y : ℕ) (f : Fault) → row_means (Err f) ≡ read_row x y → fault_number f ≡ start_number_of x y
unfolding start_number_of read_row row_means
start_refused x y f said =
    let bad = said_refused x y (Err f) said refl in
    let same : fault_number f ≡ (read_row x y).number = ap (λ (a : RowAnswer). a.number) said in
    rw bad (rw bad at same)

pub start_none : (x : Net) (y : ℕ) (r : RowRead) → row_means (Ok r) ≡ read_row x y → r ≡ R.NoRoute → 8 ≡ start_number_of x y
unfolding start_number_of
start_none x y r said e = let a = said_none x y (Ok r) said (ap Ok e) in rw (a.0, none_unrouted a.1)

pub start_routed : (x : Net) (y : ℕ) (r : RowRead) → row_means (Ok r) ≡ read_row x y → r ≢ R.NoRoute → 0 ≡ start_number_of x y
unfolding start_number_of
start_routed x y R.NoRoute said some = absurd (some refl)
start_routed x y (R.Origin l h) said some = let a = said_origin x y (Ok (R.Origin l h)) said refl in rw (a.0, root_routed a.1)
start_routed x y (R.Relay v h) said some = let a = said_relay x y (Ok (R.Relay v h)) said refl in rw (a.0, via_routed a.1)

module _ (xs : List ℕ) (y : ℕ) (r : RowRead) (said : row_means (Ok r) ≡ read_row (view xs) y) where
  pub origin_small : {l h : ℕ} → r ≡ R.Origin l h → y < max_nodes
  unfolding row_means unrouted
  origin_small e = routed_small xs y (Ok r) said (rw e)

  pub relay_small : {v : Route} {h : ℕ} → r ≡ R.Relay v h → y < max_nodes
  unfolding row_means unrouted
  relay_small e = routed_small xs y (Ok r) said (rw e)

-- ---- the walk, its route stored at the end of the bytes

-- a byte stored before the route
pub stored : (bytes : List ℕ) (left y : ℕ) → 0 < left → left ≤ length bytes → drop (left - 1) (set bytes (left - 1) y) ≡ y ∷ drop left bytes
stored bytes left y some h =
    subst (λ k. drop (left - 1) (set bytes (left - 1) y) ≡ y ∷ drop k bytes) (omega arith) (drop-set bytes (left - 1) y (omega arith))

-- no node is stored yet
pub start_walk : (x : Net) (y : ℕ) (bytes : List ℕ) → length bytes ≡ max_nodes → walk max_nodes x y 0 (drop max_nodes bytes) ≡ walk_back_of x y
start_walk x y bytes size = ap (walk max_nodes x y 0) (ap (λ k. drop k bytes) (sym size) ∙ drop-length bytes) ∙ sym (walk_start x y)

-- no node is left
pub spent_walk : (x : Net) (y met left : ℕ) (route : List ℕ) (w : Walked) → walk left x y met route ≡ w → left ≡ 0 → broken ≡ w
spent_walk x y met left route w inv e = sym (walk_spent x y met route) ∙ ap (λ k. walk k x y met route) (sym e) ∙ inv

-- a step of the walk w, with room for `left` nodes
module _ (xs : List ℕ) (y met left : ℕ) (bytes : List ℕ) (w : Walked) (inv : walk left (view xs) y met (drop left bytes) ≡ w) (some : 0 < left) where
  here : walk (suc (left - 1)) (view xs) y met (drop left bytes) ≡ w
  here = subst (λ k. walk k (view xs) y met (drop left bytes) ≡ w) (omega arith) inv

  pub step_again : has met y ≡ true → broken ≡ w
  step_again m = sym (walk_again (left - 1) (view xs) y met (drop left bytes) m) ∙ here

  module _ (new : has met y ≡ false) where
    step : (r : Result RowRead Fault) → row_means r ≡ read_row (view xs) y
        → walk_at (λ p. walk (left - 1) (view xs) p (put met y) (y ∷ drop left bytes)) y (drop left bytes) (row_means r).row ≡ w
    unfolding walk
    step r said = rw (new, answered_row xs y r said) at here

    pub step_refused : (f : Fault) → row_means (Err f) ≡ read_row (view xs) y → broken ≡ w
    unfolding row_means walk_at
    step_refused f said = step (Err f) said

    module _ (r : RowRead) (said : row_means (Ok r) ≡ read_row (view xs) y) where
      pub step_none : r ≡ R.NoRoute → broken ≡ w
      unfolding row_means walk_at
      step_none e = rw e at (step (Ok r) said)

      module _ (size : length bytes ≡ max_nodes) (fits : left ≤ max_nodes) where
        pub step_arrived : {l h : ℕ} → r ≡ R.Origin l h → reached (take (max_nodes - (left - 1)) (drop (left - 1) (set bytes (left - 1) y))) ≡ w
        unfolding row_means walk_at
        step_arrived e =
            let whole = take_all (max_nodes - (left - 1)) (drop (left - 1) (set bytes (left - 1) y)) (omega (arith, length-drop {A = ℕ}, length-set {A = ℕ})) in
            rw (whole, stored bytes left y some (omega arith)) (rw e at (step (Ok r) said))

        pub step_onward : {v : Route} {h m : ℕ} → r ≡ R.Relay v h → m ≡ cond (ltb y max_nodes) (put met y) met
            → walk (left - 1) (view xs) v.predecessor m (drop (left - 1) (set bytes (left - 1) y)) ≡ w
        unfolding row_means walk_at
        step_onward e j =
            let small = lt-ltb y max_nodes (relay_small xs y r said e) in
            rw (j, small, stored bytes left y some (omega arith)) (rw e at (step (Ok r) said))

-- ---- the answers

module _ (x : Net) (y : ℕ) (out : List ℕ) where
  -- refused, nothing is written
  refused_as : (f : Fault) → route_number x y (length out) ≡ fault_number f → Writes (route_of x y out) (Err f) out
  refused_as f e = rw (route_refused x y out (fault_number f) e (fault_some f)) (record { number = refl; used = refl; output = refl })

  pub answer_start : (f : Fault) → fault_number f ≡ start_number_of x y → Writes (route_of x y out) (Err f) out
  answer_start f e = refused_as f (route_start x y (length out) (λ z. fault_some f (e ∙ z)) ∙ sym e)

  -- after the walk
  module _ (first : 0 ≡ start_number_of x y) where
    pub answer_broken : broken ≡ walk_back_of x y → Writes (route_of x y out) (Err Broken) out
    answer_broken w = refused_as Broken (route_nine x y (length out) (sym first) (sym w))

    module _ (nodes : List ℕ) (w : reached nodes ≡ walk_back_of x y) where
      pub answer_room : length out < length nodes → Writes (route_of x y out) (Err Room) out
      answer_room h = refused_as Room (route_six x y (length out) (sym first) nodes (sym w) h)

      pub answer_route : length nodes ≤ length out → (exit : List ℕ) (r : ℕ) → Wrote (copied nodes out) out exit r → Writes (route_of x y out) (Ok r) exit
      answer_route h exit r g =
          let a = wrote_all nodes out h g in
          rw (route_written x y out nodes (route_free x y (length out) (sym first) nodes (sym w) h) (sym w))
          (record { number = refl; used = a.used; output = rw a.used at a.left })
