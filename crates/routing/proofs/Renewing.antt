-- Choosing from the words of a receiver, and renewing row by row, come to the second half of a round.
-- Assumes nothing.
use mathlib.Core.Path.{◌≡◌, sym, ap, ◌∙◌}
use mathlib.Core.Bool.{cond, not, ◌&&◌}
use mathlib.Core.Logic.{◌⊎◌, inl, inr, ◌≢◌}
use mathlib.Core.List.{List}
use Prim.Native.Nat.{ℕ, ◌+◌, ◌-◌, ◌*◌, ◌<◌, ◌≤◌}
use native.Mathlib.Omega.{arith}
use lib.Dec.{eqb, ltb}
use lib.ListN.{length, get_or, set, take, drop, length-take, length-drop}
use lib.Seq.{get_or-take, get_or-drop}
use borrow.Author.Tests.{lt-ltb, le-ltb, lt-leb, ne_eqb}
use Rattle.ancestors.specs.Ancestors.{has, cut}
use Rattle.ancestors.proofs.Cases.{eq_or_ne, eqb_same, ltb_other}
use Rattle.ancestors.proofs.Sets.{has_cut_same, has_cut_other}
use Rattle.ancestors.proofs.Laws.{put_some}
use Rattle.network.specs.Faults.{pair_fault_of}
use Rattle.network.specs.Network.{Row, empty, Net, set_at, with_row}
use Rattle.network.proofs.FaultLaws.{pair_same, pair_free}
use Rattle.network.specs.Round.{choice, renew_to, renew}
use Rattle.network.specs.Words.{report_of, cost_of, reports, costs_of, ChoiceAnswer, chosen, words_fault, choose_of, route_means, choice_means}
use Rattle.std.specs.Prelude.{Option, Some, None, Result, Ok, Err, unwrap_or}
use Rattle.std.specs.Result.{result_unwrap_or}
use Rattle.network.specs.declared.Fault.{Fault}
use Rattle.network.specs.declared.Route.{Route}
use Rattle.network.proofs.Choosing.{choice_ext, came}
use Rattle.memory.specs.Layout.{word_count, row_of, look, view, row_labels, row_predecessors, row_lists, arc_bits, arc_costs, held_labels, held_lists}
use Rattle.routing.specs.Inner.{new_row}
use Rattle.network.proofs.Effects.{same_rows}
use Rattle.memory.proofs.Laws.{few}
use Rattle.memory.proofs.Store.{Has, present_in, present_out, cost_by, held_by, store_row}

-- ---- the words of one receiver

-- the n words from c on
abbrev pub part : List ℕ → ℕ → ℕ → List ℕ
part xs c n = take (c + n - c) (drop c xs)

module _ (xs : List ℕ) (c n : ℕ) (h : c + n ≤ length xs) where
  part_length : length (part xs c n) ≡ n
  part_length = simp (length-take, length-drop) (omega arith)

  pub part_at : (s : ℕ) → s < n → get_or (part xs c n) s 0 ≡ look xs (c + s)
  part_at s b = get_or-take (c + n - c) (drop c xs) s 0 (omega arith) ∙ get_or-drop c xs s 0

-- the word of y's arcs without its own bit says which of them are present
module _ (xs : List ℕ) (n y : ℕ) (is : n ≡ (view xs).nodes) (below : y < (view xs).nodes) (arcs : ℕ)
    (bits : arcs ≡ cond (ltb y 32) (cut (look xs (arc_bits + y)) y) (look xs (arc_bits + y))) where
  pub arc_at_lem : (s : ℕ) → s < n → has arcs s ≡ Has xs s y
  arc_at_lem s h = ap (λ w. has w s) (bits ∙ rw (lt-ltb y 32 small)) ∙ go (eq_or_ne y s)
    where
      small : y < 32
      small = omega (arith, few xs)

      w : ℕ
      w = look xs (arc_bits + y)

      go : (y ≡ s) ⊎ (y ≢ s) → has (cut w y) s ≡ Has xs s y
      go (inl e) =
          ap (has (cut w y)) (sym e) ∙ has_cut_same w y
          ∙ sym (present_out (view xs).nodes (look xs) s y (ap (λ k. pair_fault_of (view xs).nodes k y) (sym e) ∙ pair_same (view xs).nodes y))
      go (inr e) =
          has_cut_other w y s e
          ∙ sym (present_in (view xs).nodes (look xs) s y (pair_free (view xs).nodes s y (omega arith) below (λ q. e (sym q))))

-- y's choice from its words is its choice in the network
module _ (xs : List ℕ) (size : length xs ≡ word_count) (n y : ℕ) (is : n ≡ (view xs).nodes) (below : y < (view xs).nodes) (arcs : ℕ)
    (bits : arcs ≡ cond (ltb y 32) (cut (look xs (arc_bits + y)) y) (look xs (arc_bits + y))) where
  room : (b : ℕ) → b ≤ held_lists → b + y * 32 + n ≤ length xs
  room b h = omega (arith, few xs)

  abbrev costs : List ℕ
  costs = part xs (arc_costs + y * 32) n

  abbrev labels : List ℕ
  labels = part xs (held_labels + y * 32) n

  abbrev lists : List ℕ
  lists = part xs (held_lists + y * 32) n

  -- the word of sender s in a part
  word_at : (b : ℕ) → b ≤ held_lists → (s : ℕ) → s < n → get_or (part xs (b + y * 32) n) s 0 ≡ look xs (b + (y * 32 + s))
  word_at b k s h = part_at xs (b + y * 32) n (room b k) s h ∙ ap (look xs) (omega arith)

  cost_at : (s : ℕ) → s < n → costs_of arcs costs s ≡ (view xs).cost s y
  cost_at s h = (λ j. cond (arc_at_lem xs n y is below arcs bits s h j) (cost_of (word_at arc_costs (omega arith) s h j)) 0) ∙ cost_by xs s y

  held_at : (s : ℕ) → s < n → reports arcs labels lists s ≡ (view xs).held s y
  held_at s h =
      (λ j. cond (arc_at_lem xs n y is below arcs bits s h j) (report_of (word_at held_labels (omega arith) s h j) (word_at held_lists (omega arith) s h j)) empty) ∙ held_by xs s y

  choose_words : choose_of arcs costs labels lists y ≡ chosen (new_row (view xs) y)
  unfolding choose_of words_fault
  choose_words =
      let a = part_length xs (arc_costs + y * 32) n (room arc_costs (omega arith)) in
      let b = part_length xs (held_labels + y * 32) n (room held_labels (omega arith)) in
      let d = part_length xs (held_lists + y * 32) n (room held_lists (omega arith)) in
      rw (a, b, d, le-ltb 32 n (omega (arith, few xs)), eqb_same n, lt-leb 32 y (omega (arith, few xs)))
      (ap chosen (choice_ext n (costs_of arcs costs) (λ s. (view xs).cost s y) (reports arcs labels lists) (λ s. (view xs).held s y) y cost_at held_at)
      ∙ ap (λ k. chosen (choice k (λ s. (view xs).cost s y) (λ s. (view xs).held s y) y)) is)

-- ---- the words of a choice are those of the chosen row

-- the words of a network are never refused
choice_row : (r : Result (Option Route) Fault) (w : Row) → choice_means r ≡ chosen w → route_means (result_unwrap_or r None) ≡ w
unfolding route_means choice_means
choice_row (Ok w) row e = ap (λ (a : ChoiceAnswer). a.row) e
choice_row (Err f) row e = ap (λ (a : ChoiceAnswer). a.row) e

pub chosen_row : (xs : List ℕ) (n y arcs : ℕ) (r : Result (Option Route) Fault) (o : Option Route) → length xs ≡ word_count → n ≡ (view xs).nodes
    → y < (view xs).nodes → arcs ≡ cond (ltb y 32) (cut (look xs (arc_bits + y)) y) (look xs (arc_bits + y))
    → choice_means r ≡ choose_of arcs (part xs (arc_costs + y * 32) n) (part xs (held_labels + y * 32) n) (part xs (held_lists + y * 32) n) y → o ≡ result_unwrap_or r None
    → route_means o ≡ new_row (view xs) y
chosen_row xs n y arcs r o size is below bits e q = ap route_means q ∙ choice_row r _ (e ∙ choose_words xs size n y is below arcs bits)

-- no route is words of 0
route_words : (x : Net) (y : ℕ) (r : Option Route) (w : Route) → w ≡ unwrap_or r (record { label = 0; predecessor = 0; list = 0 }) → route_means r ≡ new_row x y
    → row_of w.label w.predecessor w.list ≡ new_row x y
unfolding row_of route_means
route_words x y None w is e = rw is e
route_words x y (Some v) w is e =
    let k = came x.nodes (λ s. x.cost s y) (λ s. x.held s y) y v.label v.predecessor v.list (sym e) in
    rw (is, ne_eqb v.list 0 (λ z. put_some k.offered.list y (sym k.list ∙ z))) e

pub stored_row : (xs : List ℕ) (y : ℕ) (r : Option Route) (w : Route) → length xs ≡ word_count → y < (view xs).nodes → y ≢ (view xs).origin
    → w ≡ unwrap_or r (record { label = 0; predecessor = 0; list = 0 }) → route_means r ≡ new_row (view xs) y
    → view (set (set (set xs (row_labels + y) w.label) (row_predecessors + y) w.predecessor) (row_lists + y) w.list)
    ≡ with_row (view xs) y (new_row (view xs) y)
stored_row xs y r w size below relay is e =
    store_row xs size y w.label w.predecessor w.list below relay
    ∙ ap (with_row (view xs) y) (route_words (view xs) y r w is e)

-- ---- row by row

pub renewed_none : (x : Net) → x ≡ renew_to 0 x
unfolding renew_to
renewed_none x = same_rows x (λ y. rw (le-ltb y 0 (omega arith)))

renewed_step : (x : Net) (k : ℕ) → k ≢ x.origin
    → with_row (renew_to k x) k (new_row (renew_to k x) k) ≡ renew_to (k + 1) x
unfolding renew_to with_row set_at
renewed_step x k o = same_rows x (λ y. go y (eq_or_ne y k))
  where
    go : (y : ℕ) → (y ≡ k) ⊎ (y ≢ k)
        → cond (eqb y k) (new_row x k) (cond (ltb y k && not (eqb y x.origin)) (new_row x y) (x.row y)) ≡ cond
        (ltb y (k + 1) && not (eqb y x.origin)) (new_row x y) (x.row y)
    go y (inl e) = rw (e, eqb_same k, lt-ltb k (k + 1) (omega arith), ne_eqb k x.origin o)
    go y (inr n) = rw (ne_eqb y k n, ltb_other y k n)

pub renewed_origin : (x : Net) (k : ℕ) → k ≡ x.origin → renew_to k x ≡ renew_to (k + 1) x
unfolding renew_to
renewed_origin x k o = same_rows x (λ y. go y (eq_or_ne y k))
  where
    go : (y : ℕ) → (y ≡ k) ⊎ (y ≢ k)
        → cond (ltb y k && not (eqb y x.origin)) (new_row x y) (x.row y) ≡ cond (ltb y (k + 1) && not (eqb y x.origin)) (new_row x y) (x.row y)
    go y (inl e) = rw (← o, e, eqb_same k, lt-ltb k (k + 1) (omega arith), le-ltb k k (omega arith))
    go y (inr n) = rw (ltb_other y k n)

-- ---- the loop over receivers: ys has the rows of xs renewed below k
module _ (xs ys : List ℕ) (k : ℕ) (e : view ys ≡ renew_to k (view xs)) where
  pub renewing_nodes : (view ys).nodes ≡ (view xs).nodes
  unfolding renew_to
  renewing_nodes = ap (λ (x : Net). x.nodes) e

  pub renewing_origin : (view ys).origin ≡ (view xs).origin
  unfolding renew_to
  renewing_origin = ap (λ (x : Net). x.origin) e

  pub renewing_next : (zs : List ℕ) → k ≢ (view xs).origin
      → view zs ≡ with_row (view ys) k (new_row (view ys) k) → view zs ≡ renew_to (k + 1) (view xs)
  unfolding renew_to
  renewing_next zs o h =
      h ∙ ap (λ (x : Net). with_row x k (new_row x k)) e ∙ renewed_step (view xs) k o

pub renewing_done : (xs ys : List ℕ) (k : ℕ) → k ≡ (view xs).nodes → view ys ≡ renew_to k (view xs) → view ys ≡ renew (view xs)
unfolding renew
renewing_done xs ys k e h = h ∙ ap (λ m. renew_to m (view xs)) e
