-- Hearing arc by arc comes to the first half of a round.
-- Assumes nothing.
use mathlib.Core.Path.{◌≡◌, refl, sym, ap, ap₂, ◌∙◌}
use mathlib.Core.Bool.{Bool, true, false, cond, ◌&&◌, ◌||◌, and-true, and-false, or-false}
use mathlib.Core.Logic.{◌⊎◌, inl, inr, ◌≢◌}
use mathlib.Core.List.{List}
use Rattle.std.specs.Prelude.{Option, Some, None}
use Prim.Native.Nat.{ℕ, ◌+◌, ◌*◌, ◌<◌, ◌≤◌, min}
use native.Mathlib.Omega.{arith}
use lib.Dec.{eqb, ltb}
use lib.ListN.{length, get_or, set, length-set}
use lib.Seq.{get_or-set_same, get_or-set_other, set-get_or}
use borrow.Author.Tests.{lt-ltb, le-ltb, eq-eqb, ne_eqb}
use Rattle.ancestors.specs.Ancestors.{has, own}
use Rattle.ancestors.proofs.Cases.{bool_cases, le_or_lt, eq_or_ne, eqb_same, ltb_other}
use Rattle.ancestors.proofs.Laws.{put_some}
use Rattle.network.specs.Network.{Frame, none, root, via, Report, empty, told, Net, with_rows, with_reports}
use Rattle.network.specs.Faults.{max_nodes, pair_fault_of}
use Rattle.network.specs.Round.{Marks, report, hear, marked, every_arc}
use Rattle.network.specs.Arcs.{arcs_to}
use Rattle.network.specs.Words.{report_of, cost_of}
use Rattle.memory.specs.Layout.{word_count, frame_in, word, row_of, net_of, node_row, look, view, arc_bits, arc_costs, held_labels, held_lists, row_labels, row_lists, row_predecessors}
use Rattle.routing.specs.Inner.{by_words, Primed, hear_arcs, given, one_mark, row_marks}
use Rattle.network.proofs.Arcs.{arcs_exact}
use Rattle.network.proofs.Effects.{same_net, same_reports}
use Rattle.network.proofs.FaultLaws.{pair_says}
use Rattle.memory.proofs.Laws.{few, read_origin}
use Rattle.memory.proofs.Store.{Has, arc_is, present_in, present_out, present_pair, word_in, read_cost_lem, read_held, cost_none, held_none, store_origin}

-- ---- laws of hearing

-- only marks on arcs count
pub hear_arcs_ext : (m m' : Marks) (x : Net) → ((s r : ℕ) → every_arc x s r ≡ true → m s r ≡ m' s r) → hear_arcs m x ≡ hear_arcs m' x
unfolding hear_arcs hear
hear_arcs_ext m m' x e = same_reports x (λ s r. go s r (every_arc x s r) refl)
  where
    go : (s r : ℕ) (t : Bool) → every_arc x s r ≡ t → cond (m s r && t) (report (x.row s)) (x.held s r) ≡ cond (m' s r && t) (report (x.row s)) (x.held s r)
    go s r true q = rw (e s r q)
    go s r false q = rw (and-false (m s r), and-false (m' s r))

pub hear_no_arcs : (m : Marks) (x : Net) → ((s r : ℕ) → m s r ≡ false) → x ≡ hear_arcs m x
unfolding hear_arcs hear
hear_no_arcs m x e = same_reports x (λ s r. rw (e s r))

-- hearing further marks
pub hear_more : (m m' m'' : Marks) (x y z : Net) → y ≡ hear_arcs m x → z ≡ hear_arcs m' y → ((s r : ℕ) → (m' s r || m s r) ≡ m'' s r) → z ≡ hear_arcs m'' x
unfolding hear_arcs hear every_arc
hear_more m m' m'' x y z e h same =
    h ∙ ap (hear_arcs m') e ∙ same_reports x (λ s r. go (m' s r) (m s r) (m'' s r) (ltb 0 (x.cost s r)) (report (x.row s)) (x.held s r) (same s r))
  where
    go : (u t v a : Bool) (h g : Report) → (u || t) ≡ v → cond (u && a) h (cond (t && a) h g) ≡ cond (v && a) h g
    go true t v true h g q = rw (← q)
    go true t v false h g q = rw (and-false t, and-false v)
    go false t v a h g q = rw q

-- hearing changes no arc
pub arcs_kept : (m : Marks) (x y : Net) → y ≡ hear_arcs m x → (s r : ℕ) → every_arc y s r ≡ every_arc x s r
unfolding hear_arcs hear every_arc
arcs_kept m x y h s r = ap (λ (z : Net). ltb 0 (z.cost s r)) h

-- ---- the words before those of reports

module _ (xs ys : List ℕ) (same : (k : ℕ) → k < held_labels → look ys k ≡ look xs k) where
  frame_same : frame_in (look ys) ≡ frame_in (look xs)
  unfolding frame_in
  frame_same = λ j. record { nodes = min (same 0 (omega arith) j) max_nodes; origin = same 1 (omega arith) j }

  nodes_same : (view ys).nodes ≡ (view xs).nodes
  unfolding view net_of
  nodes_same = ap (λ (t : Frame). t.nodes) frame_same

  has_same : (s r : ℕ) → Has ys s r ≡ Has xs s r
  has_same s r = go (bool_cases (pair_fault_of (view xs).nodes s r))
    where
      go : (pair_fault_of (view xs).nodes s r ≡ true) ⊎ (pair_fault_of (view xs).nodes s r ≡ false) → Has ys s r ≡ Has xs s r
      go (inl e) = present_out _ (look ys) s r (ap (λ n. pair_fault_of n s r) nodes_same ∙ e) ∙ sym (present_out _ (look xs) s r e)
      go (inr e) =
          present_in _ (look ys) s r (ap (λ n. pair_fault_of n s r) nodes_same ∙ e)
          ∙ ap (λ w. has w s) (same (arc_bits + r) (omega (arith, pair_says _ s r e, few xs))) ∙ sym (present_in _ (look xs) s r e)

  cost_same : (s r : ℕ) → (view ys).cost s r ≡ (view xs).cost s r
  cost_same s r = go (bool_cases (Has xs s r))
    where
      go : (Has xs s r ≡ true) ⊎ (Has xs s r ≡ false) → (view ys).cost s r ≡ (view xs).cost s r
      go (inl e) =
          let k = pair_says _ s r (present_pair _ (look xs) s r e) in
          sym (read_cost_lem ys s r (has_same s r ∙ e)) ∙ ap cost_of (same (arc_costs + (r * 32 + s)) (omega (arith, k, few xs)))
          ∙ read_cost_lem xs s r e
      go (inr e) = cost_none ys s r (has_same s r ∙ e) ∙ sym (cost_none xs s r e)

  word_same : (b y : ℕ) → b + 32 ≤ held_labels → word (view ys).nodes (look ys) b y ≡ word (view xs).nodes (look xs) b y
  unfolding word
  word_same b y h = rw nodes_same (go (le_or_lt (view xs).nodes y))
    where
      go : ((view xs).nodes ≤ y) ⊎ (y < (view xs).nodes) → cond (ltb y (view xs).nodes) (look ys (b + y)) 0 ≡ cond (ltb y (view xs).nodes) (look xs (b + y)) 0
      go (inl k) = rw (le-ltb y (view xs).nodes k)
      go (inr k) = ap (λ v. cond (ltb y (view xs).nodes) v 0) (same (b + y) (omega (arith, few xs)))

  -- only reports differ
  reports_changed : (h : ℕ → ℕ → Report) → ((s r : ℕ) → (view ys).held s r ≡ h s r) → by_words ys ≡ with_reports (by_words xs) h
  unfolding by_words view net_of
  reports_changed h e =
      same_net _ _ frame_same cost_same
      (λ y. λ j. row_of (word_same row_labels y (omega arith) j) (word_same row_predecessors y (omega arith) j) (word_same row_lists y (omega arith) j)) e

-- ---- one arc

report_of_lem : (d p l : ℕ) → report (row_of d p l) ≡ report_of d l
unfolding report row_of report_of
report_of_lem d p l = go (eqb l 0)
  where
    go : (t : Bool) → report (cond t none (via d p l)) ≡ cond t empty (told d l)
    go true = refl
    go false = refl

-- what a node's words report
word_report : (xs : List ℕ) (s : ℕ) → s < (view xs).nodes → report_of (look xs (row_labels + s)) (look xs (row_lists + s)) ≡ report ((by_words xs).row s)
unfolding by_words
word_report xs s h =
    let n = (view xs).nodes in
    (λ j. report_of (sym (word_in n (look xs) row_labels s h) j) (sym (word_in n (look xs) row_lists s h) j))
    ∙ sym (report_of_lem (word n (look xs) row_labels s) (word n (look xs) row_predecessors s) (word n (look xs) row_lists s))

-- two stores hear one arc
module _ (xs : List ℕ) (size : length xs ≡ word_count) (s r : ℕ) (hs : s < 32) (hr : r < 32) (t : Bool) (d l : ℕ) where
  abbrev at : ℕ
  at = r * 32 + s

  abbrev x₁ : List ℕ
  x₁ = set xs (held_labels + at) d

  abbrev stored : List ℕ
  stored = set x₁ (held_lists + at) l

  away : (k : ℕ) → k ≢ held_labels + at → k ≢ held_lists + at → look stored k ≡ look xs k
  away k a b = get_or-set_other x₁ (held_lists + at) k l 0 b ∙ get_or-set_other xs (held_labels + at) k d 0 a

  before : (k : ℕ) → k < held_labels → look stored k ≡ look xs k
  before k h = away k (λ e. omega arith) (λ e. omega arith)

  label : look stored (held_labels + at) ≡ d
  label =
      get_or-set_other x₁ (held_lists + at) (held_labels + at) l 0 (λ e. omega arith)
      ∙ get_or-set_same xs (held_labels + at) d 0 (omega (arith, size))

  list : look stored (held_lists + at) ≡ l
  list = get_or-set_same x₁ (held_lists + at) l 0 (omega (arith, size, length-set xs (held_labels + at) d))

  pub hear_arc : d ≡ cond t (look xs (row_labels + s)) (look xs (held_labels + at)) → l ≡ cond t (look x₁ (row_lists + s)) (look x₁ (held_lists + at))
      → by_words stored ≡ hear_arcs (one_mark s r t) (by_words xs)
  unfolding hear_arcs hear one_mark every_arc by_words
  hear_arc p q = reports_changed xs stored before _ (λ a b. go a b (bool_cases (Has xs a b)))
    where
      -- the arc that is heard
      here : Has xs s r ≡ true → (t : Bool) → d ≡ cond t (look xs (row_labels + s)) (look xs (held_labels + at)) → l ≡ cond t (look x₁ (row_lists + s)) (look x₁ (held_lists + at))
          → report_of d l ≡ cond t (report ((by_words xs).row s)) ((view xs).held s r)
      here e true p q =
          let k = pair_says _ s r (present_pair _ (look xs) s r e) in
          ap₂ report_of p (q ∙ get_or-set_other xs (held_labels + at) (row_lists + s) d 0 (λ z. omega arith)) ∙ word_report xs s k.0
      here e false p q =
          ap₂ report_of p (q ∙ get_or-set_other xs (held_labels + at) (held_lists + at) d 0 (λ z. omega arith)) ∙ read_held xs s r e

      go : (a b : ℕ) → (Has xs a b ≡ true) ⊎ (Has xs a b ≡ false)
          → (view stored).held a b ≡ cond ((eqb a s && (eqb b r && t)) && ltb 0 ((view xs).cost a b)) (report ((by_words xs).row a)) ((view xs).held a b)
      go a b (inr e) =
          held_none stored a b (has_same xs stored before a b ∙ e)
          ∙ sym (rw (sym (arc_is xs a b) ∙ e, and-false (eqb a s && (eqb b r && t))) (held_none xs a b e))
      go a b (inl e) =
          let k = pair_says _ a b (present_pair _ (look xs) a b e) in
          sym (read_held stored a b (has_same xs stored before a b ∙ e)) ∙ rw (sym (arc_is xs a b) ∙ e) (at_pair k (eq_or_ne a s) (eq_or_ne b r))
        where
          elsewhere : (a < (view xs).nodes) × (b < (view xs).nodes) × (a ≢ b) → (b * 32 + a ≢ at)
              → report_of (look stored (held_labels + (b * 32 + a))) (look stored (held_lists + (b * 32 + a))) ≡ (view xs).held a b
          elsewhere k n =
              ap₂ report_of (away (held_labels + (b * 32 + a)) (λ z. n (omega arith)) (λ z. omega (arith, few xs)))
              (away (held_lists + (b * 32 + a)) (λ z. omega arith) (λ z. n (omega arith)))
              ∙ read_held xs a b e

          at_pair : (a < (view xs).nodes) × (b < (view xs).nodes) × (a ≢ b) → (a ≡ s) ⊎ (a ≢ s) → (b ≡ r) ⊎ (b ≢ r)
              → report_of (look stored (held_labels + (b * 32 + a))) (look stored (held_lists + (b * 32 + a)))
              ≡ cond ((eqb a s && (eqb b r && t)) && true) (report ((by_words xs).row a)) ((view xs).held a b)
          at_pair k (inl f) (inl g) =
              let arc : Has xs s r ≡ true = sym (λ j. Has xs (f j) (g j)) ∙ e in
              rw (f, g, eqb_same s, eqb_same r, and-true t) (ap₂ report_of label list ∙ here arc t p q)
          at_pair k (inl f) (inr g) = rw (ne_eqb b r g, and-false (eqb a s)) (elsewhere k (λ z. omega (arith, few xs)))
          at_pair k (inr f) g = rw (ne_eqb a s f) (elsewhere k (λ z. omega (arith, few xs)))

-- ---- loops

-- the marks of one receiver on the senders up to k, from those below k and that of k
senders_step : (p : Bool) (g : ℕ → Bool) (k a : ℕ) → ((eqb a k && (p && g k)) || (p && (ltb a k && g a))) ≡ (p && (ltb a (k + 1) && g a))
senders_step p g k a = go p (eq_or_ne a k)
  where
    go : (p : Bool) → (a ≡ k) ⊎ (a ≢ k) → ((eqb a k && (p && g k)) || (p && (ltb a k && g a))) ≡ (p && (ltb a (k + 1) && g a))
    go false h = rw (and-false (eqb a k))
    go true (inl q) = rw (eq-eqb a k q, le-ltb a k (omega arith), lt-ltb a (k + 1) (omega arith), ap g q) (or-false (g k))
    go true (inr n) = rw (ne_eqb a k n, ltb_other a k n)

-- no sender is below 0
pub row_begun : (r w : ℕ) (x : Net) → x ≡ hear_arcs (row_marks r w 0) x
unfolding row_marks
row_begun r w x = hear_no_arcs _ x (λ a b. rw (le-ltb a 0 (omega arith)) (and-false (eqb b r)))

-- one sender more, whose mark is t
pub row_next : (x y z : Net) (r w k j : ℕ) (t : Bool) → t ≡ has w k → j ≡ k + 1 → y ≡ hear_arcs (row_marks r w k) x → z ≡ hear_arcs (one_mark k r t) y
    → z ≡ hear_arcs (row_marks r w j) x
unfolding row_marks one_mark
row_next x y z r w k j t e q h g = hear_more _ _ _ x y z h g (λ a b. rw (e, q) (go (eqb b r) (has w) a (eq_or_ne a k)))
  where
    go : (p : Bool) (f : ℕ → Bool) (a : ℕ) → (a ≡ k) ⊎ (a ≢ k) → ((eqb a k && (p && f k)) || (p && (ltb a k && f a))) ≡ (p && (ltb a (k + 1) && f a))
    go false f a h = rw (and-false (eqb a k))
    go true f a (inl q) = rw (eq-eqb a k q, le-ltb a k (omega arith), lt-ltb a (k + 1) (omega arith), ap f q) (or-false (f k))
    go true f a (inr n) = rw (ne_eqb a k n, ltb_other a k n)

-- a sender without a mark
pub row_passed : (x y : Net) (r w k : ℕ) → has w k ≡ false → y ≡ hear_arcs (row_marks r w k) x → y ≡ hear_arcs (row_marks r w (k + 1)) x
unfolding row_marks
row_passed x y r w k e h = h ∙ hear_arcs_ext _ _ x (λ a b _. ap (◌&&◌ (eqb b r)) (go a (eq_or_ne a k)))
  where
    go : (a : ℕ) → (a ≡ k) ⊎ (a ≢ k) → (ltb a k && has w a) ≡ (ltb a (k + 1) && has w a)
    go a (inl q) = rw (q, e, and-false (ltb k k), and-false (ltb k (k + 1)))
    go a (inr n) = rw (ltb_other a k n)

-- no arc is from a sender that is no node
arcs_within : (xs : List ℕ) (s r : ℕ) → every_arc (by_words xs) s r ≡ true → (s < (view xs).nodes) × (r < (view xs).nodes)
unfolding every_arc by_words
arcs_within xs s r e =
    let k = pair_says _ s r (present_pair _ (look xs) s r (arc_is xs s r ∙ e)) in
    (k.0, k.1)

-- all senders that are nodes were heard
pub row_done : (xs : List ℕ) (y : Net) (r w k : ℕ) → (view xs).nodes ≤ k → k ≤ 32 → y ≡ hear_arcs (row_marks r w k) (by_words xs) → y ≡ hear_arcs (row_marks r w 32) (by_words xs)
unfolding row_marks
row_done xs y r w k low high h =
    h ∙ hear_arcs_ext _ _ (by_words xs) (λ a b e. let i = arcs_within xs a b e in rw (lt-ltb a k (omega arith), lt-ltb a 32 (omega arith)))

-- ---- receiver by receiver

-- the marks of the receivers below k
abbrev pub up_to : Marks → ℕ → Marks
up_to m k s y = ltb y k && m s y

pub rows_begun : (m : Marks) (x : Net) → x ≡ hear_arcs (up_to m 0) x
rows_begun m x = hear_no_arcs _ x (λ a b. rw (le-ltb b 0 (omega arith)))

-- one receiver more, whose word has its marks
pub rows_next : (xs : List ℕ) (y z : Net) (m : Marks) (k w : ℕ) → ((s : ℕ) → s < 32 → has w s ≡ m s k) → y ≡ hear_arcs (up_to m k) (by_words xs)
    → z ≡ hear_arcs (row_marks k w 32) y → z ≡ hear_arcs (up_to m (k + 1)) (by_words xs)
unfolding row_marks
rows_next xs y z m k w bits h g =
    hear_more (up_to m k) (λ a b. eqb b k && m a b) _ (by_words xs) y z h (g ∙ hear_arcs_ext _ _ y here) (λ a b. go a b (eq_or_ne b k))
  where
    here : (a b : ℕ) → every_arc y a b ≡ true → row_marks k w 32 a b ≡ (eqb b k && m a b)
    here a b e = of (eq_or_ne b k)
      where
        small : a < 32
        small = let i = arcs_within xs a b (sym (arcs_kept _ (by_words xs) y h a b) ∙ e) in omega (arith, few xs)

        of : (b ≡ k) ⊎ (b ≢ k) → (eqb b k && (ltb a 32 && has w a)) ≡ (eqb b k && m a b)
        of (inl q) = rw (eq-eqb b k q, lt-ltb a 32 small) (bits a small ∙ ap (m a) (sym q))
        of (inr n) = rw (ne_eqb b k n)

    go : (a b : ℕ) → (b ≡ k) ⊎ (b ≢ k) → ((eqb b k && m a b) || (ltb b k && m a b)) ≡ (ltb b (k + 1) && m a b)
    go a b (inl q) = rw (eq-eqb b k q, le-ltb b k (omega arith), lt-ltb b (k + 1) (omega arith)) (or-false (m a b))
    go a b (inr n) = rw (ne_eqb b k n, ltb_other b k n)

-- every receiver that is a node has heard
pub rows_done : (xs : List ℕ) (y : Net) (m : Marks) (k : ℕ) → (view xs).nodes ≤ k → y ≡ hear_arcs (up_to m k) (by_words xs) → y ≡ hear_arcs m (by_words xs)
rows_done xs y m k low h = h ∙ hear_arcs_ext _ _ (by_words xs) (λ a b e. let i = arcs_within xs a b e in rw (lt-ltb b k (omega arith)))

-- ---- the words of a receiver

-- its marks
pub marks_bits : (x : Net) (o : Option (List ℕ)) (ms : List ℕ) (r w : ℕ) → o ≡ Some ms → r < 32 → w ≡ get_or ms r 0 → (s : ℕ) → s < 32 → has w s ≡ given x o s r
unfolding given marked
marks_bits x o ms r w p k e s h = rw (e, p, lt-ltb s 32 h, lt-ltb r 32 k)

-- in a full round its arcs, which stay while others hear
pub arcs_bits : (m : Marks) (xs ys : List ℕ) (o : Option (List ℕ)) (r w : ℕ) → o ≡ None → by_words ys ≡ hear_arcs m (by_words xs) → w ≡ arcs_to (view ys) r
    → (s : ℕ) → s < 32 → has w s ≡ given (view xs) o s r
unfolding given every_arc by_words
arcs_bits m xs ys o r w p h e s k = rw (e, p) (arcs_exact (view ys) r s k ∙ arcs_kept m (by_words xs) (by_words ys) h s r)

-- ---- the origin's words

-- a network whose origin has the origin's row
abbrev rooted : Net → Net
rooted x = with_rows x (λ y. cond (eqb y x.origin) (root (own x.origin)) (x.row y))

view_rooted : (xs : List ℕ) → rooted (by_words xs) ≡ view xs
unfolding by_words view net_of node_row
view_rooted xs = refl

-- hearing in primed words
pub heard : (xs ps ys : List ℕ) (m : Marks) → Primed xs ps → by_words ys ≡ hear_arcs m (by_words ps) → ((s r : ℕ) → m s r ≡ true → every_arc (view ps) s r ≡ true)
    → view ys ≡ hear m (view xs)
unfolding hear_arcs hear every_arc by_words
heard xs ps ys m p e on =
    sym (view_rooted ys) ∙ ap rooted e ∙ same_net _ _ refl (λ s r. refl) (λ y. ap (λ (x : Net). x.row y) (view_rooted ps)) (λ s r. go s r (m s r) refl)
    ∙ ap (hear m) p.net
  where
    go : (s r : ℕ) (t : Bool) → m s r ≡ t → cond (t && every_arc (by_words ps) s r) (report ((by_words ps).row s)) ((by_words ps).held s r) ≡ cond t (report ((view ps).row s)) ((view ps).held s r)
    go s r true q = let arc = on s r q in rw arc (p.reports s (arcs_within ps s r arc).0)
    go s r false q = refl

report_root : (o : ℕ) → report_of 0 (own o) ≡ report (root (own o))
unfolding report report_of
report_root o = rw (ne_eqb (own o) 0 (put_some 0 o))

-- a relay's words are its row
relay_words : (xs : List ℕ) (s : ℕ) → s ≢ (view xs).origin → (by_words xs).row s ≡ (view xs).row s
unfolding by_words
relay_words xs s n = sym (rw (ne_eqb s (view xs).origin n) at (ap (λ (x : Net). x.row s) (sym (view_rooted xs))))

module _ (xs : List ℕ) (size : length xs ≡ word_count) (y l : ℕ) (e : y ≡ (view xs).origin) (h : y < (view xs).nodes) where
  pub primes : l ≡ own y → Primed xs (set (set xs (row_labels + y) 0) (row_lists + y) l)
  primes q = record { net = same; reports = λ s b. go s b (eq_or_ne s y) }
    where
      x₁ : List ℕ
      x₁ = set xs (row_labels + y) 0

      zs : List ℕ
      zs = set x₁ (row_lists + y) l

      same : view zs ≡ view xs
      same =
          ap (λ ws. view (set ws (row_lists + y) l)) (sym (set-get_or x₁ (row_predecessors + y) 0))
          ∙ store_origin xs size y 0 (look x₁ (row_predecessors + y)) l h e

      o : y ≡ (view zs).origin
      o = e ∙ sym (ap (λ (x : Net). x.origin) same)

      label : look zs (row_labels + y) ≡ 0
      label =
          get_or-set_other x₁ (row_lists + y) (row_labels + y) l 0 (λ k. omega arith)
          ∙ get_or-set_same xs (row_labels + y) 0 0 (omega (arith, few xs, size))

      list : look zs (row_lists + y) ≡ l
      list = get_or-set_same x₁ (row_lists + y) l 0 (omega (arith, few xs, size, length-set xs (row_labels + y) 0))

      go : (s : ℕ) → s < (view zs).nodes → (s ≡ y) ⊎ (s ≢ y) → report ((by_words zs).row s) ≡ report ((view zs).row s)
      go s b (inl k) =
          sym (word_report zs s b) ∙ ap (λ z. report_of (look zs (row_labels + z)) (look zs (row_lists + z))) k ∙ ap₂ report_of label (list ∙ q)
          ∙ report_root y ∙ sym (ap report (read_origin zs s (k ∙ o) ∙ ap (λ z. root (own z)) k))
      go s b (inr n) = ap report (relay_words zs s (λ z. n (z ∙ sym o)))

-- where the origin is no node, its words play no part
pub unprimed : (xs : List ℕ) → (view xs).nodes ≤ (view xs).origin → Primed xs xs
unprimed xs h = record { net = refl; reports = λ s b. ap report (relay_words xs s (λ e. omega arith)) }
