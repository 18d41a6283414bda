-- What stores do to the network that the words give. Address arithmetic stands here alone.
-- Assumes nothing.
use mathlib.Core.Path.{◌≡◌, refl, sym, ap, ◌∙◌}
use mathlib.Core.Bool.{Bool, true, false, cond, ◌&&◌}
use mathlib.Core.Logic.{◌⊎◌, inl, inr, ◌≢◌, ⊎_elim}
use mathlib.Core.List.{List}
use Prim.Native.Nat.{ℕ, ◌+◌, ◌*◌, ◌<◌, ◌≤◌, min}
use native.Mathlib.Omega.{arith}
use lib.Dec.{eqb, ltb}
use lib.ListN.{length, set, length-set}
use lib.Seq.{get_or-set_same, get_or-set_other}
use borrow.Author.Tests.{lt-ltb, le-ltb, eq-eqb, ne_eqb}
use Rattle.ancestors.specs.Ancestors.{has, own}
use Rattle.ancestors.proofs.Cases.{bool_cases, le_or_lt, eq_or_ne, eqb_same, never}
use Rattle.network.specs.Network.{Frame, root, Report, empty, set_pair, set_at, with_cost, with_held, with_row}
use Rattle.network.specs.Faults.{max_nodes, pair_fault_of}
use Rattle.network.specs.Words.{report_of, cost_of}
use Rattle.network.proofs.FaultLaws.{pair_says, sender_bad, receiver_bad}
use Rattle.network.proofs.Effects.{same_net}
use Rattle.memory.specs.Inner.{PairOf}
use Rattle.memory.specs.Layout.{word_count, frame_in, word, present, at_arc, row_of, node_row, net_of, look, view, arc_bits, arc_costs, held_labels, held_lists, row_labels, row_lists, row_predecessors}
use Rattle.memory.proofs.Laws.{few}

-- ---- a word stored

-- the words f with v stored at i
abbrev pub upd : (ℕ → ℕ) → ℕ → ℕ → ℕ → ℕ
upd f i v k = cond (eqb k i) v (f k)

look_set : (xs : List ℕ) (i v : ℕ) → i < length xs → (k : ℕ) → look (set xs i v) k ≡ upd (look xs) i v k
look_set xs i v h k = go (eq_or_ne k i)
  where
    go : (k ≡ i) ⊎ (k ≢ i) → look (set xs i v) k ≡ upd (look xs) i v k
    go (inl e) = rw (e, eqb_same i) (get_or-set_same xs i v 0 h)
    go (inr n) = rw (ne_eqb k i n) (get_or-set_other xs i k v 0 n)

-- a store from the rows on leaves the frame
frame_away : (f : ℕ → ℕ) (i v : ℕ) → row_labels ≤ i → frame_in (upd f i v) ≡ frame_in f
unfolding frame_in
frame_away f i v h = λ j. record { nodes = min (away 0 (omega arith) j) max_nodes; origin = away 1 (omega arith) j }
  where
    away : (k : ℕ) → k < row_labels → upd f i v k ≡ f k
    away k b = rw (ne_eqb k i (λ e. omega arith))

-- the words xs are those of f, with the frame t
pub record Gives (xs : List ℕ) (t : Frame) (f : ℕ → ℕ) : Type 0 where
  pub size : length xs ≡ word_count
  pub holds : (k : ℕ) → look xs k ≡ f k
  pub framed : frame_in f ≡ t

pub gives_view : {xs : List ℕ} {t : Frame} {f : ℕ → ℕ} → Gives xs t f → view xs ≡ net_of t f
unfolding view
gives_view {f} g = (λ j. net_of (frame_in (λ k. g.holds k j)) (λ k. g.holds k j)) ∙ (λ j. net_of (g.framed j) f)

pub gives_start : (xs : List ℕ) → length xs ≡ word_count → Gives xs (frame_in (look xs)) (look xs)
gives_start xs e = record { size = e; holds = λ k. refl; framed = refl }

pub gives_set : {xs : List ℕ} {t : Frame} {f : ℕ → ℕ} (i v : ℕ) → Gives xs t f → row_labels ≤ i → i < word_count → Gives (set xs i v) t (upd f i v)
gives_set {xs} {t} {f} i v g a b =
    record {
      size = length-set xs i v ∙ g.size;
      holds = λ k. look_set xs i v (omega (arith, g.size)) k ∙ ap (λ m. cond (eqb k i) v m) (g.holds k);
      framed = frame_away f i v a ∙ g.framed;
    }

-- ---- the words of nodes
module _ (n : ℕ) (f : ℕ → ℕ) (b : ℕ) where
  pub word_in : (y : ℕ) → y < n → word n f b y ≡ f (b + y)
  unfolding word
  word_in y h = rw (lt-ltb y n h)

  word_out : (y : ℕ) → n ≤ y → word n f b y ≡ 0
  unfolding word
  word_out y h = rw (le-ltb y n h)

  -- words of 0
  pub word_zero : (y : ℕ) → ((k : ℕ) → b ≤ k → f k ≡ 0) → word n f b y ≡ 0
  word_zero y z = ⊎_elim (λ h. word_out y h) (λ h. word_in y h ∙ z (b + y) (omega arith)) (le_or_lt n y)

-- a law of every word may suppose that it is inside
by_node_lem : {A : Type 0} (n y : ℕ) → (y < n → A) → (n ≤ y → A) → A
by_node_lem n y p q = ⊎_elim (λ h. q h) (λ h. p h) (le_or_lt n y)

-- planes that agree inside give the same words
word_same : (n : ℕ) (f g : ℕ → ℕ) (b : ℕ) → ((y : ℕ) → y < n → f (b + y) ≡ g (b + y)) → (y : ℕ) → word n f b y ≡ word n g b y
word_same n f g b e y =
    by_node_lem n y (λ h. word_in n f b y h ∙ e y h ∙ sym (word_in n g b y h)) (λ h. word_out n f b y h ∙ sym (word_out n g b y h))

-- a store outside of a plane
pub word_away : (n : ℕ) (f : ℕ → ℕ) (b i v : ℕ) → n ≤ 32 → (i < b) ⊎ (b + 32 ≤ i) → (y : ℕ) → word n (upd f i v) b y ≡ word n f b y
word_away n f b i v few o = word_same n (upd f i v) f b (λ y h. rw (ne_eqb (b + y) i (off y h o)))
  where
    off : (y : ℕ) → y < n → (i < b) ⊎ (b + 32 ≤ i) → b + y ≢ i
    off y h (inl a) = λ e. omega arith
    off y h (inr a) = λ e. omega arith

-- a store past the rows
row_away : (n : ℕ) (f : ℕ → ℕ) (o i v : ℕ) → n ≤ 32 → arc_bits ≤ i → (y : ℕ) → node_row n (upd f i v) o y ≡ node_row n f o y
unfolding node_row
row_away n f o i v few h y =
    λ j. cond (eqb y o) (root (own o))
    (row_of (word_away n f row_labels i v few (inr (omega arith)) y j) (word_away n f row_predecessors i v few (inr (omega arith)) y j)
    (word_away n f row_lists i v few (inr (omega arith)) y j))

-- a store in a plane
module _ (n : ℕ) (f : ℕ → ℕ) (b v : ℕ) where
  word_here : (y₀ : ℕ) → y₀ < n → word n (upd f (b + y₀) v) b y₀ ≡ v
  word_here y₀ h = word_in n (upd f (b + y₀) v) b y₀ h ∙ rw (eqb_same (b + y₀))

  word_else : (y₀ y : ℕ) → y ≢ y₀ → word n (upd f (b + y₀) v) b y ≡ word n f b y
  word_else y₀ y ne =
      by_node_lem n y
      (λ h. word_in n (upd f (b + y₀) v) b y h ∙ rw (ne_eqb (b + y) (b + y₀) (λ e. ne (omega arith))) (sym (word_in n f b y h)))
      (λ h. word_out n (upd f (b + y₀) v) b y h ∙ sym (word_out n f b y h))

-- ---- arcs, and what stands at a pair

module _ (n : ℕ) (f : ℕ → ℕ) (s r : ℕ) where
  pub present_in : pair_fault_of n s r ≡ false → present n f s r ≡ has (f (arc_bits + r)) s
  unfolding present
  present_in e = rw e

  pub present_out : pair_fault_of n s r ≡ true → present n f s r ≡ false
  unfolding present
  present_out e = rw e

  -- an arc joins two nodes
  pub present_pair : present n f s r ≡ true → pair_fault_of n s r ≡ false
  present_pair e = go (bool_cases (pair_fault_of n s r))
    where
      go : (pair_fault_of n s r ≡ true) ⊎ (pair_fault_of n s r ≡ false) → pair_fault_of n s r ≡ false
      go (inl q) = never (present n f s r) e (present_out q)
      go (inr q) = q

  module _ {A : Type 0} (g : ℕ → A) (z : A) where
    pub at_arc_lem : present n f s r ≡ true → at_arc n f g z s r ≡ g (r * 32 + s)
    unfolding at_arc
    at_arc_lem e = rw e

    pub at_none : present n f s r ≡ false → at_arc n f g z s r ≡ z
    unfolding at_arc
    at_none e = rw e

-- where two lists of words have the same arc, and the same stands at it
at_same : {A : Type 0} (n : ℕ) (f f' : ℕ → ℕ) (g g' : ℕ → A) (z : A) (s r : ℕ) → present n f s r ≡ present n f' s r
    → (pair_fault_of n s r ≡ false → g (r * 32 + s) ≡ g' (r * 32 + s)) → at_arc n f g z s r ≡ at_arc n f' g' z s r
at_same n f f' g g' z s r p e = go (bool_cases (present n f s r))
  where
    go : (present n f s r ≡ true) ⊎ (present n f s r ≡ false) → at_arc n f g z s r ≡ at_arc n f' g' z s r
    go (inl q) = at_arc_lem n f s r g z q ∙ e (present_pair n f s r q) ∙ sym (at_arc_lem n f' s r g' z (sym p ∙ q))
    go (inr q) = at_none n f s r g z q ∙ sym (at_none n f' s r g' z (sym p ∙ q))

-- a store to the place of a pair, and to another place
this_place : (f : ℕ → ℕ) (i v : ℕ) → upd f i v i ≡ v
this_place f i v = rw (eqb_same i)

other_place : (f : ℕ → ℕ) (b i v s r : ℕ) → (b + (r * 32 + s) ≢ i) → upd f i v (b + (r * 32 + s)) ≡ f (b + (r * 32 + s))
other_place f b i v s r h = rw (ne_eqb (b + (r * 32 + s)) i h)

module _ (n : ℕ) (f : ℕ → ℕ) (few : n ≤ 32) where
  -- a store outside of the words of arcs
  present_away : (i v s r : ℕ) → (i < arc_bits) ⊎ (arc_costs ≤ i) → present n (upd f i v) s r ≡ present n f s r
  present_away i v s r o = go (bool_cases (pair_fault_of n s r))
    where
      off : r < n → (i < arc_bits) ⊎ (arc_costs ≤ i) → arc_bits + r ≢ i
      off h (inl a) = λ e. omega arith
      off h (inr a) = λ e. omega arith

      go : (pair_fault_of n s r ≡ true) ⊎ (pair_fault_of n s r ≡ false) → present n (upd f i v) s r ≡ present n f s r
      go (inl e) = present_out n (upd f i v) s r e ∙ sym (present_out n f s r e)
      go (inr e) =
          present_in n (upd f i v) s r e ∙ ap (λ w. has w s) (rw (ne_eqb (arc_bits + r) i (off (pair_says n s r e).1 o))) ∙ sym (present_in n f s r e)

  -- a store to the word of r's arcs that changes the bit of s alone
  module _ (s r w : ℕ) (same : (j : ℕ) → j ≢ s → has w j ≡ has (f (arc_bits + r)) j) where
    present_else : (a b : ℕ) → (a ≢ s) ⊎ (b ≢ r) → present n (upd f (arc_bits + r) w) a b ≡ present n f a b
    present_else a b ne = go (bool_cases (pair_fault_of n a b)) (eq_or_ne b r) ne
      where
        g : ℕ → ℕ
        g = upd f (arc_bits + r) w

        go : (pair_fault_of n a b ≡ true) ⊎ (pair_fault_of n a b ≡ false) → (b ≡ r) ⊎ (b ≢ r) → (a ≢ s) ⊎ (b ≢ r) → present n g a b ≡ present n f a b
        go (inl e) d ne = present_out n g a b e ∙ sym (present_out n f a b e)
        go (inr e) (inl d) (inl ne) =
            present_in n g a b e ∙ ap (λ v. has v a) (rw (eq-eqb (arc_bits + b) (arc_bits + r) (omega arith))) ∙ same a ne
            ∙ ap (λ k. has (f (arc_bits + k)) a) (sym d) ∙ sym (present_in n f a b e)
        go (inr e) (inl d) (inr ne) = absurd (ne d)
        go (inr e) (inr d) ne =
            present_in n g a b e ∙ ap (λ v. has v a) (rw (ne_eqb (arc_bits + b) (arc_bits + r) (λ q. d (omega arith)))) ∙ sym (present_in n f a b e)

    present_here : pair_fault_of n s r ≡ false → present n (upd f (arc_bits + r) w) s r ≡ has w s
    present_here e = present_in n (upd f (arc_bits + r) w) s r e ∙ ap (λ v. has v s) (rw (eqb_same (arc_bits + r)))

-- costs, and held reports, by pair
abbrev costs_in : ℕ → (ℕ → ℕ) → ℕ → ℕ → ℕ
costs_in n f = at_arc n f (λ k. cost_of (f (arc_costs + k))) 0

abbrev held_in : ℕ → (ℕ → ℕ) → ℕ → ℕ → Report
held_in n f = at_arc n f (λ k. report_of (f (held_labels + k)) (f (held_lists + k))) empty

-- a store before the arcs leaves both
module _ (n : ℕ) (f : ℕ → ℕ) (few : n ≤ 32) (i v : ℕ) (before : i < arc_bits) (s r : ℕ) where
  costs_kept : costs_in n (upd f i v) s r ≡ costs_in n f s r
  costs_kept =
      at_same n (upd f i v) f _ _ 0 s r (present_away n f few i v s r (inl before))
      (λ _. ap cost_of (other_place f arc_costs i v s r (λ e. omega arith)))

  held_kept : held_in n (upd f i v) s r ≡ held_in n f s r
  held_kept =
      at_same n (upd f i v) f _ _ empty s r (present_away n f few i v s r (inl before))
      (λ _. λ j. report_of (other_place f held_labels i v s r (λ e. omega arith) j) (other_place f held_lists i v s r (λ e. omega arith) j))

-- ---- a function set at a pair or at a node, from its values there and elsewhere
by_pair_lem : {A : Type 0} (f g : ℕ → ℕ → A) (s r : ℕ) (v : A) → g s r ≡ v → ((a b : ℕ) → (a ≢ s) ⊎ (b ≢ r) → g a b ≡ f a b)
    → (a b : ℕ) → g a b ≡ set_pair f s r v a b
unfolding set_pair
by_pair_lem f g s r v here else a b = go (eq_or_ne a s) (eq_or_ne b r)
  where
    go : (a ≡ s) ⊎ (a ≢ s) → (b ≡ r) ⊎ (b ≢ r) → g a b ≡ cond (eqb a s && eqb b r) v (f a b)
    go (inl p) (inl q) = rw (p, q, eqb_same s, eqb_same r) here
    go (inl p) (inr q) = rw (eq-eqb a s p, ne_eqb b r q) (else a b (inr q))
    go (inr p) q = rw (ne_eqb a s p) (else a b (inl p))

by_place : {A : Type 0} (f g : ℕ → A) (y : ℕ) (v : A) → g y ≡ v → ((a : ℕ) → a ≢ y → g a ≡ f a) → (a : ℕ) → g a ≡ set_at f y v a
unfolding set_at
by_place f g y v here else a = go (eq_or_ne a y)
  where
    go : (a ≡ y) ⊎ (a ≢ y) → g a ≡ cond (eqb a y) v (f a)
    go (inl e) = rw (e, eqb_same y) here
    go (inr e) = rw (ne_eqb a y e) (else a e)

-- ---- what stands at a node and at a pair
module _ (xs : List ℕ) where
  abbrev nodes : ℕ
  nodes = (view xs).nodes

  -- the arc from s to r is present
  abbrev pub Has : ℕ → ℕ → Bool
  Has s r = present nodes (look xs) s r

  pub read_first : look xs 1 ≡ (view xs).origin
  unfolding view net_of frame_in
  read_first = refl

  -- what the words of a pair say
  pub cost_by : (s r : ℕ) → cond (Has s r) (cost_of (look xs (arc_costs + (r * 32 + s)))) 0 ≡ (view xs).cost s r
  unfolding view net_of frame_in at_arc
  cost_by s r = refl

  pub held_by : (s r : ℕ) → cond (Has s r) (report_of (look xs (held_labels + (r * 32 + s))) (look xs (held_lists + (r * 32 + s)))) empty ≡ (view xs).held s r
  unfolding view net_of frame_in at_arc
  held_by s r = refl

  -- of a pair with an arc
  pub read_cost_lem : (s r : ℕ) → Has s r ≡ true → cost_of (look xs (arc_costs + (r * 32 + s))) ≡ (view xs).cost s r
  read_cost_lem s r e = rw e at (cost_by s r)

  pub read_held : (s r : ℕ) → Has s r ≡ true
      → report_of (look xs (held_labels + (r * 32 + s))) (look xs (held_lists + (r * 32 + s))) ≡ (view xs).held s r
  read_held s r e = rw e at (held_by s r)

  -- what lies at any other pair plays no part
  pub cost_none : (s r : ℕ) → Has s r ≡ false → (view xs).cost s r ≡ 0
  cost_none s r e = sym (rw e at (cost_by s r))

  pub held_none : (s r : ℕ) → Has s r ≡ false → (view xs).held s r ≡ empty
  held_none s r e = sym (rw e at (held_by s r))

  -- an arc is present exactly where its cost is not 0
  pub arc_is : (s r : ℕ) → Has s r ≡ ltb 0 ((view xs).cost s r)
  unfolding cost_of
  arc_is s r = go (bool_cases (Has s r))
    where
      go : (Has s r ≡ true) ⊎ (Has s r ≡ false) → Has s r ≡ ltb 0 ((view xs).cost s r)
      go (inl e) = e ∙ sym (lt-ltb 0 ((view xs).cost s r) (omega (arith, read_cost_lem s r e)))
      go (inr e) = e ∙ sym (ap (ltb 0) (cost_none s r e))

  -- what lies at nodes not below n plays no part
  pub arc_beyond : (s r : ℕ) → (nodes ≤ s) ⊎ (nodes ≤ r) → Has s r ≡ false
  arc_beyond s r (inl h) = present_out nodes (look xs) s r (sender_bad nodes s r h)
  arc_beyond s r (inr h) = present_out nodes (look xs) s r (receiver_bad nodes s r h)

  pub read_relay : (y : ℕ) → y < (view xs).nodes → y ≢ (view xs).origin → row_of (look xs (row_labels + y)) (look xs (row_predecessors + y))
      (look xs (row_lists + y)) ≡ (view xs).row y
  unfolding view net_of frame_in node_row
  read_relay y h o =
      let n = min (look xs 0) 32 in
      rw (ne_eqb y (look xs 1) o)
      (λ j. row_of (sym (word_in n (look xs) row_labels y h) j) (sym (word_in n (look xs) row_predecessors y h) j)
      (sym (word_in n (look xs) row_lists y h) j))

-- ---- stores of whole parts
module _ (xs : List ℕ) (size : length xs ≡ word_count) where
  abbrev n : ℕ
  n = (view xs).nodes

  abbrev o : ℕ
  o = (view xs).origin

  abbrev f : ℕ → ℕ
  f = look xs

  module _ (s r : ℕ) (pair : pair_fault_of n s r ≡ false) where
    abbrev at : ℕ
    at = r * 32 + s

    ends : (s < 32) × (r < 32)
    ends = let p = pair_says n s r pair in (omega (arith, few xs), omega (arith, few xs))

    inside : (b : ℕ) → b ≤ held_lists → b + at < word_count
    inside b h = let p = ends in omega arith

    -- the place of a pair is no other pair's
    apart : (b a c : ℕ) → pair_fault_of n a c ≡ false → (a ≢ s) ⊎ (c ≢ r) → b + (c * 32 + a) ≢ b + at
    apart b a c q ne = go ne (pair_says n a c q) ends
      where
        go : (a ≢ s) ⊎ (c ≢ r) → (a < n) × (c < n) × (a ≢ c) → (s < 32) × (r < 32) → b + (c * 32 + a) ≢ b + at
        go (inl d) p k = λ e. d (omega (arith, few xs))
        go (inr d) p k = λ e. d (omega (arith, few xs))

    -- nor one of another plane
    before : (b d a c : ℕ) → pair_fault_of n a c ≡ false → b + 1024 ≤ d → b + (c * 32 + a) ≢ d + at
    before b d a c q h = let p = pair_says n a c q in λ e. omega (arith, few xs)

    after : (b d a c : ℕ) → d + 1024 ≤ b → b + (c * 32 + a) ≢ d + at
    after b d a c h = let p = ends in λ e. omega arith

    -- an arc set: the word of r's arcs, the arc's cost, and the list of its report
    module _ (w c l : ℕ) (same : (j : ℕ) → j ≢ s → has w j ≡ has (f (arc_bits + r)) j) (set_bit : has w s ≡ true) where
      abbrev a₁ : ℕ → ℕ
      a₁ = upd f (held_lists + at) l

      abbrev a₂ : ℕ → ℕ
      a₂ = upd a₁ (arc_bits + r) w

      abbrev a₃ : ℕ → ℕ
      a₃ = upd a₂ (arc_costs + at) c

      arcs_else : (a b : ℕ) → (a ≢ s) ⊎ (b ≢ r) → present n a₃ a b ≡ present n f a b
      arcs_else a b ne =
          present_away n a₂ (few xs) (arc_costs + at) c a b (inr (omega arith))
          ∙ present_else n a₁ (few xs) s r w (λ j d. same j d ∙ ap (λ v. has v j) (sym (rw (ne_eqb (arc_bits + r) (held_lists + at) (λ e. omega (arith, ends)))))) a b ne
          ∙ present_away n f (few xs) (held_lists + at) l a b (inr (omega arith))

      arcs_here : present n a₃ s r ≡ true
      arcs_here =
          present_away n a₂ (few xs) (arc_costs + at) c s r (inr (omega arith))
          ∙ present_in n a₂ s r pair ∙ ap (λ v. has v s) (rw (eqb_same (arc_bits + r))) ∙ set_bit

      pub store_arc : view (set (set (set xs (held_lists + at) l) (arc_bits + r) w) (arc_costs + at) c) ≡ with_held (with_cost (view xs) s r (cost_of c)) s r
          (report_of (look xs (held_labels + at)) l)
      unfolding with_held with_cost view net_of frame_in
      store_arc =
          gives_view (gives_set (arc_costs + at) c (gives_set (arc_bits + r) w (gives_set (held_lists + at) l (gives_start xs size) (omega arith)
          (inside held_lists (omega arith))) (omega arith) (omega (arith, ends))) (omega arith) (inside arc_costs (omega arith)))
          ∙ same_net _ _ refl
          (by_pair_lem (costs_in n f) (costs_in n a₃) s r (cost_of c)
          (at_arc_lem n a₃ s r _ 0 arcs_here ∙ ap cost_of (this_place a₂ (arc_costs + at) c)) costs)
          (λ y. row_away n a₂ o (arc_costs + at) c (few xs) (omega arith) y ∙ row_away n a₁ o (arc_bits + r) w (few xs) (omega arith) y
          ∙ row_away n f o (held_lists + at) l (few xs) (omega arith) y)
          (by_pair_lem (held_in n f) (held_in n a₃) s r (report_of (look xs (held_labels + at)) l)
          (at_arc_lem n a₃ s r _ empty arcs_here ∙ (λ j. report_of (label s r pair j) ((list s r ∙ this_place f (held_lists + at) l) j))) reports)
        where
          label : (a b : ℕ) → pair_fault_of n a b ≡ false → a₃ (held_labels + (b * 32 + a)) ≡ f (held_labels + (b * 32 + a))
          label a b q =
              other_place a₂ held_labels (arc_costs + at) c a b (after held_labels arc_costs a b (omega arith))
              ∙ other_place a₁ held_labels (arc_bits + r) w a b (λ e. omega (arith, ends))
              ∙ other_place f held_labels (held_lists + at) l a b (before held_labels held_lists a b q (omega arith))

          list : (a b : ℕ) → a₃ (held_lists + (b * 32 + a)) ≡ a₁ (held_lists + (b * 32 + a))
          list a b =
              other_place a₂ held_lists (arc_costs + at) c a b (after held_lists arc_costs a b (omega arith))
              ∙ other_place a₁ held_lists (arc_bits + r) w a b (λ e. omega (arith, ends))

          costs : (a b : ℕ) → (a ≢ s) ⊎ (b ≢ r) → costs_in n a₃ a b ≡ costs_in n f a b
          costs a b ne =
              at_same n a₃ f _ _ 0 a b (arcs_else a b ne)
              (λ q. ap cost_of (other_place a₂ arc_costs (arc_costs + at) c a b (apart arc_costs a b q ne)
              ∙ other_place a₁ arc_costs (arc_bits + r) w a b (λ e. omega (arith, ends))
              ∙ other_place f arc_costs (held_lists + at) l a b (before arc_costs held_lists a b q (omega arith))))

          reports : (a b : ℕ) → (a ≢ s) ⊎ (b ≢ r) → held_in n a₃ a b ≡ held_in n f a b
          reports a b ne =
              at_same n a₃ f _ _ empty a b (arcs_else a b ne)
              (λ q. λ j. report_of (label a b q j) ((list a b ∙ other_place f held_lists (held_lists + at) l a b (apart held_lists a b q ne)) j))

    -- an arc removed: the word of r's arcs
    module _ (w : ℕ) (same : (j : ℕ) → j ≢ s → has w j ≡ has (f (arc_bits + r)) j) (no-bit : has w s ≡ false) where
      abbrev c₁ : ℕ → ℕ
      c₁ = upd f (arc_bits + r) w

      gone : present n c₁ s r ≡ false
      gone = present_here n f (few xs) s r w same pair ∙ no-bit

      pub clear_arc : view (set xs (arc_bits + r) w) ≡ with_held (with_cost (view xs) s r 0) s r empty
      unfolding with_held with_cost view net_of frame_in
      clear_arc =
          gives_view (gives_set (arc_bits + r) w (gives_start xs size) (omega arith) (omega (arith, ends)))
          ∙ same_net _ _ refl
          (by_pair_lem (costs_in n f) (costs_in n c₁) s r 0 (at_none n c₁ s r _ 0 gone)
          (λ a b ne. at_same n c₁ f _ _ 0 a b (present_else n f (few xs) s r w same a b ne)
          (λ _. ap cost_of (other_place f arc_costs (arc_bits + r) w a b (λ e. omega (arith, ends))))))
          (row_away n f o (arc_bits + r) w (few xs) (omega arith))
          (by_pair_lem (held_in n f) (held_in n c₁) s r empty (at_none n c₁ s r _ empty gone)
          (λ a b ne. at_same n c₁ f _ _ empty a b (present_else n f (few xs) s r w same a b ne)
          (λ _. λ j. report_of (other_place f held_labels (arc_bits + r) w a b (λ e. omega (arith, ends)) j)
          (other_place f held_lists (arc_bits + r) w a b (λ e. omega (arith, ends)) j))))

    -- the two words of a report
    module _ (d l : ℕ) where
      abbrev k₁ : ℕ → ℕ
      k₁ = upd f (held_labels + at) d

      abbrev k₂ : ℕ → ℕ
      k₂ = upd k₁ (held_lists + at) l

      stored_report : Gives (set (set xs (held_labels + at) d) (held_lists + at) l) (frame_in (look xs)) k₂
      stored_report =
          gives_set (held_lists + at) l (gives_set (held_labels + at) d (gives_start xs size) (omega arith)
          (inside held_labels (omega arith))) (omega arith) (inside held_lists (omega arith))

      arcs_same : (a b : ℕ) → present n k₂ a b ≡ present n f a b
      arcs_same a b = present_away n k₁ (few xs) (held_lists + at) l a b (inr (omega arith)) ∙ present_away n f (few xs) (held_labels + at) d a b (inr (omega arith))

      costs_same : (a b : ℕ) → costs_in n k₂ a b ≡ costs_in n f a b
      costs_same a b =
          at_same n k₂ f _ _ 0 a b (arcs_same a b)
          (λ q. ap cost_of (other_place k₁ arc_costs (held_lists + at) l a b (before arc_costs held_lists a b q (omega arith))
          ∙ other_place f arc_costs (held_labels + at) d a b (before arc_costs held_labels a b q (omega arith))))

      rows_same : (y : ℕ) → node_row n k₂ o y ≡ node_row n f o y
      rows_same y = row_away n k₁ o (held_lists + at) l (few xs) (omega arith) y ∙ row_away n f o (held_labels + at) d (few xs) (omega arith) y

      reports_else : (a b : ℕ) → (a ≢ s) ⊎ (b ≢ r) → held_in n k₂ a b ≡ held_in n f a b
      reports_else a b ne =
          at_same n k₂ f _ _ empty a b (arcs_same a b)
          (λ q. λ j. report_of
          ((other_place k₁ held_labels (held_lists + at) l a b (before held_labels held_lists a b q (omega arith))
          ∙ other_place f held_labels (held_labels + at) d a b (apart held_labels a b q ne)) j)
          ((other_place k₁ held_lists (held_lists + at) l a b (apart held_lists a b q ne)
          ∙ other_place f held_lists (held_labels + at) d a b (after held_lists held_labels a b (omega arith))) j))

      pub store_report : Has xs s r ≡ true → view (set (set xs (held_labels + at) d) (held_lists + at) l) ≡ with_held (view xs) s r (report_of d l)
      unfolding with_held view net_of frame_in
      store_report arc =
          gives_view stored_report
          ∙ same_net _ _ refl costs_same rows_same
          (by_pair_lem (held_in n f) (held_in n k₂) s r (report_of d l)
          (at_arc_lem n k₂ s r _ empty (arcs_same s r ∙ arc)
          ∙ (λ j. report_of ((other_place k₁ held_labels (held_lists + at) l s r (λ e. omega arith) ∙ this_place f (held_labels + at) d) j)
          (this_place k₁ (held_lists + at) l j)))
          reports_else)

  module _ (y d p l : ℕ) (hy : y < n) where
    abbrev g₁ : ℕ → ℕ
    g₁ = upd f (row_labels + y) d

    abbrev g₂ : ℕ → ℕ
    g₂ = upd g₁ (row_predecessors + y) p

    abbrev g₃ : ℕ → ℕ
    g₃ = upd g₂ (row_lists + y) l

    small : y < 32
    small = omega (arith, few xs)

    -- the three words of a node
    labels : (a : ℕ) → word n g₃ row_labels a ≡ word n g₁ row_labels a
    labels a = word_away n g₂ row_labels (row_lists + y) l (few xs) (inr (omega arith)) a ∙ word_away n g₁ row_labels (row_predecessors + y) p
        (few xs) (inr (omega arith)) a

    predecessors : (a : ℕ) → word n g₃ row_predecessors a ≡ word n g₂ row_predecessors a
    predecessors a = word_away n g₂ row_predecessors (row_lists + y) l (few xs) (inr (omega arith)) a

    before_predecessors : (a : ℕ) → word n g₁ row_predecessors a ≡ word n f row_predecessors a
    before_predecessors a = word_away n f row_predecessors (row_labels + y) d (few xs) (inl (omega (arith, small))) a

    before_lists : (a : ℕ) → word n g₂ row_lists a ≡ word n f row_lists a
    before_lists a = word_away n g₁ row_lists (row_predecessors + y) p (few xs) (inl (omega (arith, small))) a ∙ word_away n f row_lists
        (row_labels + y) d (few xs) (inl (omega (arith, small))) a

    elsewhere : (a : ℕ) → a ≢ y → row_of (word n g₃ row_labels a) (word n g₃ row_predecessors a) (word n g₃ row_lists a) ≡ row_of
        (word n f row_labels a) (word n f row_predecessors a) (word n f row_lists a)
    elsewhere a ne =
        λ j. row_of ((labels a ∙ word_else n f row_labels d y a ne) j) ((predecessors a ∙ word_else n g₁ row_predecessors p y a ne ∙ before_predecessors a) j)
        ((word_else n g₂ row_lists l y a ne ∙ before_lists a) j)

    there : row_of (word n g₃ row_labels y) (word n g₃ row_predecessors y) (word n g₃ row_lists y) ≡ row_of d p l
    there =
        λ j. row_of ((labels y ∙ word_here n f row_labels d y hy) j)
        ((predecessors y ∙ word_here n g₁ row_predecessors p y hy) j) (word_here n g₂ row_lists l y hy j)

    -- a store to the rows leaves costs and reports
    costs_stay : (s r : ℕ) → costs_in n g₃ s r ≡ costs_in n f s r
    costs_stay s r =
        costs_kept n g₂ (few xs) (row_lists + y) l (omega (arith, small)) s r ∙ costs_kept n g₁ (few xs) (row_predecessors + y) p (omega (arith, small)) s r
        ∙ costs_kept n f (few xs) (row_labels + y) d (omega (arith, small)) s r

    held_stay : (s r : ℕ) → held_in n g₃ s r ≡ held_in n f s r
    held_stay s r =
        held_kept n g₂ (few xs) (row_lists + y) l (omega (arith, small)) s r ∙ held_kept n g₁ (few xs) (row_predecessors + y) p (omega (arith, small)) s r
        ∙ held_kept n f (few xs) (row_labels + y) d (omega (arith, small)) s r

    stored : Gives (set (set (set xs (row_labels + y) d) (row_predecessors + y) p) (row_lists + y) l) (frame_in (look xs)) g₃
    stored =
        gives_set (row_lists + y) l (gives_set (row_predecessors + y) p (gives_set (row_labels + y) d (gives_start xs size) (omega arith)
        (omega (arith, small))) (omega arith) (omega (arith, small)))
        (omega arith) (omega (arith, small))

    pub store_row : y ≢ o → view (set (set (set xs (row_labels + y) d) (row_predecessors + y) p) (row_lists + y) l) ≡ with_row (view xs) y (row_of d p l)
    unfolding with_row view net_of frame_in node_row
    store_row ne =
        gives_view stored
        ∙ same_net _ _ refl costs_stay
        (by_place (node_row n f o) (node_row n g₃ o) y (row_of d p l) (rw (ne_eqb y o ne) there)
        (λ a e. ap (λ w. cond (eqb a o) (root (own o)) w) (elsewhere a e)))
        held_stay

    -- the origin's words are not read
    pub store_origin : y ≡ o → view (set (set (set xs (row_labels + y) d) (row_predecessors + y) p) (row_lists + y) l) ≡ view xs
    unfolding view net_of frame_in node_row
    store_origin e =
        gives_view stored
        ∙ same_net _ _ refl costs_stay row held_stay
      where
        row : (a : ℕ) → node_row n g₃ o a ≡ node_row n f o a
        row a = go (eq_or_ne a o)
          where
            go : (a ≡ o) ⊎ (a ≢ o) → node_row n g₃ o a ≡ node_row n f o a
            go (inl q) = rw (eq-eqb a o q)
            go (inr q) = ap (λ w. cond (eqb a o) (root (own o)) w) (elsewhere a (λ k. q (k ∙ e)))

-- a pair without a fault
pub pair_found : (xs : List ℕ) (n s r : ℕ) → n ≡ (view xs).nodes → pair_fault_of n s r ≡ false → PairOf xs s r
pair_found xs n s r is e =
    let k = pair_says n s r e in
    record { free = ap (λ m. pair_fault_of m s r) (sym is) ∙ e; sender = omega (arith, few xs); receiver = omega (arith, few xs) }
