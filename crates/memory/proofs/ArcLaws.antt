-- What crates above may cite of arcs in words: the word of a receiver's arcs says which arcs are present, and the words of an arc what cost it has and
-- what report it holds.
-- Assumes nothing.
use mathlib.Core.Path.{◌≡◌, refl, sym, ap, ◌∙◌}
use mathlib.Core.Bool.{Bool, true, false, not, ◌&&◌}
use mathlib.Core.Logic.{◌⊎◌, inl, inr}
use mathlib.Core.List.{List}
use Prim.Native.Nat.{ℕ, ◌+◌, ◌*◌, ◌<◌, ◌≤◌}
use native.Mathlib.Omega.{arith}
use lib.Bits.{bit_and, and_le_r}
use Rattle.ancestors.specs.Ancestors.{has, those}
use Rattle.ancestors.proofs.Sets.{has_and, those_has, those_ext}
use Rattle.ancestors.proofs.Cases.{le_or_lt}
use Rattle.ancestors.proofs.Laws.{has_beyond}
use Rattle.network.specs.Faults.{max_nodes, pair_fault_of}
use Rattle.network.specs.Network.{empty}
use Rattle.network.specs.Round.{every_arc}
use Rattle.network.specs.Arcs.{arcs_to, senders}
use Rattle.network.specs.Words.{report_of, cost_of}
use Rattle.network.proofs.Arcs.{arcs_exact, arcs_fit, senders_has, senders_fit}
use Rattle.network.proofs.FaultLaws.{pair_says}
use borrow.Author.Tests.{lt-ltb}
use Rattle.memory.specs.Layout.{present, look, view, arc_bits, pair_word_of, cost_word_of, held_label_word_of, held_list_word_of, arc_costs, held_labels, held_lists}
use Rattle.memory.proofs.Laws.{few}
use Rattle.memory.proofs.Store.{Has, present_pair, read_cost_lem, read_held, cost_none, held_none, arc_is, arc_beyond}

pair_word_in : (xs : List ℕ) (b s r : ℕ) → s < max_nodes → r < max_nodes → look xs (b + (r * 32 + s)) ≡ pair_word_of xs b s r
unfolding pair_word_of
pair_word_in xs b s r h k = rw (lt-ltb s max_nodes h, lt-ltb r max_nodes k)

module _ (xs : List ℕ) (s r : ℕ) where
  -- bit s of the word of r's arcs
  pub arc_bit : has (arcs_to (view xs) r) s ≡ Has xs s r
  unfolding every_arc
  arc_bit = go (le_or_lt max_nodes s)
    where
      go : (max_nodes ≤ s) ⊎ (s < max_nodes) → has (arcs_to (view xs) r) s ≡ Has xs s r
      go (inl h) = has_beyond max_nodes (arcs_to (view xs) r) s (arcs_fit (view xs) r) h ∙ sym (arc_beyond xs s r (inl (omega (arith, few xs))))
      go (inr h) = arcs_exact (view xs) r s h ∙ sym (arc_is xs s r)

  -- where it is 1: the arc joins two nodes, and its words give its cost and its report
  module _ (e : has (arcs_to (view xs) r) s ≡ true) where
    here : Has xs s r ≡ true
    here = sym arc_bit ∙ e

    pub arc_pair : pair_fault_of (view xs).nodes s r ≡ false
    arc_pair = present_pair (view xs).nodes (look xs) s r here

    word_is : (b : ℕ) → pair_word_of xs b s r ≡ look xs (b + (r * 32 + s))
    word_is b = let p = pair_says (view xs).nodes s r arc_pair in sym (pair_word_in xs b s r (omega (arith, few xs)) (omega (arith, few xs)))

    pub arc_cost : cost_word_of xs s r ≡ (view xs).cost s r
    arc_cost = (λ j. cost_of (word_is arc_costs j)) ∙ read_cost_lem xs s r here

    pub arc_held : report_of (held_label_word_of xs s r) (held_list_word_of xs s r) ≡ (view xs).held s r
    arc_held = (λ j. report_of (word_is held_labels j) (word_is held_lists j)) ∙ read_held xs s r here

  -- where it is 0: no cost, and no report
  module _ (e : has (arcs_to (view xs) r) s ≡ false) where
    pub no_cost : (view xs).cost s r ≡ 0
    no_cost = cost_none xs s r (sym arc_bit ∙ e)

    pub no_report : (view xs).held s r ≡ empty
    no_report = held_none xs s r (sym arc_bit ∙ e)

-- a receiver that is no node has no arcs
pub arcs_none : (xs : List ℕ) (r : ℕ) → (view xs).nodes ≤ r → arcs_to (view xs) r ≡ 0
unfolding arcs_to those every_arc
arcs_none xs r h = those_ext (λ s. every_arc (view xs) s r) (λ s. false) max_nodes (λ s _. sym (arc_is xs s r) ∙ arc_beyond xs s r (inr h))

-- ---- the stored word

both_ways : (a b : Bool) → (a && b) ≡ (b && a)
both_ways true true = refl
both_ways true false = refl
both_ways false true = refl
both_ways false false = refl

-- the bits in range of the stored word are the arcs
pub arcs_word : (xs : List ℕ) (n r : ℕ) → n ≡ (view xs).nodes → bit_and (look xs (arc_bits + r)) (senders n r) ≡ arcs_to (view xs) r
unfolding arcs_to every_arc present
arcs_word xs n r is =
    those_has 32 (bit_and w (senders n r)) (omega (arith, and_le_r w (senders n r), senders_fit n r))
    ∙ those_ext (has (bit_and w (senders n r))) _ 32
    (λ s h. has_and w (senders n r) s ∙ ap (◌&&◌ (has w s)) (senders_has n r s h ∙ ap (λ k. not (pair_fault_of k s r)) is)
    ∙ both_ways (has w s) (not (pair_fault_of (view xs).nodes s r)) ∙ arc_is xs s r)
  where
    w : ℕ
    w = look xs (arc_bits + r)
