-- What a change leaves, from the words stored.
-- Assumes nothing.
use mathlib.Core.Path.{◌≡◌, sym, ap, ◌∙◌}
use mathlib.Core.Bool.{true, false, cond}
use mathlib.Core.List.{List}
use Prim.Native.Nat.{ℕ, ◌+◌, ◌*◌, ◌-◌, ◌<◌, ◌≤◌}
use native.Mathlib.Omega.{arith}
use lib.Dec.{eqb, ltb}
use lib.ListN.{length, set}
use borrow.Author.Tests.{lt-ltb, ne_eqb, ltb-true}
use Rattle.ancestors.specs.Ancestors.{has, put, cut}
use Rattle.ancestors.proofs.Laws.{has_put_same, has_put_other}
use Rattle.ancestors.proofs.Sets.{has_cut_same, has_cut_other}
use Rattle.network.specs.Faults.{max_cost}
use Rattle.network.specs.Network.{empty, with_cost, with_held}
use Rattle.std.proofs.lemmas.List.{set-get_or}
use Rattle.network.specs.Change.{changed}
use Rattle.network.specs.Words.{report_of, cost_of}
use Rattle.memory.specs.Layout.{word_count, look, view, arc_bits, arc_costs, held_labels, held_lists}
use Rattle.memory.specs.Inner.{PairOf}
use Rattle.memory.proofs.Store.{Has, present_in, arc_is, read_held, cost_none, store_arc, clear_arc}

-- a cost stored less one
cost_less_one : (c : ℕ) → 0 < c → c ≤ max_cost → cost_of (c - 1) ≡ c
unfolding cost_of
cost_less_one c a b = omega arith

module _ (xs : List ℕ) (size : length xs ≡ word_count) (s r : ℕ) (pair : PairOf xs s r) where
  abbrev at : ℕ
  at = r * 32 + s

  abbrev word : ℕ
  word = look xs (arc_bits + r)

  -- its bit is cleared
  pub removed_words : (w : ℕ) → w ≡ cond (ltb s 32) (cut word s) word → view (set xs (arc_bits + r) w) ≡ changed (view xs) s r 0
  unfolding changed
  removed_words w e =
      let q : w ≡ cut word s = e ∙ rw (lt-ltb s 32 pair.sender) in
      clear_arc xs size s r pair.free w (λ j d. ap (λ v. has v j) q ∙ has_cut_other word s j (λ k. d (sym k))) (ap (λ v. has v s) q ∙ has_cut_same word s)

  -- its bit is set and the cost stored
  module _ (c w : ℕ) (a : 0 < c) (b : c ≤ max_cost) (e : w ≡ cond (ltb s 32) (put word s) word) where
    here : Has xs s r ≡ has word s
    here = present_in (view xs).nodes (look xs) s r pair.free

    stored : (l : ℕ) → report_of (look xs (held_labels + at)) l ≡ cond (eqb ((view xs).cost s r) 0) empty ((view xs).held s r)
        → view (set (set (set xs (held_lists + at) l) (arc_bits + r) w) (arc_costs + at) (c - 1)) ≡ changed (view xs) s r c
    unfolding changed
    stored l held =
        let q : w ≡ put word s = e ∙ rw (lt-ltb s 32 pair.sender) in
        store_arc xs size s r pair.free w (c - 1) l (λ j d. ap (λ v. has v j) q ∙ has_put_other word s j (λ k. d (sym k))) (ap (λ v. has v s) q ∙ has_put_same word s)
        ∙ rw (cost_less_one c a b, ne_eqb c 0 (λ z. omega arith)) (ap (with_held (with_cost (view xs) s r c) s r) held)

    -- a new arc starts empty
    pub new_arc : has word s ≡ false → view (set (set (set xs (held_lists + at) 0) (arc_bits + r) w) (arc_costs + at) (c - 1)) ≡ changed (view xs) s r c
    unfolding report_of
    new_arc t = stored 0 (rw (cost_none xs s r (here ∙ t)))

    -- an arc that is there keeps its report
    pub kept_arc : has word s ≡ true → view (set (set xs (arc_bits + r) w) (arc_costs + at) (c - 1)) ≡ changed (view xs) s r c
    kept_arc t =
        let some : 0 < (view xs).cost s r = ltb-true 0 ((view xs).cost s r) (sym (arc_is xs s r) ∙ here ∙ t) in
        rw (set-get_or xs (held_lists + at) 0) at (stored (look xs (held_lists + at)) (rw (ne_eqb ((view xs).cost s r) 0 (λ z. omega arith)) (read_held xs s r (here ∙ t))))
