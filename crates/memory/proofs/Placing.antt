-- Rows and reports placed: a call is refused, or what is placed has the form that its words give.
-- Assumes nothing.
use mathlib.Core.Path.{◌≡◌, sym, subst, ◌∙◌}
use mathlib.Core.Bool.{true}
use mathlib.Core.Logic.{◌≢◌}
use mathlib.Core.List.{List}
use Prim.Native.Nat.{ℕ, ◌+◌, ◌*◌, ◌<◌, ◌≤◌}
use native.Mathlib.Omega.{arith}
use lib.ListN.{length, set}
use borrow.Author.Tests.{lt-ltb, ne_eqb}
use Rattle.ancestors.specs.Ancestors.{has}
use Rattle.ancestors.proofs.Cases.{never, cond_by}
use Rattle.ancestors.proofs.Laws.{has_empty}
use Rattle.network.specs.Faults.{pair_fault_of}
use Rattle.network.specs.Network.{via, told, Net, with_row, with_held, outcome}
use Rattle.network.specs.Placing.{place_row_number, place_row_of, place_report_number, place_report_of}
use Rattle.network.specs.Words.{report_of}
use Rattle.network.proofs.Accepting.{place_row_accepted, place_report_accepted}
use Rattle.network.proofs.FaultLaws.{node_bad, node_says, pair_says, row_says, report_says}
use Rattle.memory.specs.Layout.{word_count, view, row_of, held_labels, held_lists, row_labels, row_predecessors, row_lists}
use Rattle.memory.specs.Answers.{Leaves}
use Rattle.std.specs.Prelude.{Result}
use Rattle.std.specs.Result.{IsErrAnd}
use Rattle.network.specs.Answered.{fault_number, answered}
use Rattle.network.specs.declared.Fault.{Fault}
use Rattle.network.proofs.Answered.{fault_some, answered_err}
use Rattle.memory.proofs.Laws.{few, leaves_refused, leaves_accepted}
use Rattle.memory.proofs.Store.{arc_is, store_report, store_row}

-- a list with a node is not 0
listed_some : (l i : ℕ) → has l i ≡ true → l ≢ 0
listed_some l i h e = never (has 0 i) (subst (λ k. has k i ≡ true) e h) (has_empty i)

-- a refusal passed on leaves the words
pub leaves_err : {A : Type 0} (q : Result A Fault) (f : Fault) (number : ℕ) (next : Net) (xs : List ℕ) → IsErrAnd q (λ g. g ≡ f) → fault_number f ≡ number
    → Leaves (outcome number next (view xs)) (answered q) xs xs
leaves_err q f number next xs e h = rw (answered_err q f e) (leaves_refused (fault_number f) number next xs h (fault_some f))

-- ---- a row

module _ (xs : List ℕ) (y d p l : ℕ) where
  -- a node not below 32 is refused
  pub row_beyond : 32 ≤ y → 0 < place_row_number (view xs) y d p l
  unfolding place_row_number
  row_beyond h = rw (node_bad (view xs).nodes y (omega (arith, few xs))) (omega arith)

  -- a row is placed at a node that is not the origin
  pub placed_row : place_row_number (view xs) y d p l ≡ 0 → length xs ≡ word_count
      → Leaves (place_row_of (view xs) y d p l) 0 xs (set (set (set xs (row_labels + y) d) (row_predecessors + y) p) (row_lists + y) l)
  unfolding place_row_of row_of
  placed_row e size =
      let t = place_row_accepted (view xs) y d p l e in
      let f = row_says (view xs).nodes (view xs).origin y d p l t.1 in
      leaves_accepted _ (with_row (view xs) y (via d p l)) xs _ (sym e)
      (store_row xs size y d p l (node_says (view xs).nodes y t.0) f.relay ∙ rw (ne_eqb l 0 (listed_some l y f.own)))

-- ---- a report

module _ (xs : List ℕ) (s r d l : ℕ) where
  -- a place beyond those of pairs is refused
  pub report_beyond : 1024 ≤ r * 32 + s → 0 < place_report_number (view xs) s r d l
  unfolding place_report_number
  report_beyond h = cond_by (λ k. 0 < k) (pair_fault_of (view xs).nodes s r) 3 _ (λ _. omega arith) (λ e. let p = pair_says (view xs).nodes s r e in absurd (omega (arith, few xs)))

  -- a report is placed at an arc
  pub placed_report : place_report_number (view xs) s r d l ≡ 0 → length xs ≡ word_count
      → Leaves (place_report_of (view xs) s r d l) 0 xs (set (set xs (held_labels + (r * 32 + s)) d) (held_lists + (r * 32 + s)) l)
  unfolding place_report_of report_of
  placed_report e size =
      let t = place_report_accepted (view xs) s r d l e in
      let f = report_says (view xs).nodes ((view xs).cost s r) s d l t.1 in
      leaves_accepted _ (with_held (view xs) s r (told d l)) xs _ (sym e)
      (store_report xs size s r t.0 d l (arc_is xs s r ∙ lt-ltb 0 ((view xs).cost s r) f.arc) ∙ rw (ne_eqb l 0 (listed_some l s f.own)))
