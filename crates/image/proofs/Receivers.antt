-- The bytes of an image by receiver, counted in words, and at most how many they are.
-- Assumes nothing.
use mathlib.Core.Path.{◌≡◌, refl, sym, ap, ap₂, ◌∙◌}
use mathlib.Core.List.{List}
use Prim.Native.Nat.{ℕ, ◌+◌, ◌*◌, ◌<◌, ◌≤◌}
use native.Mathlib.Omega.{arith}
use lib.ListN.{length, get_or}
use mathlib.Core.Bool.{Bool, true, false, not, ◌&&◌}
use mir.Val.{bool_byte}
use lib.Dec.{eqb}
use Rattle.ancestors.specs.Ancestors.{has, one, count}
use Rattle.ancestors.proofs.Counting.{count_le}
use Rattle.network.specs.Faults.{max_nodes}
use Rattle.network.specs.Network.{Net}
use Rattle.network.specs.Arcs.{arcs_to, arc_words_of}
use Rattle.memory.specs.Layout.{view, held_list_word_of}
use Rattle.records.specs.Records.{body_length, record_length}
use Rattle.image.specs.Lines.{arc_at, row_at, report_at, all_arcs}
use Rattle.image.specs.Measured.{sum, holds, receiver_bytes}
use Rattle.image.proofs.Sums.{sum_same, sum_most, sum_count, count_next}
use Rattle.image.proofs.Lengths.{arc_at_most, row_at_most, report_at_most}
use Rattle.memory.proofs.Laws.{few}
use Rattle.image.proofs.Reading.{word_of, arc_counts, report_counts}
use Rattle.image.proofs.Parting.{arcs_long}

-- a test as the code counts it
one_byte : (b : Bool) → bool_byte b ≡ one b
one_byte true = refl
one_byte false = refl

-- the reports held, counted sender by sender
module _ (xs : List ℕ) (arcs r : ℕ) where
  -- a sender that has no arc is passed
  pub held_none : (s : ℕ) {total : ℕ} → has arcs s ≡ false → total ≡ count (holds xs arcs r) s → total ≡ count (holds xs arcs r) (s + 1)
  unfolding holds
  held_none s e h = let here : one (holds xs arcs r s) ≡ 0 = rw e refl in omega (arith, h, here, count_next (holds xs arcs r) s)

  -- or one, by what its report's list is
  module _ (s : ℕ) {total k : ℕ} {arc hit : Bool} (bit : arc ≡ has arcs s) (word : hit ≡ not (eqb (held_list_word_of xs s r) 0)) (counted : k ≡ bool_byte (arc && hit))
      (sofar : total ≡ count (holds xs arcs r) s) where
    pub held_next : total + k ≡ count (holds xs arcs r) (s + 1)
    unfolding holds
    held_next =
        let here : k ≡ one (holds xs arcs r s) = rw (← bit, ← word) (counted ∙ one_byte (arc && hit)) in
        omega (arith, sofar, here, count_next (holds xs arcs r) s)

    pub held_most : s < max_nodes → total + k ≤ max_nodes
    held_most below = omega (arith, held_next, count_le (holds xs arcs r) (s + 1))

-- the bytes of the arcs to r, counted
abbrev pub arcs_counted : List ℕ → ℕ → ℕ
arcs_counted xs r = count (has (arcs_to (view xs) r)) max_nodes * record_length 2

pub arcs_counted_most : (xs : List ℕ) (r : ℕ) → arcs_counted xs r ≤ max_nodes * record_length 2
unfolding body_length
arcs_counted_most xs r = omega (arith, count_le (has (arcs_to (view xs) r)) max_nodes)

-- as they are counted in r's word
pub arcs_in_word : (xs words : List ℕ) (r k : ℕ) → words ≡ arc_words_of (view xs) → r < (view xs).nodes → k ≡ count (has (get_or words r 0)) max_nodes * record_length 2
    → k ≡ arcs_counted xs r
arcs_in_word xs words r k e h counted = counted ∙ ap (λ w. count (has w) max_nodes * record_length 2) (word_of xs words r e h)

-- and by sender
arcs_summed : (xs : List ℕ) (r : ℕ) → sum (λ s. length (arc_at (view xs) s r)) max_nodes ≡ arcs_counted xs r
arcs_summed xs r = sum_count (λ s. length (arc_at (view xs) s r)) (has (arcs_to (view xs) r)) (record_length 2) max_nodes (λ s. arc_counts xs s r)

-- those of all arcs
pub arcs_all : (xs : List ℕ) → sum (arcs_counted xs) (view xs).nodes ≡ length (all_arcs (view xs))
arcs_all xs =
    sum_same (arcs_counted xs) (λ r. sum (λ s. length (arc_at (view xs) s r)) max_nodes) (view xs).nodes (λ r. sym (arcs_summed xs r)) ∙ sym (arcs_long (view xs) (few xs))

-- by the arcs in the receiver's word, and by those among them that hold a report
pub receiver_counts : (xs : List ℕ) (r : ℕ) → receiver_bytes (view xs) r ≡ length (row_at (view xs) r) +
    (arcs_counted xs r + count (holds xs (arcs_to (view xs) r) r) max_nodes * record_length 4)
unfolding receiver_bytes
receiver_counts xs r =
    ap₂ (λ (a b : ℕ). length (row_at (view xs) r) + (a + b))
    (arcs_summed xs r)
    (sum_count (λ s. length (report_at (view xs) s r)) (holds xs (arcs_to (view xs) r) r) (record_length 4) max_nodes (λ s. report_counts xs s r))

-- a row, and an arc and a report from each of 32 nodes
abbrev pub most_receiver : ℕ
most_receiver = record_length 3 + max_nodes * (record_length 2 + record_length 4)

pub receiver_most : (x : Net) (r : ℕ) → receiver_bytes x r ≤ most_receiver
unfolding receiver_bytes body_length
receiver_most x r =
    let a = sum_most (λ s. length (arc_at x s r)) (record_length 2) max_nodes (λ s. arc_at_most x s r) in
    let b = sum_most (λ s. length (report_at x s r)) (record_length 4) max_nodes (λ s. report_at_most x s r) in
    omega (arith, a, b, row_at_most x r)
