-- Marks tested and heard a word at a time are the marks of the definition.
-- Assumes nothing.
use mathlib.Core.Path.{◌≡◌, refl, sym, ap, ap₂, ◌∙◌}
use mathlib.Core.Bool.{Bool, true, false, not, ◌&&◌, ◌||◌}
use mathlib.Core.Logic.{◌⊎◌, inl, inr}
use mathlib.Core.List.{List}
use Prim.Native.Nat.{ℕ, ◌+◌, ◌^◌, ◌<◌}
use native.Mathlib.Numerals.{add-one}
use native.Mathlib.Omega.{arith}
use lib.Bits.{bit_and}
use Rattle.std.proofs.lemmas.Nat.{and_comm, and_mask}
use Rattle.std.proofs.lemmas.List.{get_or-replicate}
use Rattle.std.proofs.Math.Nat.{mod-eq_of_lt}
use lib.Dec.{eqb}
use lib.ListN.{length, get_or, replicate}
use borrow.Author.Tests.{lt-ltb, eqb-false}
use Rattle.ancestors.specs.Ancestors.{has, inside}
use Rattle.ancestors.proofs.Cases.{bool_cases, never}
use Rattle.network.specs.Faults.{pair_fault_of}
use Rattle.network.specs.Round.{marked, some, stray_mark, idle_mark, every_arc}
use Rattle.network.specs.Network.{Net}
use Rattle.network.specs.Arcs.{senders}
use Rattle.network.proofs.Arcs.{arcs_exact, outside_some, stray_bit, some_cost, senders_fit}
use Rattle.network.proofs.Marking.{some_ext, some_none, marked_fails}
use Rattle.memory.specs.Layout.{word_count, look, view, arc_bits}
use Rattle.memory.proofs.ArcLaws.{arcs_word}
use Rattle.memory.proofs.Store.{present_out, arc_is}
use Rattle.routing.proofs.Renewing.{part, part_at}
use Rattle.routing.specs.Inner.{outside, stray_rows, idle_rows, outside_rows}

-- ---- refusals

mark_is : (ms : List ℕ) (s r : ℕ) → s < 32 → r < 32 → has (get_or ms r 0) s ≡ marked ms s r
unfolding marked
mark_is ms s r h k = rw (lt-ltb s 32 h, lt-ltb r 32 k)

pub stray_agrees : (n : ℕ) (ms : List ℕ) → stray_rows n ms 32 ≡ stray_mark n (marked ms)
unfolding stray_rows outside stray_mark
stray_agrees n ms = some_ext _ _ 32 (λ r k. some_ext _ _ 32 (λ s h. ap₂ ◌&&◌ (mark_is ms s r h k) (stray_bit n r s h)))

pub idle_agrees : (x : Net) (ms : List ℕ) → idle_rows x ms 32 ≡ idle_mark x.cost (marked ms)
unfolding idle_rows outside idle_mark every_arc
idle_agrees x ms =
    some_ext _ _ 32 (λ r k. some_ext _ _ 32 (λ s h. ap₂ ◌&&◌ (mark_is ms s r h k) (ap not (arcs_exact x r s h) ∙ some_cost (x.cost s r))))

-- ---- marks on arcs

module _ (xs ms : List ℕ) (e : idle_mark (view xs).cost (marked ms) ≡ false) where
  -- no mark is without an arc
  pub on_arc : (s r : ℕ) → marked ms s r ≡ true → every_arc (view xs) s r ≡ true
  unfolding idle_mark every_arc
  on_arc s r m =
      let k = eqb-false ((view xs).cost s r) 0 (marked_fails ms (λ s r. eqb ((view xs).cost s r) 0) e s r m) in
      lt-ltb 0 ((view xs).cost s r) (omega (arith, k))

  -- and so none is out of range
  pub none_stray : stray_mark (view xs).nodes (marked ms) ≡ false
  unfolding stray_mark every_arc
  none_stray = some_none _ 32 (λ r k. some_none _ 32 (λ s h. go s r (bool_cases (marked ms s r)) (bool_cases (pair_fault_of (view xs).nodes s r))))
    where
      go : (s r : ℕ) → (marked ms s r ≡ true) ⊎ (marked ms s r ≡ false) → (pair_fault_of (view xs).nodes s r ≡ true) ⊎ (pair_fault_of (view xs).nodes s r ≡ false)
          → (marked ms s r && pair_fault_of (view xs).nodes s r) ≡ false
      go s r (inr m) f = rw m
      go s r (inl m) (inr f) = rw (m, f)
      go s r (inl m) (inl f) = never _ (on_arc s r m) (sym (arc_is xs s r) ∙ present_out (view xs).nodes (look xs) s r f)

-- ---- marks tested against words, receiver by receiver

pub outside_none : (n : ℕ) (ms ws : List ℕ) → outside_rows n ms ws 0 ≡ false
unfolding outside_rows some
outside_none n ms ws = refl

pub outside_next : (n : ℕ) (ms ws : List ℕ) (k : ℕ) → get_or ms k 0 < 2 ^ 32
    → outside_rows n ms ws (k + 1) ≡ (outside_rows n ms ws k || not (inside (get_or ms k 0) (bit_and (get_or ws k 0) (senders n k))))
unfolding outside_rows outside some
outside_next n ms ws k fits = rw (add-one, outside_some (get_or ms k 0) (bit_and (get_or ws k 0) (senders n k)) fits)

-- against words of ones
pub stray_words : (n : ℕ) (ms : List ℕ) → outside_rows n ms (replicate 32 4294967295) 32 ≡ stray_rows n ms 32
unfolding outside_rows stray_rows
stray_words n ms =
    some_ext _ _ 32
    (λ r k. ap (outside (get_or ms r 0)) (ap (λ v. bit_and v (senders n r)) (get_or-replicate 32 r 4294967295 0 k) ∙ and_comm 4294967295 (senders n r)
    ∙ and_mask (senders n r) 32 ∙ mod-eq_of_lt (senders_fit n r)))

-- against the stored words of arcs
pub idle_words : (xs : List ℕ) (n : ℕ) (ms : List ℕ) → length xs ≡ word_count → n ≡ (view xs).nodes
    → outside_rows n ms (part xs arc_bits 32) 32 ≡ idle_rows (view xs) ms 32
unfolding outside_rows idle_rows
idle_words xs n ms size is =
    some_ext _ _ 32 (λ r k. ap (outside (get_or ms r 0)) (ap (λ v. bit_and v (senders n r)) (part_at xs arc_bits 32 (omega arith) r k) ∙ arcs_word xs n r is))

-- so that none of them is without an arc where no mark is outside
pub idle_free : (xs : List ℕ) (n : ℕ) (ms : List ℕ) → length xs ≡ word_count → n ≡ (view xs).nodes → {found : Bool} → found ≡ outside_rows n ms (part xs arc_bits 32) 32
    → found ≡ false → idle_rows (view xs) ms 32 ≡ false
idle_free xs n ms size is tested none = sym (idle_words xs n ms size is) ∙ sym tested ∙ none
