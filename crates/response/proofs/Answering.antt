-- What the calls answer: 13 and 3 for what is given, then 6 or 14, else the messages or the metrics.
-- Assumes nothing.
use mathlib.Core.Path.{◌≡◌, refl, sym, ap, ◌∙◌}
use mathlib.Core.Bool.{true, false}
use mathlib.Core.List.{List, [], ◌++◌}
use mathlib.Core.Logic.{◌≢◌}
use Prim.Native.Nat.{ℕ, ◌%◌, ◌<◌, ◌≤◌}
use native.Mathlib.Omega.{arith}
use lib.ListN.{length, drop}
use Rattle.std.specs.Prelude.{Ok, Err}
use Rattle.std.proofs.lemmas.Bool.Decides.{nat_tests}
use Rattle.network.specs.Faults.{max_nodes}
use Rattle.network.specs.Network.{Net}
use Rattle.network.specs.Writing.{writing, Writes}
use Rattle.network.specs.Answered.{fault_number}
use Rattle.network.specs.declared.Fault.{Fault}
use Rattle.network.specs.declared.Fault.TheVariants as F
use Rattle.network.proofs.Answered.{fault_some}
use Rattle.filling.specs.Filling.{Wrote}
use Rattle.response.specs.Messages.{messages_length_of, base_fault, count_fault, given_then, row_messages, write_number, write_of}
use Rattle.response.specs.Reading.{buffer_fault, buffer_metrics, read_number, reading, read_of}
use Rattle.response.proofs.Sizes.{messages_size}

-- ---- what is given

pub base_says : (base : ℕ) → base_fault base ≡ false → base % 256 ≡ 0
unfolding base_fault
base_says base h = grind (arith, nat_tests)

pub count_free : (n : ℕ) → 1 ≤ n → n ≤ max_nodes → count_fault n ≡ false
unfolding count_fault
count_free n a b = grind (arith, nat_tests)

pub count_says : (n : ℕ) → count_fault n ≡ false → (1 ≤ n) × (n ≤ max_nodes)
unfolding count_fault
count_says n e = (grind (arith, nat_tests), grind (arith, nat_tests))

module _ (base n : ℕ) where
  pub given_right : (k : ℕ) → base_fault base ≡ false → count_fault n ≡ false → given_then base n k ≡ k
  unfolding given_then
  given_right k h g = rw (h, g)

  -- where 0 is answered neither applies
  pub given_says : (k : ℕ) → given_then base n k ≡ 0 → (base_fault base ≡ false) × (count_fault n ≡ false)
  unfolding given_then
  given_says k e = (grind (arith, nat_tests), grind (arith, nat_tests))

-- ---- writing

module _ (base : ℕ) (x : Net) (out : List ℕ) where
  pub rows_size : length (row_messages base x) ≡ messages_length_of x.nodes
  unfolding row_messages
  rows_size = messages_size x.nodes base _

  pub number_of : (write_of base x out).number ≡ write_number base x (length out)
  unfolding write_of writing
  number_of = grind (arith, nat_tests)

  -- 13 or 3
  pub number_given : given_then base x.nodes 0 ≢ 0 → write_number base x (length out) ≡ given_then base x.nodes 0
  unfolding write_number given_then
  number_given h = grind (arith, nat_tests)

  refused_with : (f : Fault) → write_number base x (length out) ≡ fault_number f → Writes (write_of base x out) (Err f) out
  unfolding write_of writing
  refused_with f e =
      let n = fault_some f in
      record { number = grind (arith, nat_tests); used = grind (arith, nat_tests); output = grind (arith, nat_tests) }

  pub write_given : (f : Fault) → fault_number f ≡ given_then base x.nodes 0 → Writes (write_of base x out) (Err f) out
  write_given f e = refused_with f (number_given (λ z. fault_some f (e ∙ z)) ∙ sym e)

  -- where 0 is answered neither applies
  pub write_says : write_number base x (length out) ≡ 0 → (base_fault base ≡ false) × (count_fault x.nodes ≡ false)
  unfolding write_number
  write_says e = given_says base x.nodes _ e

  module _ (given : given_then base x.nodes 0 ≡ 0) where
    -- 6
    pub write_short : length out < messages_length_of x.nodes → Writes (write_of base x out) (Err F.Room) out
    unfolding write_number given_then
    write_short h = refused_with F.Room (let e = rows_size in grind (arith, nat_tests))

    pub number_fits : messages_length_of x.nodes ≤ length out → write_number base x (length out) ≡ 0
    unfolding write_number given_then
    number_fits h = let e = rows_size in grind (arith, nat_tests)

    -- accepted
    pub write_fits : {r : ℕ} {exit : List ℕ} → messages_length_of x.nodes ≤ length out → Wrote (row_messages base x) out exit r
        → Writes (write_of base x out) (Ok r) exit
    unfolding write_of writing
    write_fits h w =
        rw (number_fits h) (record { number = refl; used = w.used; output = w.left ∙ ap (λ (k : ℕ). row_messages base x ++ drop k out) w.used })

-- ---- reading

module _ (base n : ℕ) (b : List ℕ) where
  -- 13 or 3
  pub read_given : (k : ℕ) → k ≡ given_then base n 0 → k ≢ 0 → read_of base n b ≡ record { number = k; metrics = [] }
  unfolding read_of reading read_number given_then
  read_given k e h = grind (arith, nat_tests)

  -- 14
  pub read_wrong : given_then base n 0 ≡ 0 → buffer_fault base n b ≡ true → read_of base n b ≡ record { number = 14; metrics = [] }
  unfolding read_of reading read_number given_then
  read_wrong g h = grind (arith, nat_tests)

  -- accepted
  pub read_right : given_then base n 0 ≡ 0 → buffer_fault base n b ≡ false → read_of base n b ≡ record { number = 0; metrics = buffer_metrics n b }
  unfolding read_of reading read_number given_then
  read_right g h = grind (arith, nat_tests)

  -- what an accepted call says
  pub read_says : {ms : List ℕ} → read_of base n b ≡ record { number = 0; metrics = ms }
      → (base_fault base ≡ false) × (count_fault n ≡ false) × (buffer_fault base n b ≡ false) × (buffer_metrics n b ≡ ms)
  unfolding read_of reading read_number given_then
  read_says e = (grind (arith, nat_tests), grind (arith, nat_tests), grind (arith, nat_tests), grind (arith, nat_tests))

  -- a wrong length is 14
  pub wrong_length : length b ≢ messages_length_of n → buffer_fault base n b ≡ true
  unfolding buffer_fault
  wrong_length h = grind (arith, nat_tests)
