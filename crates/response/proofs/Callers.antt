-- What a caller knows: the messages written, how many metrics are read, and an input that is too long.
-- Assumes nothing.
use mathlib.Core.Path.{◌≡◌, refl, sym, ap, ◌∙◌}
use mathlib.Core.Bool.{true, false}
use mathlib.Core.List.{List, [], ◌++◌}
use mathlib.Core.Logic.{◌⊎◌, inl, inr, ◌≢◌}
use Prim.Native.Nat.{ℕ, ◌<◌, ◌≤◌}
use native.Mathlib.Omega.{arith}
use lib.ListN.{length, drop}
use Rattle.std.specs.Prelude.{Result}
use Rattle.std.specs.Result.{result_unwrap_or}
use Rattle.ancestors.proofs.Cases.{bool_cases, eq_or_ne}
use Rattle.network.specs.Faults.{max_nodes}
use Rattle.network.specs.Network.{Net}
use Rattle.network.specs.Writing.{Writes, writing}
use Rattle.network.specs.declared.Fault.{Fault}
use Rattle.network.proofs.Effects.{writing_accepted}
use Rattle.filling.specs.Filling.{Wrote}
use Rattle.response.specs.Messages.{max_messages, base_fault, count_fault, given_then, row_messages, write_number, write_of}
use Rattle.response.specs.Reading.{buffer_fault, Reading, read_of}
use Rattle.response.proofs.Pieces.{ones_size}
use Rattle.response.proofs.Sizes.{messages_most}
use Rattle.response.proofs.Buffers.{node_metric, metrics_by_node}
use Rattle.response.proofs.Answering.{count_says, given_says, given_right, number_of, read_given, read_wrong, read_right, wrong_length}
use Rattle.response.proofs.RoundTrip.{room_enough}

-- base and n are right and there is room for the most: the messages stand at the front of the output
module _ (base : ℕ) (x : Net) (out : List ℕ) {r : Result ℕ Fault} {exit : List ℕ} (writes : Writes (write_of base x out) r exit)
    (base_right : base_fault base ≡ false) (count_right : count_fault x.nodes ≡ false) (room : max_messages ≤ length out) where
  number_zero : write_number base x (length out) ≡ 0
  number_zero = sym (number_of base x out) ∙ room_enough base x out room ∙ given_right base x.nodes 0 base_right count_right

  pub wrote_messages : Wrote (row_messages base x) out exit (result_unwrap_or r 0)
  unfolding write_of
  wrote_messages =
      let a = ap (λ (j : ℕ). writing j (row_messages base x) out) number_zero ∙ writing_accepted (row_messages base x) out in
      let u : result_unwrap_or r 0 ≡ length (row_messages base x) = writes.used ∙ ap (λ w. w.used) a in
      record {
        used = u;
        left = writes.output ∙ ap (λ w. w.output) a ∙ ap (λ (j : ℕ). row_messages base x ++ drop j out) (sym u);
      }

-- there are not more metrics than nodes
pub read_few : (base n : ℕ) (b : List ℕ) → length (read_of base n b).metrics ≤ max_nodes
read_few base n b = go (eq_or_ne (given_then base n 0) 0) (bool_cases (buffer_fault base n b))
  where
    size : Reading → ℕ
    size o = length o.metrics

    go : (given_then base n 0 ≡ 0) ⊎ (given_then base n 0 ≢ 0) → (buffer_fault base n b ≡ true) ⊎ (buffer_fault base n b ≡ false) → length (read_of base n b).metrics ≤ max_nodes
    go (inr g) f = omega (arith, ap size (read_given base n b (given_then base n 0) refl g))
    go (inl g) (inl f) = omega (arith, ap size (read_wrong base n b g f))
    go (inl g) (inr f) =
        omega
        (arith, ap size (read_right base n b g f), ap length (metrics_by_node n b), ones_size (node_metric b) 0 n, count_says n (given_says base n 0 g).1)

-- refused, there are no metrics
pub read_none : (base n : ℕ) (b : List ℕ) → (read_of base n b).number ≢ 0 → (read_of base n b).metrics ≡ []
read_none base n b h = go (eq_or_ne (given_then base n 0) 0) (bool_cases (buffer_fault base n b))
  where
    go : (given_then base n 0 ≡ 0) ⊎ (given_then base n 0 ≢ 0) → (buffer_fault base n b ≡ true) ⊎ (buffer_fault base n b ≡ false) → (read_of base n b).metrics ≡ []
    go (inr g) f = ap (λ (o : Reading). o.metrics) (read_given base n b (given_then base n 0) refl g)
    go (inl g) (inl f) = ap (λ (o : Reading). o.metrics) (read_wrong base n b g f)
    go (inl g) (inr f) = absurd (h (ap (λ (o : Reading). o.number) (read_right base n b g f)))

-- inputs that are longer than the most are all refused alike
pub read_long : (base n : ℕ) (b d : List ℕ) → max_messages < length b → max_messages < length d → read_of base n b ≡ read_of base n d
read_long base n b d p q = go (eq_or_ne (given_then base n 0) 0)
  where
    go : (given_then base n 0 ≡ 0) ⊎ (given_then base n 0 ≢ 0) → read_of base n b ≡ read_of base n d
    go (inl g) =
        let m = messages_most n (count_says n (given_says base n 0 g).1).1 in
        read_wrong base n b g (wrong_length base n b (λ e. omega arith)) ∙ sym (read_wrong base n d g (wrong_length base n d (λ e. omega arith)))
    go (inr g) = read_given base n b (given_then base n 0) refl g ∙ sym (read_given base n d (given_then base n 0) refl g)
