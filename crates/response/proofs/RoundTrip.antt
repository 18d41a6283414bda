-- Reading accepts exactly what is written for some metrics, what writing writes for a network reads back, and 648 bytes are always enough.
-- Assumes nothing.
use mathlib.Core.Path.{◌≡◌, sym, ap, ◌∙◌}
use mathlib.Core.Bool.{false}
use mathlib.Core.List.{List, [], ◌∷◌}
use mathlib.Core.Logic.{◌⊎◌, inl, inr, ◌≢◌}
use Prim.Native.Nat.{ℕ, ◌^◌, ◌<◌}
use native.Mathlib.Nat.{zero-add}
use native.Mathlib.Omega.{arith}
use lib.ListN.{length, get_or, take}
use lib.Seq.{take-append_seam}
use Rattle.ancestors.proofs.Cases.{eq_or_ne}
use Rattle.network.specs.Network.{Net}
use Rattle.network.proofs.Effects.{writing_accepted}
use Rattle.records.specs.Numbers.{Bytes}
use Rattle.records.specs.Image.{each}
use Rattle.response.specs.Messages.{metric, address, messages, base_fault, count_fault, given_then, row_messages, write_number, write_of}
use Rattle.response.specs.Reading.{metric_fault}
use Rattle.response.specs.RoundTrip.{Given, Metrics, messages_for, Accepts, ReadsWritten, row_metrics_of, ReadsBack, RoomEnough}
use Rattle.response.proofs.Pieces.{ones_size, ones_at, ones_list}
use Rattle.response.proofs.Sizes.{messages_most}
use Rattle.response.proofs.Fields.{metric_right}
use Rattle.response.proofs.Buffers.{node_metric, metrics_by_node, node_metric_right, buffer_back, buffer_written, metrics_written}
use Rattle.response.proofs.Answering.{base_says, count_says, given_says, given_right, number_of, number_given, number_fits, write_says, read_right, read_says}

-- ---- accepted bytes are the messages for the metrics answered

module _ (base n : ℕ) (bs ms : List ℕ) (word : base < 2 ^ 32) (bytes : Bytes bs) (accepts : Accepts base n bs ms) where
  metrics_are : ms ≡ each (λ y. node_metric bs y ∷ []) 0 n
  metrics_are = sym (read_says base n bs accepts).3 ∙ metrics_by_node n bs

  at_node : (y : ℕ) → y < n → get_or ms y 0 ≡ node_metric bs y
  at_node y h = ap (λ (l : List ℕ). get_or l y 0) metrics_are ∙ ones_at (node_metric bs) 0 n y h ∙ ap (node_metric bs) (zero-add y)

  accepted_only : Given base n × Metrics n ms × (bs ≡ messages_for base n ms)
  accepted_only =
      let s = read_says base n bs accepts in (
        record { word = word; base_right = s.0; count_right = s.1 },
        record {
          size = ap length metrics_are ∙ ones_size (node_metric bs) 0 n;
          range = λ y h. ap metric_fault (at_node y h) ∙ node_metric_right base n bs bytes s.2 y h;
        },
        buffer_back base n bs bytes s.2 (λ y. get_or ms y 0) at_node,
      )

-- ---- messages are accepted with their metrics

module _ (base : ℕ) (f : ℕ → ℕ) (n : ℕ) (given : Given base n) (range : (y : ℕ) → y < n → metric_fault (f y) ≡ false) where
  address_word : (y : ℕ) → y < n → address base y < 2 ^ 32
  unfolding address
  address_word y h = omega (arith, base_says base given.base_right, count_says n given.count_right, given.word)

  pub messages_accepted : Accepts base n (messages base f n) (each (λ y. f y ∷ []) 0 n)
  messages_accepted =
      read_right base n (messages base f n) (given_right base n 0 given.base_right given.count_right) (buffer_written base f n address_word range) ∙
      rw (metrics_written base f n address_word range)

pub reads_written : ReadsWritten
reads_written =
    record {
      only = accepted_only;
      all = λ base n ms g m.
          messages_accepted base (λ y. get_or ms y 0) n g m.range ∙ rw (ones_list ms n m.size);
    }

-- ---- what is written for a network

accepted_writes : (base : ℕ) (x : Net) (out : List ℕ) → (write_of base x out).number ≡ 0
    → (base_fault base ≡ false) × (count_fault x.nodes ≡ false) × (take (write_of base x out).used (write_of base x out).output ≡ row_messages base x)
unfolding write_of
accepted_writes base x out e =
    let k : write_number base x (length out) ≡ 0 = sym (number_of base x out) ∙ e in
    let g = write_says base x out k in
    (g.0, g.1, rw (k, writing_accepted (row_messages base x) out, take-append_seam))

pub reads_back : ReadsBack
unfolding row_metrics_of row_messages
reads_back base x out word e =
    let a = accepted_writes base x out e in
    rw a.2 (messages_accepted base (λ y. metric (x.row y)) x.nodes (record { word = word; base_right = a.0; count_right = a.1 }) (λ y h. metric_right (x.row y)))

pub room_enough : RoomEnough
room_enough base x out h = number_of base x out ∙ go (eq_or_ne (given_then base x.nodes 0) 0)
  where
    go : (given_then base x.nodes 0 ≡ 0) ⊎ (given_then base x.nodes 0 ≢ 0) → write_number base x (length out) ≡ given_then base x.nodes 0
    go (inl z) =
        let n = count_says x.nodes (given_says base x.nodes 0 z).1 in
        number_fits base x out z (omega (arith, messages_most x.nodes n.1)) ∙ sym z
    go (inr z) = number_given base x out z
