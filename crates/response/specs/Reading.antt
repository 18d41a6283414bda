-- Change request Three: Response messages read back, given base and n: metric, entry, message, buffer, and the reading call.
-- Assumes nothing.
use Rattle.std.specs.Prelude.{Bool, cond, not, ◌||◌, List, [], ◌∷◌, ℕ, ◌+◌, ◌*◌, eqb, ltb, length, drop}
use Rattle.network.specs.Round.{some}
use Rattle.records.specs.Numbers.{num8, num16, num32}
use Rattle.records.specs.Image.{each}
use Rattle.response.specs.Messages.{infinity, address, mask, entry_length, header_length, most_entries, message_count_of, first_node, entry_count_of, messages_length_of, given_then}

-- a field with the value v is wrong where w is right
abbrev pub differs : ℕ → ℕ → Bool
differs v w = not (eqb v w)

-- ---- metric

-- a metric is 1 to 16
unfoldable pub metric_fault : ℕ → Bool
metric_fault m = eqb m 0 || ltb infinity m

-- ---- entry, at the front of b

-- a field is wrong, a being the node's address: address family, tag, address, mask, next hop or metric
unfoldable pub entry_fault : ℕ → List ℕ → Bool
entry_fault a b =
    differs (num16 b 0) 2 ||
    (differs (num16 b 2) 0 ||
    (differs (num32 b 4) a ||
    (differs (num32 b 8) mask ||
    (differs (num32 b 12) 0 || metric_fault (num32 b 16)))))

-- the metric
unfoldable pub entry_metric : List ℕ → ℕ
entry_metric b = num32 b 16

-- ---- message, at the front of b

-- command, version or the two bytes of 0 are wrong
unfoldable pub header_fault : List ℕ → Bool
header_fault b = differs (num8 b 0) 2 || (differs (num8 b 1) 2 || differs (num16 b 2) 0)

-- from its entry i on
abbrev pub entry_from : List ℕ → ℕ → List ℕ
entry_from b i = drop (header_length + i * entry_length) b

-- its header, or one of its entries, which are of d nodes from y on
unfoldable pub message_fault : ℕ → ℕ → ℕ → List ℕ → Bool
message_fault base y d b = header_fault b || some (λ i. entry_fault (address base (y + i)) (entry_from b i)) d

-- the metrics of its d entries
unfoldable pub message_metrics : ℕ → List ℕ → List ℕ
message_metrics d b = each (λ i. entry_metric (entry_from b i) ∷ []) 0 d

-- ---- buffer

-- the bytes of a message with the most entries
abbrev pub full_length : ℕ
full_length = header_length + most_entries * entry_length

-- from its message k on: those before it have the most entries
abbrev pub message_from : List ℕ → ℕ → List ℕ
message_from b k = drop (k * full_length) b

-- 14: the length, or a field of one of the messages, is wrong
unfoldable pub buffer_fault : ℕ → ℕ → List ℕ → Bool
buffer_fault base n b =
    differs (length b) (messages_length_of n) ||
    some (λ k. message_fault base (first_node k) (entry_count_of n k) (message_from b k)) (message_count_of n)

-- the metrics of its n nodes
unfoldable pub buffer_metrics : ℕ → List ℕ → List ℕ
buffer_metrics n b = each (λ k. message_metrics (entry_count_of n k) (message_from b k)) 0 (message_count_of n)

-- ---- reading

-- a number, 0 where the call is accepted, and the metrics of nodes 0, 1 and on
pub record Reading : Type 0 where
  pub number : ℕ
  pub metrics : List ℕ

-- 13 and 3 first, then 14
unfoldable pub read_number : ℕ → ℕ → List ℕ → ℕ
read_number base n b = given_then base n (cond (buffer_fault base n b) 14 0)

-- accepted, the metrics of n nodes; refused, none
unfoldable pub reading : ℕ → List ℕ → Reading
reading k metrics = record { number = k; metrics = cond (eqb k 0) metrics [] }

unfoldable pub read_of : ℕ → ℕ → List ℕ → Reading
read_of base n b = reading (read_number base n b) (buffer_metrics n b)
