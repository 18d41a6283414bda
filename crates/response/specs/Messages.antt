-- Change request Three: the rows of a network as RIP version 2 Response messages (RFC 2453): metric, entry, message, buffer, and the writing call.
-- Assumes nothing.
use Rattle.std.specs.Prelude.{Bool, cond, not, ◌||◌, List, ◌++◌, ℕ, ◌+◌, ◌*◌, ◌-◌, ◌/◌, ◌%◌, ◌^◌, min, eqb, ltb, length}
use Rattle.ancestors.specs.Ancestors.{hops}
use Rattle.network.specs.Faults.{max_nodes}
use Rattle.network.specs.Network.{Row, none, root, via, Net}
use Rattle.network.specs.Writing.{Writing, writing}
use Rattle.records.specs.Numbers.{be8, be16, be32}
use Rattle.records.specs.Image.{each}

-- ---- metric

-- the metric that stands for no route
abbrev pub infinity : ℕ
infinity = 16

-- the metric for so many hops: hops plus 1, or 16 where that exceeds 15
unfoldable pub hops_metric_of : ℕ → ℕ
hops_metric_of h = cond (ltb 15 (h + 1)) infinity (h + 1)

-- the metric of a row; 16 where there is no route
unfoldable pub metric : Row → ℕ
metric none = infinity
metric (root l) = hops_metric_of (hops l)
metric (via d p l) = hops_metric_of (hops l)

-- ---- entry

-- the address of node y: the base plus the node number plus 1
unfoldable pub address : ℕ → ℕ → ℕ
address base y = base + y + 1

-- the mask, 255.255.255.255
abbrev pub mask : ℕ
mask = 2 ^ 32 - 1

-- an entry of the address a and the metric m: address family 2, tag 0, address, mask, next hop 0, metric
unfoldable pub entry : ℕ → ℕ → List ℕ
entry a m = be16 2 ++ (be16 0 ++ (be32 a ++ (be32 mask ++ (be32 0 ++ be32 m))))

-- how many bytes that is
abbrev pub entry_length : ℕ
entry_length = 20

-- ---- message

-- a Response begins with command 2, version 2 and two bytes of 0
unfoldable pub header : List ℕ
header = be8 2 ++ (be8 2 ++ be16 0)

-- how many bytes that is
abbrev pub header_length : ℕ
header_length = 4

-- the entries of d nodes from y on, with metrics by node
unfoldable pub entries : ℕ → (ℕ → ℕ) → ℕ → ℕ → List ℕ
entries base metrics y d = each (λ i. entry (address base i) (metrics i)) y d

-- a message with these entries
unfoldable pub message : ℕ → (ℕ → ℕ) → ℕ → ℕ → List ℕ
message base metrics y d = header ++ entries base metrics y d

-- ---- buffer

-- the entries of each message but the last
abbrev pub most_entries : ℕ
most_entries = 25

-- how many messages n nodes take
unfoldable pub message_count_of : ℕ → ℕ
message_count_of n = (n + (most_entries - 1)) / most_entries

-- the first node of message k, and how many of n nodes it has
abbrev pub first_node : ℕ → ℕ
first_node k = k * most_entries

unfoldable pub entry_count_of : ℕ → ℕ → ℕ
entry_count_of n k = min most_entries (n - first_node k)

-- the nodes 0 to n-1, ascending, the messages one after another
unfoldable pub messages : ℕ → (ℕ → ℕ) → ℕ → List ℕ
messages base metrics n = each (λ k. message base metrics (first_node k) (entry_count_of n k)) 0 (message_count_of n)

-- how many bytes they are: 4 to a message, 20 to an entry
unfoldable pub messages_length_of : ℕ → ℕ
messages_length_of n = message_count_of n * header_length + n * entry_length

-- the most that a network's messages are
unfoldable pub max_messages : ℕ
max_messages = messages_length_of max_nodes

-- ---- the numbers for base and n

-- 13: the base's last byte isn't 0
unfoldable pub base_fault : ℕ → Bool
base_fault base = not (eqb (base % 256) 0)

-- 3: n is 0 or above 32
unfoldable pub count_fault : ℕ → Bool
count_fault n = eqb n 0 || ltb max_nodes n

-- 13 comes first, then 3, then the number `last`
unfoldable pub given_then : ℕ → ℕ → ℕ → ℕ
given_then base n last = cond (base_fault base) 13 (cond (count_fault n) 3 last)

-- ---- writing

-- all rows of x as messages
unfoldable pub row_messages : ℕ → Net → List ℕ
row_messages base x = messages base (λ y. metric (x.row y)) x.nodes

-- 6, for an output shorter than the messages, comes last
unfoldable pub write_number : ℕ → Net → ℕ → ℕ
write_number base x room = given_then base x.nodes (cond (ltb room (length (row_messages base x))) 6 0)

-- accepted, the messages
unfoldable pub write_of : ℕ → Net → List ℕ → Writing
write_of base x out = writing (write_number base x (length out)) (row_messages base x) out
