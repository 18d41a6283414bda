-- Change request Three: what reading accepts, what writing writes read back, and room that is always enough.
-- Assumes nothing.
use Rattle.std.specs.Prelude.{◌≡◌, false, List, [], ◌∷◌, ℕ, ◌^◌, ◌<◌, ◌≤◌, length, get_or, take}
use Rattle.network.specs.Network.{Net}
use Rattle.records.specs.Numbers.{Bytes}
use Rattle.records.specs.Image.{each}
use Rattle.response.specs.Messages.{metric, messages, max_messages, base_fault, count_fault, given_then, write_of}
use Rattle.response.specs.Reading.{metric_fault, read_of}

-- base and n are given for which neither 13 nor 3 applies; a base has 32 bits
pub record Given (base n : ℕ) : Type 0 where
  pub word : base < 2 ^ 32
  pub base_right : base_fault base ≡ false
  pub count_right : count_fault n ≡ false

-- one metric of 1 to 16 for each of n nodes
pub record Metrics (n : ℕ) (ms : List ℕ) : Type 0 where
  pub size : length ms ≡ n
  pub range : (y : ℕ) → y < n → metric_fault (get_or ms y 0) ≡ false

-- the messages for these metrics
abbrev pub messages_for : ℕ → ℕ → List ℕ → List ℕ
messages_for base n ms = messages base (λ y. get_or ms y 0) n

-- reading accepts the bytes with these metrics
abbrev pub Accepts : ℕ → ℕ → List ℕ → List ℕ → Type 0
Accepts base n bs ms = read_of base n bs ≡ record { number = 0; metrics = ms }

-- if and only if they are the messages for these metrics
pub record ReadsWritten : Type 0 where
  pub only : (base n : ℕ) (bs ms : List ℕ) → base < 2 ^ 32 → Bytes bs → Accepts base n bs ms → Given base n × Metrics n ms × (bs ≡ messages_for base n ms)
  pub all : (base n : ℕ) (ms : List ℕ) → Given base n → Metrics n ms → Accepts base n (messages_for base n ms) ms

-- the metrics of x's rows, by node
unfoldable pub row_metrics_of : Net → List ℕ
row_metrics_of x = each (λ y. metric (x.row y) ∷ []) 0 x.nodes

-- what an accepted call writes for x reads back to the metric of each node
abbrev pub ReadsBack : Type 0
ReadsBack = (base : ℕ) (x : Net) (out : List ℕ) → base < 2 ^ 32 → (write_of base x out).number ≡ 0
    → Accepts base x.nodes (take (write_of base x out).used (write_of base x out).output) (row_metrics_of x)

-- an output of the most bytes is never refused as 6
abbrev pub RoomEnough : Type 0
RoomEnough = (base : ℕ) (x : Net) (out : List ℕ) → max_messages ≤ length out → (write_of base x out).number ≡ given_then base x.nodes 0
