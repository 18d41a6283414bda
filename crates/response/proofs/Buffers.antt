-- Messages with no wrong field are those written for their metrics, and those written have no wrong field and these metrics.
-- Assumes nothing.
use mathlib.Core.Path.{◌≡◌, sym, ap, subst, ◌∙◌}
use mathlib.Core.Bool.{false}
use mathlib.Core.List.{List, [], ◌∷◌, ◌++◌, append-nil, append_assoc}
use Prim.Native.Nat.{ℕ, zero, suc, ◌+◌, ◌*◌, ◌-◌, ◌/◌, ◌%◌, ◌^◌, ◌<◌, ◌≤◌}
use native.Mathlib.Nat.{zero-add}
use native.Mathlib.Omega.{arith}
use lib.ListN.{length, take, drop, length-drop}
use lib.Seq.{take_all, drop-append-add}
use borrow.Author.Tests.{eqb-true, not-false}
use Rattle.ancestors.proofs.Cases.{eqb_same, or_neither}
use Rattle.network.specs.Round.{some}
use Rattle.network.proofs.Marking.{some_not, some_none}
use Rattle.records.specs.Numbers.{Bytes}
use Rattle.records.specs.Image.{each}
use Rattle.records.proofs.Parsing.{bytes_drop}
use Rattle.records.proofs.Each.{each_same, each_shift, each_zero, each_next}
use Rattle.response.specs.Messages.{address, entry, entry_length, header, header_length, entries, message, most_entries, message_count_of, first_node, entry_count_of, messages, messages_length_of}
use Rattle.response.specs.Reading.{metric_fault, entry_fault, entry_metric, header_fault, entry_from, message_fault, message_metrics, full_length, message_from, buffer_fault, buffer_metrics}
use Rattle.response.proofs.Pieces.{take_next, each_size, each_put, each_at}
use Rattle.response.proofs.Sizes.{entry_size, header_size, nodes_before, before_first, before_next, before_here, message_place, before_all, entry_count_within, each_grouped, before_size, messages_size}
use Rattle.response.proofs.Fields.{entry_says, entry_back, written_metric, written_entry, header_says, header_back, written_header}

-- ---- metrics by node

-- the metric that a buffer has of node y
pub node_metric : List ℕ → ℕ → ℕ
node_metric b y = entry_metric (entry_from (message_from b (y / most_entries)) (y % most_entries))

-- of entry i of message k
node_metric_lem : (b : List ℕ) (k i : ℕ) → i < most_entries → node_metric b (first_node k + i) ≡ entry_metric (entry_from (message_from b k) i)
unfolding node_metric
node_metric_lem b k i h =
    let p : (first_node k + i) / most_entries ≡ k = omega arith in
    let q : (first_node k + i) % most_entries ≡ i = omega arith in
    rw (p, q)

-- a message has at most the most entries
pub few_entries : (n k : ℕ) → entry_count_of n k ≤ most_entries
unfolding entry_count_of
few_entries n k = omega arith

-- node y is in one of the messages
in_message : (n y : ℕ) → y < n → y / most_entries < message_count_of n
unfolding message_count_of
in_message n y h = omega arith

in_entries : (n y : ℕ) → y < n → y % most_entries < entry_count_of n (y / most_entries)
unfolding entry_count_of
in_entries n y h = omega arith

-- the metrics of a message are a function f of their nodes
message_metrics_lem : (f : ℕ → ℕ) (y d : ℕ) (b : List ℕ) → ((i : ℕ) → i < d → entry_metric (entry_from b i) ≡ f (y + i))
    → message_metrics d b ≡ each (λ j. f j ∷ []) y d
unfolding message_metrics
message_metrics_lem f y d b h =
    let z : y + 0 ≡ y = omega arith in
    each_same (λ i. entry_metric (entry_from b i) ∷ []) (λ i. f (y + i) ∷ []) 0 d (λ i p q. rw (h i (omega arith))) ∙
    each_shift (λ j. f j ∷ []) y 0 d ∙ rw z

-- those of a buffer
buffer_metrics_lem : (f : ℕ → ℕ) (n : ℕ) (b : List ℕ)
    → ((k i : ℕ) → k < message_count_of n → i < entry_count_of n k → entry_metric (entry_from (message_from b k) i) ≡ f (first_node k + i))
    → buffer_metrics n b ≡ each (λ j. f j ∷ []) 0 n
unfolding buffer_metrics
buffer_metrics_lem f n b h =
    each_same (λ k. message_metrics (entry_count_of n k) (message_from b k)) (λ k. each (λ j. f j ∷ []) (first_node k) (entry_count_of n k)) 0 (message_count_of n)
    (λ k p q. message_metrics_lem f (first_node k) (entry_count_of n k) (message_from b k) (λ i r. h k i (omega arith) r)) ∙
    each_grouped n (λ j. f j ∷ []) (message_count_of n) (omega arith) ∙ rw (before_all n)

-- as its nodes have them
pub metrics_by_node : (n : ℕ) (b : List ℕ) → buffer_metrics n b ≡ each (λ j. node_metric b j ∷ []) 0 n
metrics_by_node n b = buffer_metrics_lem (node_metric b) n b (λ k i p q. sym (node_metric_lem b k i (omega (arith, few_entries n k))))

-- ---- from bytes back to messages

-- a message at the front of b whose metrics are a function f of their nodes
module _ (base : ℕ) (f : ℕ → ℕ) (y d : ℕ) (b : List ℕ) (bytes : Bytes b) (long : header_length + d * entry_length ≤ length b)
    (right : message_fault base y d b ≡ false) (by : (i : ℕ) → i < d → entry_metric (entry_from b i) ≡ f (y + i)) where
  parts : (header_fault b ≡ false) × (some (λ i. entry_fault (address base (y + i)) (entry_from b i)) d ≡ false)
  unfolding message_fault
  parts = or_neither _ _ right

  -- entry i
  entry_there : (i : ℕ) → i < d → take entry_length (drop (header_length + i * entry_length) b) ≡ entry (address base (y + i)) (f (y + i))
  entry_there i h =
      let e = entry_says (address base (y + i)) (entry_from b i) (some_not (λ j. entry_fault (address base (y + j)) (entry_from b j)) d i parts.1 h) in
      let m : i * entry_length + entry_length ≤ d * entry_length = omega arith in
      entry_back (address base (y + i)) (entry_from b i) (bytes_drop b (header_length + i * entry_length) bytes)
      (omega (arith, length-drop (header_length + i * entry_length) b)) e.0 ∙ ap (entry (address base (y + i))) (by i h)

  message_back : take (header_length + d * entry_length) b ≡ message base f y d
  unfolding message entries
  message_back =
      take_next header_length (d * entry_length) b 0 ∙
      rw (header_back b bytes (omega arith) (header_says b parts.0), each_put (λ i. entry (address base i) (f i)) entry_length y d header_length b entry_there)

-- a buffer of n nodes
module _ (base n : ℕ) (b : List ℕ) (bytes : Bytes b) (right : buffer_fault base n b ≡ false) where
  whole : (length b ≡ messages_length_of n) × (some (λ k. message_fault base (first_node k) (entry_count_of n k) (message_from b k)) (message_count_of n) ≡ false)
  unfolding buffer_fault
  whole = let p = or_neither _ _ right in (eqb-true _ _ (not-false _ p.0), p.1)

  -- message k has no wrong field
  pub message_right : (k : ℕ) → k < message_count_of n → message_fault base (first_node k) (entry_count_of n k) (message_from b k) ≡ false
  message_right k h = some_not (λ j. message_fault base (first_node j) (entry_count_of n j) (message_from b j)) (message_count_of n) k whole.1 h

  room : (k : ℕ) → k < message_count_of n → header_length + entry_count_of n k * entry_length ≤ length (message_from b k)
  unfolding messages_length_of
  room k h = omega (arith, length-drop (k * full_length) b, whole.0, before_here n k h, entry_count_within n k h)

  -- the metric of each node is 1 to 16
  pub node_metric_right : (y : ℕ) → y < n → metric_fault (node_metric b y) ≡ false
  unfolding node_metric message_fault
  node_metric_right y h =
      let k = y / most_entries in
      let i = y % most_entries in
      let m = or_neither (header_fault (message_from b k)) (some (λ j. entry_fault (address base (first_node k + j)) (entry_from (message_from b k) j)) (entry_count_of n k))
      (message_right k (in_message n y h)) in
      (entry_says (address base (first_node k + i)) (entry_from (message_from b k) i)
      (some_not (λ j. entry_fault (address base (first_node k + j)) (entry_from (message_from b k) j)) (entry_count_of n k) i m.1 (in_entries n y h))).1

  module _ (f : ℕ → ℕ) (by : (y : ℕ) → y < n → f y ≡ node_metric b y) where
    message_there : (k : ℕ) → k < message_count_of n
        → take (header_length + entry_count_of n k * entry_length) (drop (k * full_length) b) ≡ message base f (first_node k) (entry_count_of n k)
    message_there k h =
        message_back base f (first_node k) (entry_count_of n k) (message_from b k) (bytes_drop b (k * full_length) bytes) (room k h) (message_right k h)
        (λ i p. sym (node_metric_lem b k i (omega (arith, few_entries n k))) ∙ sym (by (first_node k + i) (omega (arith, entry_count_within n k h))))

    -- the messages before k
    before_back : (k : ℕ) → k ≤ message_count_of n
        → take (k * header_length + nodes_before n k * entry_length) b ≡ each (λ j. message base f (first_node j) (entry_count_of n j)) 0 k
    before_back zero h =
        let e : 0 * header_length + nodes_before n 0 * entry_length ≡ 0 = omega (arith, before_first n) in
        rw (e, each_zero (λ j. message base f (first_node j) (entry_count_of n j)) 0)
    before_back (suc k) h =
        let p : suc k ≡ k + 1 = omega arith in
        let e : suc k * header_length + nodes_before n (suc k) * entry_length ≡ k * full_length + (header_length + entry_count_of n k * entry_length) =
        omega (arith, ap (nodes_before n) p, before_next n k, message_place n k h) in
        let q : take (k * full_length) (drop 0 b) ≡ each (λ j. message base f (first_node j) (entry_count_of n j)) 0 k =
        ap (λ (m : ℕ). take m b) (message_place n k h) ∙ before_back k (omega arith) in
        rw (e, take_next (k * full_length) (header_length + entry_count_of n k * entry_length) b 0, q, zero-add (k * full_length), message_there k h, p, each_next (λ j. message base f (first_node j) (entry_count_of n j)) k)

    -- all of them
    pub buffer_back : b ≡ messages base f n
    unfolding messages messages_length_of
    buffer_back = sym (take_all (messages_length_of n) b (omega (arith, whole.0))) ∙ rw (before_all n) at (before_back (message_count_of n) (omega arith))

-- ---- from messages to no wrong field

-- a message that was written, whatever follows it
module _ (base : ℕ) (f : ℕ → ℕ) (y d : ℕ) (r : List ℕ) (word : (i : ℕ) → i < d → address base (y + i) < 2 ^ 32)
    (range : (i : ℕ) → i < d → metric_fault (f (y + i)) ≡ false) where
  -- from entry i on
  rest : ℕ → List ℕ
  rest i = each (λ j. entry (address base j) (f j)) (suc (y + i)) (d - suc i) ++ r

  entry_at : (i : ℕ) → i < d → entry_from (message base f y d ++ r) i ≡ entry (address base (y + i)) (f (y + i)) ++ rest i
  unfolding message entries rest
  entry_at i h =
      let g : ℕ → List ℕ = λ j. entry (address base j) (f j) in
      ap (λ (l : List ℕ). entry_from l i) (append_assoc header (each g y d) r) ∙
      subst (λ (k : ℕ). drop (k + i * entry_length) (header ++ (each g y d ++ r)) ≡ drop (i * entry_length) (each g y d ++ r)) header_size
      (drop-append-add header (each g y d ++ r) (i * entry_length)) ∙
      each_at g y d i (i * entry_length) r h (each_size g entry_length y i (λ j p q. entry_size (address base j) (f j)))

  header_written : header_fault (message base f y d ++ r) ≡ false
  unfolding message
  header_written = ap header_fault (append_assoc header (entries base f y d) r) ∙ written_header (entries base f y d ++ r)

  message_written : message_fault base y d (message base f y d ++ r) ≡ false
  unfolding message_fault
  message_written = rw (header_written, body)
    where
      body : some (λ i. entry_fault (address base (y + i)) (entry_from (message base f y d ++ r) i)) d ≡ false
      body =
          some_none (λ i. entry_fault (address base (y + i)) (entry_from (message base f y d ++ r) i)) d
          (λ i h. ap (entry_fault (address base (y + i))) (entry_at i h) ∙ written_entry (address base (y + i)) (f (y + i)) (rest i) (word i h) (range i h))

  metric_written : (i : ℕ) → i < d → entry_metric (entry_from (message base f y d ++ r) i) ≡ f (y + i)
  metric_written i h = ap entry_metric (entry_at i h) ∙ written_metric (address base (y + i)) (f (y + i)) (rest i) (word i h) (range i h)

-- the messages of n nodes
module _ (base : ℕ) (f : ℕ → ℕ) (n : ℕ) (word : (y : ℕ) → y < n → address base y < 2 ^ 32) (range : (y : ℕ) → y < n → metric_fault (f y) ≡ false) where
  after : ℕ → List ℕ
  after k = each (λ j. message base f (first_node j) (entry_count_of n j)) (suc k) (message_count_of n - suc k)

  message_at : (k : ℕ) → k < message_count_of n → message_from (messages base f n) k ≡ message base f (first_node k) (entry_count_of n k) ++ after k
  unfolding messages after
  message_at k h =
      let g : ℕ → List ℕ = λ j. message base f (first_node j) (entry_count_of n j) in
      ap (drop (k * full_length)) (sym (append-nil (each g 0 (message_count_of n)))) ∙
      each_at g 0 (message_count_of n) k (k * full_length) [] h (before_size n base f k ∙ sym (message_place n k h)) ∙
      rw (zero-add k, append-nil (each g (suc k) (message_count_of n - suc k)))

  node_word : (k i : ℕ) → k < message_count_of n → i < entry_count_of n k → address base (first_node k + i) < 2 ^ 32
  node_word k i h p = word (first_node k + i) (omega (arith, entry_count_within n k h))

  node_range : (k i : ℕ) → k < message_count_of n → i < entry_count_of n k → metric_fault (f (first_node k + i)) ≡ false
  node_range k i h p = range (first_node k + i) (omega (arith, entry_count_within n k h))

  pub buffer_written : buffer_fault base n (messages base f n) ≡ false
  unfolding buffer_fault
  buffer_written = rw (messages_size n base f, eqb_same (messages_length_of n), body)
    where
      body : some (λ k. message_fault base (first_node k) (entry_count_of n k) (message_from (messages base f n) k)) (message_count_of n) ≡ false
      body =
          some_none (λ k. message_fault base (first_node k) (entry_count_of n k) (message_from (messages base f n) k)) (message_count_of n)
          (λ k h. ap (message_fault base (first_node k) (entry_count_of n k)) (message_at k h) ∙
          message_written base f (first_node k) (entry_count_of n k) (after k) (λ i p. node_word k i h p) (λ i p. node_range k i h p))

  pub metrics_written : buffer_metrics n (messages base f n) ≡ each (λ y. f y ∷ []) 0 n
  metrics_written =
      buffer_metrics_lem f n (messages base f n)
      (λ k i h p. ap (λ (l : List ℕ). entry_metric (entry_from l i)) (message_at k h) ∙
      metric_written base f (first_node k) (entry_count_of n k) (after k) (λ j q. node_word k j h q) (λ j q. node_range k j h q) i p)
