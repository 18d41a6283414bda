-- Lengths of entries and messages, how many nodes come before a message, and the room that messages take.
-- Assumes nothing.
use mathlib.Core.Path.{◌≡◌, refl, sym, ap, ◌∙◌}
use mathlib.Core.List.{List, ◌++◌, append-nil, append_assoc}
use Prim.Native.Nat.{ℕ, zero, suc, ◌+◌, ◌*◌, ◌<◌, ◌≤◌, min}
use native.Mathlib.Omega.{arith}
use lib.ListN.{length, length-append}
use Rattle.network.specs.Faults.{max_nodes}
use Rattle.records.specs.Numbers.{be8, be16, be32}
use Rattle.records.specs.Image.{each}
use Rattle.records.proofs.Each.{each_zero, each_last, each_next, each_split}
use Rattle.response.specs.Messages.{address, entry, entry_length, header, header_length, entries, message, message_count_of, first_node, entry_count_of, messages, messages_length_of, max_messages}
use Rattle.response.specs.Reading.{full_length}
use Rattle.response.proofs.Pieces.{each_size}

-- ---- lengths

pub entry_size : (a m : ℕ) → length (entry a m) ≡ entry_length
unfolding entry be32 be16 be8
entry_size a m = refl

pub header_size : length header ≡ header_length
unfolding header be16 be8
header_size = refl

module _ (base : ℕ) (metrics : ℕ → ℕ) (y d : ℕ) where
  pub entries_size : length (entries base metrics y d) ≡ d * entry_length
  unfolding entries
  entries_size = each_size (λ i. entry (address base i) (metrics i)) entry_length y d (λ i a b. entry_size (address base i) (metrics i))

  pub message_size : length (message base metrics y d) ≡ header_length + d * entry_length
  unfolding message
  message_size = omega (arith, length-append header (entries base metrics y d), header_size, entries_size)

-- a message without entries, and with one more
module _ (base : ℕ) (metrics : ℕ → ℕ) (y : ℕ) where
  pub message_none : message base metrics y 0 ≡ header
  unfolding message entries
  message_none = rw (each_zero (λ i. entry (address base i) (metrics i)) y) (append-nil header)

  pub message_next : (d : ℕ) → message base metrics y (d + 1) ≡ message base metrics y d ++ entry (address base (y + d)) (metrics (y + d))
  unfolding message entries
  message_next d = ap (λ l. header ++ l) (each_last (λ i. entry (address base i) (metrics i)) y d) ∙ sym (append_assoc header _ _)

-- ---- the nodes before a message

-- how many of n nodes are in the messages before k
pub nodes_before : ℕ → ℕ → ℕ
nodes_before n k = min (first_node k) n

module _ (n : ℕ) where
  pub before_first : nodes_before n 0 ≡ 0
  unfolding nodes_before
  before_first = omega arith

  -- a message adds its own
  pub before_next : (k : ℕ) → nodes_before n (k + 1) ≡ nodes_before n k + entry_count_of n k
  unfolding nodes_before entry_count_of
  before_next k = omega arith

  -- in front of a message of theirs they are all those below its first
  pub before_here : (k : ℕ) → k < message_count_of n → nodes_before n k ≡ first_node k
  unfolding nodes_before message_count_of
  before_here k h = omega arith

  -- the place of that message
  pub message_place : (k : ℕ) → k < message_count_of n → k * full_length ≡ k * header_length + nodes_before n k * entry_length
  message_place k h = omega (arith, before_here k h)

  -- all messages have all of them
  pub before_all : nodes_before n (message_count_of n) ≡ n
  unfolding nodes_before message_count_of
  before_all = omega arith

  pub before_most : (k : ℕ) → nodes_before n k ≤ n
  unfolding nodes_before
  before_most k = omega arith

  -- a message's nodes are among them
  pub entry_count_within : (k : ℕ) → k < message_count_of n → first_node k + entry_count_of n k ≤ n
  entry_count_within k h = omega (arith, before_here k h, before_next k, before_most (k + 1))

  -- the nodes of the messages before k, one after another
  pub each_grouped : (g : ℕ → List ℕ) (k : ℕ) → k ≤ message_count_of n → each (λ j. each g (first_node j) (entry_count_of n j)) 0 k ≡ each g 0 (nodes_before n k)
  each_grouped g zero h = each_zero (λ j. each g (first_node j) (entry_count_of n j)) 0 ∙ rw (before_first, each_zero g 0)
  each_grouped g (suc k) h =
      let e : suc k ≡ k + 1 = omega arith in
      let b : first_node k ≡ 0 + nodes_before n k = omega (arith, before_here k h) in
      rw (e, each_next (λ j. each g (first_node j) (entry_count_of n j)) k, each_grouped g k (omega arith), before_next k, each_split g 0 (nodes_before n k) (entry_count_of n k), b)

  module _ (base : ℕ) (metrics : ℕ → ℕ) where
    -- the messages before k, and their bytes
    abbrev pub messages_before : ℕ → List ℕ
    messages_before k = each (λ j. message base metrics (first_node j) (entry_count_of n j)) 0 k

    pub before_size : (k : ℕ) → length (messages_before k) ≡ k * header_length + nodes_before n k * entry_length
    before_size zero = ap length (each_zero (λ j. message base metrics (first_node j) (entry_count_of n j)) 0) ∙ omega (arith, before_first)
    before_size (suc k) =
        let f : ℕ → List ℕ = λ j. message base metrics (first_node j) (entry_count_of n j) in
        let e : suc k ≡ k + 1 = omega arith in
        rw e
        (ap length (each_next f k) ∙
        omega (arith, length-append (each f 0 k) (f k), before_size k, message_size base metrics (first_node k) (entry_count_of n k), before_next k))

    -- of all messages: 4 to a message, 20 to an entry
    pub messages_size : length (messages base metrics n) ≡ messages_length_of n
    unfolding messages messages_length_of
    messages_size = before_size (message_count_of n) ∙ rw before_all

  -- at message k there is room for it
  pub message_room : (k : ℕ) → k < message_count_of n → (k * header_length + nodes_before n k * entry_length) + (header_length + entry_count_of n k * entry_length) ≤ messages_length_of n
  unfolding messages_length_of
  message_room k h = omega (arith, before_next k, before_most (k + 1))

-- ---- the most

-- at most 32 nodes take at most 648 bytes
pub messages_most : (n : ℕ) → n ≤ max_nodes → messages_length_of n ≤ max_messages
unfolding messages_length_of max_messages message_count_of
messages_most n h = omega arith

pub largest_messages : max_messages ≡ 648
unfolding max_messages messages_length_of message_count_of
largest_messages = refl
