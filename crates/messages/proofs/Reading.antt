-- Messages read: an entry, the entries of a message one by one, and messages one by one.
-- Assumes nothing.
use mathlib.Core.Path.{◌≡◌, refl, sym, ap, ◌∙◌}
use mathlib.Core.Bool.{Bool, true, false, cond, or-true}
use mathlib.Core.List.{List, [], ◌∷◌, ◌++◌, append_assoc}
use mathlib.Core.Logic.{◌≢◌}
use Prim.Native.Nat.{ℕ, zero, suc, ◌+◌, ◌*◌, ◌-◌, ◌<◌, ◌≤◌}
use native.Mathlib.Numerals.{add-one}
use native.Mathlib.Omega.{arith}
use lib.ListN.{length, take, length-append, length-drop}
use lib.Seq.{get_or-take, take_all}
use borrow.Author.Tests.{eq-eqb}
use Rattle.std.proofs.lemmas.Bool.Decides.{nat_tests}
use Rattle.std.specs.Prelude.{Option, Some, None, Result, Err, IsErrAnd}
use Rattle.std.specs.Option.{ok_or}
use Rattle.network.specs.Answered.{fault_number, answered}
use Rattle.network.specs.declared.Fault.{Fault}
use Rattle.network.specs.declared.Fault.TheVariants as F
use Rattle.network.specs.Round.{some}
use Rattle.network.proofs.Answered.{answered_err}
use Rattle.network.proofs.Marking.{some_here}
use Rattle.records.specs.Numbers.{Bytes, num8, num16, num32}
use Rattle.records.specs.Image.{each}
use Rattle.records.proofs.Each.{each_zero, each_next}
use Rattle.response.specs.Messages.{address, entry_length, header_length, message_count_of, first_node, entry_count_of, messages_length_of, given_then}
use Rattle.response.specs.Reading.{entry_fault, entry_metric, header_fault, entry_from, message_fault, message_metrics, full_length, message_from, buffer_fault, buffer_metrics, Reading, read_of}
use Rattle.response.proofs.Pieces.{ones_size}
use Rattle.response.proofs.Sizes.{nodes_before, before_first, before_next}
use Rattle.response.proofs.Answering.{read_wrong, read_right, wrong_length}
use Rattle.response.proofs.Fields.{header_word}

-- one more that is right
some_more : (f : ℕ → Bool) (i : ℕ) → some f i ≡ false → f i ≡ false → some f (i + 1) ≡ false
unfolding some
some_more f i e h = rw (add-one i, e, h)

pub some_zero : (f : ℕ → Bool) → some f 0 ≡ false
unfolding some
some_zero f = refl

-- what a `?` answers after `ok_or(Fault::Message)`
pub exit_message : {A B : Type 0} (q : Result A Fault) (f : Fault) (o : Option B) → IsErrAnd q (λ g. g ≡ f) → Err f ≡ ok_or o F.Message → o ≡ None → answered q ≡ 14
exit_message q f None e v n = let m : f ≡ F.Message = cc in answered_err q f e ∙ ap fault_number m
exit_message q f (Some x) e v n = cc

-- ---- numbers and an entry, read in a part of k bytes

module _ (k : ℕ) (b : List ℕ) where
  low16 : (i : ℕ) → i + 2 ≤ k → num16 (take k b) i ≡ num16 b i
  unfolding num16 num8
  low16 i h =
      let p : i < k = omega arith in
      let q : i + 1 < k = omega arith in
      rw (get_or-take k b i 0, get_or-take k b (i + 1) 0)

  low32 : (i : ℕ) → i + 4 ≤ k → num32 (take k b) i ≡ num32 b i
  unfolding num32
  low32 i h = rw (low16 i (omega arith), low16 (i + 2) (omega arith))

  entry_part : entry_length ≤ k → (a : ℕ) → entry_fault a (take k b) ≡ entry_fault a b
  unfolding entry_fault
  entry_part room a =
      rw (low16 0 (omega arith), low16 2 (omega arith), low32 4 (omega arith), low32 8 (omega arith), low32 12 (omega arith), low32 16 (omega arith))

  metric_part : entry_length ≤ k → entry_metric (take k b) ≡ entry_metric b
  unfolding entry_metric
  metric_part room = low32 16 (omega arith)

-- ---- a message, read entry by entry

module _ (base y : ℕ) (b : List ℕ) where
  -- no entry before i is wrong
  abbrev pub RightBefore : ℕ → Type 0
  RightBefore i = some (λ j. entry_fault (address base (y + j)) (entry_from b j)) i ≡ false

  -- entry i, read in a part of k bytes for the address a
  module _ (i k : ℕ) {a : ℕ} (room : entry_length ≤ k) (at : a ≡ address base (y + i)) where
    pub entry_wrong : (d : ℕ) → i < d → None ≡ cond (entry_fault a (take k (entry_from b i))) None (Some (entry_metric (take k (entry_from b i))))
        → message_fault base y d b ≡ true
    unfolding message_fault
    entry_wrong d h e =
        let f : entry_fault a (take k (entry_from b i)) ≡ true = grind arith in
        rw (some_here (λ j. entry_fault (address base (y + j)) (entry_from b j)) d i h (rw (entry_part k (entry_from b i) room a, at) at f), or-true (header_fault b))

    -- a right one's metric is added
    pub entry_right : (old : List ℕ) {m : ℕ} {before after : List ℕ}
        → Some m ≡ cond (entry_fault a (take k (entry_from b i))) None (Some (entry_metric (take k (entry_from b i)))) → RightBefore i
        → after ≡ before ++ (m ∷ []) → before ≡ old ++ message_metrics i b → RightBefore (i + 1) × (after ≡ old ++ message_metrics (i + 1) b)
    unfolding message_metrics
    entry_right old {m} e h p q =
        let c : entry_fault a (take k (entry_from b i)) ≡ false = grind arith in
        let d : m ≡ entry_metric (take k (entry_from b i)) = grind arith in
        let f = rw (entry_part k (entry_from b i) room a, at) at c in
        let v : m ≡ entry_metric (entry_from b i) = d ∙ metric_part k (entry_from b i) room in (
          some_more (λ j. entry_fault (address base (y + j)) (entry_from b j)) i h f,
          p ∙ rw (q, each_next (λ j. entry_metric (entry_from b j) ∷ []) i, ← v) (append_assoc old _ _),
        )

  -- the number in its first four bytes decides about its header
  first_word : num32 (take header_length b) 0 ≡ num32 b 0
  first_word = low32 header_length b 0 (omega arith)

  pub header_wrong : (d : ℕ) → Bytes b → num32 (take header_length b) 0 ≢ 33685504 → message_fault base y d b ≡ true
  unfolding message_fault
  header_wrong d bytes h = rw (header_word b bytes) (let e = first_word in grind (arith, nat_tests))

  pub message_right : {i d : ℕ} → Bytes b → num32 (take header_length b) 0 ≡ 33685504 → RightBefore i → i ≡ d → message_fault base y d b ≡ false
  unfolding message_fault
  message_right bytes e h is = rw (← is, header_word b bytes, h) (let f = first_word in grind (arith, nat_tests))

-- ---- a buffer, read message by message

module _ (base n : ℕ) (b : List ℕ) where
  -- no message before k is wrong
  abbrev pub MessagesRight : ℕ → Type 0
  MessagesRight k = some (λ j. message_fault base (first_node j) (entry_count_of n j) (message_from b j)) k ≡ false

-- the metrics of those before k; there is one for each node before message k
module _ (n : ℕ) (b : List ℕ) where
  abbrev pub metrics_before : ℕ → List ℕ
  metrics_before k = each (λ j. message_metrics (entry_count_of n j) (message_from b j)) 0 k

  pub metrics_size : (k : ℕ) → length (metrics_before k) ≡ nodes_before n k
  unfolding message_metrics
  metrics_size zero = ap length (each_zero (λ j. message_metrics (entry_count_of n j) (message_from b j)) 0) ∙ sym (before_first n)
  metrics_size (suc k) =
      let e : suc k ≡ k + 1 = omega arith in
      let ms = message_metrics (entry_count_of n k) (message_from b k) in
      rw e
      (ap length (each_next (λ j. message_metrics (entry_count_of n j) (message_from b j)) k) ∙
      omega (arith, length-append (metrics_before k) ms, metrics_size k, ones_size (λ i. entry_metric (entry_from (message_from b k) i)) 0 (entry_count_of n k), before_next n k))

-- one message more, read in the rest of the bytes
module _ (n : ℕ) (b : List ℕ) (k : ℕ) where
  rest : take (length b - k * full_length) (message_from b k) ≡ message_from b k
  rest = take_all (length b - k * full_length) (message_from b k) (omega (arith, length-drop (k * full_length) b))

  pub metrics_next : {old new : List ℕ} → new ≡ old ++ message_metrics (entry_count_of n k) (take (length b - k * full_length) (message_from b k))
      → old ≡ metrics_before n b k → new ≡ metrics_before n b (k + 1)
  metrics_next p q = p ∙ rw (rest, q) (sym (each_next _ k))

  -- it is wrong, by the number e of its answer, or right
  module _ (base : ℕ) {e : ℕ}
      (answer : e ≡ cond (message_fault base (first_node k) (entry_count_of n k) (take (length b - k * full_length) (message_from b k))) 14 0) where
    whole : e ≡ cond (message_fault base (first_node k) (entry_count_of n k) (message_from b k)) 14 0
    whole = rw rest at answer

    pub message_wrong : e ≢ 0 → (message_fault base (first_node k) (entry_count_of n k) (message_from b k) ≡ true) × (e ≡ 14)
    message_wrong h = let w = whole in (grind (arith, nat_tests), grind (arith, nat_tests))

    pub messages_next : e ≡ 0 → MessagesRight base n b k → MessagesRight base n b (k + 1)
    messages_next z h = some_more _ k h (let w = whole in grind (arith, nat_tests))

-- what the call answers: g and m are what is given, and l is the length of the messages
module _ (base n : ℕ) (b : List ℕ) {g m l : ℕ} (same : (g ≡ base) × (m ≡ n)) (given : 0 ≡ given_then base n 0) (size : l ≡ messages_length_of m) where
  bad : buffer_fault base n b ≡ true → 14 ≡ (read_of base n b).number
  bad h = sym (ap (λ (o : Reading). o.number) (read_wrong base n b (sym given) h))

  pub wrong_size : length b ≢ l → 14 ≡ (read_of base n b).number
  wrong_size h = bad (wrong_length base n b (λ e. h (e ∙ sym (size ∙ ap messages_length_of same.1))))

  module _ (long : length b ≡ l) where
    -- its messages decide
    by_messages : {t : Bool} → some (λ j. message_fault g (first_node j) (entry_count_of m j) (message_from b j)) (message_count_of m) ≡ t → buffer_fault base n b ≡ t
    unfolding buffer_fault
    by_messages h = rw (← same.0, ← same.1, eq-eqb (length b) (messages_length_of m) (long ∙ size)) h

    pub wrong_message : (k e : ℕ) → k < message_count_of m → e ≢ 0
        → e ≡ cond (message_fault g (first_node k) (entry_count_of m k) (take (length b - k * full_length) (message_from b k))) 14 0 → e ≡ (read_of base n b).number
    wrong_message k e here z answer =
        let w = message_wrong m b k g answer z in
        w.1 ∙ bad (by_messages (some_here (λ j. message_fault g (first_node j) (entry_count_of m j) (message_from b j)) (message_count_of m) k here w.0))

    module _ {k : ℕ} (all : k ≡ message_count_of m) (right : MessagesRight g m b k) where
      accepted : read_of base n b ≡ record { number = 0; metrics = buffer_metrics n b }
      accepted = read_right base n b (sym given) (by_messages (rw all at right))

      pub number_read : 0 ≡ (read_of base n b).number
      number_read = rw accepted

      pub metrics_read : {ms : List ℕ} → ms ≡ metrics_before m b k → ms ≡ (read_of base n b).metrics
      unfolding buffer_metrics
      metrics_read h = rw accepted (h ∙ rw (all, same.1))
