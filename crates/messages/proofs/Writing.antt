-- A message written: its header, and one entry more; messages written one after another.
-- Assumes nothing.
use mathlib.Core.Path.{◌≡◌, refl, sym, ap, ap₂, ◌∙◌}
use mathlib.Core.List.{List, [], ◌∷◌, ◌++◌}
use Prim.Native.Nat.{ℕ, ◌+◌, ◌*◌, ◌-◌, ◌<◌, ◌≤◌}
use native.Mathlib.Nat.{zero-add}
use native.Mathlib.Omega.{arith}
use lib.ListN.{length, take, drop}
use borrow.Rule.Slice.PartMut.{put_mid}
use Rattle.records.specs.Numbers.{be8, be16}
use Rattle.filling.specs.Filling.{Wrote, copied}
use Rattle.filling.proofs.Parts.{added_none, front_added, added_front, added_part, as_long, wrote_none, wrote_as, wrote_then, room}
use Rattle.filling.proofs.Copying.{copied_part}
use Rattle.std.specs.Prelude.{Ok, Err}
use Rattle.network.specs.Network.{Net}
use Rattle.network.specs.Writing.{Writes}
use Rattle.network.specs.declared.Fault.TheVariants as F
use Rattle.records.proofs.Each.{each_zero, each_next}
use Rattle.response.specs.Messages.{address, entry, entry_length, header, header_length, message, first_node, entry_count_of, message_count_of, messages, messages_length_of, given_then, row_messages, write_of}
use Rattle.response.proofs.Sizes.{entry_size, message_none, message_next, messages_before, before_size, message_room}
use Rattle.response.proofs.Answering.{write_short, write_fits}
use Rattle.messages.specs.Inner.{row_metric_of}

header_bytes : 2 ∷ 2 ∷ 0 ∷ 0 ∷ [] ≡ header
unfolding header be16 be8
header_bytes = refl

module _ (base : ℕ) (f : ℕ → ℕ) (y : ℕ) (e : List ℕ) where
  pub header_put : {z : List ℕ} {r : ℕ} → header_length ≤ length e → Wrote (copied (2 ∷ 2 ∷ 0 ∷ 0 ∷ []) (take 4 e)) (take 4 e) z r
      → Wrote (message base f y 0) e (z ++ drop 4 e) r
  header_put {z} {r} room h =
      let w : Wrote (2 ∷ 2 ∷ 0 ∷ 0 ∷ []) e (z ++ drop 4 e) (0 + r) =
      added_front (added_part {w = []} {k = 4} (added_none e 0 refl (omega arith)) (copied_part _ e 0 4 (omega arith) room h) refl room) in
      wrote_as (message_none base f y ∙ sym header_bytes) (rw (zero-add r) at w)

  pub entry_put : (i : ℕ) {x z : List ℕ} {a r p m : ℕ} → Wrote (message base f y i) e x a → a + entry_length ≤ length e → p ≡ address base (y + i) → m ≡ f (y + i)
      → Wrote (copied (entry p m) (take (a + 20 - a) (drop a x))) (take (a + 20 - a) (drop a x)) z r
      → Wrote (message base f y (i + 1)) e (put_mid a (a + 20 - a) x z) (a + r)
  entry_put i {x} {z} {a} {r} {p} {m} h room at is g =
      let k = entry_size p m in
      let o : length x ≡ length e = as_long h (omega arith) in
      wrote_as (message_next base f y i ∙ ap₂ (λ q n. message base f y i ++ entry q n) (sym at) (sym is))
      (added_front (added_part (front_added h) (copied_part (entry p m) x a (a + 20 - a) (omega arith) (omega arith) g) (omega arith) (omega arith)))

-- ---- messages

module _ (n base : ℕ) (f : ℕ → ℕ) (e : List ℕ) where
  pub before_none : Wrote (messages_before n base f 0) e e 0
  before_none = wrote_none e (each_zero _ 0)

  -- there is room for message k
  pub before_room : (k : ℕ) {x : List ℕ} {a m : ℕ} → k < message_count_of n → Wrote (messages_before n base f k) e x a → m ≡ messages_length_of n → m ≤ length e
      → header_length + entry_count_of n k * entry_length ≤ length (take (length x - a) (drop a x))
  before_room k p h is fits = room _ h (omega (arith, h.used, before_size n base f k, message_room n k p))

  pub before_put : (k : ℕ) {x y : List ℕ} {a r : ℕ} → Wrote (messages_before n base f k) e x a
      → Wrote (message base f (first_node k) (entry_count_of n k)) (take (length x - a) (drop a x)) y r
      → Wrote (messages_before n base f (k + 1)) e (put_mid a (length x - a) x y) (a + r)
  before_put k h g = wrote_as (each_next _ k) (wrote_then h g)

-- what the call answers: b and n are what is given, m is the length of the messages
module _ (base : ℕ) (x : Net) (out : List ℕ) {b n z m : ℕ} (same : (b ≡ base) × (n ≡ z)) (is : z ≡ x.nodes) (given : 0 ≡ given_then base z 0)
    (size : m ≡ messages_length_of n) where
  right : given_then base x.nodes 0 ≡ 0
  right = rw (← is) (sym given)

  long : m ≡ messages_length_of x.nodes
  long = size ∙ ap messages_length_of (same.1 ∙ is)

  pub too_short : length out < m → Writes (write_of base x out) (Err F.Room) out
  too_short h = write_short base x out right (omega (arith, long))

  pub all_written : {k a : ℕ} {exit : List ℕ} → m ≤ length out → k ≡ message_count_of n → Wrote (messages_before n b (row_metric_of x) k) out exit a
      → Writes (write_of base x out) (Ok a) exit
  unfolding messages row_messages
  all_written h e w = write_fits base x out right (omega (arith, long)) (rw (e, same.0, same.1, is) at w)
