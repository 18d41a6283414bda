-- What an output holds when its rest, lent from a place on, has come back with bytes written at the rest's front.
-- Assumes nothing.
use mathlib.Core.Path.{◌≡◌, refl, sym, ap, ◌∙◌}
use mathlib.Core.List.{List, [], ◌∷◌, ◌++◌, append_assoc, append-nil}
use Prim.Native.Nat.{ℕ, suc, ◌+◌, ◌-◌, ◌<◌, ◌≤◌}
use native.Mathlib.Nat.{zero-add}
use native.Mathlib.Numerals.{add-one}
use native.Mathlib.Omega.{arith}
use lib.ListN.{length, take, drop, set, get_or, length-append, length-take, length-drop, take-append-drop, drop_of_length-le}
use lib.Seq.{length-take-le, take_at, drop_at, drop-cons, set_at, take_all, drop-drop}
use Rattle.filling.specs.Filling.{Wrote, Added}

-- nothing written
pub wrote_none : {w : List ℕ} (e : List ℕ) → w ≡ [] → Wrote w e e 0
wrote_none e p = record { used = sym (ap length p); left = rw p }

-- one byte stored at the front
pub wrote_byte : (v : ℕ) (e : List ℕ) → 1 ≤ length e → Wrote (v ∷ []) e (set e 0 v) 1
wrote_byte v [] h = absurd (omega arith)
wrote_byte v (x ∷ e) h = record { used = refl; left = refl }

-- the same bytes in other words
pub wrote_as : {s w e x : List ℕ} {r : ℕ} → s ≡ w → Wrote w e x r → Wrote s e x r
wrote_as p h = rw p h

-- the place is within the output, and the output is as long as it was
pub within : {w e x : List ℕ} {a : ℕ} → Wrote w e x a → a ≤ length x
within {w} {e} {x} {a} h = omega (arith, h.used, ap length h.left, length-append w (drop a e))

pub as_long : {w e x : List ℕ} {a : ℕ} → Wrote w e x a → a ≤ length e → length x ≡ length e
as_long {w} {e} {x} {a} h m = omega (arith, h.used, ap length h.left, length-append w (drop a e), length-drop a e)

-- the part lent from a on is what the written bytes stand before
pub lent : {w e x : List ℕ} {a : ℕ} → Wrote w e x a → take (length x - a) (drop a x) ≡ drop a e
lent {w} {e} {x} {a} h =
    let r : drop a x ≡ drop a e = ap (drop a) h.left ∙ drop_at w (drop a e) a (sym h.used) in
    let l : length x ≡ a + length (drop a e) = omega (arith, h.used, ap length h.left, length-append w (drop a e)) in
    ap (take (length x - a)) r ∙ take_all (length x - a) (drop a e) (omega arith)

-- that part has room for k bytes where the output has room for them after those written
pub room : {w e x : List ℕ} {a : ℕ} (k : ℕ) → Wrote w e x a → a + k ≤ length e → k ≤ length (take (length x - a) (drop a x))
room {w} {e} {x} {a} k h m = omega (arith, ap length (lent h), length-drop a e)

-- bytes written in the rest, after those that stand
pub wrote_then : {w v e x y : List ℕ} {a k : ℕ} → Wrote w e x a → Wrote v (take (length x - a) (drop a x)) y k
    → Wrote (w ++ v) e (take a x ++ (y ++ drop (length x - a) (drop a x))) (a + k)
wrote_then {w} {v} {e} {x} {y} {a} {k} h g =
    let t : take a x ≡ w = ap (take a) h.left ∙ take_at w (drop a e) a (sym h.used) in
    let z : drop (length x - a) (drop a x) ≡ [] = drop_of_length-le (drop a x) {i = length x - a} (simp length-drop (omega arith)) in
    let s : y ≡ v ++ drop (a + k) e = g.left ∙ ap (λ (l : List ℕ). v ++ drop k l) (lent h) ∙ ap (λ (l : List ℕ). v ++ l) (drop-drop k a e) in
    record {
      used = omega (arith, h.used, g.used, length-append w v);
      left = rw (t, z, s) (simp (append-nil, append_assoc));
    }

-- there is room for the same bytes in other words
pub room_as : {s w : List ℕ} {n m : ℕ} → s ≡ w → length w ≡ n → length s ≤ m → n ≤ m
room_as p q h = omega (arith, ap length p)

-- ---- bytes written from a place on

-- as bytes written after those that stand before the place
added_wrote : {w e x : List ℕ} {a b : ℕ} → Added w e x a b → Wrote (take a e ++ w) e x b
added_wrote {w} {e} {x} {a} {b} h =
    record {
      used = omega (arith, h.place, length-append (take a e) w, length-take-le a e h.within);
      left = h.left ∙ sym (append_assoc (take a e) w (drop b e));
    }

-- none written
pub added_none : {w : List ℕ} (e : List ℕ) (a : ℕ) → w ≡ [] → a ≤ length e → Added w e e a a
added_none e a p h =
    record {
      within = h;
      place = rw p (omega arith);
      left = rw p (sym (take-append-drop a e));
    }

-- the same bytes in other words
pub added_as : {s w e x : List ℕ} {a b : ℕ} → s ≡ w → Added w e x a b → Added s e x a b
added_as p h = rw p h

-- one byte more, stored at the next place
pub added_byte : {w e x : List ℕ} {a b : ℕ} (v : ℕ) → Added w e x a b → b < length e → Added (w ++ (v ∷ [])) e (set x b v) a (b + 1)
added_byte {w} {e} {x} {a} {b} v h k =
    let n : length (take a e ++ w) ≡ b = omega (arith, h.place, length-append (take a e) w, length-take-le a e h.within) in
    record {
      within = h.within;
      place = omega (arith, h.place, length-append w (v ∷ []));
      left =
          ap (λ (l : List ℕ). set l b v) (h.left ∙ sym (append_assoc (take a e) w (drop b e)) ∙ ap (λ (l : List ℕ). (take a e ++ w) ++ l) (drop-cons e b 0 k)) ∙
          set_at (take a e ++ w) (get_or e b 0) (drop (suc b) e) v b n ∙ rw (add-one b) (simp append_assoc);
    }

-- the next place is within the output, and the output is as long as it was
pub added_within : {w e x : List ℕ} {a b : ℕ} → Added w e x a b → b ≤ length x
added_within h = within (added_wrote h)

pub added_long : {w e x : List ℕ} {a b : ℕ} → Added w e x a b → b ≤ length e → length x ≡ length e
added_long h m = as_long (added_wrote h) m

-- the part lent from b on has room for k bytes
pub added_room : {w e x : List ℕ} {a b : ℕ} (k : ℕ) → Added w e x a b → b + k ≤ length e → k ≤ length (take (length x - b) (drop b x))
added_room k h m = room k (added_wrote h) m

-- the output itself has room for them
pub added_fits : {w e x : List ℕ} {a b : ℕ} (k : ℕ) → Added w e x a b → b + k ≤ length e → b + k ≤ length x
added_fits k h m = omega (arith, added_long h (omega arith))

-- more bytes, written in the rest
pub added_then : {w v e x y : List ℕ} {a b k : ℕ} → Added w e x a b → Wrote v (take (length x - b) (drop b x)) y k
    → Added (w ++ v) e (take b x ++ (y ++ drop (length x - b) (drop b x))) a (b + k)
added_then {w} {v} {e} {x} {y} {a} {b} {k} h g =
    record {
      within = h.within;
      place = omega (arith, h.place, g.used, length-append w v);
      left = (wrote_then (added_wrote h) g).left ∙ simp append_assoc;
    }

-- a part of k bytes, lent from a on, has that length
pub part_size : (e : List ℕ) (a k : ℕ) → a + k ≤ length e → length (take k (drop a e)) ≡ k
part_size e a k h = simp (length-take, length-drop) (omega arith)

-- more bytes, written in a part that is lent from b on and has just room for them
pub added_part : {w v e x y : List ℕ} {a b k r : ℕ} → Added w e x a b → Wrote v (take k (drop b x)) y r → length v ≡ k → b + k ≤ length e
    → Added (w ++ v) e (take b x ++ (y ++ drop k (drop b x))) a (b + r)
added_part {w} {v} {e} {x} {y} {a} {b} {k} {r} h g l m =
    let z : r ≡ k = g.used ∙ l in
    let n : length x ≡ length e = added_long h (omega arith) in
    let o : length (take k (drop b x)) ≤ k = omega (arith, length-take k (drop b x)) in
    let u : y ≡ v = g.left ∙ ap (λ (i : ℕ). v ++ drop i (take k (drop b x))) z ∙ rw (drop_of_length-le (take k (drop b x)) {i = k} o, append-nil v) in
    let t : take b x ≡ take a e ++ w = ap (take b) (added_wrote h).left ∙ take_at (take a e ++ w) (drop b e) b (sym (added_wrote h).used) in
    let d : drop b x ≡ drop b e = ap (drop b) (added_wrote h).left ∙ drop_at (take a e ++ w) (drop b e) b (sym (added_wrote h).used) in
    record {
      within = h.within;
      place = omega (arith, h.place, g.used, length-append w v);
      left = rw (u, t, d, drop-drop k b e, z) (simp append_assoc);
    }

-- bytes written at the front, and others from the place after them on
pub wrote_on : {w v e x y : List ℕ} {a b : ℕ} → Wrote w e x a → Added v x y a b → Wrote (w ++ v) e y b
wrote_on {w} {v} {e} {x} {y} {a} {b} h g =
    let t : take a x ≡ w = ap (take a) h.left ∙ take_at w (drop a e) a (sym h.used) in
    let r : drop a x ≡ drop a e = ap (drop a) h.left ∙ drop_at w (drop a e) a (sym h.used) in
    let m : b ≡ a + length v = g.place in
    let d : drop b x ≡ drop b e =
    ap (λ (k : ℕ). drop k x) m ∙ sym (drop-drop (length v) a x) ∙ ap (drop (length v)) r ∙
    drop-drop (length v) a e ∙ sym (ap (λ (k : ℕ). drop k e) m) in
    record {
      used = omega (arith, h.used, m, length-append w v);
      left = g.left ∙ rw (t, d) (sym (append_assoc w v (drop b e)));
    }

-- bytes written from a place on, and others from the next place on
pub added_on : {w v e x y : List ℕ} {a b k : ℕ} → Added w e x a b → Added v x y b k → Added (w ++ v) e y a k
added_on {w} {v} {e} {x} {y} {a} {b} {k} h g =
    record {
      within = h.within;
      place = omega (arith, h.place, g.place, length-append w v);
      left = (wrote_on (added_wrote h) g).left ∙ simp append_assoc;
    }

-- ---- bytes written in the rest of an output, which is lent from a place on

-- there is room for the same bytes in other words
pub place_room : {s w : List ℕ} {k m : ℕ} (a : ℕ) → s ≡ w → length w ≡ k → a + length s ≤ m → a + k ≤ m
place_room a p q h = omega (arith, ap length p)

module _ (e : List ℕ) (a : ℕ) (within : a ≤ length e) where
  pub rest_room : (k : ℕ) → a + k ≤ length e → k ≤ length (take (length e - a) (drop a e))
  rest_room k h = added_room k (added_none {w = []} e a refl within) h

  pub rest_added : {v y : List ℕ} {k : ℕ} → Wrote v (take (length e - a) (drop a e)) y k
      → Added v e (take a e ++ (y ++ drop (length e - a) (drop a e))) a (a + k)
  rest_added h = added_then (added_none {w = []} e a refl within) h

-- from the first place on
pub added_front : {w e x : List ℕ} {b : ℕ} → Added w e x 0 b → Wrote w e x b
added_front h = record { used = h.place ∙ zero-add _; left = h.left }

pub front_added : {w e x : List ℕ} {b : ℕ} → Wrote w e x b → Added w e x 0 b
front_added h = record { within = omega arith; place = h.used ∙ sym (zero-add _); left = h.left }

-- ---- an output that is split

-- bytes that fill the first part, and others at the front of the second
pub wrote_split : {w v e f b x y : List ℕ} {a r : ℕ} → e ≡ f ++ b → Wrote w f x a → length w ≡ length f → Wrote v b y r → Wrote (w ++ v) e (x ++ y) (a + r)
wrote_split {w} {v} {e} {f} {b} {x} {y} {a} {r} p h l g =
    let n : length f ≡ a = omega (arith, h.used, l) in
    let all : x ≡ w = h.left ∙ rw (drop_of_length-le f {i = a} (omega arith), append-nil w) in
    let d : drop (a + r) e ≡ drop r b = sym (drop-drop r a e) ∙ ap (drop r) (ap (drop a) p ∙ drop_at f b a n) in
    record {
      used = omega (arith, h.used, g.used, length-append w v);
      left = rw (all, d, g.left) (simp append_assoc);
    }
