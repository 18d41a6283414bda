-- Records of an image and their bytes, both ways.
-- Assumes nothing.
use mathlib.Core.Path.{◌≡◌, refl, sym, ap, ◌∙◌}
use mathlib.Core.List.{List, [], ◌∷◌, ◌++◌}
use mathlib.Core.Logic.{◌≢◌}
use Prim.Native.Nat.{ℕ, suc, ◌+◌, ◌%◌, ◌<◌, ◌≤◌}
use native.Mathlib.Omega.{arith}
use lib.Dec.{eqb}
use lib.ListN.{length, get_or, take, drop, take-append-drop, drop_of_length-le}
use lib.Seq.{drop-cons, get_or-take, get_or-drop, length-take-le}
use borrow.Author.Tests.{le-ltb, ne_eqb, eqb-true}
use Rattle.ancestors.proofs.Cases.{cond_by}
use Rattle.records.specs.Numbers.{Bytes, be8, be16, be32, num8, num16, num32}
use Rattle.network.specs.Answered.{fault_number}
use Rattle.network.specs.declared.Fault.{Fault}
use Rattle.network.specs.declared.Fault.TheVariants.{Cut, Kind}
use Rattle.records.specs.Records.{at_start, in_image, arc_record_of, row_record_of, report_record_of, body_length, body_of, arc_change, event_of, allowed, refused_record, bodied, record_of}
use Rattle.records.specs.declared.ArcChange.TheVariants.{Set}
use Rattle.records.specs.declared.Event.TheVariants.{End, Header, Change, Row, Report}
use Rattle.records.specs.declared.Record.{Record}
use Rattle.records.proofs.NumberLaws.{be8_of, be16_of, be32_of, num16_of, num32_of}

-- ---- bytes

pub bytes_drop : (bs : List ℕ) (n : ℕ) → Bytes bs → Bytes (drop n bs)
bytes_drop bs n h i = rw (get_or-drop n bs i 0) (h (n + i))

-- the body's bytes
body_byte : (k : ℕ) (b : List ℕ) (n : ℕ) → Bytes (k ∷ b) → (i : ℕ) → i < n → get_or (take n b) i 0 < 256
body_byte k b n h i a = rw (get_or-take n b i 0 a) (h (suc i))

module _ (l : List ℕ) (n : ℕ) (h : length l ≡ n) where
  -- a list from i on begins with its element i
  from : (i : ℕ) (x : List ℕ) → i < n → drop (suc i) l ≡ x → drop i l ≡ get_or l i 0 ∷ x
  from i x a e = drop-cons l i 0 (omega arith) ∙ ap (λ (y : List ℕ). get_or l i 0 ∷ y) e

  past : drop n l ≡ []
  past = drop_of_length-le l {i = n} (omega arith)

list4 : (l : List ℕ) → length l ≡ 4 → l ≡ get_or l 0 0 ∷ get_or l 1 0 ∷ get_or l 2 0 ∷ get_or l 3 0 ∷ []
list4 l h =
    let f = from l 4 h in
    f 0 _ (omega arith) (f 1 _ (omega arith) (f 2 _ (omega arith) (f 3 _ (omega arith) (past l 4 h))))

list10 : (l : List ℕ) → length l ≡ 10 → l ≡
    get_or l 0 0 ∷ get_or l 1 0 ∷ get_or l 2 0 ∷ get_or l 3 0 ∷ get_or l 4 0 ∷ get_or l 5 0 ∷ get_or l 6 0 ∷ get_or l 7 0 ∷ get_or l 8 0 ∷ get_or l 9 0 ∷ []
list10 l h =
    let f = from l 10 h in
    f 0 _ (omega arith) (f 1 _ (omega arith) (f 2 _ (omega arith) (f 3 _ (omega arith) (f 4 _ (omega arith) (f 5 _ (omega arith)
    (f 6 _ (omega arith) (f 7 _ (omega arith) (f 8 _ (omega arith) (f 9 _ (omega arith) (past l 10 h))))))))))

-- ---- from a body back to the bytes of its record

-- bytes of kind k and a body of n bytes are a record w before the rest
whole_bytes : (k n : ℕ) (b w : List ℕ) → w ≡ k ∷ take n b → k ∷ b ≡ w ++ drop n b
whole_bytes k n b w e = ap (λ (x : List ℕ). k ∷ x) (sym (take-append-drop n b)) ∙ sym (ap (λ (x : List ℕ). x ++ drop n b) e)

pub arc_back : (b : List ℕ) → Bytes (2 ∷ b) → 4 ≤ length b → let t = take 4 b in 2 ∷ b ≡ arc_record_of (num8 t 0) (num8 t 1) (num16 t 2) ++ drop 4 b
unfolding arc_record_of num16 num8
arc_back b h l =
    let t = take 4 b in
    let f : (i : ℕ) → i < 4 → get_or t i 0 < 256 = body_byte 2 b 4 h in
    whole_bytes 2 4 b (arc_record_of (num8 t 0) (num8 t 1) (num16 t 2))
    (rw (
      be8_of 2 (omega arith),
      be8_of (get_or t 0 0) (f 0 (omega arith)),
      be8_of (get_or t 1 0) (f 1 (omega arith)),
      be16_of (get_or t 2 0) (get_or t 3 0) (f 2 (omega arith)) (f 3 (omega arith)),
    )
    (ap (λ (x : List ℕ). 2 ∷ x) (sym (list4 t (length-take-le 4 b l)))))

pub row_back : (b : List ℕ) → Bytes (3 ∷ b) → 10 ≤ length b →
    let t = take 10 b in 3 ∷ b ≡ row_record_of (num8 t 0) (num32 t 1) (num8 t 5) (num32 t 6) ++ drop 10 b
unfolding row_record_of num32 num16 num8
row_back b h l =
    let t = take 10 b in
    let f : (i : ℕ) → i < 10 → get_or t i 0 < 256 = body_byte 3 b 10 h in
    whole_bytes 3 10 b (row_record_of (num8 t 0) (num32 t 1) (num8 t 5) (num32 t 6))
    (rw (
      be8_of 3 (omega arith),
      be8_of (get_or t 0 0) (f 0 (omega arith)),
      be8_of (get_or t 5 0) (f 5 (omega arith)),
      be32_of (get_or t 1 0) (get_or t 2 0) (get_or t 3 0) (get_or t 4 0) (f 1 (omega arith)) (f 2 (omega arith)) (f 3 (omega arith)) (f 4 (omega arith)),
      be32_of (get_or t 6 0) (get_or t 7 0) (get_or t 8 0) (get_or t 9 0) (f 6 (omega arith)) (f 7 (omega arith)) (f 8 (omega arith)) (f 9 (omega arith)),
    )
    (ap (λ (x : List ℕ). 3 ∷ x) (sym (list10 t (length-take-le 10 b l)))))

pub report_back : (b : List ℕ) → Bytes (4 ∷ b) → 10 ≤ length b →
    let t = take 10 b in 4 ∷ b ≡ report_record_of (num8 t 0) (num8 t 1) (num32 t 2) (num32 t 6) ++ drop 10 b
unfolding report_record_of num32 num16 num8
report_back b h l =
    let t = take 10 b in
    let f : (i : ℕ) → i < 10 → get_or t i 0 < 256 = body_byte 4 b 10 h in
    whole_bytes 4 10 b (report_record_of (num8 t 0) (num8 t 1) (num32 t 2) (num32 t 6))
    (rw (
      be8_of 4 (omega arith),
      be8_of (get_or t 0 0) (f 0 (omega arith)),
      be8_of (get_or t 1 0) (f 1 (omega arith)),
      be32_of (get_or t 2 0) (get_or t 3 0) (get_or t 4 0) (get_or t 5 0) (f 2 (omega arith)) (f 3 (omega arith)) (f 4 (omega arith)) (f 5 (omega arith)),
      be32_of (get_or t 6 0) (get_or t 7 0) (get_or t 8 0) (get_or t 9 0) (f 6 (omega arith)) (f 7 (omega arith)) (f 8 (omega arith)) (f 9 (omega arith)),
    )
    (ap (λ (x : List ℕ). 4 ∷ x) (sym (list10 t (length-take-le 10 b l)))))

-- ---- from the bytes to the event

pub end_parse : (at : ℕ) (rest : List ℕ) → record_of in_image at (0 ∷ rest) ≡ record { event = End; used = 1 }
unfolding record_of allowed bodied body_length body_of event_of
end_parse at rest = rw (le-ltb (length rest) 0 (omega arith))

pub arc_parse : (at s r c : ℕ) (rest : List ℕ) → s < 256 → r < 256 → c ≢ 0 → c < 65536 →
    record_of in_image at (arc_record_of s r c ++ rest) ≡ record { event = Change (Set s r c); used = 5 }
unfolding record_of allowed bodied body_length body_of event_of arc_record_of arc_change be16 be8 num16 num8
arc_parse at s r c rest hs hr nz h =
    let ps : s % 256 ≡ s = omega arith in
    let pr : r % 256 ≡ r = omega arith in
    simp (le-ltb (suc (suc (suc (suc (length rest))))) 4 (omega arith), ps, pr, num16_of c h, ne_eqb c 0 nz)

pub row_parse : (at y d p l : ℕ) (rest : List ℕ) → y < 256 → d < 4294967296 → p < 256 → l < 4294967296 →
    record_of in_image at (row_record_of y d p l ++ rest) ≡ record { event = Row y d p l; used = 11 }
unfolding record_of allowed bodied body_length body_of event_of row_record_of be32 be16 be8 num32 num16 num8
row_parse at y d p l rest hy hd hp hl =
    let py : y % 256 ≡ y = omega arith in
    let pp : p % 256 ≡ p = omega arith in
    simp (le-ltb (suc (suc (suc (suc (suc (suc (suc (suc (suc (suc (length rest))))))))))) 10 (omega arith), py, pp, num32_of d hd, num32_of l hl)

pub report_parse : (at s r d l : ℕ) (rest : List ℕ) → s < 256 → r < 256 → d < 4294967296 → l < 4294967296 →
    record_of in_image at (report_record_of s r d l ++ rest) ≡ record { event = Report s r d l; used = 11 }
unfolding record_of allowed bodied body_length body_of event_of report_record_of be32 be16 be8 num32 num16 num8
report_parse at s r d l rest hs hr hd hl =
    let ps : s % 256 ≡ s = omega arith in
    let pr : r % 256 ≡ r = omega arith in
    simp (le-ltb (suc (suc (suc (suc (suc (suc (suc (suc (suc (suc (length rest))))))))))) 10 (omega arith), ps, pr, num32_of d hd, num32_of l hl)

-- ---- the first record

pub data StartShown (bs : List ℕ) (r : Record) : Type 0 where
  a_header : (n o : ℕ) (b : List ℕ) → bs ≡ 1 ∷ n ∷ o ∷ b → r ≡ record { event = Header n o; used = 3 } → StartShown bs r
  a_stop : (f : Fault) → fault_number f ≢ 0 → r ≡ refused_record f 0 → StartShown bs r

header_shown : (b : List ℕ) → StartShown (1 ∷ b) (bodied 0 1 b)
unfolding bodied body_length body_of event_of num8
header_shown [] = a_stop Cut (λ z. omega arith) refl
header_shown (n ∷ []) = a_stop Cut (λ z. omega arith) refl
header_shown (n ∷ o ∷ b) = a_header n o b refl (rw (le-ltb (suc (suc (length b))) 2 (omega arith)))

pub start_shown : (bs : List ℕ) → StartShown bs (record_of at_start 0 bs)
unfolding record_of allowed
start_shown [] = a_stop Cut (λ z. omega arith) refl
start_shown (k ∷ b) =
    cond_by (StartShown (k ∷ b)) (eqb k 1) (bodied 0 k b) (refused_record Kind 0)
    (λ e. rw (eqb-true k 1 e) (header_shown b)) (λ _. a_stop Kind (λ z. omega arith) refl)

pub header_parse : (n o : ℕ) (b : List ℕ) → record_of at_start 0 (1 ∷ n ∷ o ∷ b) ≡ record { event = Header n o; used = 3 }
unfolding record_of allowed bodied body_length body_of event_of num8
header_parse n o b = rw (le-ltb (suc (suc (length b))) 2 (omega arith))
