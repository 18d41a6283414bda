-- The faults in numbers: NAME-says gives the facts from a fault's absence, NAME-free its absence from the facts, NAME-bad its presence.
-- Assumes nothing.
use mathlib.Core.Path.{◌≡◌}
use mathlib.Core.Bool.{true, false, not, ◌||◌, or-true}
use mathlib.Core.Logic.{◌≢◌}
use Prim.Native.Nat.{ℕ, ◌+◌, ◌-◌, ◌^◌, ◌<◌, ◌≤◌}
use native.Mathlib.Omega.{arith}
use lib.Dec.{eqb, ltb, leb}
use borrow.Author.Tests.{ltb-false, leb-true, leb-false, eqb-false, lt-ltb, le-ltb, lt-leb, le-leb, ne_eqb, not-false}
use Rattle.ancestors.specs.Ancestors.{has}
use Rattle.ancestors.proofs.Cases.{or_neither, eqb_same}
use Rattle.ancestors.proofs.Laws.{has_beyond, bit_beyond}
use Rattle.network.specs.Faults.{max_nodes, max_cost, max_label, max_grade, size_fault, node_fault, pair_fault_of, cost_fault, grade_fault, origin_fault, row_label_fault, report_label_fault, predecessor_fault, list_fault_of, arc_fault, row_fault_of, report_fault_of}

-- ---- 3, range

pub size_says : (n origin : ℕ) → size_fault n origin ≡ false → (1 ≤ n) × (n ≤ max_nodes) × (origin < n)
unfolding size_fault
size_says n origin e =
    let a = or_neither (eqb n 0) (ltb max_nodes n || leb n origin) e in
    let b = or_neither (ltb max_nodes n) (leb n origin) a.1 in
    (omega (arith, eqb-false n 0 a.0), ltb-false max_nodes n b.0, leb-false n origin b.1)

pub size_free : (n origin : ℕ) → 1 ≤ n → n ≤ max_nodes → origin < n → size_fault n origin ≡ false
unfolding size_fault
size_free n origin a b c = rw (ne_eqb n 0 (λ e. omega arith), le-ltb max_nodes n b, lt-leb n origin c)

pub node_says : (n y : ℕ) → node_fault n y ≡ false → y < n
unfolding node_fault
node_says n y e = leb-false n y e

pub node_free : (n y : ℕ) → y < n → node_fault n y ≡ false
unfolding node_fault
node_free n y h = lt-leb n y h

pub node_bad : (n y : ℕ) → n ≤ y → node_fault n y ≡ true
unfolding node_fault
node_bad n y h = le-leb n y h

pub pair_says : (n s r : ℕ) → pair_fault_of n s r ≡ false → (s < n) × (r < n) × (s ≢ r)
unfolding pair_fault_of
pair_says n s r e =
    let a = or_neither (leb n s) (leb n r || eqb s r) e in
    let b = or_neither (leb n r) (eqb s r) a.1 in
    (leb-false n s a.0, leb-false n r b.0, eqb-false s r b.1)

pub pair_free : (n s r : ℕ) → s < n → r < n → s ≢ r → pair_fault_of n s r ≡ false
unfolding pair_fault_of
pair_free n s r a b c = rw (lt-leb n s a, lt-leb n r b, ne_eqb s r c)

pub sender_bad : (n s r : ℕ) → n ≤ s → pair_fault_of n s r ≡ true
unfolding pair_fault_of
sender_bad n s r h = rw (le-leb n s h)

pub receiver_bad : (n s r : ℕ) → n ≤ r → pair_fault_of n s r ≡ true
unfolding pair_fault_of
receiver_bad n s r h = rw (le-leb n r h, or-true (leb n s))

pub pair_same : (n r : ℕ) → pair_fault_of n r r ≡ true
unfolding pair_fault_of
pair_same n r = rw (eqb_same r, or-true (leb n r), or-true (leb n r))

pub cost_says : (c : ℕ) → cost_fault c ≡ false → c ≤ max_cost
unfolding cost_fault
cost_says c e = ltb-false max_cost c e

pub cost_free : (c : ℕ) → c ≤ max_cost → cost_fault c ≡ false
unfolding cost_fault
cost_free c h = le-ltb max_cost c h

pub cost_bad : (c : ℕ) → max_cost < c → cost_fault c ≡ true
unfolding cost_fault
cost_bad c h = lt-ltb max_cost c h

pub grade_says : (g : ℕ) → grade_fault g ≡ false → g ≤ max_grade
unfolding grade_fault
grade_says g e = ltb-false max_grade g e

pub grade_free : (g : ℕ) → g ≤ max_grade → grade_fault g ≡ false
unfolding grade_fault
grade_free g h = le-ltb max_grade g h

pub grade_bad : (g : ℕ) → max_grade < g → grade_fault g ≡ true
unfolding grade_fault
grade_bad g h = lt-ltb max_grade g h

-- ---- 5, 10, 11 and 12, form

pub origin_says : (origin y : ℕ) → origin_fault origin y ≡ false → y ≢ origin
unfolding origin_fault
origin_says origin y e = eqb-false y origin e

pub origin_free : (origin y : ℕ) → y ≢ origin → origin_fault origin y ≡ false
unfolding origin_fault
origin_free origin y h = ne_eqb y origin h

pub row_label_says : (d : ℕ) → row_label_fault d ≡ false → (0 < d) × (d ≤ max_label)
unfolding row_label_fault
row_label_says d e =
    let a = or_neither (eqb d 0) (ltb max_label d) e in
    (omega (arith, eqb-false d 0 a.0), ltb-false max_label d a.1)

pub row_label_free : (d : ℕ) → 0 < d → d ≤ max_label → row_label_fault d ≡ false
unfolding row_label_fault
row_label_free d a b = rw (ne_eqb d 0 (λ e. omega arith), le-ltb max_label d b)

pub report_label_says : (d : ℕ) → report_label_fault d ≡ false → d ≤ max_label
unfolding report_label_fault
report_label_says d e = ltb-false max_label d e

pub report_label_free : (d : ℕ) → d ≤ max_label → report_label_fault d ≡ false
unfolding report_label_fault
report_label_free d h = le-ltb max_label d h

pub predecessor_says : (n y p : ℕ) → predecessor_fault n y p ≡ false → (p < n) × (p ≢ y)
unfolding predecessor_fault
predecessor_says n y p e =
    let a = or_neither (leb n p) (eqb p y) e in
    (leb-false n p a.0, eqb-false p y a.1)

pub predecessor_free : (n y p : ℕ) → p < n → p ≢ y → predecessor_fault n y p ≡ false
unfolding predecessor_fault
predecessor_free n y p a b = rw (lt-leb n p a, ne_eqb p y b)

pub list_says : (n i l : ℕ) → list_fault_of n i l ≡ false → (l < 2 ^ n) × (has l i ≡ true)
unfolding list_fault_of
list_says n i l e =
    let a = or_neither (leb (2 ^ n) l) (not (has l i)) e in
    (leb-false (2 ^ n) l a.0, not-false (has l i) a.1)

pub list_free : (n i l : ℕ) → l < 2 ^ n → has l i ≡ true → list_fault_of n i l ≡ false
unfolding list_fault_of
list_free n i l a b = rw (lt-leb (2 ^ n) l a, b)

pub arc_says : (c : ℕ) → arc_fault c ≡ false → 0 < c
unfolding arc_fault
arc_says c e = omega (arith, eqb-false c 0 e)

pub arc_free : (c : ℕ) → 0 < c → arc_fault c ≡ false
unfolding arc_fault
arc_free c h = ne_eqb c 0 (λ e. omega arith)

-- ---- the first test of a list says that it has a bit not below n

module _ (n l : ℕ) where
  pub list_bits_low : leb (2 ^ n) l ≡ false → (i : ℕ) → n ≤ i → has l i ≡ false
  list_bits_low e i h = has_beyond n l i (leb-false (2 ^ n) l e) h

  pub list_bits_high : n ≤ 32 → l < 2 ^ 32 → leb (2 ^ n) l ≡ true → (i : ℕ) × (n ≤ i) × (i < 32) × (has l i ≡ true)
  list_bits_high few word e =
      let all : n + (32 - n) ≡ 32 = omega arith in
      let b = bit_beyond n (32 - n) l (leb-true (2 ^ n) l e) (rw all word) in
      (b.0, b.1, omega (arith, b.2), b.3)

-- ---- rows and reports

-- a row of node y without a fault
pub record RowForm (n origin y d p l : ℕ) : Type 0 where
  pub relay : y ≢ origin
  pub positive : 0 < d
  pub label : d ≤ max_label
  pub below : p < n
  pub other : p ≢ y
  pub bits : l < 2 ^ n
  pub own : has l y ≡ true

pub row_says : (n origin y d p l : ℕ) → row_fault_of n origin y d p l ≡ false → RowForm n origin y d p l
unfolding row_fault_of
row_says n origin y d p l e =
    let a = or_neither (origin_fault origin y) (row_label_fault d || (predecessor_fault n y p || list_fault_of n y l)) e in
    let b = or_neither (row_label_fault d) (predecessor_fault n y p || list_fault_of n y l) a.1 in
    let c = or_neither (predecessor_fault n y p) (list_fault_of n y l) b.1 in
    let labels = row_label_says d b.0 in
    let before = predecessor_says n y p c.0 in
    let list = list_says n y l c.1 in
    record {
      relay = origin_says origin y a.0;
      positive = labels.0;
      label = labels.1;
      below = before.0;
      other = before.1;
      bits = list.0;
      own = list.1;
    }

pub row_free : (n origin y d p l : ℕ) → RowForm n origin y d p l → row_fault_of n origin y d p l ≡ false
unfolding row_fault_of
row_free n origin y d p l f =
    rw (
      origin_free origin y f.relay,
      row_label_free d f.positive f.label,
      predecessor_free n y p f.below f.other,
      list_free n y l f.bits f.own,
    )

-- a report of sender s over an arc of cost c without a fault
pub record ReportForm (n c s d l : ℕ) : Type 0 where
  pub arc : 0 < c
  pub label : d ≤ max_label
  pub bits : l < 2 ^ n
  pub own : has l s ≡ true

pub report_says : (n c s d l : ℕ) → report_fault_of n c s d l ≡ false → ReportForm n c s d l
unfolding report_fault_of
report_says n c s d l e =
    let a = or_neither (arc_fault c) (report_label_fault d || list_fault_of n s l) e in
    let b = or_neither (report_label_fault d) (list_fault_of n s l) a.1 in
    let list = list_says n s l b.1 in
    record { arc = arc_says c a.0; label = report_label_says d b.0; bits = list.0; own = list.1 }

pub report_free : (n c s d l : ℕ) → ReportForm n c s d l → report_fault_of n c s d l ≡ false
unfolding report_fault_of
report_free n c s d l f = rw (arc_free c f.arc, report_label_free d f.label, list_free n s l f.bits f.own)
