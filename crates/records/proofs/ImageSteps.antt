-- One record of an image: what a step that goes on has read, and that the record of a rank is taken.
-- Assumes nothing.
use mathlib.Core.Path.{◌≡◌, refl, sym, ap, subst, ◌∙◌}
use mathlib.Core.Bool.{true, false, cond}
use mathlib.Core.List.{List, [], ◌∷◌, ◌++◌}
use mathlib.Core.Logic.{◌⊎◌, inl, inr, ◌≢◌}
use Prim.Native.Nat.{ℕ, suc, ◌+◌, ◌-◌, ◌/◌, ◌%◌, ◌<◌, ◌≤◌}
use native.Mathlib.Omega.{arith}
use lib.Dec.{eqb, ltb}
use lib.ListN.{length, take, drop}
use borrow.Author.Tests.{eqb-true, eqb-false, ltb-false, le-ltb}
use Rattle.ancestors.proofs.Cases.{cond_by, bool_cases, eq_or_ne, le_or_lt, clash}
use Rattle.network.specs.Faults.{node_fault, pair_fault_of, first_number}
use Rattle.network.specs.Network.{Row, none, root, via, Report, empty, told, Net, Within, with_row, with_held}
use Rattle.network.specs.Placing.{place_row_number, place_report_number}
use Rattle.network.specs.Change.{changed, change_number}
use Rattle.network.proofs.Effects.{Stays, nodes_stay, origin_stay}
use Rattle.network.proofs.Accepting.{change_accepted, place_row_accepted, place_report_accepted, change_free, place_row_free, place_report_free}
use Rattle.network.proofs.FaultLaws.{cost_free, node_says, pair_says}
use Rattle.network.proofs.Limits.{within_size, within_row, within_report}
use Rattle.records.specs.Numbers.{Bytes, num8, num16, num32}
use Rattle.network.specs.Answered.{fault_number}
use Rattle.network.specs.declared.Fault.{Fault}
use Rattle.network.specs.declared.Fault.TheVariants.{Cut, Kind}
use Rattle.records.specs.Records.{body_length, record_length, in_image, arc_record_of, row_record_of, report_record_of, arc_change, event_of, allowed, body_of, refused_record, record_of}
use Rattle.records.specs.Image.{row_bytes, report_bytes}
use Rattle.records.specs.Opening.{first_row, first_report, rank_count, arc_rank, row_rank, report_rank, order_number, arc_number, row_number_of, report_number_of, Step, stop, finish, onward, judged, placed}
use Rattle.records.specs.declared.ArcChange.TheVariants.{Set, Removed}
use Rattle.records.specs.declared.Event.TheVariants as E
use Rattle.records.specs.declared.Record.{Record}
use Rattle.records.proofs.Ranks.{rank_bytes}
use Rattle.records.proofs.Parsing.{arc_back, row_back, report_back, arc_parse, row_parse, report_parse}
use Rattle.records.proofs.Reading.{kinds, EachAllowed, ◌&◌, by_allowed, whole_record, by_outcome}
use Rattle.records.proofs.PlacedRecords.{pair_rank_small, rank_pair, arc_here, row_here, report_here, arc_off, row_off, report_off, arc_some, arc_none, PlacedAt, arc_placed, row_placed, report_placed}
use Rattle.records.proofs.SameImage.{list_small, cost_said}
use Rattle.records.proofs.Sizes.{arc_long, row_long, report_long}

-- ---- numbers

first_none : (a b : ℕ) → first_number a b ≡ 0 → (a ≡ 0) × (b ≡ 0)
unfolding first_number
first_none a b =
    cond_by (λ k. k ≡ 0 → (a ≡ 0) × (b ≡ 0)) (eqb a 0) b a (λ t e. (eqb-true a 0 t, e)) (λ t e. absurd (eqb-false a 0 t e))

none_first : (a b : ℕ) → a ≡ 0 → b ≡ 0 → first_number a b ≡ 0
unfolding first_number
none_first a b p q = rw (p, q)

in_order : (next k : ℕ) → order_number next k ≡ 0 → next ≤ k
unfolding order_number
in_order next k = cond_by (λ e. e ≡ 0 → next ≤ k) (ltb k next) 4 0 (λ _ e. absurd (omega arith)) (λ t _. ltb-false k next t)

order_none : (next k : ℕ) → next ≤ k → order_number next k ≡ 0
unfolding order_number
order_none next k h = rw (le-ltb k next h)

-- ---- steps of different kinds are not equal

stop_onward : {A : Type 0} (e : ℕ) (z : Net) (n : ℕ) → ◌≡◌ {A = Step} (stop e) (onward z n) → A
stop_onward e z n q = clash cc

judged_onward : (e : ℕ) (x : Net) (k : ℕ) (z : Net) (n : ℕ) → judged e x k ≡ onward z n → (e ≡ 0) × (z ≡ x) × (n ≡ suc k)
unfolding judged
judged_onward e x k z n =
    cond_by (λ w. w ≡ onward z n → (e ≡ 0) × (z ≡ x) × (n ≡ suc k)) (eqb e 0) _ _
    (λ t q. (eqb-true e 0 t, (cc), (cc))) (λ _ q. stop_onward e z n q)

judged_finish : (e : ℕ) (x : Net) (k : ℕ) → judged e x k ≡ finish → ⊥
unfolding judged
judged_finish e x k =
    cond_by (λ w. w ≡ finish → ⊥) (eqb e 0) _ _
    (λ _ q. clash cc) (λ _ q. clash cc)

judged_stop : (e : ℕ) (x : Net) (k d : ℕ) → judged e x k ≡ stop d → d ≢ 0
unfolding judged
judged_stop e x k d =
    cond_by (λ w. w ≡ stop d → d ≢ 0) (eqb e 0) _ _
    (λ _ q. clash cc) (λ t q z. let y : e ≡ d = cc in eqb-false e 0 t (y ∙ z))

-- ---- what a step that went on says of the record

module _ (x : Net) (next : ℕ) (z : Net) (n : ℕ) where
  arc_on : (s r c : ℕ) → placed x next (E.Change (arc_change s r c)) ≡ onward z n →
      (c ≢ 0) × (change_number x s r c ≡ 0) × (next ≤ arc_rank s r) × (z ≡ changed x s r c) × (n ≡ suc (arc_rank s r))
  unfolding placed arc_change arc_number
  arc_on s r c =
      cond_by
      (λ v. placed x next (E.Change v) ≡ onward z n
      → (c ≢ 0) × (change_number x s r c ≡ 0) × (next ≤ arc_rank s r) × (z ≡ changed x s r c) × (n ≡ suc (arc_rank s r)))
      (eqb c 0) (Removed s r) (Set s r c) (λ _ q. clash cc)
      (λ t q.
      let j = judged_onward (arc_number x next s r c) (changed x s r c) (arc_rank s r) z n q in
      let f = first_none (change_number x s r c) (order_number next (arc_rank s r)) j.0 in
      (eqb-false c 0 t, f.0, in_order next (arc_rank s r) f.1, j.1, j.2))

  row_on : (y d p l : ℕ) → placed x next (E.Row y d p l) ≡ onward z n →
      (place_row_number x y d p l ≡ 0) × (next ≤ row_rank y) × (z ≡ with_row x y (via d p l)) × (n ≡ suc (row_rank y))
  unfolding placed row_number_of
  row_on y d p l q =
      let j = judged_onward (row_number_of x next y d p l) (with_row x y (via d p l)) (row_rank y) z n q in
      let f = first_none (cond (node_fault x.nodes y) 3 0) (first_number (order_number next (row_rank y)) (place_row_number x y d p l)) j.0 in
      let g = first_none (order_number next (row_rank y)) (place_row_number x y d p l) f.1 in
      (g.1, in_order next (row_rank y) g.0, j.1, j.2)

  report_on : (s r d l : ℕ) → placed x next (E.Report s r d l) ≡ onward z n →
      (place_report_number x s r d l ≡ 0) × (next ≤ report_rank s r) × (z ≡ with_held x s r (told d l)) × (n ≡ suc (report_rank s r))
  unfolding placed report_number_of
  report_on s r d l q =
      let j = judged_onward (report_number_of x next s r d l) (with_held x s r (told d l)) (report_rank s r) z n q in
      let f = first_none (cond (pair_fault_of x.nodes s r) 3 0) (first_number (order_number next (report_rank s r)) (place_report_number x s r d l)) j.0 in
      let g = first_none (order_number next (report_rank s r)) (place_report_number x s r d l) f.1 in
      (g.1, in_order next (report_rank s r) g.0, j.1, j.2)

-- ---- reading

-- what a step that went on has read: the bytes w of the rank k, of which there were none
pub record ReadAt (x : Net) (next : ℕ) (bs : List ℕ) (len : ℕ) (z : Net) (n : ℕ) : Type 0 where
  pub k : ℕ
  pub w : List ℕ
  pub above : next ≤ k
  pub below : k < rank_count
  pub moved : n ≡ suc k
  pub bytes : bs ≡ w ++ drop len bs
  pub long : len ≡ length w
  pub placed_at : PlacedAt x z k w

-- no record from the rank `next` on
abbrev pub NoneFrom : Net → ℕ → Type 0
NoneFrom x next = (i : ℕ) → next ≤ i → i < rank_count → rank_bytes x i ≡ []

module _ (x : Net) (next at : ℕ) (bs : List ℕ) where
  -- what holds of a whole record of each kind that an image has, and of one that is refused, holds of the record read
  by_image_kind : (P : Record → Type 0) → ((f : Fault) → fault_number f ≢ 0 → P (refused_record f at)) →
      EachAllowed in_image (λ k. (b : List ℕ) → bs ≡ k ∷ b → body_length k ≤ length b → P (whole_record at k b)) kinds → P (record_of in_image at bs)
  by_image_kind P stopped each =
      by_outcome P in_image at bs (stopped Cut (λ z. omega arith)) (stopped Kind (λ z. omega arith))
      (λ k b e a l. by_allowed in_image (λ k. (b : List ℕ) → bs ≡ k ∷ b → body_length k ≤ length b → P (whole_record at k b)) each k a b e l)

  -- only the end record ends
  pub end_at : placed x next (record_of in_image at bs).event ≡ finish → (rest : List ℕ) × (bs ≡ 0 ∷ rest)
  unfolding allowed placed event_of arc_change
  end_at =
      by_image_kind (λ r. placed x next r.event ≡ finish → (rest : List ℕ) × (bs ≡ 0 ∷ rest)) (λ _ _ q. clash cc)
      (tt & (λ b e _ _. (b, e))
      & (λ b _ _. cond_by (λ v. placed x next (E.Change v) ≡ finish → (rest : List ℕ) × (bs ≡ 0 ∷ rest)) (eqb (num16 (body_of 2 b) 2) 0) _ _
      (λ _ q. clash cc) (λ _ q. absurd (judged_finish _ _ _ q)))
      & (λ _ _ _ q. absurd (judged_finish _ _ _ q))
      & (λ _ _ _ q. absurd (judged_finish _ _ _ q)))

  -- a refused record has a number other than 0
  pub stop_at : (e : ℕ) → placed x next (record_of in_image at bs).event ≡ stop e → e ≢ 0
  unfolding allowed placed event_of arc_change
  stop_at e =
      by_image_kind (λ r. placed x next r.event ≡ stop e → e ≢ 0) (λ f n q z. let y : fault_number f ≡ e = cc in n (y ∙ z))
      (tt & (λ _ _ _ q. clash cc)
      & (λ b _ _. cond_by (λ v. placed x next (E.Change v) ≡ stop e → e ≢ 0) (eqb (num16 (body_of 2 b) 2) 0) _ _
      (λ _ q z. let y : 3 ≡ e = cc in omega arith) (λ _ q. judged_stop _ _ _ e q))
      & (λ _ _ _ q. judged_stop _ _ _ e q)
      & (λ _ _ _ q. judged_stop _ _ _ e q))

  module _ (w : Within x) (by : Bytes bs) (none_from : NoneFrom x next) (z : Net) (n : ℕ) where
    -- a record of kind k that led on
    abbrev Reads : ℕ → Type 0
    Reads k = (b : List ℕ) → bs ≡ k ∷ b → body_length k ≤ length b → placed x next (event_of at k (body_of k b)) ≡ onward z n →
        ReadAt x next bs (record_length k) z n

    read_arc : Reads 2
    unfolding event_of body_of body_length
    read_arc b e l q =
        let t = take 4 b in
        let s = num8 t 0 in
        let r = num8 t 1 in
        let c = num16 t 2 in
        let g = arc_on x next z n s r c q in
        let pair = pair_says x.nodes s r (change_accepted x s r c g.1).0 in
        let few = (within_size x w).1 in
        let small = pair_rank_small s r (omega (arith, pair.0)) (omega (arith, pair.1)) in
        record {
          k = arc_rank s r;
          w = arc_record_of s r c;
          above = g.2;
          below = omega (arith, small);
          moved = g.4;
          bytes = rw e (arc_back b (rw (← e) by) l);
          long = sym (arc_long s r c);
          placed_at = rw g.3 (arc_placed x w s r c g.1 g.0 (none_from (arc_rank s r) g.2 (omega (arith, small))));
        }

    read_row_lem : Reads 3
    unfolding event_of body_of body_length row_rank
    read_row_lem b e l q =
        let t = take 10 b in
        let y = num8 t 0 in
        let d = num32 t 1 in
        let p = num8 t 5 in
        let i = num32 t 6 in
        let g = row_on x next z n y d p i q in
        let node = node_says x.nodes y (place_row_accepted x y d p i g.0).0 in
        let few = (within_size x w).1 in
        record {
          k = row_rank y;
          w = row_record_of y d p i;
          above = g.1;
          below = omega arith;
          moved = g.3;
          bytes = rw e (row_back b (rw (← e) by) l);
          long = sym (row_long y d p i);
          placed_at = rw g.2 (row_placed x w y d p i g.0);
        }

    read_report : Reads 4
    unfolding event_of body_of body_length report_rank
    read_report b e l q =
        let t = take 10 b in
        let s = num8 t 0 in
        let r = num8 t 1 in
        let d = num32 t 2 in
        let i = num32 t 6 in
        let g = report_on x next z n s r d i q in
        let pair = pair_says x.nodes s r (place_report_accepted x s r d i g.0).0 in
        let few = (within_size x w).1 in
        let small = pair_rank_small s r (omega (arith, pair.0)) (omega (arith, pair.1)) in
        record {
          k = report_rank s r;
          w = report_record_of s r d i;
          above = g.1;
          below = omega (arith, small);
          moved = g.3;
          bytes = rw e (report_back b (rw (← e) by) l);
          long = sym (report_long s r d i);
          placed_at = rw g.2 (report_placed x w s r d i g.0);
        }

    pub read_at : placed x next (record_of in_image at bs).event ≡ onward z n → ReadAt x next bs (record_of in_image at bs).used z n
    unfolding allowed placed event_of
    read_at =
        by_image_kind (λ r. placed x next r.event ≡ onward z n → ReadAt x next bs r.used z n) (λ _ _ q. clash cc)
        (tt & (λ _ _ _ q. clash cc) & read_arc & read_row_lem & read_report)

-- ---- the record of a rank is taken

-- z has what x has below the rank k, and nothing from there on
pub record Prefix (x z : Net) (k : ℕ) : Type 0 where
  pub stays : Stays x z
  pub within : Within z
  pub agree : (i : ℕ) → i < k → rank_bytes z i ≡ rank_bytes x i
  pub none_from : NoneFrom z k

-- the record at the front of bs, of rank k and bytes w, was placed
pub record Taken (z : Net) (next k at : ℕ) (w bs : List ℕ) : Type 0 where
  pub net : Net
  pub long : (record_of in_image at bs).used ≡ length w
  pub onwards : placed z next (record_of in_image at bs).event ≡ onward net (suc k)
  pub placed_at : PlacedAt z net k w

judged_none : (e : ℕ) (z : Net) (k : ℕ) → e ≡ 0 → judged e z k ≡ onward z (suc k)
unfolding judged
judged_none e z k p = rw p

module _ (x : Net) (wx : Within x) (z : Net) (next at : ℕ) (rest : List ℕ) where
  take_arc : (s r c : ℕ) → Prefix x z (arc_rank s r) → next ≤ arc_rank s r → pair_fault_of x.nodes s r ≡ false → c < 65536 → c ≢ 0 →
      Taken z next (arc_rank s r) at (arc_record_of s r c) (arc_record_of s r c ++ rest)
  unfolding placed arc_number
  take_arc s r c pre above ok fits some =
      let pair = pair_says x.nodes s r ok in
      let few = (within_size x wx).1 in
      let parse = arc_parse at s r c rest (omega (arith, pair.0)) (omega (arith, pair.1)) some fits in
      let number = change_free z s r c (rw (nodes_stay pre.stays) ok) (cost_free c (omega arith)) in
      let small = pair_rank_small s r (omega (arith, pair.0)) (omega (arith, pair.1)) in
      record {
        net = changed z s r c;
        long = ap (λ (t : Record). t.used) parse ∙ sym (arc_long s r c);
        onwards = ap (λ (t : Record). placed z next t.event) parse ∙
            judged_none (arc_number z next s r c) (changed z s r c) (arc_rank s r)
            (none_first (change_number z s r c) (order_number next (arc_rank s r)) number (order_none next (arc_rank s r) above));
        placed_at = arc_placed z pre.within s r c number some (pre.none_from (arc_rank s r) (omega arith) (omega (arith, small)));
      }

  take_row : (y d p l : ℕ) → Prefix x z (row_rank y) → next ≤ row_rank y → x.row y ≡ via d p l →
      Taken z next (row_rank y) at (row_record_of y d p l) (row_record_of y d p l ++ rest)
  unfolding placed row_number_of
  take_row y d p l pre above e =
      let f = within_row x wx y d p l e in
      let few = (within_size x wx).1 in
      let list = list_small x.nodes l few f.bits in
      let parse = row_parse at y d p l rest (omega (arith, f.node)) (omega (arith, f.label)) (omega (arith, f.below)) list in
      let node : node_fault z.nodes y ≡ false = rw (nodes_stay pre.stays) (wx.row_node y d p l e) in
      let number = place_row_free z y d p l node (rw (nodes_stay pre.stays, origin_stay pre.stays) (wx.row_form y d p l e)) in
      record {
        net = with_row z y (via d p l);
        long = ap (λ (t : Record). t.used) parse ∙ sym (row_long y d p l);
        onwards = ap (λ (t : Record). placed z next t.event) parse ∙
            judged_none (row_number_of z next y d p l) (with_row z y (via d p l)) (row_rank y)
            (none_first (cond (node_fault z.nodes y) 3 0) (first_number (order_number next (row_rank y)) (place_row_number z y d p l)) (rw node)
            (none_first (order_number next (row_rank y)) (place_row_number z y d p l) (order_none next (row_rank y) above) number));
        placed_at = row_placed z pre.within y d p l number;
      }

  take_report : (s r d l : ℕ) → Prefix x z (report_rank s r) → next ≤ report_rank s r → x.held s r ≡ told d l →
      Taken z next (report_rank s r) at (report_record_of s r d l) (report_record_of s r d l ++ rest)
  unfolding placed report_number_of report_rank
  take_report s r d l pre above e =
      let f = within_report x wx s r d l e in
      let few = (within_size x wx).1 in
      let list = list_small x.nodes l few f.bits in
      let ok = wx.arc_pair s r f.arc in
      let pair = pair_says x.nodes s r ok in
      let parse = report_parse at s r d l rest (omega (arith, pair.0)) (omega (arith, pair.1)) (omega (arith, f.label)) list in
      let fine : pair_fault_of z.nodes s r ≡ false = rw (nodes_stay pre.stays) ok in
      let cost = cost_said z x pre.within wx (nodes_stay pre.stays) s r fine (pre.agree (arc_rank s r) (omega arith)) in
      let number = place_report_free z s r d l fine (rw (nodes_stay pre.stays, cost) (wx.report_form s r d l e)) in
      record {
        net = with_held z s r (told d l);
        long = ap (λ (t : Record). t.used) parse ∙ sym (report_long s r d l);
        onwards = ap (λ (t : Record). placed z next t.event) parse ∙
            judged_none (report_number_of z next s r d l) (with_held z s r (told d l)) (report_rank s r)
            (none_first (cond (pair_fault_of z.nodes s r) 3 0) (first_number (order_number next (report_rank s r)) (place_report_number z s r d l)) (rw fine)
            (none_first (order_number next (report_rank s r)) (place_report_number z s r d l) (order_none next (report_rank s r) above) number));
        placed_at = report_placed z pre.within s r d l number;
      }

  -- the record of the rank k, where there is one, is taken
  abbrev pub Takes : ℕ → Type 0
  Takes k = Prefix x z k → next ≤ k → rank_bytes x k ≢ [] → Taken z next k at (rank_bytes x k) (rank_bytes x k ++ rest)

  takes_arc : (s r : ℕ) → s < 32 → r < 32 → Takes (arc_rank s r)
  takes_arc s r hs hr pre above some = go (bool_cases (pair_fault_of x.nodes s r)) (eq_or_ne (x.cost s r) 0)
    where
      go : (pair_fault_of x.nodes s r ≡ true) ⊎ (pair_fault_of x.nodes s r ≡ false) → (x.cost s r ≡ 0) ⊎ (x.cost s r ≢ 0) →
          Taken z next (arc_rank s r) at (rank_bytes x (arc_rank s r)) (rank_bytes x (arc_rank s r) ++ rest)
      go (inl e) c = absurd (some (arc_off x s r hs hr e))
      go (inr e) (inl c) = absurd (some (arc_here x s r hs hr e ∙ arc_none s r (x.cost s r) c))
      go (inr e) (inr c) =
          rw (arc_here x s r hs hr e ∙ arc_some s r (x.cost s r) c)
          (take_arc s r (x.cost s r) pre above e (omega (arith, wx.arc_cost s r)) c)

  takes_row : (y : ℕ) → y < 32 → Takes (row_rank y)
  unfolding row_bytes
  takes_row y h pre above some = go (bool_cases (node_fault x.nodes y)) (x.row y) refl
    where
      go : (node_fault x.nodes y ≡ true) ⊎ (node_fault x.nodes y ≡ false) → (v : Row) → x.row y ≡ v →
          Taken z next (row_rank y) at (rank_bytes x (row_rank y)) (rank_bytes x (row_rank y) ++ rest)
      go (inl e) v q = absurd (some (row_off x y h e))
      go (inr e) none q = absurd (some (row_here x y h e ∙ ap (row_bytes y) q))
      go (inr e) (root l) q = absurd (some (row_here x y h e ∙ ap (row_bytes y) q))
      go (inr e) (via d p l) q = rw (row_here x y h e ∙ ap (row_bytes y) q) (take_row y d p l pre above q)

  takes_report : (s r : ℕ) → r < 32 → Takes (report_rank s r)
  unfolding report_bytes
  takes_report s r hr pre above some = go (bool_cases (pair_fault_of x.nodes s r)) (x.held s r) refl
    where
      go : (pair_fault_of x.nodes s r ≡ true) ⊎ (pair_fault_of x.nodes s r ≡ false) → (v : Report) → x.held s r ≡ v →
          Taken z next (report_rank s r) at (rank_bytes x (report_rank s r)) (rank_bytes x (report_rank s r) ++ rest)
      go (inl e) v q = absurd (some (report_off x s r hr e))
      go (inr e) empty q = absurd (some (report_here x s r hr e ∙ ap (report_bytes s r) q))
      go (inr e) (told d l) q = rw (report_here x s r hr e ∙ ap (report_bytes s r) q) (take_report s r d l pre above q)

  pub takes : (k : ℕ) → k < rank_count → Takes k
  unfolding row_rank report_rank
  takes k h = go (le_or_lt first_row k) (le_or_lt first_report k)
    where
      go : (first_row ≤ k) ⊎ (k < first_row) → (first_report ≤ k) ⊎ (k < first_report) → Takes k
      go (inr a) b = subst Takes (rank_pair k) (takes_arc (k / 32) (k % 32) (omega arith) (omega arith))
      go (inl a) (inr b) =
          let e : first_row + (k - first_row) ≡ k = omega arith in
          subst Takes e (takes_row (k - first_row) (omega arith))
      go (inl a) (inl b) =
          let e : first_report + (k - first_report) ≡ k = omega arith in
          subst Takes (ap (λ (i : ℕ). first_report + i) (rank_pair (k - first_report)) ∙ e) (takes_report ((k - first_report) / 32) ((k - first_report) % 32) (omega arith))
