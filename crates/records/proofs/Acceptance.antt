-- The acceptance theorem: opening accepts exactly the images of networks within limits, and uses the image's bytes.
-- Assumes nothing.
use mathlib.Core.Path.{◌≡◌, refl, sym, ap, subst, ◌∙◌}
use mathlib.Core.Bool.{Bool, true, false, cond}
use mathlib.Core.List.{List, [], ◌∷◌, ◌++◌, append_assoc}
use mathlib.Core.Logic.{◌⊎◌, inl, inr, ◌≢◌}
use Prim.Native.Nat.{ℕ, zero, suc, ◌+◌, ◌-◌, ◌/◌, ◌%◌, ◌<◌, ◌≤◌}
use native.Mathlib.Omega.{arith}
use lib.Dec.{eqb, ltb}
use lib.ListN.{length, take, drop, length-append, take-append-drop}
use lib.Seq.{drop-append_seam, take_at, length-take-le}
use borrow.Author.Tests.{eq-eqb, ne_eqb}
use Rattle.ancestors.specs.Ancestors.{own}
use Rattle.ancestors.proofs.Cases.{eq_or_ne}
use Rattle.network.specs.Faults.{node_fault, pair_fault_of}
use Rattle.network.specs.Network.{Row, none, root, Net, Within, fresh_net, fresh_number}
use Rattle.network.proofs.Accepting.{fresh_free}
use Rattle.network.proofs.Effects.{frame, fresh_frame, Stays, nodes_stay, origin_stay, net_accepted, fresh_outcome, FreshEffect, fresh_effect}
use Rattle.network.proofs.Keeping.{fresh_within}
use Rattle.network.proofs.Limits.{within_size}
use Rattle.records.specs.Numbers.{Bytes, be8}
use Rattle.network.specs.Answered.{fault_number}
use Rattle.network.specs.declared.Fault.{Fault}
use Rattle.records.specs.Records.{at_start, in_image, end_record, header_record_of, refused_record, record_of}
use Rattle.records.specs.Image.{each, row_bytes, report_bytes, image}
use Rattle.records.specs.Opening.{first_row, first_report, rank_count, Step, stop, finish, onward, placed, Opening, refused_opening, accepted_opening, after_step, read_records_of, started, headed, open_of}
use Rattle.records.specs.Acceptance.{IsImage, Acceptance, Reopening}
use Rattle.records.specs.declared.Event.TheVariants.{Header}
use Rattle.records.specs.declared.Record.{Record}
use Rattle.records.proofs.Each.{each_split, each_none}
use Rattle.records.proofs.ImageSteps.{ReadAt, NoneFrom, read_at, end_at, stop_at, Prefix, Taken, takes}
use Rattle.records.proofs.Parsing.{bytes_drop, end_parse, StartShown, a_header, a_stop, start_shown, header_parse}
use Rattle.records.proofs.PlacedRecords.{arc_none, PlacedAt}
use Rattle.records.proofs.Ranks.{of_pair, of_node, rank_bytes, image_whole}
use Rattle.records.proofs.SameImage.{same_image}

-- ---- the bytes of x from the rank k on

abbrev from_rank : Net → ℕ → List ℕ
from_rank x k = each (rank_bytes x) k (rank_count - k)

-- ranks without bytes may be passed over
from_later : (x : Net) (k j : ℕ) → k ≤ j → j ≤ rank_count → ((i : ℕ) → k ≤ i → i < j → rank_bytes x i ≡ []) → from_rank x k ≡ from_rank x j
from_later x k j a b h =
    let p : (j - k) + (rank_count - j) ≡ rank_count - k = omega arith in
    let q : k + (j - k) ≡ j = omega arith in
    sym (ap (each (rank_bytes x) k) p) ∙ each_split (rank_bytes x) k (j - k) (rank_count - j) ∙
    ap (λ (l : List ℕ). l ++ each (rank_bytes x) (k + (j - k)) (rank_count - j)) (each_none (rank_bytes x) k (j - k) (λ i c d. h i c (omega arith))) ∙
    ap (λ (i : ℕ). each (rank_bytes x) i (rank_count - j)) q

from_next : (x : Net) (k : ℕ) → k < rank_count → from_rank x k ≡ rank_bytes x k ++ from_rank x (suc k)
unfolding each
from_next x k h =
    let p : suc (rank_count - suc k) ≡ rank_count - k = omega arith in
    sym (ap (each (rank_bytes x) k) p)

-- ---- what is accepted is an image

-- the bytes bs at the place `at`, read on top of z from the rank `next` on, were those of x
record Given (z : Net) (next at : ℕ) (bs : List ℕ) (x : Net) (used : ℕ) : Type 0 where
  rest : List ℕ
  bytes : bs ≡ from_rank x next ++ (0 ∷ rest)
  long : used ≡ at + length (from_rank x next) + 1
  kept : (i : ℕ) → i < next → rank_bytes x i ≡ rank_bytes z i
  stays : Stays z x
  within : Within x

given_end : (z : Net) (next at : ℕ) (bs rest : List ℕ) → bs ≡ 0 ∷ rest → next ≤ rank_count → NoneFrom z next → Within z → Given z next at bs z (at + 1)
given_end z next at bs rest e h none_from w =
    let n : from_rank z next ≡ [] = each_none (rank_bytes z) next (rank_count - next) (λ i a b. none_from i a (omega arith)) in
    record {
      rest = rest;
      bytes = e ∙ ap (λ (l : List ℕ). l ++ (0 ∷ rest)) (sym n);
      long = omega (arith, ap length n);
      kept = λ i _. refl;
      stays = refl;
      within = w;
    }

given_next : (z : Net) (next at : ℕ) (bs : List ℕ) (len : ℕ) (y : Net) (n : ℕ) (x : Net) (used : ℕ) → ReadAt z next bs len y n → NoneFrom z next →
    Given y n (at + len) (drop len bs) x used → Given z next at bs x used
given_next z next at bs len y n x used r none_from g =
    let k = r.k in
    let p = r.placed_at in
    let below : (i : ℕ) → i < k → rank_bytes x i ≡ rank_bytes z i = λ i a. g.kept i (omega (arith, r.moved)) ∙ p.others i (λ e. omega arith) in
    let here : rank_bytes x k ≡ r.w = g.kept k (omega (arith, r.moved)) ∙ p.here in
    let q : from_rank x next ≡ r.w ++ from_rank x n =
    from_later x next k r.above (omega (arith, r.below)) (λ i a b. below i b ∙ none_from i a (omega (arith, r.below))) ∙
    from_next x k r.below ∙ ap (λ (l : List ℕ). l ++ from_rank x (suc k)) here ∙ ap (λ (i : ℕ). r.w ++ from_rank x i) (sym r.moved) in
    let l = ap length q ∙ length-append r.w (from_rank x n) in
    record {
      rest = g.rest;
      bytes = r.bytes ∙ ap (λ (t : List ℕ). r.w ++ t) g.bytes ∙ sym (append_assoc r.w (from_rank x n) (0 ∷ g.rest)) ∙
          ap (λ (t : List ℕ). t ++ (0 ∷ g.rest)) (sym q);
      long = omega (arith, g.long, r.long, l);
      kept = λ i a. below i (omega (arith, r.above));
      stays = g.stays ∙ p.stays;
      within = g.within;
    }

-- an accepted opening has the number 0
opening_number : (e at : ℕ) (x : Net) (used : ℕ) → refused_opening e at ≡ accepted_opening x used → e ≡ 0
opening_number e at x used q = ap (λ (o : Opening). o.number) q

given : (f : ℕ) (z : Net) (next at : ℕ) (bs : List ℕ) (x : Net) (used : ℕ) → Bytes bs → next ≤ rank_count → NoneFrom z next → Within z →
    read_records_of f z next at bs ≡ accepted_opening x used → Given z next at bs x used
unfolding read_records_of
given zero z next at bs x used by h none_from w q = absurd (omega (arith, opening_number 1 at x used q))
given (suc f) z next at bs x used by h none_from w q = go (given f) (placed z next rec.event) refl q
  where
    rec : Record
    rec = record_of in_image at bs

    go : ((z : Net) (next at : ℕ) (bs : List ℕ) (x : Net) (used : ℕ) → Bytes bs → next ≤ rank_count → NoneFrom z next → Within z →
        read_records_of f z next at bs ≡ accepted_opening x used → Given z next at bs x used) →
        (s : Step) → placed z next rec.event ≡ s →
        after_step (λ y n. read_records_of f y n (at + rec.used) (drop rec.used bs)) z at s ≡ accepted_opening x used → Given z next at bs x used
    go again (stop e) p q = absurd (stop_at z next at bs e p (opening_number e at x used q))
    go again finish p q =
        let e = end_at z next at bs p in
        let n : z ≡ x = ap (λ (o : Opening). o.net) q in
        let u : at + 1 ≡ used = ap (λ (o : Opening). o.used) q in
        rw (← n, ← u) (given_end z next at bs e.0 e.1 h none_from w)
    go again (onward y n) p q =
        let r = read_at z next at bs w by none_from y n p in
        let m = r.moved in
        given_next z next at bs rec.used y n x used r none_from
        (again y n (at + rec.used) (drop rec.used bs) x used (bytes_drop bs rec.used by) (omega (arith, r.below))
        (λ i a b. r.placed_at.others i (λ e. omega arith) ∙ none_from i (omega (arith, r.above)) b) r.placed_at.within q)

-- ---- an image is accepted

-- the record of the rank k is in place, or there is none
prefix_next : (x z y : Net) (k : ℕ) (w : List ℕ) → Prefix x z k → PlacedAt z y k w → rank_bytes x k ≡ w → Prefix x y (suc k)
prefix_next x z y k w pre p e =
    record {
      stays = p.stays ∙ pre.stays;
      within = p.within;
      agree = λ i a. agree i a (eq_or_ne i k);
      none_from = λ i a b. p.others i (λ q. omega arith) ∙ pre.none_from i (omega arith) b;
    }
  where
    agree : (i : ℕ) → i < suc k → (i ≡ k) ⊎ (i ≢ k) → rank_bytes y i ≡ rank_bytes x i
    agree i a (inl q) = ap (rank_bytes y) q ∙ p.here ∙ sym (ap (rank_bytes x) q ∙ e)
    agree i a (inr q) = p.others i q ∙ pre.agree i (omega (arith, q))

prefix_skip : (x z : Net) (k : ℕ) → k < rank_count → Prefix x z k → rank_bytes x k ≡ [] → Prefix x z (suc k)
prefix_skip x z k h pre e =
    record {
      stays = pre.stays;
      within = pre.within;
      agree = λ i a. agree i a (eq_or_ne i k);
      none_from = λ i a b. pre.none_from i (omega arith) b;
    }
  where
    agree : (i : ℕ) → i < suc k → (i ≡ k) ⊎ (i ≢ k) → rank_bytes z i ≡ rank_bytes x i
    agree i a (inl q) = ap (rank_bytes z) q ∙ pre.none_from k (omega arith) h ∙ sym (ap (rank_bytes x) q ∙ e)
    agree i a (inr q) = pre.agree i (omega (arith, q))

none_or_some : (l : List ℕ) → (l ≡ []) ⊎ (l ≢ [])
none_or_some [] = inl refl
none_or_some (k ∷ b) = inr (λ e. omega (arith, ap length e))

some_long : (l : List ℕ) → l ≢ [] → 0 < length l
some_long [] n = absurd (n refl)
some_long (k ∷ b) n = omega arith

-- all records of x are there
prefix_whole : (x z : Net) → Within x → Prefix x z rank_count → z ≡ x
prefix_whole x z w pre = same_image z x pre.within w pre.stays pre.agree

module _ (x : Net) (wx : Within x) (rest : List ℕ) where
  -- one record, then the others
  taken_one : (d j f : ℕ) (z : Net) (next at : ℕ) → Taken z next j at (rank_bytes x j) (rank_bytes x j ++ (each (rank_bytes x) (suc j) d ++ (0 ∷ rest))) →
      ((y : Net) → PlacedAt z y j (rank_bytes x j) → read_records_of f y (suc j) (at + length (rank_bytes x j)) (each (rank_bytes x) (suc j) d ++ (0 ∷ rest)) ≡
      accepted_opening x (at + length (rank_bytes x j) + length (each (rank_bytes x) (suc j) d) + 1)) →
      read_records_of (suc f) z next at (each (rank_bytes x) j (suc d) ++ (0 ∷ rest)) ≡ accepted_opening x (at + length (each (rank_bytes x) j (suc d)) + 1)
  unfolding read_records_of each
  taken_one d j f z next at t again =
      let w = rank_bytes x j in
      let e = each (rank_bytes x) (suc j) d in
      let bs = w ++ (e ++ (0 ∷ rest)) in
      let len = (record_of in_image at bs).used in
      let n : at + length w + length e + 1 ≡ at + length (w ++ e) + 1 = omega (arith, length-append w e) in
      ap (read_records_of (suc f) z next at) (append_assoc w e (0 ∷ rest)) ∙
      ap (after_step (λ y above. read_records_of f y above (at + len) (drop len bs)) z at) t.onwards ∙
      ap (λ (i : ℕ). read_records_of f t.net (suc j) (at + i) (drop i bs)) t.long ∙
      ap (read_records_of f t.net (suc j) (at + length w)) (drop-append_seam w (e ++ (0 ∷ rest))) ∙ again t.net t.placed_at ∙ ap (accepted_opening x) n

  taken_all : (d j f : ℕ) (z : Net) (next at : ℕ) → j + d ≡ rank_count → next ≤ j → length (each (rank_bytes x) j d) < f → Prefix x z j →
      read_records_of f z next at (each (rank_bytes x) j d ++ (0 ∷ rest)) ≡ accepted_opening x (at + length (each (rank_bytes x) j d) + 1)
  unfolding read_records_of each placed
  taken_all zero j zero z next at e h fuel pre = absurd (omega arith)
  taken_all zero j (suc f) z next at e h fuel pre =
      let j-is : j ≡ rank_count = omega arith in
      let n : z ≡ x = prefix_whole x z wx (subst (Prefix x z) j-is pre) in
      let u : at + 1 ≡ at + 0 + 1 = omega arith in
      ap (λ (r : Record). after_step (λ y above. read_records_of f y above (at + r.used) (drop r.used (0 ∷ rest))) z at (placed z next r.event)) (end_parse at rest) ∙
      ap (λ (i : Net). accepted_opening i (at + 1)) n ∙ ap (accepted_opening x) u
  taken_all (suc d) j zero z next at e h fuel pre = absurd (omega arith)
  taken_all (suc d) j (suc f) z next at e h fuel pre = go (none_or_some (rank_bytes x j)) (taken_all d (suc j)) (length-append (rank_bytes x j) (each (rank_bytes x) (suc j) d))
    where
      go : (rank_bytes x j ≡ []) ⊎ (rank_bytes x j ≢ []) →
          ((f : ℕ) (z : Net) (next at : ℕ) → suc j + d ≡ rank_count → next ≤ suc j → length (each (rank_bytes x) (suc j) d) < f → Prefix x z (suc j) →
          read_records_of f z next at (each (rank_bytes x) (suc j) d ++ (0 ∷ rest)) ≡ accepted_opening x (at + length (each (rank_bytes x) (suc j) d) + 1)) →
          length (rank_bytes x j ++ each (rank_bytes x) (suc j) d) ≡ length (rank_bytes x j) + length (each (rank_bytes x) (suc j) d) →
          read_records_of (suc f) z next at (each (rank_bytes x) j (suc d) ++ (0 ∷ rest)) ≡ accepted_opening x (at + length (each (rank_bytes x) j (suc d)) + 1)
      go (inl n) again l =
          rw n (again (suc f) z next at (omega arith) (omega arith) (omega (arith, ap length n)) (prefix_skip x z j (omega arith) pre n))
      go (inr s) again l =
          taken_one d j f z next at (takes x wx z next at (each (rank_bytes x) (suc j) d ++ (0 ∷ rest)) j (omega arith) pre h s)
          (λ y p. again f y (suc j) (at + length (rank_bytes x j)) (omega arith) (omega arith) (omega (arith, some_long (rank_bytes x j) s)) (prefix_next x z y j (rank_bytes x j) pre p refl))

-- ---- the fresh network that a file starts from

-- it is within limits
pub fresh_net_lem : (n o : ℕ) → fresh_number n o ≡ 0 → Within (fresh_net n o)
fresh_net_lem n o e = subst Within (net_accepted _ _ _ (fresh_outcome n o) e) (fresh_within n o)

-- a row without a route, and the origin's, have no bytes
no_bytes : (y : ℕ) (v : Row) (l : ℕ) → (v ≡ none) ⊎ (v ≡ root l) → row_bytes y v ≡ []
unfolding row_bytes
no_bytes y v l (inl e) = ap (row_bytes y) e
no_bytes y v l (inr e) = ap (row_bytes y) e

-- and has no records
fresh_none : (n o i : ℕ) → rank_bytes (fresh_net n o) i ≡ []
unfolding rank_bytes of_pair of_node report_bytes
fresh_none n o i =
    all (ltb i first_row) (pair_none (i / 32) (i % 32) (arc_none (i / 32) (i % 32) _ (f.cost (i / 32) (i % 32))))
    (all (ltb i first_report) (node_none (i - first_row) (row_none (i - first_row) (eq_or_ne (i - first_row) o)))
    (pair_none ((i - first_report) / 32) ((i - first_report) % 32) (ap (report_bytes ((i - first_report) / 32) ((i - first_report) % 32)) (f.held ((i - first_report) / 32) ((i - first_report) % 32)))))
  where
    f : FreshEffect n o (fresh_net n o)
    f = fresh_effect n o

    all : (t : Bool) {a b : List ℕ} → a ≡ [] → b ≡ [] → cond t a b ≡ []
    all true p q = p
    all false p q = q

    pair_none : (s r : ℕ) {l : List ℕ} → l ≡ [] → cond (pair_fault_of (fresh_net n o).nodes s r) [] l ≡ []
    pair_none s r p = all (pair_fault_of (fresh_net n o).nodes s r) refl p

    node_none : (y : ℕ) {l : List ℕ} → l ≡ [] → cond (node_fault (fresh_net n o).nodes y) [] l ≡ []
    node_none y p = all (node_fault (fresh_net n o).nodes y) refl p

    row_none : (y : ℕ) → (y ≡ o) ⊎ (y ≢ o) → row_bytes y ((fresh_net n o).row y) ≡ []
    row_none y (inl e) = no_bytes y ((fresh_net n o).row y) (own o) (inr (ap (fresh_net n o).row e ∙ f.origin_row))
    row_none y (inr e) = no_bytes y ((fresh_net n o).row y) (own o) (inl (f.relay_row y e))

-- ---- the whole file

-- the first three bytes of an image
image_front : (x : Net) → Within x → (rest : List ℕ) → 1 ∷ x.nodes ∷ x.origin ∷ (from_rank x 0 ++ (0 ∷ rest)) ≡ image x ++ rest
unfolding header_record_of end_record be8
image_front x w rest =
    let size = within_size x w in
    let n : x.nodes % 256 ≡ x.nodes = omega (arith, size.1) in
    let o : x.origin % 256 ≡ x.origin = omega (arith, size.1, size.2) in
    sym (ap (λ (l : List ℕ). l ++ rest) (image_whole x) ∙ rw (n, o) (ap (λ (l : List ℕ). 1 ∷ x.nodes ∷ x.origin ∷ l) (append_assoc (from_rank x 0) (0 ∷ []) rest)))

image_long : (x : Net) → Within x → length (image x) ≡ 3 + length (from_rank x 0) + 1
image_long x w =
    let l = ap length (image_front x w []) in
    let m = length-append (from_rank x 0) (0 ∷ []) in
    let n = length-append (image x) [] in
    omega arith

-- what the first record leads to
pub started_header : (bs : List ℕ) (n o : ℕ) → record_of at_start 0 bs ≡ record { event = Header n o; used = 3 } →
    open_of bs ≡ cond (eqb (fresh_number n o) 0) (read_records_of (length bs) (fresh_net n o) 0 3 (drop 3 bs)) (refused_opening (fresh_number n o) 0)
unfolding open_of started headed
started_header bs n o e = ap (λ (r : Record). started bs r r.event) e

pub started_stop : (bs : List ℕ) (f : Fault) → record_of at_start 0 bs ≡ refused_record f 0 → open_of bs ≡ refused_opening (fault_number f) 0
unfolding open_of started headed
started_stop bs f p = ap (λ (r : Record). started bs r r.event) p

-- accepted, it is an image
only_images : (bs : List ℕ) → Bytes bs → (x : Net) (used : ℕ) → open_of bs ≡ accepted_opening x used → IsImage bs x used
only_images bs by x used q = go (start_shown bs)
  where
    read : (n o : ℕ) (b : List ℕ) → bs ≡ 1 ∷ n ∷ o ∷ b → fresh_number n o ≡ 0 → read_records_of (length bs) (fresh_net n o) 0 3 (drop 3 bs) ≡ accepted_opening x used → IsImage bs x used
    read n o b p ok r =
        let f = fresh_effect n o in
        let g = given (length bs) (fresh_net n o) 0 3 (drop 3 bs) x used (bytes_drop bs 3 by) (omega arith) (λ i _ _. fresh_none n o i) (fresh_net_lem n o ok) r in
        let e : frame x ≡ fresh_frame n o = g.stays ∙ f.framed in
        let en : n ≡ x.nodes = sym (nodes_stay e) in
        let eo : o ≡ x.origin = sym (origin_stay e) in
        let tail : b ≡ from_rank x 0 ++ (0 ∷ g.rest) = sym (ap (drop 3) p) ∙ g.bytes in
        let whole : bs ≡ image x ++ g.rest =
        p ∙ ap (λ (i : ℕ). 1 ∷ i ∷ o ∷ b) en ∙ ap (λ (i : ℕ). 1 ∷ x.nodes ∷ i ∷ b) eo ∙ ap (λ (l : List ℕ). 1 ∷ x.nodes ∷ x.origin ∷ l) tail ∙
        image_front x g.within g.rest in
        let u : used ≡ length (image x) = omega (arith, g.long, image_long x g.within) in
        record {
          within = g.within;
          room = omega (arith, u, ap length whole, length-append (image x) g.rest);
          bytes = ap (take used) whole ∙ take_at (image x) g.rest used (sym u);
        }

    go : StartShown bs (record_of at_start 0 bs) → IsImage bs x used
    go (a_stop f n p) = absurd (n (opening_number (fault_number f) 0 x used (sym (started_stop bs f p) ∙ q)))
    go (a_header n o b p e) = by_number (eq_or_ne (fresh_number n o) 0)
      where
        opened : cond (eqb (fresh_number n o) 0) (read_records_of (length bs) (fresh_net n o) 0 3 (drop 3 bs)) (refused_opening (fresh_number n o) 0) ≡ accepted_opening x used
        opened = sym (started_header bs n o e) ∙ q

        by_number : (fresh_number n o ≡ 0) ⊎ (fresh_number n o ≢ 0) → IsImage bs x used
        by_number (inl z) = read n o b p z (rw (eq-eqb (fresh_number n o) 0 z) at opened)
        by_number (inr z) = absurd (z (opening_number (fresh_number n o) 0 x used (rw (ne_eqb (fresh_number n o) 0 z) at opened)))

-- the image of every network within limits opens to that network, whatever follows
pub reopening : Reopening
reopening x w rest =
    let n = x.nodes in
    let o = x.origin in
    let b = from_rank x 0 ++ (0 ∷ rest) in
    let f = fresh_effect n o in
    let ok = fresh_free n o w.size in
    let l = length-append (from_rank x 0) (0 ∷ rest) in
    ap open_of (sym (image_front x w rest)) ∙ started_header (1 ∷ n ∷ o ∷ b) n o (header_parse n o b) ∙
    rw (eq-eqb (fresh_number n o) 0 ok)
    (taken_all x w rest rank_count 0 (length (1 ∷ n ∷ o ∷ b)) (fresh_net n o) 0 3 refl (omega arith) (omega arith)
    (record {
      stays = f.framed;
      within = fresh_net_lem n o ok;
      agree = λ i a. absurd (omega arith);
      none_from = λ i _ _. fresh_none n o i;
    }) ∙
    ap (accepted_opening x) (sym (image_long x w)))

-- opening accepts with this network and this count used exactly when the network is within limits and these bytes are its image
pub acceptance : Acceptance
acceptance bs by x used = (only_images bs by x used, back)
  where
    back : IsImage bs x used → open_of bs ≡ accepted_opening x used
    back i =
        let whole : image x ++ drop used bs ≡ bs = ap (λ (l : List ℕ). l ++ drop used bs) (sym i.bytes) ∙ take-append-drop used bs in
        let u : length (image x) ≡ used = ap length (sym i.bytes) ∙ length-take-le used bs i.room in
        sym (ap open_of whole) ∙ reopening x i.within (drop used bs) ∙ ap (accepted_opening x) u
