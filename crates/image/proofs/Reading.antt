-- The records of an image by what `memory` answers of a row, and by the words of arcs and of what arcs hold.
-- Assumes nothing.
use mathlib.Core.Path.{◌≡◌, refl, sym, ap, ◌∙◌}
use mathlib.Core.Bool.{Bool, true, false, cond, not, ◌&&◌}
use mathlib.Core.List.{List, []}
use mathlib.Core.Logic.{◌⊎◌, inl, inr, ◌≢◌}
use Prim.Native.Nat.{ℕ, ◌*◌, ◌<◌}
use native.Mathlib.Omega.{arith}
use borrow.Author.Tests.{eq-eqb, ne_eqb, eqb-true, eqb-false}
use lib.Dec.{eqb}
use lib.ListN.{length, get_or}
use Rattle.ancestors.specs.Ancestors.{has, one}
use Rattle.ancestors.proofs.Cases.{bool_cases}
use Rattle.network.specs.Faults.{max_nodes, pair_fault_of}
use Rattle.network.specs.Network.{Net}
use Rattle.network.specs.Arcs.{arcs_to, arc_words_of}
use Rattle.network.specs.Words.{report_of}
use Rattle.network.proofs.Arcs.{arcs_exact, arc_words_at}
use Rattle.network.proofs.FaultLaws.{pair_says}
use Rattle.network.proofs.Marking.{every_arc_lem}
use Rattle.memory.specs.Layout.{view, cost_word_of, held_label_word_of, held_list_word_of}
use Rattle.memory.specs.Answers.{read_row, row_means}
use Rattle.std.specs.Prelude.{Option, Some, None, Ok, Err, Result}
use Rattle.network.specs.declared.Fault.{Fault}
use Rattle.network.specs.declared.Route.{Route}
use Rattle.memory.specs.declared.RowRead.{RowRead}
use Rattle.memory.specs.declared.RowRead.TheVariants as R
use Rattle.memory.proofs.Laws.{few, said_refused, said_none, said_origin, said_relay}
use Rattle.memory.proofs.ArcLaws.{arc_pair, arc_cost, arc_held, no_cost, no_report}
use Rattle.records.specs.Records.{record_length, arc_record_of, report_record_of}
use Rattle.records.specs.Image.{arc_bytes, row_bytes, report_bytes}
use Rattle.image.specs.Items.{route_bytes}
use Rattle.image.specs.Lines.{arc_at, row_at, report_at}
use Rattle.image.specs.Measured.{holds}
use Rattle.image.proofs.Lengths.{arc_size, report_size}

-- nothing, whatever a test says
neither : (b : Bool) → ◌≡◌ {A = List ℕ} (cond b [] []) []
neither true = refl
neither false = refl

-- ---- a row

abbrev pub relayed : RowRead → Option Route
relayed R.NoRoute = None
relayed (R.Origin l s) = None
relayed (R.Relay v s) = Some v

-- no node, no route, the origin, or a relay with a route
module _ (x : Net) (y : ℕ) where
  pub row_refused : (f : Fault) → row_means (Err f) ≡ read_row x y → row_at x y ≡ []
  unfolding row_at row_bytes
  row_refused f said = rw (said_refused x y (Err f) said refl)

  pub row_read : (r : RowRead) → row_means (Ok r) ≡ read_row x y → row_at x y ≡ route_bytes y (relayed r)
  unfolding row_at row_bytes route_bytes
  row_read R.NoRoute said = let a = said_none x y (Ok R.NoRoute) said refl in rw (a.0, a.1)
  row_read (R.Origin l s) said = let a = said_origin x y (Ok (R.Origin l s)) said refl in rw (a.0, a.1)
  row_read (R.Relay v s) said = let a = said_relay x y (Ok (R.Relay v s)) said refl in rw (a.0, a.1)

  -- no row is written but of a relay with a route
  pub row_none : (r : Result RowRead Fault) → row_means r ≡ read_row x y → ((v : Route) (s : ℕ) → r ≡ Ok (R.Relay v s) → ⊥) → row_at x y ≡ []
  unfolding route_bytes
  row_none (Err f) said n = row_refused f said
  row_none (Ok R.NoRoute) said n = row_read R.NoRoute said
  row_none (Ok (R.Origin l s)) said n = row_read (R.Origin l s) said
  row_none (Ok (R.Relay v s)) said n = absurd (n v s refl)

-- ---- the words of arcs as they are read

module _ (xs words : List ℕ) (r : ℕ) (e : words ≡ arc_words_of (view xs)) (h : r < (view xs).nodes) where
  pub word_of : get_or words r 0 ≡ arcs_to (view xs) r
  word_of = ap (λ (l : List ℕ). get_or l r 0) e ∙ arc_words_at (view xs) r (omega (arith, few xs))

-- ---- an arc and a report, by the bit of s in the word of r's arcs

module _ (xs : List ℕ) (s r : ℕ) where
  -- without the bit there is neither
  module _ (e : has (arcs_to (view xs) r) s ≡ false) where
    pub arc_none : arc_at (view xs) s r ≡ []
    unfolding arc_at arc_bytes
    arc_none = rw (no_cost xs s r e) (neither (pair_fault_of (view xs).nodes s r))

    pub report_none : report_at (view xs) s r ≡ []
    unfolding report_at report_bytes
    report_none = rw (no_report xs s r e) (neither (pair_fault_of (view xs).nodes s r))

  -- with it there is an arc, and a report where the word of its list is not 0
  module _ (e : has (arcs_to (view xs) r) s ≡ true) where
    cost_some : (view xs).cost s r ≢ 0
    cost_some z =
        let small : s < max_nodes = omega (arith, few xs, (pair_says (view xs).nodes s r (arc_pair xs s r e)).0) in
        omega (arith, every_arc_lem (view xs) s r (sym (arcs_exact (view xs) r s small) ∙ e))

    pub arc_some : arc_at (view xs) s r ≡ arc_record_of s r (cost_word_of xs s r)
    unfolding arc_at arc_bytes
    arc_some = rw (arc_pair xs s r e, ne_eqb ((view xs).cost s r) 0 cost_some, arc_cost xs s r e)

    pub report_empty : held_list_word_of xs s r ≡ 0 → report_at (view xs) s r ≡ []
    unfolding report_at report_bytes report_of
    report_empty z = rw (arc_pair xs s r e, ← arc_held xs s r e, eq-eqb (held_list_word_of xs s r) 0 z)

    pub report_some : held_list_word_of xs s r ≢ 0 → report_at (view xs) s r ≡ report_record_of s r (held_label_word_of xs s r) (held_list_word_of xs s r)
    unfolding report_at report_bytes report_of
    report_some z = rw (arc_pair xs s r e, ← arc_held xs s r e, ne_eqb (held_list_word_of xs s r) 0 z)

  -- their lengths
  pub arc_counts : length (arc_at (view xs) s r) ≡ one (has (arcs_to (view xs) r) s) * record_length 2
  arc_counts = go (bool_cases (has (arcs_to (view xs) r) s))
    where
      go : (has (arcs_to (view xs) r) s ≡ true) ⊎ (has (arcs_to (view xs) r) s ≡ false) → length (arc_at (view xs) s r) ≡ one (has (arcs_to (view xs) r) s) * record_length 2
      go (inl e) = rw (e, arc_some e) (omega (arith, arc_size s r (cost_word_of xs s r)))
      go (inr e) = rw (e, arc_none e) (omega arith)

  pub report_counts : length (report_at (view xs) s r) ≡ one (holds xs (arcs_to (view xs) r) r s) * record_length 4
  unfolding holds
  report_counts = go (bool_cases (has (arcs_to (view xs) r) s)) (bool_cases (eqb (held_list_word_of xs s r) 0))
    where
      go : (has (arcs_to (view xs) r) s ≡ true) ⊎ (has (arcs_to (view xs) r) s ≡ false) → (eqb (held_list_word_of xs s r) 0 ≡ true) ⊎ (eqb (held_list_word_of xs s r) 0 ≡ false)
          → length (report_at (view xs) s r) ≡ one (has (arcs_to (view xs) r) s && not (eqb (held_list_word_of xs s r) 0)) * record_length 4
      go (inr e) z = rw (e, report_none e) (omega arith)
      go (inl e) (inl z) = rw (e, z, report_empty e (eqb-true (held_list_word_of xs s r) 0 z)) (omega arith)
      go (inl e) (inr z) = rw (e, z, report_some e (eqb-false (held_list_word_of xs s r) 0 z)) (omega (arith, report_size s r (held_label_word_of xs s r) (held_list_word_of xs s r)))
