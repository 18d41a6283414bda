-- The loop that reads an image's records: what holds at its head, and what a record placed gives.
-- Assumes nothing.
use mathlib.Core.Path.{◌≡◌, refl, sym, ap, subst, ◌∙◌}
use mathlib.Core.List.{List}
use Prim.Native.Nat.{ℕ, zero, suc, ◌+◌, ◌-◌, ◌<◌, ◌≤◌}
use native.Mathlib.Omega.{arith}
use lib.ListN.{length, drop, length-drop}
use lib.Seq.{drop-drop}
use Rattle.std.proofs.Common.{Option, Some, Result, Ok}
use Rattle.network.specs.Network.{Net}
use Rattle.network.specs.declared.Fault.{Fault}
use Rattle.records.specs.Records.{in_image, record_of}
use Rattle.records.specs.Opening.{placed, Opening, after_step, read_records_of}
use Rattle.records.specs.declared.Record.{Record}
use Rattle.records.proofs.Enough.{onward_read}
use Rattle.records.proofs.Reading.{length_within, length_some}
use Rattle.opening.specs.Answers.{step_means, Places}

-- at the place `at` of the bytes s, with the network x and the ranks from next on, reading on with fuel above the bytes left gives the whole
pub record Going (whole : Opening) (s : List ℕ) (x : Net) (next at : ℕ) : Type 0 where
  pub fuel : ℕ
  pub enough : length s - at < fuel
  pub within : at ≤ length s
  pub same : read_records_of fuel x next at (drop at s) ≡ whole

-- the record at the head, read as c and placed, led to r and the network z
module _ {whole : Opening} {s : List ℕ} {x : Net} {next at : ℕ} (g : Going whole s x next at) {c : Record} (is : c ≡ record_of in_image at (drop at s))
    {r : Result (Option ℕ) Fault} {z : Net} (p : Places x next c.event r z) where
  -- the whole, by the answer, with h as fuel
  abbrev ByAnswer : ℕ → Result (Option ℕ) Fault → Type 0
  ByAnswer h a = after_step (λ w k. read_records_of h w k (at + c.used) (drop (at + c.used) s)) x at (step_means a z) ≡ whole

  one_more : (f : ℕ) → length s - at < f → read_records_of f x next at (drop at s) ≡ whole → (h : ℕ) × (f ≡ suc h) × ByAnswer h r
  unfolding read_records_of
  one_more zero a q = absurd (omega arith)
  one_more (suc h) a q = (h, refl, rw (← drop-drop c.used at s, p.step, is) q)

  pub by_answer : (a : Result (Option ℕ) Fault) → r ≡ a → (h : ℕ) × (g.fuel ≡ suc h) × ByAnswer h a
  by_answer a e = let m = one_more g.fuel g.enough g.same in (m.0, m.1, subst (ByAnswer m.0) e m.2)

  -- the next record is at the head
  pub at_next : {k : ℕ} → r ≡ Ok (Some k) → (0 < c.used) × Going whole s z k (at + c.used)
  at_next {k} e =
      let m = by_answer (Ok (Some k)) e in
      let some : 0 < c.used =
      rw is (length_some in_image at (drop at s)
      (onward_read x next (record_of in_image at (drop at s)).event z k
      (ap (λ t. step_means t z) (sym e) ∙ p.step ∙ ap (λ (d : Record). placed x next d.event) is))) in
      let inside : c.used ≤ length s - at = omega (arith, ap (λ (d : Record). d.used) is, length_within in_image at (drop at s), length-drop at s) in
      (some, record { fuel = m.0; enough = omega (arith, m.1, g.enough); within = omega (arith, g.within); same = m.2 })
