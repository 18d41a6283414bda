-- What the answer of the C call tells: its remainder by 32 is 0 exactly where the image is written.
-- Assumes nothing.
use mathlib.Core.Path.{◌≡◌, refl, sym, ap, ◌∙◌}
use mathlib.Core.List.{List}
use Prim.Native.Nat.{ℕ, ◌*◌, ◌/◌, ◌%◌, ◌<◌, ◌≤◌}
use native.Mathlib.Omega.{arith}
use lib.ListN.{length, drop}
use Rattle.network.specs.Faults.{FileNumber, early}
use Rattle.network.proofs.Numbers.{number_fits}
use Rattle.records.specs.Numbers.{Bytes}
use Rattle.records.specs.Image.{image, max_image}
use Rattle.records.specs.Opening.{accepted_opening, open_of}
use Rattle.records.specs.Running.{run_of}
use Rattle.records.proofs.Sizes.{image_most}
use Rattle.records.proofs.Acceptance.{reopening}
use Rattle.records.proofs.Places.{run_small}
use Rattle.records.proofs.Begun.{run_image}
use Rattle.settling.specs.Calls.{rounds_heard}
use Rattle.settling.proofs.RunCalls.{run_within, run_settles}
use Rattle.firmware.specs.Calling.{Called, max_run, refused_answer, refused_call, call_of, CallIs, refused, written}
use Rattle.firmware.specs.Demand.{OpensPromised, CallSettles}
use Rattle.firmware.proofs.Calling.{call_by, call_written}

-- number and place of a refusal
number_part : (number place : ℕ) → number < 32 → refused_answer number place % 32 ≡ number
unfolding refused_answer
number_part number place h = omega arith

place_part : (number place : ℕ) → number < 32 → refused_answer number place / 32 ≡ place
unfolding refused_answer
place_part number place h = omega arith

-- length of an image
length_rest : (k : ℕ) → 32 * k % 32 ≡ 0
length_rest k = omega arith

length_part : (k : ℕ) → 32 * k / 32 ≡ k
length_part k = omega arith

module _ (run out : List ℕ) where
  -- a refusal is told by its number and its place
  told : (number place : ℕ) → 0 < number → FileNumber number → place ≤ length run → CallIs run out (refused_call number place out)
  told number place a b p =
      let small = number_fits number b in
      refused number place a b p (number_part number place small) (place_part number place small) refl

  pub call_is : CallIs run out (call_of run out)
  call_is =
      call_by run out (CallIs run out) (told 3 0 (omega arith) (early (omega arith)) (omega arith))
      (λ _ n. told (run_of run).number (run_of run).place (omega (arith, n)) (run_small run).0 (run_small run).1)
      (told 6 0 (omega arith) (early (omega arith)) (omega arith))
      (λ z. let k = length (image (run_of run).net) in written z (length_rest k) (length_part k) refl)

  module _ (bytes : Bytes run) where
    -- an output as long as the largest image has room for every image
    pub room_enough : length run ≤ max_run → (run_of run).number ≡ 0 → max_image ≤ length out → (call_of run out).answer ≡ 32 * length (image (run_of run).net)
    room_enough h z room =
        ap (λ (o : Called). o.answer) (call_written run out h z (omega (arith, image_most (run_of run).net (run_within run bytes))))

    -- the image written opens again, to the network of the run
    pub call_reopens : length run ≤ max_run → (run_of run).number ≡ 0 → length (image (run_of run).net) ≤ length out
        → open_of (call_of run out).output ≡ accepted_opening (run_of run).net (length (image (run_of run).net))
    call_reopens h z fits =
        ap (λ (o : Called). open_of o.output) (call_written run out h z fits) ∙
        reopening (run_of run).net (run_within run bytes) (drop (length (image (run_of run).net)) out)

-- demand 3 of what an accepted call writes
pub call_settles : CallSettles
call_settles run out by z before stretch W cut s = go (call_is run out)
  where
    go : CallIs run out (call_of run out) → OpensPromised (call_of run out) (open_of run).net.nodes W (rounds_heard (open_of run).net before stretch)
    go (refused number place a b p q r w) = absurd (omega (arith, q))
    go (written good q r w) =
        let k = length (image (run_of run).net) in
        record {
          net = (run_of run).net;
          opens = ap open_of w ∙ reopening (run_of run).net (run_within run by) (drop k out) ∙ ap (accepted_opening (run_of run).net) (sym r);
          promised = run_settles run by (run_image run good) before stretch W cut s;
        }
