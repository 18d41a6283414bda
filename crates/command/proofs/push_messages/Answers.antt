-- `command::push_messages` meets its contract: there is room for the messages.
-- Assumes nothing.
use native.Mathlib.Omega.{arith}
use mathlib.Core.Path.{◌≡◌, refl, sym, ap, ◌∙◌}
use mathlib.Core.Bool.{false}
use mathlib.Core.List.{List}
use Prim.Native.Nat.{ℕ, ◌≤◌}
use lib.ListN.{length, take, drop}
use lib.Seq.{take_at, length-take-le}
use Rattle.memory.specs.Layout.{view}
use Rattle.std.specs.Prelude.{Result}
use Rattle.std.specs.Result.{result_unwrap_or}
use Rattle.network.specs.Network.{Net}
use Rattle.network.specs.Writing.{Writes}
use Rattle.network.specs.declared.Fault.{Fault}
use Rattle.filling.proofs.Parts.{within}
use Rattle.text.proofs.Adding.{added_all}
use Rattle.response.specs.Messages.{row_messages, write_of, base_fault, count_fault}
use Rattle.response.proofs.Callers.{wrote_messages}
use Rattle.response.proofs.Sizes.{largest_messages}
use Rattle.command.proofs.push_messages.Goals as goal

-- the messages stand at the front of the room
record Front (w room : List ℕ) (used : ℕ) : Type 0 where
  within : used ≤ length room
  long : used ≡ length w
  bytes : take used room ≡ w

front : (base : ℕ) (x : Net) (room : List ℕ) {r : Result ℕ Fault} {exit : List ℕ} {k : ℕ} → Writes (write_of base x room) r exit → base_fault base ≡ false
    → count_fault x.nodes ≡ false → length room ≡ 648 → k ≡ result_unwrap_or r 0 → Front (row_messages base x) exit k
front base x room {r} {exit} h p q l e =
    let used = result_unwrap_or r 0 in
    let w = wrote_messages base x room h p q (omega (arith, largest_messages)) in
    record {
      within = omega (arith, e, within w);
      long = e ∙ w.used;
      bytes = rw e (ap (take used) w.left ∙ take_at (row_messages base x) (drop used room) used (sym w.used));
    }

pub slice_bounds-room-end : goal.slice_bounds-room-end
slice_bounds-room-end c =
    (front c.args.base (view c.args.net.now) _ c.write_messages.ensures c.requires.base_right c.requires.count_right refl c.unwrap_or-used.ensures).within

pub slice_bounds-push_text-end : goal.slice_bounds-push_text-end
slice_bounds-push_text-end c =
    let f = front c.args.base (view c.args.net.now) _ c.write_messages.ensures c.requires.base_right c.requires.count_right refl c.unwrap_or-used.ensures in
    sym (length-take-le _ _ f.within)

pub returns : goal.returns
returns c =
    let x = view c.args.net.now in
    let f = front c.args.base x _ c.write_messages.ensures c.requires.base_right c.requires.count_right refl c.unwrap_or-used.ensures in
    rw (c.push_text.ensures, f.bytes)
    (added_all 4096 (row_messages c.args.base x) c.args.said.now.items (omega (arith, f.long, f.within, c.write_messages.auto.out, c.requires.room)))
