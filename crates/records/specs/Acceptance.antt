-- Demand 2 of state files: what is accepted, and as which network.
-- Assumes nothing.
use Rattle.std.specs.Prelude.{◌≡◌, List, ◌++◌, ◌↔◌, ℕ, ◌≤◌, length, take}
use Rattle.network.specs.Network.{Net, Within}
use Rattle.records.specs.Numbers.{Bytes}
use Rattle.records.specs.Image.{image}
use Rattle.records.specs.Opening.{accepted_opening, open_of}

-- x is within limits and the first `used` bytes are the image written for it; whatever follows is ignored
pub record IsImage (bs : List ℕ) (x : Net) (used : ℕ) : Type 0 where
  pub within : Within x
  pub room : used ≤ length bs
  pub bytes : take used bs ≡ image x

-- for all bytes: opening accepts with this network and this count used exactly when they are its image
abbrev pub Acceptance : Type 0
Acceptance = (bs : List ℕ) → Bytes bs → (x : Net) (used : ℕ) → (open_of bs ≡ accepted_opening x used) ↔ IsImage bs x used

-- the image of every network within limits opens to that network
abbrev pub Reopening : Type 0
Reopening = (x : Net) → Within x → (rest : List ℕ) → open_of (image x ++ rest) ≡ accepted_opening x (length (image x))
