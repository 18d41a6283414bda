-- How sharp demand 3's bounds are: rows are settled sooner than it says, and neither that bound nor (n - 1) W can be lowered by one.
-- Assumes nothing.
use Rattle.std.specs.Prelude.{◌≡◌, cond, List, ℕ, ◌+◌, ◌*◌, ◌-◌, ◌≤◌, eqb, ltb}
use Rattle.network.specs.Network.{Net, Within}
use Rattle.settling.specs.Calls.{Call, AllSettled, Supposed, at_end, rounds_heard}

-- labels are real from (n - 1) W rounds on
abbrev pub real_from : ℕ → ℕ → ℕ
real_from n W = (n - 1) * W

-- rows are settled from (2n - 4) W + 1 rounds on for n from 3, from W on for two nodes, and always for one
unfoldable pub settled_from : ℕ → ℕ → ℕ
settled_from n W = cond (ltb n 2) 0 (cond (eqb n 2) W ((2 * n - 4) * W + 1))

-- whatever the calls, a promise holds of the network after the last of them from so many rounds on
abbrev pub HoldsFrom : (ℕ → ℕ → ℕ) → (Net → Type 0) → Type 0
HoldsFrom bound Promise =
    (x : Net) → Within x → (before stretch : List Call) (W : ℕ) → Supposed x before stretch W →
    bound x.nodes W ≤ rounds_heard x before stretch → Promise (at_end x before stretch)

-- rows are settled sooner than demand 3 says
abbrev pub SettlingSooner : Type 0
SettlingSooner = HoldsFrom settled_from AllSettled

-- demand 3's premises hold of x and its calls, with one round less than the bound, and the promise does not hold
pub record TooFew (bound : ℕ → ℕ → ℕ) (Promise : Net → Type 0) (x : Net) (before stretch : List Call) (W : ℕ) : Type 0 where
  pub within : Within x
  pub supposed : Supposed x before stretch W
  pub count : rounds_heard x before stretch ≡ bound x.nodes W - 1
  pub fails : Promise (at_end x before stretch) → ⊥

-- the promise does not hold from one round sooner on
abbrev pub NoSooner : (ℕ → ℕ → ℕ) → (Net → Type 0) → Type 0
NoSooner bound Promise = HoldsFrom (λ n W. bound n W - 1) Promise → ⊥
