-- What the private functions require and give.
-- Assumes nothing.
use Rattle.std.specs.Prelude.{◌≡◌, ℕ, ◌%◌}
use Rattle.network.specs.Network.{Net}
use Rattle.response.specs.Messages.{metric}

-- the base's last byte is 0
abbrev pub Sound : ℕ → Type 0
Sound base = base % 256 ≡ 0

-- the metric of each row of x
abbrev pub row_metric_of : Net → ℕ → ℕ
row_metric_of x y = metric (x.row y)
