-- Numbers and values that are read, in words.
-- Assumes nothing.
use mathlib.Core.Path.{◌≡◌}
use mathlib.Core.List.{[], ◌∷◌}
use Prim.Native.Nat.{ℕ}
use Rattle.std.specs.Prelude.{Result, Ok, Err}
use Rattle.std.specs.Result.{result_unwrap_or}
use Rattle.network.specs.Answered.{answered}
use Rattle.network.specs.declared.Fault.{Fault}
use Rattle.memory.specs.Answers.{arcs_means, cost_means}
use Rattle.memory.proofs.Laws.{refused_arcs_means, some_arcs_means, refused_cost_means, some_cost_means}
use Rattle.bench.specs.Handed.{arcs_words_of, cost_words_of}

pub arcs_handed : (r : Result ℕ Fault) → (answered r ∷ result_unwrap_or r 0 ∷ []) ≡ arcs_words_of (arcs_means r)
unfolding arcs_words_of
arcs_handed (Ok w) = rw (some_arcs_means w)
arcs_handed (Err f) = rw (refused_arcs_means f)

pub cost_handed : (r : Result ℕ Fault) → (answered r ∷ result_unwrap_or r 0 ∷ []) ≡ cost_words_of (cost_means r)
unfolding cost_words_of
cost_handed (Ok c) = rw (some_cost_means c)
cost_handed (Err f) = rw (refused_cost_means f)
