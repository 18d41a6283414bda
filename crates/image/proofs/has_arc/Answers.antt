-- `image::has_arc` meets its contract: the bit in the receiver's word.
-- Assumes nothing.
use native.Mathlib.Omega.{arith}
use mathlib.Core.Path.{ap, ◌∙◌}
use Rattle.ancestors.specs.Ancestors.{has}
use Rattle.memory.proofs.Laws.{few}
use Rattle.image.proofs.Reading.{word_of}
use Rattle.image.proofs.has_arc.Goals as goal

pub bounds-from-pair : goal.bounds-from-pair
bounds-from-pair c = omega (arith, few c.args.from.now.net.now)

pub returns : goal.returns
returns c =
    let a = c.args in
    let s = a.from.now in
    c.listed.ensures ∙ ap (λ l. has l a.pair.sender) (word_of s.net.now s.arcs.now a.pair.receiver s.words c.requires.receiver_bound)
