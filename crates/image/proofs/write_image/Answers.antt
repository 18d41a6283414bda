-- `image::write_image` meets its contract: the length decides.
-- Assumes nothing.
use borrow.Author.Tests.{leb-true, leb-false}
use mathlib.Core.Path.{sym, ◌∙◌}
use Rattle.memory.specs.Layout.{view}
use Rattle.image.proofs.Answering.{answers_short, answers_fits}
use Rattle.image.proofs.write_image.Goals as goal

pub returns-then-not-fits : goal.returns-then-not-fits
returns-then-not-fits c = answers_short (view c.args.net.now) c.args.out.now (leb-false _ _ (sym c.fits.ensures ∙ c.if-not-fits.true))

pub returns : goal.returns
returns c = answers_fits (view c.args.net.now) c.args.out.now (leb-true _ _ (sym c.fits.ensures ∙ c.if-not-fits.false)) c.write_all.ensures
