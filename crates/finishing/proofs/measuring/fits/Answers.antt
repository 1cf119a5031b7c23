-- The test is the definition's own.
use borrow.Author.Rules.{rules}
use Rattle.record.specs.Sizes.{roomy}
use Rattle.finishing.proofs.measuring.fits.Goals as goal

pub returns : goal.returns
unfolding roomy
returns c = search rules
