-- The sum agrees with the place among the sixteen at every digit (`worth-by`).
use mathlib.Core.Path.{sym}
use Rattle.digits.specs.Laws.{worth-by}
use Rattle.digits.proofs.worth.Goals as goal

pub returns : goal.returns
returns c = sym (worth-by c.args.c c.ranges.c.fits c.requires)
