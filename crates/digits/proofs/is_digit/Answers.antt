-- The comparisons agree with the sixteen characters at every byte (`is_digit-by`).
use mathlib.Core.Path.{sym}
use Rattle.digits.specs.Laws.{is_digit-by}
use Rattle.digits.proofs.is_digit.Goals as goal

pub returns : goal.returns
returns c = sym (is_digit-by c.args.c c.ranges.c.fits)
