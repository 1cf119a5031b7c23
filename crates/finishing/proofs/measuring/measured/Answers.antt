-- The definition's two cases.
use mathlib.Core.Path.{sym, ◌∙◌}
use Rattle.record.specs.Sizes.{measured}
use Rattle.finishing.proofs.measuring.measured.Goals as goal

pub returns-then-not-fits : goal.returns-then-not-fits
unfolding measured
returns-then-not-fits c =
    let short = sym c.fits.ensures ∙ c.if-not-fits.true in
    rw (← c.line_size-line.ensures, ← c.sent_size-sent.ensures, short)

pub returns : goal.returns
unfolding measured
returns c =
    let fits = sym c.fits.ensures ∙ c.if-not-fits.false in
    rw (← c.line_size-line.ensures, ← c.sent_size-sent.ensures, fits)
