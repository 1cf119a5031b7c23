-- The definition's two cases.
use mathlib.Core.Path.{sym, ◌∙◌}
use Rattle.record.specs.Sizes.{line_size}
use Rattle.finishing.proofs.measuring.line_size.Goals as goal

pub returns-then-is_silent : goal.returns-then-is_silent
unfolding line_size
returns-then-is_silent c =
    rw (sym c.is_silent.ensures ∙ c.if-is_silent.true)

pub returns : goal.returns
unfolding line_size
returns c =
    rw (sym c.is_silent.ensures ∙ c.if-is_silent.false)
