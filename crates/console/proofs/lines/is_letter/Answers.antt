-- The tests are the definition's own.
use mathlib.Core.Path.{sym}
use Rattle.console.specs.LineLaws.{letter_long, letter_by}
use Rattle.console.proofs.lines.is_letter.Goals as goal

pub returns-then-s-ne2 : goal.returns-then-s-ne2
returns-then-s-ne2 c =
    sym (letter_long c.args.letter c.args.s.now c.if-s-ne2.true)

pub returns : goal.returns
returns c =
    sym (letter_by c.args.letter c.args.s.now c.if-s-ne2.false)
