-- A line ends within what is held.
use native.Mathlib.Omega.{arith}
use lib.ListN.{take, length-take}
use Rattle.text.specs.LinesLaws.{first-most}
use Rattle.reader.proofs.whole_line.Goals as goal

pub returns-then-end-ne0-clause-end_le_held : goal.returns-then-end-ne0-clause-end_le_held
returns-then-end-ne0-clause-end_le_held g c =
    omega (arith, c.line_end-end.ensures, first-most (take c.loop.held c.loop.block), length-take c.loop.held c.loop.block)
