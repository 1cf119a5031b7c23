-- Two halves are the whole, by the one law over the width.
use native.Mathlib.Omega.{arith}
use mathlib.Core.Path.{sym}
use Rattle.digits.specs.Laws.{field_halves, run-le}
use Rattle.digits.proofs.U64Field.get.Goals as goal

pub overflow_add-at : goal.overflow_add-at
overflow_add-at c =
    omega (arith, run-le c.args.s.now)

pub returns : goal.returns
returns c =
    rw (c.get-high.ensures, c.get-low.ensures) (sym (field_halves c.args.s.now c.args.at 4 (omega (arith, run-le c.args.s.now))))
