-- Two halves are the whole, by the one law over the width.
use native.Mathlib.Omega.{arith}
use Rattle.digits.specs.RoomLaws.{stored_halves}
use Rattle.digits.proofs.U32Field.spell.Goals as goal

pub returns : goal.returns
returns c =
    stored_halves 2 c.args.room.now c.args.at c.args.self (omega arith)
    c.spell.ensures c.spell-2.ensures
