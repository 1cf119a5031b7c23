-- Two stores, one behind the other, are one text (`stored_byte`).
use native.Mathlib.Omega.{arith}
use Rattle.digits.specs.Digits.{digit}
use Rattle.digits.specs.RoomLaws.{stored_byte}
use Rattle.digits.proofs.U8Field.spell.Goals as goal

pub returns : goal.returns
unfolding digit
returns c =
    rw c.requires.sixteen
    (stored_byte c.args.room.now c.args.at c.args.self c.ranges.self.fits (omega arith))
