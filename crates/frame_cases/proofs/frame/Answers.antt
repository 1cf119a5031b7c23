-- What was written stands in the room (`written_fits`).
use native.Mathlib.Omega.{arith}
use mathlib.Core.Path.{sym}
use Rattle.std.proofs.Common.{length-take-le}
use Rattle.frames.specs.WritingLaws.{written_fits}
use Rattle.frame_cases.proofs.frame.Goals as goal

pub slice_bounds-room-end : goal.slice_bounds-room-end
slice_bounds-room-end g c =
    omega (arith, written_fits _ _ c.in-Ok.ensures, c.write.auto.room)

pub slice_bounds-piece-end : goal.slice_bounds-piece-end
slice_bounds-piece-end g c =
    sym (length-take-le c.in-Ok.bytes c.write.new.room (omega (arith, written_fits _ _ c.in-Ok.ensures, c.write.auto.room)))
