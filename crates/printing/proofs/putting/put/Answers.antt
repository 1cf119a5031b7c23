-- The part of the room is the text, and the rest is as it was.
use native.Mathlib.Omega.{arith}
use mathlib.Core.Path.{refl, ◌∙◌}
use lib.ListN.{length}
use Rattle.std.proofs.Math.Seq.{take-length}
use Rattle.std.proofs.lemmas.Slice.{put_mid-paste}
use Rattle.digits.specs.Room.{over}
use Rattle.printing.proofs.putting.put.Goals as goal

pub returns : goal.returns
unfolding over
returns c =
    put_mid-paste c.args.at _ c.args.room.now _ c.args.text.now (length c.args.text.now) c.copy_from_slice.ensures.after (omega arith) refl
    ∙ rw (take-length c.args.text.now)
