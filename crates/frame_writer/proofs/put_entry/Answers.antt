-- Two fields, one behind the other.
use native.Mathlib.Omega.{arith}
use mathlib.Core.List.{[], ◌∷◌}
use native.Mathlib.Nat.{add-zero}
use Rattle.frames.specs.Message
use Rattle.frames.specs.Message.{number, entry_fields}
use Rattle.frames.specs.WritingLaws.{put_next, put-none}
use Rattle.frame_writer.proofs.put_entry.Goals as goal

pub returns : goal.returns
unfolding entry_fields
returns c =
    put_next c.args.room.now c.args.at (number 4 c.args.term ∷ []) (Message.order c.args.order) (omega arith)
    (put_next c.args.room.now c.args.at [] (number 4 c.args.term) (omega arith) (put-none c.args.room.now c.args.at) (rw add-zero c.put.ensures))
    c.put-2.ensures
