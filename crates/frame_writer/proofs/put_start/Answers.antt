-- Five fields, one behind the other.
use native.Mathlib.Omega.{arith}
use mathlib.Core.List.{[], ◌∷◌}
use Rattle.frames.specs.Message.{number}
use Rattle.frames.specs.WritingLaws.{put_next, put-none}
use Rattle.frame_writer.proofs.put_start.Goals as goal

pub returns : goal.returns
returns c =
    put_next c.args.room.now 0 (number 1 1 ∷ number 1 c.args.kind ∷ number 1 c.args.from ∷ number 1 c.args.to ∷ []) (number 4 c.args.term) (omega arith)
    (put_next c.args.room.now 0 (number 1 1 ∷ number 1 c.args.kind ∷ number 1 c.args.from ∷ []) (number 1 c.args.to) (omega arith)
    (put_next c.args.room.now 0 (number 1 1 ∷ number 1 c.args.kind ∷ []) (number 1 c.args.from) (omega arith)
    (put_next c.args.room.now 0 (number 1 1 ∷ []) (number 1 c.args.kind) (omega arith)
    (put_next c.args.room.now 0 [] (number 1 1) (omega arith)
    (put-none c.args.room.now 0)
    c.put.ensures)
    c.put-2.ensures)
    c.put-3.ensures)
    c.put-4.ensures)
    c.put-5.ensures
