-- The start and four fields, one behind the other.
use native.Mathlib.Omega.{arith}
use mathlib.Core.List.{[], ◌∷◌}
use Rattle.frames.specs.Message.{number, start}
use Rattle.frames.specs.WritingLaws.{put_next}
use Rattle.frame_writer.proofs.put_append_start.Goals as goal

pub returns : goal.returns
returns c =
    let head = start 3 c.args.from c.args.to c.args.term in
    put_next c.args.room.now 0 (head (number 2 c.args.index ∷ number 4 c.args.prior ∷ number 2 c.args.commit ∷ [])) (number 1 c.args.count) (omega arith)
    (put_next c.args.room.now 0 (head (number 2 c.args.index ∷ number 4 c.args.prior ∷ [])) (number 2 c.args.commit) (omega arith)
    (put_next c.args.room.now 0 (head (number 2 c.args.index ∷ [])) (number 4 c.args.prior) (omega arith)
    (put_next c.args.room.now 0 (head []) (number 2 c.args.index) (omega arith)
    c.put_start.ensures
    c.put.ensures)
    c.put-2.ensures)
    c.put-3.ensures)
    c.put-4.ensures
