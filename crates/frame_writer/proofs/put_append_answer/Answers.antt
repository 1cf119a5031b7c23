-- The start, the fields of the kind, the line feed, one behind the other.
use native.Mathlib.Omega.{arith}
use mathlib.Core.List.{[], ◌∷◌}
use Rattle.frames.specs.Message.{append_answer, number, start, table}
use Rattle.frames.specs.WritingLaws.{put_next, put-line}
use Rattle.frame_writer.proofs.put_append_answer.Goals as goal

pub returns : goal.returns
unfolding table
returns c =
    let head = start 4 c.args.from c.args.to c.args.term in
    put-line c.args.room.now (append_answer c.args.from c.args.to c.args.term c.args.reply c.args.index) (omega arith)
    (put_next c.args.room.now 0 (head (number 1 c.args.reply ∷ [])) (number 2 c.args.index) (omega arith)
    (put_next c.args.room.now 0 (head []) (number 1 c.args.reply) (omega arith)
    c.put_start.ensures
    c.put.ensures)
    c.put-2.ensures)
    c.put_end.ensures
