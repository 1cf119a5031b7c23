-- The start, the fields of the kind, the line feed, one behind the other.
use native.Mathlib.Omega.{arith}
use mathlib.Core.List.{[]}
use Rattle.frames.specs.Message.{vote_answer, number, start, table}
use Rattle.frames.specs.WritingLaws.{put_next, put-line}
use Rattle.frame_writer.proofs.put_vote_answer.Goals as goal

pub returns : goal.returns
unfolding table
returns c =
    put-line c.args.room.now (vote_answer c.args.from c.args.to c.args.term c.args.reply) (omega arith)
    (put_next c.args.room.now 0 (start 2 c.args.from c.args.to c.args.term []) (number 1 c.args.reply) (omega arith)
    c.put_start.ensures
    c.put.ensures)
    c.put_end.ensures
