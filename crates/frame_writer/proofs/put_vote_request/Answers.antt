-- The start, the fields of the kind, the line feed, one behind the other.
use native.Mathlib.Omega.{arith}
use mathlib.Core.List.{[], ◌∷◌}
use Rattle.frames.specs.Message.{vote_request, number, start, table}
use Rattle.frames.specs.WritingLaws.{put_next, put-line}
use Rattle.frame_writer.proofs.put_vote_request.Goals as goal

pub returns : goal.returns
unfolding table
returns c =
    let head = start 1 c.args.from c.args.to c.args.term in
    put-line c.args.room.now (vote_request c.args.from c.args.to c.args.term c.args.index c.args.prior) (omega arith)
    (put_next c.args.room.now 0 (head (number 2 c.args.index ∷ [])) (number 4 c.args.prior) (omega arith)
    (put_next c.args.room.now 0 (head []) (number 2 c.args.index) (omega arith)
    c.put_start.ensures
    c.put.ensures)
    c.put-2.ensures)
    c.put_end.ensures
