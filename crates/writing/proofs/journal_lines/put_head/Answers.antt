-- Four fields and the line feed, one behind the other.
use native.Mathlib.Omega.{arith}
use mathlib.Core.List.{[], ◌∷◌}
use Rattle.frames.specs.Message.{number}
use Rattle.frames.specs.WritingLaws.{put-none, put_next, put_ended}
use Rattle.raft.specs.Journal.{head}
use Rattle.writing.proofs.journal_lines.put_head.Goals as goal

pub returns : goal.returns
unfolding head
returns c =
    put_ended c.args.room.now (number 1 1 ∷ number 1 17 ∷ number 1 c.args.me ∷ number 1 c.args.mask ∷ []) (omega (arith, c.requires))
    (put_next c.args.room.now 0 (number 1 1 ∷ number 1 17 ∷ number 1 c.args.me ∷ []) (number 1 c.args.mask) (omega (arith, c.requires))
    (put_next c.args.room.now 0 (number 1 1 ∷ number 1 17 ∷ []) (number 1 c.args.me) (omega (arith, c.requires))
    (put_next c.args.room.now 0 (number 1 1 ∷ []) (number 1 17) (omega (arith, c.requires))
    (put_next c.args.room.now 0 ([]) (number 1 1) (omega (arith, c.requires))
    (put-none c.args.room.now 0)
    c.put.ensures)
    c.put-2.ensures)
    c.put-3.ensures)
    c.put-4.ensures)
    c.put_end.ensures
