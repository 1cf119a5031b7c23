-- Seven fields, one behind the other.
use native.Mathlib.Omega.{arith}
use mathlib.Core.List.{[], ◌∷◌}
use Rattle.frames.specs.Message.{number}
use Rattle.frames.specs.WritingLaws.{put-none, put_next}
use Rattle.writing.proofs.journal_lines.put_line_start.Goals as goal

pub returns : goal.returns
returns c =
    put_next c.args.room.now 0 (number 1 1 ∷ number 1 16 ∷ number 1 c.args.next.me ∷ number 4 c.args.next.term ∷ number 1 c.args.next.vote ∷ number 2 c.args.kept ∷ [])
    (number 1 c.args.count) (omega (arith, c.requires))
    (put_next c.args.room.now 0 (number 1 1 ∷ number 1 16 ∷ number 1 c.args.next.me ∷ number 4 c.args.next.term ∷ number 1 c.args.next.vote ∷ [])
    (number 2 c.args.kept) (omega (arith, c.requires))
    (put_next c.args.room.now 0 (number 1 1 ∷ number 1 16 ∷ number 1 c.args.next.me ∷ number 4 c.args.next.term ∷ []) (number 1 c.args.next.vote) (omega (arith, c.requires))
    (put_next c.args.room.now 0 (number 1 1 ∷ number 1 16 ∷ number 1 c.args.next.me ∷ []) (number 4 c.args.next.term) (omega (arith, c.requires))
    (put_next c.args.room.now 0 (number 1 1 ∷ number 1 16 ∷ []) (number 1 c.args.next.me) (omega (arith, c.requires))
    (put_next c.args.room.now 0 (number 1 1 ∷ []) (number 1 16) (omega (arith, c.requires))
    (put_next c.args.room.now 0 [] (number 1 1) (omega (arith, c.requires)) (put-none c.args.room.now 0)
    c.put.ensures)
    c.put-2.ensures)
    c.put-3.ensures)
    c.put-4.ensures)
    c.put-5.ensures)
    c.put-6.ensures)
    c.put-7.ensures
