-- The fixed fields, the entries and the line feed, one behind the other.
use native.Mathlib.Omega.{arith}
use mathlib.Core.List.{[], ◌∷◌}
use Prim.Native.Nat.{ℕ, ◌-◌}
use mathlib.Core.Path.{◌≡◌, ap, ◌∙◌}
use lib.ListN.{length}
use Rattle.digits.specs.Room.{over}
use Rattle.frames.specs.Message.{number, entry_fields}
use Rattle.frames.specs.WritingLaws.{put_more, put_ended}
use Rattle.raft.specs.Journal.{line_text}
use Rattle.raft.specs.Lent.{entries_of}
use Rattle.raft.specs.LentLaws.{length-entries_of}
use Rattle.record.specs.SizeLaws.{chars_logged}
use Rattle.writing.proofs.journal_lines.put_line.Goals as goal

pub returns : goal.returns
unfolding line_text
returns c =
    let count = c.args.next.last - c.args.kept in
    let es = entries_of c.args.terms.now c.args.orders.now c.args.kept count in
    let long = chars_logged c.args.terms.now c.args.orders.now c.args.kept count in
    let entries = length-entries_of c.args.terms.now c.args.orders.now c.args.kept count in
    let told : number 1 (length es) ≡ number 1 count = ap (number 1) entries in
    let who = number 1 1 ∷ number 1 16 ∷ number 1 c.args.next.me ∷ number 4 c.args.next.term ∷ number 1 c.args.next.vote ∷ number 2 c.args.kept ∷ number 1 count ∷ [] in
    rw told
    (put_ended c.args.room.now
    (number 1 1 ∷ number 1 16 ∷ number 1 c.args.next.me ∷ number 4 c.args.next.term ∷ number 1 c.args.next.vote ∷ number 2 c.args.kept ∷ number 1 count ∷ entry_fields es)
    (omega (arith, c.requires.in_room, long))
    (put_more c.args.room.now 0 who (entry_fields es) (omega (arith, c.requires.in_room, long)) c.put_line_start.ensures c.put_logged.ensures)
    (c.put_end.ensures ∙ ap (λ (k : ℕ). over c.put_logged.new.room k (10 ∷ [])) (omega (arith, long))))
