-- The fixed fields, the entries, the line feed, one behind the other.
use native.Mathlib.Omega.{arith}
use mathlib.Core.List.{[], ◌∷◌}
use Prim.Native.Nat.{ℕ, ◌+◌, ◌*◌}
use mathlib.Core.Path.{◌≡◌, ap, sym, ◌∙◌}
use lib.ListN.{length}
use Rattle.digits.specs.Room.{over}
use Rattle.frames.specs.Message.{append, number, start, entry_fields, table}
use Rattle.frames.specs.WritingLaws.{chars, put_more, put-line}
use Rattle.raft.specs.Lent.{entries_of}
use Rattle.raft.specs.LentLaws.{length-entries_of}
use Rattle.record.specs.SizeLaws.{chars_logged}
use Rattle.writing.proofs.appends.put_append_from.Goals as goal

pub returns : goal.returns
unfolding table
returns c =
    let es = entries_of c.args.terms.now c.args.orders.now c.args.index c.args.count in
    let long = chars_logged c.args.terms.now c.args.orders.now c.args.index c.args.count in
    let m = append c.args.from c.args.to c.args.term c.args.index c.args.prior c.args.commit es in
    let whole : chars (table m) ≡ 34 + 24 * c.args.count = omega (arith, long) in
    let told : number 1 (length es) ≡ number 1 c.args.count = ap (number 1) (length-entries_of c.args.terms.now c.args.orders.now c.args.index c.args.count) in
    let fixed = number 2 c.args.index ∷ number 4 c.args.prior ∷ number 2 c.args.commit ∷ number 1 c.args.count ∷ [] in
    put-line c.args.room.now m (omega (arith, whole, c.requires.in_room))
    (rw told
    (put_more c.args.room.now 0 (start 3 c.args.from c.args.to c.args.term fixed) (entry_fields es) (omega (arith, whole, c.requires.in_room, long))
    c.put_append_start.ensures c.put_logged.ensures))
    (c.put_end.ensures ∙ ap (λ (k : ℕ). over c.put_logged.new.room k (10 ∷ [])) (sym whole))
