-- The fixed fields, the entries, the line feed, one behind the other.
use native.Mathlib.Omega.{arith}
use mathlib.Core.List.{[], ◌∷◌}
use Prim.Native.Nat.{ℕ, ◌+◌, ◌*◌}
use mathlib.Core.Path.{◌≡◌, ap, sym, ◌∙◌}
use Rattle.digits.specs.Room.{over}
use Rattle.frames.specs.Message.{append, number, start, entry_fields, table}
use Rattle.frames.specs.Fields.{listed}
use Rattle.frames.specs.Laws.{length-listed, listed-take}
use Rattle.frames.specs.WritingLaws.{chars, chars-entries, put_more, put-line}
use Rattle.frame_writer.proofs.put_append.Goals as goal

pub returns : goal.returns
unfolding table
returns c =
    let f = c.args.f in
    let es = listed f.entries 0 f.count in
    let same = listed-take f.entries f.count (omega arith) in
    let long = chars-entries es in
    let count = length-listed f.entries 0 f.count in
    let fixed = number 2 f.index ∷ number 4 f.prior ∷ number 2 f.commit ∷ number 1 f.count ∷ [] in
    let m = append f.from f.to f.term f.index f.prior f.commit es in
    let whole : chars (table m) ≡ 34 + 24 * f.count = omega arith in
    put-line c.args.room.now m (omega arith)
    (rw count (put_more c.args.room.now 0 (start 3 f.from f.to f.term fixed) (entry_fields es) (omega arith)
    c.put_append_start.ensures (rw same c.put_entries.ensures)))
    (c.put_end.ensures ∙ ap (λ (k : ℕ). over c.put_entries.new.room k (10 ∷ [])) (sym whole))
