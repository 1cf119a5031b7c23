-- The boxes before i have their messages, and box i gets its behind them (`put_next`); it fits there since all do (`fits_there`).
use Rattle.std.proofs.Common.{[], length, sym, ap, ◌∙◌, arith}
use Rattle.digits.specs.Room.{over}
use Rattle.frames.specs.Message.{text}
use Rattle.record.specs.Calls.{with_entries}
use Rattle.record.specs.Deciding.{OtherBox}
use Rattle.record.specs.SizeLaws.{shares-none, to_nobody, over_nothing, rest-long}
use Rattle.writing.specs.Others.{fits_there, share_adds, share_skips, put_next, skip_next}
use Rattle.writing.proofs.others.put_to_others.Goals.{then-is_other, else-is_other}
use Rattle.writing.proofs.others.put_to_others.Goals as goal

pub loop-i-init : goal.loop-i-init
loop-i-init g c =
    record {
      place = λ size h. sym (shares-none c.args.n size);
      text = λ m h. over_nothing c.args.room.now 0 ∙ ap (over c.args.room.now 0) (sym (to_nobody (with_entries c.args.n []) m));
    }

pub slice_bounds-put-count : goal.slice_bounds-put-count
slice_bounds-put-count g c =
    let other = sym c.is_other.ensures ∙ c.if-is_other.true in
    omega (arith, fits_there c.args.n c.requires.size c.loop-i.i (omega arith) (omega arith) other, c.loop-i.invariant.place c.requires.size c.requires.tells)

pub slice_bounds-put-start : goal.slice_bounds-put-start
slice_bounds-put-start g c =
    let other = sym c.is_other.ensures ∙ c.if-is_other.true in
    omega (arith, fits_there c.args.n c.requires.size c.loop-i.i (omega arith) (omega arith) other, c.loop-i.invariant.place c.requires.size c.requires.tells)

pub put-at-requires : goal.put-at-requires
put-at-requires g c =
    let other = sym c.is_other.ensures ∙ c.if-is_other.true in
    let fits = fits_there c.args.n c.requires.size c.loop-i.i (omega arith) (omega arith) other in
    c.requires.takes _ c.loop-i.i (record { box = record { least = omega arith; most = omega arith }; other = other })
    (omega (arith, fits, c.loop-i.invariant.place c.requires.size c.requires.tells, rest-long c.loop-i.room c.loop-i.at))

pub overflow_add-at : goal.overflow_add-at
overflow_add-at g c =
    let other = sym c.is_other.ensures ∙ c.if-is_other.true in
    let to : OtherBox c.args.n c.loop-i.i = record { box = record { least = omega arith; most = omega arith }; other = other } in
    omega (
      arith,
      fits_there c.args.n c.requires.size c.loop-i.i (omega arith) (omega arith) other,
      c.loop-i.invariant.place c.requires.size c.requires.tells,
      c.requires.tells _ c.loop-i.i c.put-at.result _ to c.put-at.ensures,
      c.well_formed,
    )

pub loop-i-preserved : goal.loop-i-preserved
loop-i-preserved g c =
    elim c.if-is_other.branch [
      | then-is_other w ↦
          let other = sym c.is_other.ensures ∙ w.if-is_other.true in
          let to : OtherBox c.args.n c.loop-i.i = record { box = record { least = omega arith; most = omega arith }; other = other } in
          let bytes = c.requires.tells _ c.loop-i.i w.put-at.result _ to w.put-at.ensures in
          record {
            place = λ size h.
                share_adds c.args.n size c.loop-i.i c.loop-i.at w.put-at.result c.if-is_other.at (omega arith) (c.loop-i.invariant.place size h) other
                (h _ c.loop-i.i w.put-at.result _ to w.put-at.ensures) w.at-is;
            text = λ m h.
                let put = h _ c.loop-i.i w.put-at.result _ to w.put-at.ensures in
                put_next c.args.n m c.args.room.now c.loop-i.room _ c.if-is_other.room c.loop-i.at c.loop-i.i w.put-at.result (omega arith)
                (c.loop-i.invariant.place (λ i. length (text (m i))) (λ p i n q o e. (h p i n q o e).0)) (c.loop-i.invariant.text m h) other put.0
                (omega (
                  arith,
                  bytes,
                  fits_there c.args.n c.requires.size c.loop-i.i (omega arith) (omega arith) other,
                  c.loop-i.invariant.place c.requires.size c.requires.tells,
                ))
                c.loop-i.auto.room put.1 w.room-is;
          }
      | else-is_other w ↦
          let none = sym c.is_other.ensures ∙ w.if-is_other.false in
          record {
            place = λ size h. share_skips c.args.n size c.loop-i.i c.loop-i.at c.if-is_other.at (omega arith) (c.loop-i.invariant.place size h) none w.at-is;
            text = λ m h.
                skip_next c.args.n m c.args.room.now c.loop-i.room c.if-is_other.room c.loop-i.i (omega arith) (c.loop-i.invariant.text m h) none w.room-is;
          }
    ]
