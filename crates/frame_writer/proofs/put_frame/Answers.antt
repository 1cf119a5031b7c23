-- Each kind writes its own frame, and the room is as long as the frame, so as long as the kind needs (`room_of`).
use native.Mathlib.Omega.{arith}
use mathlib.Core.Path.{◌≡◌}
use Rattle.frames.specs.Reading.{size}
use Rattle.frames.specs.WritingLaws.{whole}
use Rattle.frame_writer.specs.Writable.{room_of}
use Rattle.frame_writer.proofs.put_frame.Goals as goal

pub put_append-requires-clause-few : goal.put_append-requires-clause-few
put_append-requires-clause-few c = (whole c.args.f c.requires.frame).few

pub put_append_answer-requires : goal.put_append_answer-requires
unfolding size
put_append_answer-requires c =
    let fourth : c.args.f.kind ≡ 4 = omega (arith, whole c.args.f c.requires.frame) in
    omega (arith, room_of c.args.f c.args.room.now c.requires 4 fourth)
