-- Numbers in range are the fields, and the writer answers for them.
use Rattle.std.specs.Prelude.{Ok, Err}
use Rattle.flat.specs.Message.{in_range, fields_in}
use Rattle.flat.specs.Taken.{taken, not_taken}
use Rattle.abi.specs.FrameLaws.{write_nothing, write_fields}
use Rattle.abi.proofs.frame_write.Goals as goal

pub returns-in_default : goal.returns-in_default
returns-in_default c =
    let no-fields = not_taken (in_range c.args.numbers.now) (fields_in c.args.numbers.now) c.in_default.ensures in
    rw c.number.ensures (write_nothing c.args.numbers.now c.args.room.now no-fields)

pub returns-in-Ok : goal.returns-in-Ok
returns-in-Ok c =
    let fields = taken (in_range c.args.numbers.now) (fields_in c.args.numbers.now) c.in-Some.ensures in
    write_fields c.args.numbers.now c.args.room.now fields.0 c.in-Some.f (Ok c.in-Ok.field-0) fields.1 c.in-Ok.ensures

pub returns-in-Err : goal.returns-in-Err
returns-in-Err c =
    let fields = taken (in_range c.args.numbers.now) (fields_in c.args.numbers.now) c.in-Some.ensures in
    rw c.number-in-Err.ensures
    (write_fields c.args.numbers.now c.args.room.now fields.0 c.in-Some.f (Err c.in-Err.refusal) fields.1 c.in-Err.ensures)
