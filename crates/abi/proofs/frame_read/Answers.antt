-- The reader's answer, as numbers.
use Rattle.frames.specs.Reading.{reading}
use Rattle.abi.specs.FrameLaws.{read-numbers, read-nothing}
use Rattle.abi.proofs.frame_read.Goals as goal

pub returns-in-Ok : goal.returns-in-Ok
returns-in-Ok c = read-numbers (reading c.args.text.now) c.in-Ok.f c.args.numbers.now c.in-Ok.ensures c.put_flat.ensures

pub returns-in-Err : goal.returns-in-Err
returns-in-Err c = rw c.number.ensures (read-nothing (reading c.args.text.now) c.in-Err.refusal c.args.numbers.now c.in-Err.ensures)
