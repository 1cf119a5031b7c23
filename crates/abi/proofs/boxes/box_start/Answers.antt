-- The start's answer; the box's numbers are stored where it is 0.
use mathlib.Core.Path.{◌≡◌, refl, sym}
use Rattle.std.specs.Prelude.{Ok, Err}
use Rattle.frames.specs.Refusal.{number}
use Rattle.frames.specs.RefusalLaws.{not_0}
use Rattle.node.specs.Outside.{start_told}
use Rattle.abi.specs.BoxLaws.{start-done, start-refused}
use Rattle.abi.proofs.boxes.box_start.Goals as goal

pub returns-in-Ok : goal.returns-in-Ok
returns-in-Ok c =
    start-done c.args.me c.args.mask c.args.n.now c.args.room.now (start_told (Ok c.in-Ok.started)) c.in-Ok.ensures refl c.put_box.ensures

pub returns-in-Err : goal.returns-in-Err
returns-in-Err c =
    rw c.number.ensures
    (start-refused c.args.me c.args.mask c.args.n.now c.args.room.now (start_told (Err c.in-Err.refusal)) c.in-Err.ensures (not_0 c.in-Err.refusal))
