-- 12 where a number does not fit; otherwise the box's answer, and the count is stored where it is 0.
use mathlib.Core.Path.{◌≡◌, refl, sym}
use Rattle.frames.specs.Refusal.{number}
use Rattle.frames.specs.RefusalLaws.{not_0}
use Rattle.flat.specs.Box.{box_range, box_in}
use Rattle.flat.specs.Taken.{taken, not_taken}
use Rattle.abi.specs.BoxLaws.{handed-none, handed-done, handed-refused}
use Rattle.abi.proofs.boxes.box_handed_out.Goals as goal

pub returns-in_default : goal.returns-in_default
returns-in_default c =
    let no-box = not_taken (box_range c.args.n.now) (box_in c.args.n.now) c.in_default.ensures in
    rw c.number.ensures (handed-none c.args.n.now c.args.terms.now c.args.orders.now c.args.count.now no-box)

pub returns-in-Ok : goal.returns-in-Ok
returns-in-Ok c =
    let box = taken (box_range c.args.n.now) (box_in c.args.n.now) c.in-Some.ensures in
    handed-done c.args.n.now c.args.terms.now c.args.orders.now c.args.count.now box.0
    c.in-Some.state box.1 _ c.in-Ok.ensures refl

pub returns-in-Err : goal.returns-in-Err
returns-in-Err c =
    let box = taken (box_range c.args.n.now) (box_in c.args.n.now) c.in-Some.ensures in
    rw c.number-in-Err.ensures
    (handed-refused c.args.n.now c.args.terms.now c.args.orders.now c.args.count.now box.0
    c.in-Some.state box.1 _ c.in-Err.ensures (not_0 c.in-Err.refusal))
