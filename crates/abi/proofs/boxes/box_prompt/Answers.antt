-- 12 where a number does not fit; otherwise the box's answer, stored.
use Rattle.raft.specs.Event.{is_prompted}
use Rattle.node.specs.Outside.{told}
use Rattle.flat.specs.Box.{box_range, box_in}
use Rattle.flat.specs.Taken.{taken, not_taken}
use Rattle.abi.specs.BoxLaws.{event-none, event-step}
use Rattle.abi.proofs.boxes.box_prompt.Goals as goal

pub returns-in_default : goal.returns-in_default
returns-in_default c =
    let no-box = not_taken (box_range c.args.n.now) (box_in c.args.n.now) c.in_default.ensures in
    rw c.number.ensures
    (event-none (is_prompted) c.args.n.now c.args.terms.now c.args.orders.now c.args.journal.now c.args.room.now c.args.sizes.now no-box)

pub returns : goal.returns
returns c =
    let box = taken (box_range c.args.n.now) (box_in c.args.n.now) c.in-Some.ensures in
    event-step (is_prompted) c.args.n.now c.args.terms.now c.args.orders.now c.args.journal.now c.args.room.now c.args.sizes.now box.0
    c.in-Some.state (told (record { state = c.in-Some.state }) c.prompt-answer.result) box.1 c.prompt-answer.ensures (c.put_answer.ensures (record { state = c.in-Some.state }))
