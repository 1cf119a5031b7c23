-- The line's answer over the box that the numbers are, stored.
use Rattle.flat.specs.Box.{box_range, box_in}
use Rattle.flat.specs.Taken.{taken}
use Rattle.abi.specs.Journals.{replays-flat}
use Rattle.abi.proofs.journals.journal_replay.Goals as goal

pub returns : goal.returns
returns c =
    let box = taken (box_range c.args.n.now) (box_in c.args.n.now) c.in-Some.ensures in
    replays-flat c.args.text.now c.args.n.now c.args.terms.now c.args.orders.now box.0
    c.in-Some.state c.replay-replayed.result box.1 c.replay-replayed.ensures c.put_replayed.ensures
