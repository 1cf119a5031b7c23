-- What the closure writes is the append, as long as the struct says.
use Rattle.std.proofs.Common.{rules, ap, ◌∙◌}
use Rattle.digits.specs.Room.{over}
use Rattle.raft.specs.Sends.{append_to}
use Rattle.record.specs.Calls.{state_of}
use Rattle.record.specs.SizeLaws.{append_to-long}
use Rattle.writing.specs.Others.{appended}
use Rattle.writing.proofs.appends.put_appends.Goals as goal

pub returns : goal.returns
returns c =
    c.put_to_others.ensures (append_to (state_of c.args.n c.args.terms.now c.args.orders.now))
    (λ p i bytes q o e. let long = append_to-long c.args.n c.args.terms.now c.args.orders.now i in (search (rules, long), search rules))
    ∙ ap (over c.args.room.now 0) (appended c.args.n c.args.terms.now c.args.orders.now)
