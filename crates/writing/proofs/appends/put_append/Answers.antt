-- What the code writes is the append (`tells`); the previous index lies within the log.
use native.Mathlib.Omega.{arith}
use mathlib.Core.Path.{ap, ◌∙◌}
use Rattle.frames.specs.Message.{Message, text}
use Rattle.digits.specs.Room.{over}
use Rattle.record.specs.SizeLaws.{tells}
use Rattle.writing.proofs.appends.put_append.Goals as goal

pub returns : goal.returns
returns c =
    let next = c.requires.sendable.next c.args.i c.requires.to.box c.requires.to.other in
    let term = c.term_at.ensures c.args.orders.now c.args.n.last (omega (arith, c.previous-index.ensures, next)) in
    c.put_append_from.ensures
    ∙ ap (λ (m : Message). over c.args.room.now 0 (text m))
    (tells c.args.n c.args.terms.now c.args.orders.now c.args.i _ _ _ c.previous-index.ensures term c.entry_count.ensures.value)
