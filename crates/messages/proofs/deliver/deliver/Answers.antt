-- A lower term is stale; otherwise the record with the term taken, and its kind.
use native.Mathlib.Omega.{arith}
use Rattle.record.specs.Calls.{state_of}
use Rattle.record.specs.DecidingLaws.{decides_as}
use Rattle.record.specs.GoodLaws.{ready-last}
use Rattle.messages.specs.Required.{brought}
use Rattle.messages.specs.DeliverLaws.{deliver-low, taken-decides, taken-in_term}
use Rattle.messages.proofs.deliver.deliver.Goals as goal

pub stale-requires : goal.stale-requires
stale-requires c =
    ready-last c.requires.read.ready

pub returns-then-f-n : goal.returns-then-f-n
returns-then-f-n c =
    decides_as (c.stale.ensures (brought c.args.f) c.args.terms.now c.args.orders.now)
    (deliver-low c.args.f (state_of c.args.n c.args.terms.now c.args.orders.now) c.if-f-n.true)

pub current-requires : goal.current-requires
current-requires c =
    taken-in_term c.requires (omega (arith, c.if-f-n.false)) _ c.taken.ensures

pub returns : goal.returns
returns c =
    taken-decides c.args.n _ c.args.f c.args.terms.now c.args.orders.now c.current.result (brought c.args.f) c.taken.ensures (omega (arith, c.if-f-n.false)) c.current.ensures
