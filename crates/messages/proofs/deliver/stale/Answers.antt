-- A request gets a no; an answer nothing.
use native.Mathlib.Omega.{arith}
use Rattle.record.specs.declared.Send.{Send}
use Rattle.record.specs.Calls.{state_of}
use Rattle.record.specs.Deciding.{messages_of, Aimed}
use Rattle.record.specs.DecidingLaws.{plain-decides}
use Rattle.messages.specs.DeliverLaws.{stale-request, stale-append, stale-answer}
use Rattle.messages.proofs.deliver.stale.Goals as goal

pub returns-in-1 : goal.returns-in-1
unfolding messages_of Aimed
returns-in-1 c =
    λ offered terms orders. rw c.step.ensures
    (plain-decides c.args.n offered terms orders (Send.VoteAnswer c.args.f.from 0) c.requires tt
    (stale-request c.args.f (state_of c.args.n terms orders) c.in-1.is))

pub returns-in-3 : goal.returns-in-3
unfolding messages_of Aimed
returns-in-3 c =
    λ offered terms orders. rw c.step-in-3.ensures
    (plain-decides c.args.n offered terms orders (Send.AppendAnswer c.args.f.from 0 0) c.requires tt
    (stale-append c.args.f (state_of c.args.n terms orders) c.in-3.is))

pub returns-in_default : goal.returns-in_default
unfolding messages_of Aimed
returns-in_default c =
    λ offered terms orders. rw c.step-in_default.ensures
    (plain-decides c.args.n offered terms orders Send.Nothing c.requires tt
    (stale-answer c.args.f (state_of c.args.n terms orders) (omega arith) (omega arith)))
