-- Not for this box is 2; otherwise it is delivered.
use mathlib.Core.Path.{sym, ◌∙◌}
use Rattle.record.specs.Calls.{state_of}
use Rattle.record.specs.DecidingLaws.{answers_as}
use Rattle.messages.specs.DeliverLaws.{from-box, arrive-not, arrive_for, read-delivered}
use Rattle.messages.proofs.deliver.arrive.Goals as goal

pub is_for-requires : goal.is_for-requires
is_for-requires c =
    from-box c.args.f c.requires.frame

pub returns-then-not-is_for : goal.returns-then-not-is_for
returns-then-not-is_for c =
    let other = sym (c.is_for.ensures c.args.terms.now c.args.orders.now) ∙ c.if-not-is_for.true in
    arrive-not c.args.f (state_of c.args.n c.args.terms.now c.args.orders.now) other

pub deliver-requires : goal.deliver-requires
deliver-requires c =
    read-delivered c.requires (sym (c.is_for.ensures c.args.terms.now c.args.orders.now) ∙ c.if-not-is_for.false)

pub returns : goal.returns
returns c =
    answers_as _ c.deliver.result _ _ _ c.deliver.ensures
    (arrive_for c.args.f (state_of c.args.n c.args.terms.now c.args.orders.now) (sym (c.is_for.ensures c.args.terms.now c.args.orders.now) ∙ c.if-not-is_for.false))
