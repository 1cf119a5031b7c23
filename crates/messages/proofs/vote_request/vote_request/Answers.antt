-- The struct's numbers decide as the definition does; a yes sets vote.
use native.Mathlib.Omega.{arith}
use mathlib.Core.Path.{refl, sym, ◌∙◌}
use Rattle.record.specs.declared.Send.{Send}
use Rattle.record.specs.Deciding.{messages_of, Aimed}
use Rattle.record.specs.DecidingLaws.{plain-decides, changed-decides}
use Rattle.messages.specs.VoteLaws.{request_yes, request_no}
use Rattle.messages.proofs.vote_request.vote_request.Goals as goal

pub returns-then-is_granted : goal.returns-then-is_granted
unfolding messages_of Aimed
returns-then-is_granted c =
    λ offered orders. rw c.step.ensures
    (changed-decides c.args.t _ offered c.args.terms.now orders (Send.VoteAnswer c.args.from 1) refl c.requires.last tt
    (request_yes c.args.t c.args.terms.now orders c.args.from c.args.index c.args.prior _ (c.term_at-own.ensures orders c.args.t.last (omega arith))
    (sym c.is_granted.ensures ∙ c.if-is_granted.true)))

pub returns : goal.returns
unfolding messages_of Aimed
returns c =
    λ offered orders. rw c.step-2.ensures
    (plain-decides c.args.t offered c.args.terms.now orders (Send.VoteAnswer c.args.from 0) c.requires.last tt
    (request_no c.args.t c.args.terms.now orders c.args.from c.args.index c.args.prior _ (c.term_at-own.ensures orders c.args.t.last (omega arith))
    (sym c.is_granted.ensures ∙ c.if-is_granted.false)))
