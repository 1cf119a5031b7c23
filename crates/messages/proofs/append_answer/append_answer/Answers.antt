-- The definition's four cases; a leader that has heard settles its commit.
use native.Mathlib.Omega.{arith}
use mathlib.Core.Path.{sym, ◌∙◌}
use Rattle.record.specs.declared.Send.{Send}
use Rattle.record.specs.Calls.{state_of}
use Rattle.record.specs.Deciding.{messages_of, Aimed}
use Rattle.record.specs.DecidingLaws.{plain-decides, changed-decides, becomes_lent}
use Rattle.record.specs.GoodLaws.{ready-last}
use Rattle.messages.specs.AnswerLaws.{answer-unled, answer-past, answer-again, answer-quiet, heard-next, heard_match, heard_ranged, heard-aimed, not-past, past-log}
use Rattle.messages.proofs.append_answer.append_answer.Goals as goal

pub returns-then-t-ne-LEADER : goal.returns-then-t-ne-LEADER
unfolding messages_of Aimed
returns-then-t-ne-LEADER c =
    let s = state_of c.args.t c.args.terms.now c.args.orders.now in
    λ offered. rw c.step.ensures
    (plain-decides c.args.t offered c.args.terms.now c.args.orders.now Send.Nothing (ready-last c.requires.ready) tt
    (answer-unled s c.args.from c.args.reply c.args.index c.if-t-ne-LEADER.true))

pub returns-then-reply-t : goal.returns-then-reply-t
returns-then-reply-t c =
    let s = state_of c.args.t c.args.terms.now c.args.orders.now in
    λ offered. answer-past s c.args.from c.args.reply c.args.index c.if-t-ne-LEADER.false
    (past-log c.args.t c.args.terms.now c.args.orders.now c.args.reply c.args.index _ c.if-reply-t.true)

pub heard-requires : goal.heard-requires
heard-requires c =
    let known = not-past c.args.t c.args.reply c.args.index c.if-reply-t.false in
    record {
      box = c.requires.sender.box;
      match_low =
          heard_match c.args.t c.args.from c.args.reply c.args.index c.args.terms.now c.args.orders.now
          c.requires c.if-t-ne-LEADER.false known;
      next_least =
          heard-next c.args.t c.args.from c.args.reply c.args.index c.args.terms.now c.args.orders.now
          c.requires c.if-t-ne-LEADER.false known;
    }

pub settled-next-requires : goal.settled-next-requires
settled-next-requires c =
    let known = not-past c.args.t c.args.reply c.args.index c.if-reply-t.false in
    record {
      in_terms = omega (arith, c.heard.ensures.last, ready-last c.requires.ready, c.requires.ready.terms_long);
      matched =
          rw (becomes_lent c.heard.ensures c.args.terms.now c.args.orders.now)
          (heard_ranged c.args.t c.args.from c.args.reply c.args.index c.args.terms.now c.args.orders.now
          c.requires c.if-t-ne-LEADER.false known);
    }

pub returns-then-sends_again : goal.returns-then-sends_again
unfolding messages_of Aimed
returns-then-sends_again c =
    let s = state_of c.args.t c.args.terms.now c.args.orders.now in
    let known = not-past c.args.t c.args.reply c.args.index c.if-reply-t.false in
    let settles = rw (becomes_lent c.heard.ensures c.args.terms.now c.args.orders.now) at c.settled-next.ensures.orders_value in
    λ offered. rw c.step-then-sends_again.ensures
    (changed-decides c.args.t _ offered c.args.terms.now c.args.orders.now (Send.Append c.args.from) (c.settled-next.ensures.last_value ∙ c.heard.ensures.last)
    (ready-last c.requires.ready)
    (heard-aimed c.args.t c.args.from c.args.reply c.args.index c.args.terms.now c.args.orders.now c.requires c.if-t-ne-LEADER.false known _ settles)
    (answer-again s c.args.from c.args.reply c.args.index c.if-t-ne-LEADER.false
    (past-log c.args.t c.args.terms.now c.args.orders.now c.args.reply c.args.index _ c.if-reply-t.false) _ settles
    (sym (c.sends_again.ensures c.args.terms.now c.args.orders.now) ∙ c.if-sends_again.true)))

pub returns : goal.returns
unfolding messages_of Aimed
returns c =
    let s = state_of c.args.t c.args.terms.now c.args.orders.now in
    let settles = rw (becomes_lent c.heard.ensures c.args.terms.now c.args.orders.now) at c.settled-next.ensures.orders_value in
    λ offered. rw c.step-2.ensures
    (changed-decides c.args.t _ offered c.args.terms.now c.args.orders.now Send.Nothing (c.settled-next.ensures.last_value ∙ c.heard.ensures.last) (ready-last c.requires.ready) tt
    (answer-quiet s c.args.from c.args.reply c.args.index c.if-t-ne-LEADER.false
    (past-log c.args.t c.args.terms.now c.args.orders.now c.args.reply c.args.index _ c.if-reply-t.false) _ settles
    (sym (c.sends_again.ensures c.args.terms.now c.args.orders.now) ∙ c.if-sends_again.false)))
