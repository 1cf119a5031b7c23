-- The definition's three cases.
use native.Mathlib.Omega.{arith}
use mathlib.Core.Path.{sym, ◌∙◌}
use Rattle.raft.proofs.JoinLaws.{lacks-not}
use Rattle.raft.specs.LentLaws.{length-entries_of}
use Rattle.record.specs.declared.Send.{Send}
use Rattle.record.specs.Calls.{state_of}
use Rattle.record.specs.Deciding.{messages_of, Aimed}
use Rattle.record.specs.DecidingLaws.{changed-decides, answers_as, becomes_lent}
use Rattle.messages.specs.AppendLaws.{own-lacks, append-leads, append-lacks, append-accepts}
use Rattle.messages.proofs.append.append.Goals as goal

pub returns-then-t-eq-LEADER : goal.returns-then-t-eq-LEADER
returns-then-t-eq-LEADER c =
    λ orders. append-leads (state_of c.args.t c.args.terms.now orders) c.args.from c.args.index c.args.prior c.args.commit _ c.if-t-eq-LEADER.true

pub returns-then-lacks : goal.returns-then-lacks
unfolding messages_of Aimed
returns-then-lacks c =
    λ orders. rw c.step.ensures
    (changed-decides c.args.t _ c.args.entries.now c.args.terms.now orders (Send.AppendAnswer c.args.from 0 0) c.following.ensures.last c.requires.lent.last tt
    (append-lacks (state_of c.args.t c.args.terms.now orders) c.args.from c.args.index c.args.prior c.args.commit _ c.if-t-eq-LEADER.false
    _ (becomes_lent c.following.ensures c.args.terms.now orders) (sym (own-lacks c.requires.lent orders c.args.index c.args.prior (c.lacks.ensures orders)) ∙ c.if-lacks.true)))

pub accept-requires : goal.accept-requires
accept-requires c =
    let there = (lacks-not _ c.args.index c.args.prior (sym (own-lacks c.requires.lent c.args.terms.now c.args.index c.args.prior (c.lacks.ensures c.args.terms.now)) ∙ c.if-lacks.false)).0 in
    record { offered = c.requires; joint = omega (arith, there, length-entries_of c.args.terms.now c.args.terms.now 0 c.args.t.last) }

pub returns : goal.returns
returns c =
    λ orders. answers_as _ c.accept.result _ _ _ (c.accept.ensures orders)
    (append-accepts (state_of c.args.t c.args.terms.now orders) c.args.from c.args.index c.args.prior c.args.commit _ c.if-t-eq-LEADER.false
    (sym (own-lacks c.requires.lent orders c.args.index c.args.prior (c.lacks.ensures orders)) ∙ c.if-lacks.false))
