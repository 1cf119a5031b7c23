-- The definition's four cases; a candidate's record is the one that stands, and it is good, so it can lead.
use native.Mathlib.Omega.{arith}
use mathlib.Core.Path.{sym, ap, ◌∙◌}
use borrow.Author.Tests.{eq-eqb, ne_eqb}
use Rattle.raft.specs.Record.{State}
use Rattle.raft.specs.Order.{blank}
use Rattle.raft.proofs.StepLaws.{good-standing}
use Rattle.raft.specs.Timeout.{standing, timeout}
use Rattle.record.specs.declared.Send.{Send}
use Rattle.record.specs.Deciding.{messages_of, Aimed}
use Rattle.record.specs.GoodLaws.{ready-good, ready-box, ready-last}
use Rattle.record.specs.DecidingLaws.{plain-decides, changed-decides, decides_at, decides-term, becomes_lent, becomes_ready}
use Rattle.events.proofs.timeout.decide.Goals as goal

pub returns-then-n-eq-LEADER : goal.returns-then-n-eq-LEADER
unfolding timeout messages_of Aimed
returns-then-n-eq-LEADER c =
    rw c.step.ensures
    (plain-decides c.args.n _ c.args.terms.now c.args.orders.now Send.Nothing (ready-last c.requires) tt
    (rw (eq-eqb _ _ c.if-n-eq-LEADER.true)))

pub returns-then-n-eq-LAST_TERM : goal.returns-then-n-eq-LAST_TERM
unfolding timeout
returns-then-n-eq-LAST_TERM c =
    rw (ne_eqb _ _ c.if-n-eq-LEADER.false, eq-eqb _ _ c.if-n-eq-LAST_TERM.true)

pub standing-candidate-requires : goal.standing-candidate-requires
standing-candidate-requires c =
    let me = ready-box c.requires in
    record { me = record { least = me.least; most = me.most }; early = omega (arith, c.if-n-eq-LAST_TERM.false) }

pub bit-requires : goal.bit-requires
bit-requires c =
    let me = ready-box c.requires in
    record { least = me.least; most = me.most }

pub won-requires : goal.won-requires
unfolding standing
won-requires c =
    record {
      ready = becomes_ready c.standing-candidate.ensures c.requires (good-standing _ (ready-good c.requires));
      stands = ap (λ (s : State). s.role) (becomes_lent c.standing-candidate.ensures c.args.terms.now c.args.orders.now);
    }

pub returns-then-is_majority : goal.returns-then-is_majority
unfolding timeout
returns-then-is_majority c =
    let stands = becomes_lent c.standing-candidate.ensures c.args.terms.now c.args.orders.now in
    let most = sym c.is_majority.ensures ∙ c.if-is_majority.true in
    decides-term blank (sym c.won.ensures.term_value) (decides_at c.standing-candidate.ensures.last
    (rw (stands, ne_eqb _ _ c.if-n-eq-LEADER.false, ne_eqb _ _ c.if-n-eq-LAST_TERM.false, ← c.bit.ensures, most))
    c.won.ensures.decides)

pub returns : goal.returns
unfolding timeout messages_of Aimed
returns c =
    let stands = becomes_lent c.standing-candidate.ensures c.args.terms.now c.args.orders.now in
    let few = sym c.is_majority.ensures ∙ c.if-is_majority.false in
    rw c.step-2.ensures
    (changed-decides c.args.n _ _ c.args.terms.now c.args.orders.now Send.Requests c.standing-candidate.ensures.last
    (ready-last c.requires) tt (rw (stands, ne_eqb _ _ c.if-n-eq-LEADER.false, ne_eqb _ _ c.if-n-eq-LAST_TERM.false, ← c.bit.ensures, few)))
